-- No canonical dependency follows from the others.
use Rattle.std.proofs.Common.{inl, inr, ◌≡◌, ◌⊎◌, Bool, true, false, cond, refl, sym, ap, ap₂, ◌∙◌, List, [], ◌∷◌, ◌++◌, append_assoc}
use Rattle.std.proofs.lemmas.Bool.{true≢false}
use Rattle.std.proofs.lemmas.List.{append-nil}
use Rattle.col_set.specs.Lists.{Listed, Listed-append_left, Listed-append_right, Listed-append_cases}
use Rattle.rel_base.specs.declared.dependency.Fd.{Fd}
use Rattle.synth_3nf.specs.Reached.{follows}
use Rattle.synth_3nf.specs.Canonical.{tried, canonical}
use Rattle.synth_laws.proofs.Reach.{follows-fewer}

-- ---- lists
module _ {X : Type 0} where
  abbrev first_of : X → List X → X
  first_of d [] = d
  first_of d (x ∷ xs) = x

  abbrev rest_of : List X → List X
  rest_of [] = []
  rest_of (x ∷ xs) = xs

  abbrev is_nil : List X → Bool
  is_nil [] = true
  is_nil (x ∷ xs) = false

  first_same : (x y : X) (xs ys : List X) → x ∷ xs ≡ y ∷ ys → x ≡ y
  first_same x y xs ys e = ap (first_of x) e

  rest_same : (x y : X) (xs ys : List X) → x ∷ xs ≡ y ∷ ys → xs ≡ ys
  rest_same x y xs ys e = ap rest_of e

  not_nil : (before : List X) (z : X) (after : List X) → [] ≡ before ++ z ∷ after → ⊥
  not_nil [] z after e = true≢false (ap is_nil e)
  not_nil (b ∷ before) z after e = true≢false (ap is_nil e)

  record Inner (xs : List X) (y : X) (before : List X) (z : X) (after : List X) : Type 0 where
    rest : List X
    behind : after ≡ rest ++ y ∷ []
    is : xs ≡ before ++ z ∷ rest

  record Last (xs : List X) (y : X) (before : List X) (z : X) (after : List X) : Type 0 where
    all : before ≡ xs
    last : z ≡ y
    behind : after ≡ []

  -- where a list with one more element behind it is parted at an element
  parted : (xs : List X) (y : X) (before : List X) (z : X) (after : List X) → xs ++ y ∷ [] ≡ before ++ z ∷ after → Last xs y before z after ⊎ Inner xs y before z after
  parted [] y [] z after e = inl (record { all = refl; last = sym (first_same y z [] after e); behind = sym (rest_same y z [] after e) })
  parted [] y (b ∷ before) z after e = absurd (not_nil before z after (rest_same y b [] (before ++ z ∷ after) e))
  parted (x ∷ xs) y [] z after e = inr (record { rest = xs; behind = sym (rest_same x z (xs ++ y ∷ []) after e); is = ap (λ (w : X). w ∷ xs) (first_same x z (xs ++ y ∷ []) after e) })
  parted (x ∷ xs) y (b ∷ before) z after e = by (parted xs y before z after (rest_same x b (xs ++ y ∷ []) (before ++ z ∷ after) e))
    where
      same : x ≡ b
      same = first_same x b (xs ++ y ∷ []) (before ++ z ∷ after) e

      by : Last xs y before z after ⊎ Inner xs y before z after → Last (x ∷ xs) y (b ∷ before) z after ⊎ Inner (x ∷ xs) y (b ∷ before) z after
      by (inl w) = inl (record { all = ap₂ (λ (c : X) (cs : List X). c ∷ cs) (sym same) w.all; last = w.last; behind = w.behind })
      by (inr w) = inr (record { rest = w.rest; behind = w.behind; is = ap₂ (λ (c : X) (cs : List X). c ∷ cs) same w.is })

-- ---- trials
-- no kept one follows from the other kept ones and the rest
abbrev Needed : List Fd → List Fd → Type 0
Needed kept rest = (before : List Fd) (fd : Fd) (after : List Fd) → kept ≡ before ++ fd ∷ after → follows (before ++ (after ++ rest)) fd ≡ false

needed-dropped : (kept : List Fd) (one : Fd) (rest : List Fd) → Needed kept (one ∷ rest) → Needed kept rest
needed-dropped kept one rest w before fd after e = follows-fewer (before ++ (after ++ rest)) (before ++ (after ++ one ∷ rest)) fd (λ other h. outer other (Listed-append_cases other before (after ++ rest) h)) (w before fd after e)
  where
    inner : (other : Fd) → Listed other after ⊎ Listed other rest → Listed other (after ++ one ∷ rest)
    inner other (inl h) = Listed-append_left other after (one ∷ rest) h
    inner other (inr h) = Listed-append_right other after (one ∷ rest) (inr h)

    outer : (other : Fd) → Listed other before ⊎ Listed other (after ++ rest) → Listed other (before ++ (after ++ one ∷ rest))
    outer other (inl h) = Listed-append_left other before (after ++ one ∷ rest) h
    outer other (inr h) = Listed-append_right other before (after ++ one ∷ rest) (inner other (Listed-append_cases other after rest h))

needed-kept : (kept : List Fd) (one : Fd) (rest : List Fd) → follows (kept ++ rest) one ≡ false → Needed kept (one ∷ rest) → Needed (kept ++ one ∷ []) rest
needed-kept kept one rest f w before fd after e = by (parted kept one before fd after e)
  where
    by : Last kept one before fd after ⊎ Inner kept one before fd after → follows (before ++ (after ++ rest)) fd ≡ false
    by (inl p) = ap (λ (l : List Fd). follows (l ++ (after ++ rest)) fd) p.all ∙ ap (λ (l : List Fd). follows (kept ++ (l ++ rest)) fd) p.behind ∙ ap (λ (g : Fd). follows (kept ++ rest) g) p.last ∙ f
    by (inr p) = ap (λ (l : List Fd). follows (before ++ (l ++ rest)) fd) p.behind ∙ ap (λ (l : List Fd). follows (before ++ l) fd) (append_assoc p.rest (one ∷ []) rest) ∙ w before fd p.rest p.is

needed-tried : (kept rest : List Fd) → Needed kept rest → Needed (tried kept rest) []
unfolding tried
needed-tried kept [] w = w
needed-tried kept (one ∷ rest) w = by (follows (kept ++ rest) one) refl (needed-tried kept rest) (needed-tried (kept ++ one ∷ []) rest)
  where
    by : (b : Bool) → follows (kept ++ rest) one ≡ b → (Needed kept rest → Needed (tried kept rest) []) → (Needed (kept ++ one ∷ []) rest → Needed (tried (kept ++ one ∷ []) rest) []) → Needed (tried (cond b kept (kept ++ one ∷ [])) rest) []
    by true e f g = f (needed-dropped kept one rest w)
    by false e f g = g (needed-kept kept one rest e w)

pub canonical-needed : (fds before : List Fd) (fd : Fd) (after : List Fd) → canonical fds ≡ before ++ fd ∷ after → follows (before ++ after) fd ≡ false
unfolding canonical
canonical-needed fds before fd after e =
    ap (λ (l : List Fd). follows (before ++ l) fd) (sym (append-nil after)) ∙ needed-tried [] fds (λ b f a i. absurd (not_nil b f a i)) before fd after e
