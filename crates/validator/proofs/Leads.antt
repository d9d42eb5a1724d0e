-- The first rows of keys, as rows come one after another.
use Rattle.std.proofs.Common.{inl, inr, ◌≡◌, ◌≢◌, ◌⊎◌, ℕ, zero, suc, ◌+◌, ◌<◌, ◌≤◌, Bool, true, false, cond, eqb, leb, refl, sym, ap, ap₂, ◌∙◌, subst, arith, List, [], ◌∷◌, ◌++◌, length, get_or, set, take, drop, append-nil, Option}
use Rattle.std.specs.List.{filter, count_by}
use Rattle.std.proofs.lemmas.Bool.{eqb-true, eq-eqb, ne_eqb, cases_eq, cases_lt}
use Rattle.std.proofs.lemmas.List.{take_more, take_all, drop_all, get_or-set_same, get_or-set_other, get_or_past, length-set}
use Rattle.std.proofs.Math.Seq.{drop-cons}
use Rattle.std.proofs.lemmas.List.Elements.{filter-append}
use Rattle.std.proofs.lemmas.List.Sums.{sum_by_more, sum_by-cons}
use Rattle.col_set.specs.declared.target.Target.{Target}
use Rattle.col_set.specs.Lists.{Listed, Listed-append_cases, Listed-filter, Listed-filter_parts}
use Rattle.col_set.proofs.Places.{Climbs, Listed-get_or}
use Rattle.col_set.specs.Target.{has_target}
use Rattle.rel_base.specs.CodeTable.{CodeTable}
use Rattle.rel_base.specs.Shows.{code_agree}
use Rattle.validator.specs.Walk.{key, first_with, IsUniform, IsApart, IsMarked, IsClearBut, IsClear}

-- ---- the first of a list of positive numbers, or 0

head_left : (xs ys : List ℕ) (i : ℕ) → Listed i xs → get_or (xs ++ ys) 0 0 ≡ get_or xs 0 0
head_left [] ys i h = absurd h
head_left (x ∷ xs) ys i h = refl

head_listed : (xs : List ℕ) → 0 < get_or xs 0 0 → Listed (get_or xs 0 0) xs
head_listed [] l = absurd (omega arith)
head_listed (x ∷ xs) l = inl refl

no_head : (xs : List ℕ) → ((x : ℕ) → Listed x xs → 0 < x) → get_or xs 0 0 ≡ 0 → xs ≡ []
no_head [] p e = refl
no_head (x ∷ xs) p e = let l = p x (inl refl) in let f : x ≡ 0 = e in absurd (omega arith)

pub Listed-take : (xs : List ℕ) (k x : ℕ) → Listed x (take k xs) → Listed x xs
Listed-take xs zero x h = absurd h
Listed-take [] (suc k) x h = absurd h
Listed-take (y ∷ xs) (suc k) x (inl e) = inl e
Listed-take (y ∷ xs) (suc k) x (inr h) = inr (Listed-take xs k x h)

-- what stands before a place of an ascending list is smaller
pub before : (xs : List ℕ) (k x : ℕ) → Climbs xs → k < length xs → Listed x (take k xs) → x < get_or xs k 0
before xs zero x c l h = absurd h
before [] (suc k) x c l h = absurd h
before (y ∷ xs) (suc k) x c l (inl e) = let m = c.0 (get_or xs k 0) (Listed-get_or xs k 0 (omega arith)) in let f : x ≡ y = e in omega arith
before (y ∷ xs) (suc k) x c l (inr h) = before xs k x c.1 (omega arith) h

module _ (s : CodeTable) (by : Option ℕ) where
  abbrev alike : ℕ → List ℕ → List ℕ
  alike c xs = filter (λ i. eqb (key s by i) c) xs

  alike_more : (c : ℕ) (xs : List ℕ) (x : ℕ) → alike c (xs ++ x ∷ []) ≡ alike c xs ++ cond (eqb (key s by x) c) (x ∷ []) []
  alike_more c xs x = filter-append (λ i. eqb (key s by i) c) xs (x ∷ [])

  -- a row of another key
  first_other : (c : ℕ) (xs : List ℕ) (x : ℕ) → key s by x ≢ c → first_with s by (xs ++ x ∷ []) c ≡ first_with s by xs c
  first_other c xs x ne = ap (λ (ys : List ℕ). get_or ys 0 0) (alike_more c xs x ∙ ap (λ b. alike c xs ++ cond b (x ∷ []) []) (ne_eqb (key s by x) c ne) ∙ append-nil (alike c xs))

  -- a row of a key that came before
  first_kept : (c : ℕ) (xs : List ℕ) (x i : ℕ) → Listed i (alike c xs) → first_with s by (xs ++ x ∷ []) c ≡ first_with s by xs c
  first_kept c xs x i h = ap (λ (ys : List ℕ). get_or ys 0 0) (alike_more c xs x) ∙ head_left (alike c xs) (cond (eqb (key s by x) c) (x ∷ []) []) i h

  -- the first row of a new key
  first_new : (xs : List ℕ) (x : ℕ) → ((i : ℕ) → Listed i xs → 0 < i) → first_with s by xs (key s by x) ≡ 0 → first_with s by (xs ++ x ∷ []) (key s by x) ≡ x
  first_new xs x p e = ap (λ (ys : List ℕ). get_or ys 0 0) (alike_more (key s by x) xs x
      ∙ ap₂ (λ (ys : List ℕ) b. ys ++ cond b (x ∷ []) []) (no_head (alike (key s by x) xs) (λ i h. p i (Listed-filter_parts (λ i. eqb (key s by i) (key s by x)) i xs h).0) e) (eq-eqb (key s by x) (key s by x) refl))

  pub first_listed : (xs : List ℕ) (c : ℕ) → 0 < first_with s by xs c → Listed (first_with s by xs c) xs × (key s by (first_with s by xs c) ≡ c)
  first_listed xs c l =
      let w = Listed-filter_parts (λ i. eqb (key s by i) c) (first_with s by xs c) xs (head_listed (alike c xs) l) in
      (w.0, eqb-true _ _ w.1)

  -- ---- slots
  pub marked_none : (slots : List ℕ) → IsClear slots → IsMarked s by [] slots
  marked_none slots z c = z c

  pub marked_new : (xs slots : List ℕ) (x : ℕ) → ((i : ℕ) → Listed i xs → 0 < i) → key s by x < length slots → get_or slots (key s by x) 0 ≡ 0 → IsMarked s by xs slots → IsMarked s by (xs ++ x ∷ []) (set slots (key s by x) x)
  marked_new xs slots x p l z m c = elim (cases_eq c (key s by x)) as (λ _. get_or (set slots (key s by x) x) c 0 ≡ first_with s by (xs ++ x ∷ []) c) [
    | inl e ↦ ap (λ (j : ℕ). get_or (set slots (key s by x) x) j 0) e ∙ get_or-set_same slots (key s by x) x 0 l ∙ sym (ap (first_with s by (xs ++ x ∷ [])) e ∙ first_new xs x p (sym (m (key s by x)) ∙ z))
    | inr ne ↦ get_or-set_other slots (key s by x) c x 0 ne ∙ m c ∙ sym (first_other c xs x (λ e. ne (sym e)))
  ]

  pub marked_old : (xs slots : List ℕ) (x : ℕ) → 0 < get_or slots (key s by x) 0 → IsMarked s by xs slots → IsMarked s by (xs ++ x ∷ []) slots
  marked_old xs slots x l m c = elim (cases_eq c (key s by x)) as (λ _. get_or slots c 0 ≡ first_with s by (xs ++ x ∷ []) c) [
    | inl e ↦ m c ∙ sym (let d = m (key s by x) in first_kept c xs x (first_with s by xs c) (head_listed (alike c xs) (subst (λ (j : ℕ). 0 < first_with s by xs j) (sym e) (omega arith))))
    | inr ne ↦ m c ∙ sym (first_other c xs x (λ e. ne (sym e)))
  ]

  first_take : (xs : List ℕ) (k c : ℕ) → first_with s by xs c ≡ 0 → first_with s by (take k xs) c ≡ 0
  first_take xs zero c e = refl
  first_take [] (suc k) c e = refl
  first_take (x ∷ xs) (suc k) c e = here (eqb (key s by x) c) e (first_take xs k c)
    where
      here : (b : Bool) → get_or (cond b (x ∷ alike c xs) (alike c xs)) 0 0 ≡ 0 → (first_with s by xs c ≡ 0 → first_with s by (take k xs) c ≡ 0) → get_or (cond b (x ∷ alike c (take k xs)) (alike c (take k xs))) 0 0 ≡ 0
      here true f r = f
      here false f r = r f

  -- the slots of rows up to a place are those of all of them
  pub marked_clear : (xs slots : List ℕ) (k : ℕ) → IsMarked s by (take k xs) slots → IsClearBut s by xs slots
  marked_clear xs slots k m c e = m c ∙ first_take xs k c e

  -- clearing goes on
  pub cleared_here : (xs slots : List ℕ) (k : ℕ) → k < length xs → IsClearBut s by (drop k xs) slots → IsClearBut s by (drop (k + 1) xs) (set slots (key s by (get_or xs k 0)) 0)
  cleared_here xs slots k l inv c z = elim (cases_eq c (key s by (get_or xs k 0))) as (λ _. get_or (set slots (key s by (get_or xs k 0)) 0) c 0 ≡ 0) [
    | inl e ↦ elim (cases_lt c (length slots)) as (λ _. get_or (set slots (key s by (get_or xs k 0)) 0) c 0 ≡ 0) [
      | inl m ↦ ap (λ (j : ℕ). get_or (set slots j 0) c 0) (sym e) ∙ get_or-set_same slots c 0 0 m
      | inr m ↦ get_or_past (set slots (key s by (get_or xs k 0)) 0) c 0 (let n = length-set slots (key s by (get_or xs k 0)) 0 in omega arith)
    ]
    | inr ne ↦ get_or-set_other slots (key s by (get_or xs k 0)) c 0 0 ne ∙ inv c (at_next xs k c l (λ e. ne (sym e)) z)
  ]
    where
      at_next : (xs : List ℕ) (k c : ℕ) → k < length xs → key s by (get_or xs k 0) ≢ c → first_with s by (drop (k + 1) xs) c ≡ 0 → first_with s by (drop k xs) c ≡ 0
      at_next xs k c l ne z =
          ap (λ (ys : List ℕ). first_with s by ys c) (drop-cons xs k 0 l)
          ∙ ap (λ b. get_or (cond b (get_or xs k 0 ∷ alike c (drop (suc k) xs)) (alike c (drop (suc k) xs))) 0 0) (ne_eqb (key s by (get_or xs k 0)) c ne)
          ∙ ap (λ (n : ℕ). first_with s by (drop n xs) c) (let e : suc k ≡ k + 1 = omega arith in e) ∙ z

  pub cleared_past : (xs slots : List ℕ) (k : ℕ) → k < length xs → length slots ≤ key s by (get_or xs k 0) → IsClearBut s by (drop k xs) slots → IsClearBut s by (drop (k + 1) xs) slots
  cleared_past xs slots k l past inv c z = elim (cases_eq c (key s by (get_or xs k 0))) as (λ _. get_or slots c 0 ≡ 0) [
    | inl e ↦ get_or_past slots c 0 (omega arith)
    | inr ne ↦ sym (get_or-set_other slots (key s by (get_or xs k 0)) c 0 0 ne) ∙ cleared_here xs slots k l inv c z
  ]

  pub cleared_all : (xs slots : List ℕ) (k : ℕ) → length xs ≤ k → IsClearBut s by (drop k xs) slots → IsClear slots
  cleared_all xs slots k l inv c = inv c (ap (λ (ys : List ℕ). first_with s by ys c) (drop_all k xs l))

  -- ---- comparisons
  module _ (t : Target) (from : ℕ) where
    pub uniform_none : IsUniform s by t from []
    uniform_none = record { each = λ j h l ne. absurd h }

    -- rows of which all are old need no comparison
    pub uniform_old : (xs : List ℕ) → ((j : ℕ) → Listed j xs → j < from) → IsUniform s by t from xs
    uniform_old xs f = record { each = λ j h l ne. let m = f j h in absurd (omega arith) }

    still : (xs : List ℕ) (x j : ℕ) → Listed j xs → first_with s by (xs ++ x ∷ []) (key s by j) ≡ first_with s by xs (key s by j)
    still xs x j h = first_kept (key s by j) xs x j (Listed-filter (λ i. eqb (key s by i) (key s by j)) j xs h (eq-eqb _ _ refl))

    more : (xs : List ℕ) (x : ℕ) → IsUniform s by t from xs
        → (from ≤ x → first_with s by (xs ++ x ∷ []) (key s by x) ≢ x → has_target (code_agree s (first_with s by (xs ++ x ∷ []) (key s by x)) x) t ≡ true) → IsUniform s by t from (xs ++ x ∷ [])
    more xs x u f = record { each = λ j h l ne. here j l ne (Listed-append_cases j xs (x ∷ []) h) }
      where
        here : (j : ℕ) → from ≤ j → first_with s by (xs ++ x ∷ []) (key s by j) ≢ j → Listed j xs ⊎ Listed j (x ∷ []) → has_target (code_agree s (first_with s by (xs ++ x ∷ []) (key s by j)) j) t ≡ true
        here j l ne (inl h) = ap (λ (i : ℕ). has_target (code_agree s i j) t) (still xs x j h) ∙ u.each j h l (λ e. ne (still xs x j h ∙ e))
        here j l ne (inr (inl e)) = subst (λ (i : ℕ). from ≤ i → first_with s by (xs ++ x ∷ []) (key s by i) ≢ i → has_target (code_agree s (first_with s by (xs ++ x ∷ []) (key s by i)) i) t ≡ true) (sym e) f l ne
        here j l ne (inr (inr h)) = absurd h

    pub uniform_new : (xs : List ℕ) (x : ℕ) → ((i : ℕ) → Listed i xs → 0 < i) → first_with s by xs (key s by x) ≡ 0 → IsUniform s by t from xs → IsUniform s by t from (xs ++ x ∷ [])
    uniform_new xs x p z u = more xs x u (λ l ne. absurd (ne (first_new xs x p z)))

    pub uniform_alike : (xs : List ℕ) (x : ℕ) → 0 < first_with s by xs (key s by x) → (from ≤ x → has_target (code_agree s (first_with s by xs (key s by x)) x) t ≡ true) → IsUniform s by t from xs → IsUniform s by t from (xs ++ x ∷ [])
    uniform_alike xs x l f u = more xs x u (λ m ne.
        ap (λ (i : ℕ). has_target (code_agree s i x) t) (first_kept (key s by x) xs x (first_with s by xs (key s by x)) (head_listed (alike (key s by x) xs) l)) ∙ f m)

    -- a row that differs from the first of its key
    pub apart_here : (xs : List ℕ) (k f : ℕ) → Climbs xs → k < length xs → 0 < f → f ≡ first_with s by (take k xs) (key s by (get_or xs k 0)) → has_target (code_agree s f (get_or xs k 0)) t ≡ false → IsApart s by t xs f (get_or xs k 0)
    apart_here xs k f c l pos e d =
        let w = first_listed (take k xs) (key s by (get_or xs k 0)) (subst (λ (i : ℕ). 0 < i) e pos) in
        let h : Listed f (take k xs) = subst (λ (i : ℕ). Listed i (take k xs)) (sym e) w.0 in
        record { first = Listed-take xs k f h; second = Listed-get_or xs k 0 l; rising = before xs k f c l h; same = ap (key s by) e ∙ w.1; differ = d }

-- ---- counts
abbrev pub newer : ℕ → List ℕ → ℕ
newer from xs = count_by (λ i. leb from i) xs

pub newer_more : (from : ℕ) (xs : List ℕ) (k before now start : ℕ) → k < length xs → before ≤ start + newer from (take k xs) → now ≤ before + cond (leb from (get_or xs k 0)) 1 0 → now ≤ start + newer from (take (k + 1) xs)
newer_more from xs k before now start l b n = let e = sum_by_more (λ i. cond (leb from i) 1 0) xs k 0 l in omega arith

pub newer_take : (from : ℕ) (xs : List ℕ) (k : ℕ) → newer from (take k xs) ≤ newer from xs
newer_take from xs zero = omega arith
newer_take from [] (suc k) = omega arith
newer_take from (x ∷ xs) (suc k) = let r = newer_take from xs k in
    let a = sum_by-cons (λ i. cond (leb from i) 1 0) x (take k xs) in let b = sum_by-cons (λ i. cond (leb from i) 1 0) x xs in omega arith

-- ---- the walk over a group
pub record Walked (s : CodeTable) (by : Option ℕ) (t : Target) (from : ℕ) (group : List ℕ) (k : ℕ) (slots : List ℕ) (steps start : ℕ) : Type 0 where
  pub marked : IsMarked s by (take k group) slots
  pub uniform : IsUniform s by t from (take k group)
  pub few : steps ≤ start + newer from (take k group)

pub walked_none : (s : CodeTable) (by : Option ℕ) (t : Target) (from : ℕ) (group slots : List ℕ) (start : ℕ) → IsClear slots → Walked s by t from group 0 slots start start
walked_none s by t from group slots start z = record { marked = marked_none s by slots z; uniform = uniform_none s by t from; few = omega arith }

module _ (s : CodeTable) (by : Option ℕ) (t : Target) (from : ℕ) (group : List ℕ) (k : ℕ) (slots room : List ℕ) (steps start : ℕ) (slot : ℕ)
    (l : k < length group) (p : Walked s by t from group k slots steps start) (kept : (c : ℕ) → get_or room c 0 ≡ get_or slots c 0) (is : slot ≡ key s by (get_or group k 0)) where
  roomy : IsMarked s by (take k group) room
  roomy c = kept c ∙ p.marked c

  first_is : get_or room slot 0 ≡ first_with s by (take k group) (key s by (get_or group k 0))
  first_is = roomy slot ∙ ap (first_with s by (take k group)) is

  next : take (k + 1) group ≡ take k group ++ get_or group k 0 ∷ []
  next = take_more group k 0 l

  pub walked_new : ((i : ℕ) → Listed i group → 0 < i) → slot < length room → get_or room slot 0 ≡ 0 → (after : List ℕ) → after ≡ set room slot (get_or group k 0) → Walked s by t from group (k + 1) after steps start
  walked_new pos m z after e =
      let positive = λ (i : ℕ) (h : Listed i (take k group)). pos i (Listed-take group k i h) in record {
        marked = subst (λ (xs : List ℕ). IsMarked s by xs after) (sym next) (subst (IsMarked s by (take k group ++ get_or group k 0 ∷ [])) (ap (λ (c : ℕ). set room c (get_or group k 0)) (sym is) ∙ sym e)
            (marked_new s by (take k group) room (get_or group k 0) positive (subst (λ (c : ℕ). c < length room) is m) (ap (λ (c : ℕ). get_or room c 0) (sym is) ∙ z) roomy));
        uniform = subst (IsUniform s by t from) (sym next) (uniform_new s by t from (take k group) (get_or group k 0) positive (sym first_is ∙ z) p.uniform);
        few = newer_more from group k steps steps start l p.few (omega arith);
      }

  pub walked_old : 0 < get_or room slot 0 → (from ≤ get_or group k 0 → has_target (code_agree s (get_or room slot 0) (get_or group k 0)) t ≡ true) → (after : ℕ) → after ≤ steps + cond (leb from (get_or group k 0)) 1 0 → Walked s by t from group (k + 1) room after start
  walked_old pos told after few = record {
    marked = subst (λ (xs : List ℕ). IsMarked s by xs room) (sym next) (marked_old s by (take k group) room (get_or group k 0) (subst (λ (c : ℕ). 0 < get_or room c 0) is pos) roomy);
    uniform = subst (IsUniform s by t from) (sym next) (uniform_alike s by t from (take k group) (get_or group k 0) (subst (λ (i : ℕ). 0 < i) first_is pos)
        (λ m. ap (λ (i : ℕ). has_target (code_agree s i (get_or group k 0)) t) (sym first_is) ∙ told m) p.uniform);
    few = newer_more from group k steps after start l p.few few;
  }

  pub walked_apart : Climbs group → 0 < get_or room slot 0 → has_target (code_agree s (get_or room slot 0) (get_or group k 0)) t ≡ false → IsApart s by t group (get_or room slot 0) (get_or group k 0)
  walked_apart c pos d = apart_here s by t from group k (get_or room slot 0) c l pos first_is d

  pub walked_clear : IsClearBut s by group room
  walked_clear = marked_clear s by group room k roomy

  pub walked_few : (after : ℕ) → after ≤ steps + cond (leb from (get_or group k 0)) 1 0 → after ≤ start + newer from group
  walked_few after few = let a = newer_more from group k steps after start l p.few few in let b = newer_take from group (k + 1) in omega arith

pub walked_all : (s : CodeTable) (by : Option ℕ) (t : Target) (from : ℕ) (group : List ℕ) (k : ℕ) (slots : List ℕ) (steps start : ℕ) → length group ≤ k → Walked s by t from group k slots steps start → IsUniform s by t from group
walked_all s by t from group k slots steps start l p = subst (IsUniform s by t from) (take_all k group l) p.uniform

pub walked_within : (s : CodeTable) (by : Option ℕ) (t : Target) (from : ℕ) (group : List ℕ) (k : ℕ) (slots : List ℕ) (steps start : ℕ) → Walked s by t from group k slots steps start → steps ≤ start + newer from group
walked_within s by t from group k slots steps start p = let a = p.few in let b = newer_take from group k in omega arith
