-- Rows put one after another into the parts of their codes.
use Rattle.std.proofs.Common.{inl, inr, ◌≡◌, ◌≢◌, ◌⊎◌, ℕ, suc, ◌+◌, ◌<◌, ◌≤◌, cond, not, eqb, refl, sym, ap, ap₂, ◌∙◌, subst, arith, List, [], ◌∷◌, ◌++◌, length, set, map, append-nil}
use Rattle.std.specs.List.{filter, flat_map}
use Rattle.std.proofs.lemmas.Bool.{eq-eqb, ne_eqb, cases_eq, not_from_false, not_from_true}
use Rattle.std.proofs.lemmas.List.{length-append, map-append, set-append_left}
use Rattle.std.proofs.lemmas.List.Elements.{filter-append}
use Rattle.col_set.specs.Lists.{Listed}
use Rattle.stripped_partition.specs.Splits.{firsts, rows_with}
use Rattle.stripped_partition.proofs.Firsts.{Once}

-- ---- a number stands in a list or not
pub listed_or : (x : ℕ) (xs : List ℕ) → Listed x xs ⊎ (Listed x xs → ⊥)
listed_or x [] = inr (λ h. h)
listed_or x (y ∷ xs) = by (cases_eq x y) (listed_or x xs)
  where
    by : (x ≡ y) ⊎ (x ≡ y → ⊥) → Listed x xs ⊎ (Listed x xs → ⊥) → Listed x (y ∷ xs) ⊎ (Listed x (y ∷ xs) → ⊥)
    by (inl e) r = inl (inl e)
    by (inr ne) (inl h) = inl (inr h)
    by (inr ne) (inr out) = inr (λ h. elim h as (λ _. ⊥) [ inl e ↦ ne e | inr l ↦ out l ])

-- ---- one more number
pub firsts-new : (xs : List ℕ) (x : ℕ) → (Listed x xs → ⊥) → firsts (xs ++ x ∷ []) ≡ firsts xs ++ x ∷ []
unfolding firsts
firsts-new [] x out = refl
firsts-new (y ∷ xs) x out =
    ap (λ (ys : List ℕ). y ∷ filter (λ z. not (eqb y z)) ys) (firsts-new xs x (λ h. out (inr h)))
    ∙ ap (λ (ys : List ℕ). y ∷ ys) (filter-append (λ z. not (eqb y z)) (firsts xs) (x ∷ []) ∙ ap (λ b. filter (λ z. not (eqb y z)) (firsts xs) ++ cond b (x ∷ []) []) (not_from_false (eqb y x) (ne_eqb y x (λ e. out (inl (sym e))))))

pub firsts-old : (xs : List ℕ) (x : ℕ) → Listed x xs → firsts (xs ++ x ∷ []) ≡ firsts xs
unfolding firsts
firsts-old [] x h = absurd h
firsts-old (y ∷ xs) x h = ap (λ ys. y ∷ ys) (by (listed_or x xs) h (λ l. firsts-old xs x l))
  where
    by : Listed x xs ⊎ (Listed x xs → ⊥) → (x ≡ y) ⊎ Listed x xs → (Listed x xs → firsts (xs ++ x ∷ []) ≡ firsts xs) → filter (λ z. not (eqb y z)) (firsts (xs ++ x ∷ [])) ≡ filter (λ z. not (eqb y z)) (firsts xs)
    by (inl l) h old = ap (filter (λ z. not (eqb y z))) (old l)
    by (inr out) (inl e) old =
        ap (filter (λ z. not (eqb y z))) (firsts-new xs x out) ∙ filter-append (λ z. not (eqb y z)) (firsts xs) (x ∷ [])
        ∙ ap (λ b. filter (λ z. not (eqb y z)) (firsts xs) ++ cond b (x ∷ []) []) (not_from_true (eqb y x) (eq-eqb y x (sym e))) ∙ append-nil _
    by (inr out) (inr l) old = absurd (out l)

-- ---- the rows with a code
pub rows_with-append : (es fs : List (ℕ × ℕ)) (c : ℕ) → rows_with (es ++ fs) c ≡ rows_with es c ++ rows_with fs c
unfolding rows_with
rows_with-append es fs c = ap (map (λ (e : ℕ × ℕ). e.0)) (filter-append (λ (e : ℕ × ℕ). eqb e.1 c) es fs) ∙ map-append (λ (e : ℕ × ℕ). e.0) (filter (λ (e : ℕ × ℕ). eqb e.1 c) es) (filter (λ (e : ℕ × ℕ). eqb e.1 c) fs)

pub rows_with-one : (e : ℕ × ℕ) (rest : List (ℕ × ℕ)) → rows_with (e ∷ rest) e.1 ≡ e.0 ∷ rows_with rest e.1
unfolding rows_with
rows_with-one e rest = ap (λ b. map (λ (e : ℕ × ℕ). e.0) (cond b (e ∷ filter (λ (d : ℕ × ℕ). eqb d.1 e.1) rest) (filter (λ (d : ℕ × ℕ). eqb d.1 e.1) rest))) (eq-eqb e.1 e.1 refl)

pub rows_with-other : (e : ℕ × ℕ) (rest : List (ℕ × ℕ)) (c : ℕ) → (e.1 ≢ c) → rows_with (e ∷ rest) c ≡ rows_with rest c
unfolding rows_with
rows_with-other e rest c ne = ap (λ b. map (λ (e : ℕ × ℕ). e.0) (cond b (e ∷ filter (λ (d : ℕ × ℕ). eqb d.1 c) rest) (filter (λ (d : ℕ × ℕ). eqb d.1 c) rest))) (ne_eqb e.1 c ne)

pub rows_with-nil : (c : ℕ) → rows_with [] c ≡ []
unfolding rows_with
rows_with-nil c = refl

pub rows_with-push : (seen : List (ℕ × ℕ)) (e : ℕ × ℕ) → rows_with (seen ++ e ∷ []) e.1 ≡ rows_with seen e.1 ++ e.0 ∷ []
rows_with-push seen e = rows_with-append seen (e ∷ []) e.1 ∙ ap (λ ys. rows_with seen e.1 ++ ys) (rows_with-one e [] ∙ ap (λ ys. e.0 ∷ ys) (rows_with-nil e.1))

pub rows_with-push_other : (seen : List (ℕ × ℕ)) (e : ℕ × ℕ) (c : ℕ) → (e.1 ≢ c) → rows_with (seen ++ e ∷ []) c ≡ rows_with seen c
rows_with-push_other seen e c ne = rows_with-append seen (e ∷ []) c ∙ ap (λ ys. rows_with seen c ++ ys) (rows_with-other e [] c ne ∙ rows_with-nil c) ∙ append-nil _

pub rows_with-none : (es : List (ℕ × ℕ)) (c : ℕ) → (Listed c (map (λ (e : ℕ × ℕ). e.1) es) → ⊥) → rows_with es c ≡ []
rows_with-none [] c out = rows_with-nil c
rows_with-none (e ∷ es) c out = rows_with-other e es c (λ s. out (inl (sym s))) ∙ rows_with-none es c (λ h. out (inr h))

-- ---- the parts stand one after another
module _ (size : ℕ → ℕ) where
  -- where the part of a code begins
  pub offset : List ℕ → ℕ → ℕ
  offset [] c = 0
  offset (d ∷ ds) c = cond (eqb d c) 0 (size d + offset ds c)

  offset-here : (c : ℕ) (ds : List ℕ) → offset (c ∷ ds) c ≡ 0
  unfolding offset
  offset-here c ds = ap (λ b. cond b 0 (size c + offset ds c)) (eq-eqb c c refl)

  offset-there : (d c : ℕ) (ds : List ℕ) → (d ≢ c) → offset (d ∷ ds) c ≡ size d + offset ds c
  unfolding offset
  offset-there d c ds ne = ap (λ b. cond b 0 (size d + offset ds c)) (ne_eqb d c ne)

  pub offset-append_old : (ds es : List ℕ) (c : ℕ) → Listed c ds → offset (ds ++ es) c ≡ offset ds c
  offset-append_old [] es c h = absurd h
  offset-append_old (d ∷ ds) es c h = by (cases_eq d c) h (λ l. offset-append_old ds es c l)
    where
      by : (d ≡ c) ⊎ (d ≡ c → ⊥) → (c ≡ d) ⊎ Listed c ds → (Listed c ds → offset (ds ++ es) c ≡ offset ds c) → offset (d ∷ (ds ++ es)) c ≡ offset (d ∷ ds) c
      by (inl e) l rest = subst (λ (x : ℕ). offset (x ∷ (ds ++ es)) c ≡ offset (x ∷ ds) c) (sym e) (offset-here c (ds ++ es) ∙ sym (offset-here c ds))
      by (inr ne) (inl e) rest = absurd (ne (sym e))
      by (inr ne) (inr l) rest = offset-there d c (ds ++ es) ne ∙ ap (λ (n : ℕ). size d + n) (rest l) ∙ sym (offset-there d c ds ne)

  module _ (F : ℕ → List ℕ) where
    pub offset-append_new : (ds : List ℕ) (c : ℕ) → ((d : ℕ) → Listed d ds → length (F d) ≡ size d) → (Listed c ds → ⊥) → offset (ds ++ c ∷ []) c ≡ length (flat_map F ds)
    offset-append_new [] c long out = offset-here c []
    offset-append_new (d ∷ ds) c long out =
        offset-there d c (ds ++ c ∷ []) (λ e. out (inl (sym e)))
        ∙ (let r = offset-append_new ds c (λ b h. long b (inr h)) (λ h. out (inr h)) in
        let l = long d (inl refl) in let e = length-append (F d) (flat_map F ds) in omega arith)

    -- a part ends within all
    pub offset-within : (ds : List ℕ) (c : ℕ) → ((d : ℕ) → Listed d ds → length (F d) ≡ size d) → Listed c ds → offset ds c + size c ≤ length (flat_map F ds)
    offset-within [] c long h = absurd h
    offset-within (d ∷ ds) c long h = by (cases_eq d c) h (λ l. offset-within ds c (λ b g. long b (inr g)) l)
      where
        by : (d ≡ c) ⊎ (d ≡ c → ⊥) → (c ≡ d) ⊎ Listed c ds → (Listed c ds → offset ds c + size c ≤ length (flat_map F ds)) → offset (d ∷ ds) c + size c ≤ length (F d ++ flat_map F ds)
        by (inl e) l rest =
            let o : offset (d ∷ ds) c ≡ 0 = ap (λ (x : ℕ). offset (x ∷ ds) c) e ∙ offset-here c ds in
            let s : size d ≡ size c = ap size e in
            let m = long d (inl refl) in let a = length-append (F d) (flat_map F ds) in omega arith
        by (inr ne) (inl e) rest = absurd (ne (sym e))
        by (inr ne) (inr l) rest =
            let o = offset-there d c ds ne in let r = rest l in
            let m = long d (inl refl) in let a = length-append (F d) (flat_map F ds) in omega arith

    -- a write into one part
    pub set-flat : (G : ℕ → List ℕ) (ds : List ℕ) (c k r : ℕ) → Once ds → Listed c ds → ((d : ℕ) → Listed d ds → length (F d) ≡ size d) → ((d : ℕ) → (d ≢ c) → G d ≡ F d) → G c ≡ set (F c) k r → k < size c
        → set (flat_map F ds) (offset ds c + k) r ≡ flat_map G ds
    set-flat G [] c k r o h long same here l = absurd h
    set-flat G (d ∷ ds) c k r o h long same here l = by (cases_eq d c) h (λ g. set-flat G ds c k r o.1 g (λ b m. long b (inr m)) same here l)
      where
        kept : (bs : List ℕ) → (Listed c bs → ⊥) → flat_map F bs ≡ flat_map G bs
        kept [] out = refl
        kept (b ∷ bs) out = ap₂ (λ (xs ys : List ℕ). xs ++ ys) (sym (same b (λ e. out (inl (sym e))))) (kept bs (λ m. out (inr m)))

        shifted : (xs ys : List ℕ) (i : ℕ) → set (xs ++ ys) (length xs + i) r ≡ xs ++ set ys i r
        shifted [] ys i = ap (λ (j : ℕ). set ys j r) (let e : 0 + i ≡ i = omega arith in e)
        shifted (x ∷ xs) ys i = ap (λ (j : ℕ). set (x ∷ (xs ++ ys)) j r) (let e : suc (length xs) + i ≡ suc (length xs + i) = omega arith in e) ∙ ap (λ zs. x ∷ zs) (shifted xs ys i)

        by : (d ≡ c) ⊎ (d ≡ c → ⊥) → (c ≡ d) ⊎ Listed c ds → (Listed c ds → set (flat_map F ds) (offset ds c + k) r ≡ flat_map G ds) → set (F d ++ flat_map F ds) (offset (d ∷ ds) c + k) r ≡ G d ++ flat_map G ds
        by (inl e) g rest =
            let at : offset (d ∷ ds) c + k ≡ k = ap (λ (n : ℕ). n + k) (ap (λ (x : ℕ). offset (x ∷ ds) c) e ∙ offset-here c ds) ∙ (let z : 0 + k ≡ k = omega arith in z) in
            let m : length (F d) ≡ size d = long d (inl refl) in
            let s : size d ≡ size c = ap size e in
            ap (λ (i : ℕ). set (F d ++ flat_map F ds) i r) at
            ∙ set-append_left (F d) (flat_map F ds) k r (omega arith)
            ∙ ap₂ (λ (xs ys : List ℕ). xs ++ ys) (ap (λ (x : ℕ). set (F x) k r) e ∙ sym here ∙ ap G (sym e)) (kept ds (subst (λ (x : ℕ). Listed x ds → ⊥) e o.0))
        by (inr ne) (inl e) rest = absurd (ne (sym e))
        by (inr ne) (inr g) rest =
            let at : offset (d ∷ ds) c + k ≡ length (F d) + (offset ds c + k) = (let t = offset-there d c ds ne in let m = long d (inl refl) in omega arith) in
            ap (λ (i : ℕ). set (F d ++ flat_map F ds) i r) at
            ∙ shifted (F d) (flat_map F ds) (offset ds c + k)
            ∙ ap₂ (λ (xs ys : List ℕ). xs ++ ys) (sym (same d ne)) (rest g)
