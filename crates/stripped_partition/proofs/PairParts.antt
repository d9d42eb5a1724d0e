-- The parts of a group of two rows.
use Rattle.std.proofs.Common.{inl, inr, ◌⊎◌, ◌≡◌, ◌<◌, ◌≤◌, ◌+◌, ℕ, Bool, true, false, cond, not, ◌&&◌, ltb, leb, refl, sym, ap, ◌∙◌, arith, List, [], ◌∷◌, ◌++◌, length, map, filter, zip, get_or, append_assoc, append-nil}
use Rattle.std.specs.List.{concat}
use Rattle.std.proofs.lemmas.Bool.{eq-eqb, ne_eqb, lt-ltb, le-ltb, cases_eq}
use Rattle.stripped_partition.specs.Groups.{ends_of}
use Rattle.stripped_partition.specs.Splits.{firsts, rows_with, repeated_codes, parts}
use Rattle.stripped_partition.proofs.Placing.{rows_with-one, rows_with-other, rows_with-nil}

-- the codes of two rows that make parts
abbrev wanted : ℕ → List (ℕ × ℕ) → ℕ → Bool
wanted bound es c = ltb c bound && leb 2 (length (rows_with es c))

-- a code with one row makes none
alone : (bound : ℕ) (es : List (ℕ × ℕ)) (c r : ℕ) → rows_with es c ≡ r ∷ [] → wanted bound es c ≡ false
alone bound es c r e = ap (λ (rows : List ℕ). ltb c bound && leb 2 (length rows)) e ∙ by (ltb c bound)
  where
    by : (b : Bool) → (b && false) ≡ false
    by true = refl
    by false = refl

-- two rows with different codes are no part
pub parts-apart : (bound r c q d : ℕ) → (c ≡ d → ⊥) → parts bound ((r, c) ∷ (q, d) ∷ []) ≡ []
unfolding parts repeated_codes firsts
parts-apart bound r c q d ne =
    ap (λ (cs : List ℕ). map (rows_with es) (filter (wanted bound es) cs)) (ap (λ (b : Bool). c ∷ cond (not b) (d ∷ []) []) (ne_eqb c d ne))
    ∙ ap (map (rows_with es)) (ap (λ (b : Bool). cond b (c ∷ filter (wanted bound es) (d ∷ [])) (filter (wanted bound es) (d ∷ []))) (alone bound es c r first) ∙ ap (λ (b : Bool). cond b (d ∷ []) []) (alone bound es d q second))
  where
    es : List (ℕ × ℕ)
    es = (r, c) ∷ (q, d) ∷ []

    first : rows_with es c ≡ r ∷ []
    first = rows_with-one (r, c) ((q, d) ∷ []) ∙ ap (λ (rows : List ℕ). r ∷ rows) (rows_with-other (q, d) [] c (λ e. ne (sym e)) ∙ rows_with-nil c)

    second : rows_with es d ≡ q ∷ []
    second = rows_with-other (r, c) ((q, d) ∷ []) d ne ∙ rows_with-one (q, d) [] ∙ ap (λ (rows : List ℕ). q ∷ rows) (rows_with-nil d)

-- the codes of two rows with one code
once : (c : ℕ) → firsts (c ∷ c ∷ []) ≡ c ∷ []
unfolding firsts
once c = ap (λ (b : Bool). c ∷ cond (not b) (c ∷ []) []) (eq-eqb c c refl)

both : (r c q : ℕ) → rows_with ((r, c) ∷ (q, c) ∷ []) c ≡ r ∷ q ∷ []
both r c q = rows_with-one (r, c) ((q, c) ∷ []) ∙ ap (λ (rows : List ℕ). r ∷ rows) (rows_with-one (q, c) [] ∙ ap (λ (rows : List ℕ). q ∷ rows) (rows_with-nil c))

-- a code without a slot makes no part
pub parts-outside : (bound r c q : ℕ) → bound ≤ c → parts bound ((r, c) ∷ (q, c) ∷ []) ≡ []
unfolding parts repeated_codes
parts-outside bound r c q out =
    ap (λ (cs : List ℕ). map (rows_with es) (filter (wanted bound es) cs)) (once c)
    ∙ ap (λ (b : Bool). map (rows_with es) (cond (b && leb 2 (length (rows_with es c))) (c ∷ []) [])) (le-ltb c bound out)
  where
    es : List (ℕ × ℕ)
    es = (r, c) ∷ (q, c) ∷ []

-- two rows with one code are one part
pub parts-alike : (bound r c q : ℕ) → c < bound → parts bound ((r, c) ∷ (q, c) ∷ []) ≡ (r ∷ q ∷ []) ∷ []
unfolding parts repeated_codes
parts-alike bound r c q within =
    ap (λ (cs : List ℕ). map (rows_with es) (filter (wanted bound es) cs)) (once c)
    ∙ ap (λ (b : Bool). map (rows_with es) (cond b (c ∷ []) [])) is_wanted
    ∙ ap (λ (g : List ℕ). g ∷ []) (both r c q)
  where
    es : List (ℕ × ℕ)
    es = (r, c) ∷ (q, c) ∷ []

    is_wanted : wanted bound es c ≡ true
    is_wanted = ap (λ (b : Bool). b && leb 2 (length (rows_with es c))) (lt-ltb c bound within) ∙ ap (λ (rows : List ℕ). leb 2 (length rows)) (both r c q)

-- ---- a group as two lists, of its rows and of their codes
pub pair_of : (rows codes : List ℕ) → length rows ≡ 2 → length codes ≡ length rows
    → zip rows codes ≡ (get_or rows 0 0, get_or codes 0 0) ∷ (get_or rows 1 0, get_or codes 1 0) ∷ []
pair_of [] codes l m = absurd (omega (arith, l))
pair_of (r ∷ []) codes l m = absurd (omega (arith, l))
pair_of (r ∷ q ∷ x ∷ rows) codes l m = absurd (omega (arith, l))
pair_of (r ∷ q ∷ []) [] l m = absurd (omega (arith, m))
pair_of (r ∷ q ∷ []) (c ∷ []) l m = absurd (omega (arith, m))
pair_of (r ∷ q ∷ []) (c ∷ d ∷ y ∷ codes) l m = absurd (omega (arith, m))
pair_of (r ∷ q ∷ []) (c ∷ d ∷ []) l m = refl

-- what stands in a list of two hangs on no default
pub first_of : (rows : List ℕ) (d : ℕ) → length rows ≡ 2 → get_or rows 0 d ≡ get_or rows 0 0
first_of [] d l = absurd (omega (arith, l))
first_of (r ∷ rows) d l = refl

pub second_of : (rows : List ℕ) (d : ℕ) → length rows ≡ 2 → get_or rows 1 d ≡ get_or rows 1 0
second_of [] d l = absurd (omega (arith, l))
second_of (r ∷ []) d l = absurd (omega (arith, l))
second_of (r ∷ q ∷ rows) d l = refl

module _ (slots : ℕ) (rows codes : List ℕ) (two : length rows ≡ 2) (coded : length codes ≡ length rows) where
  -- what two rows add where they are no part
  differing : (get_or codes 1 0 ≡ get_or codes 0 0 → ⊥) → parts slots (zip rows codes) ≡ []
  differing ne = ap (parts slots) (pair_of rows codes two coded) ∙ parts-apart slots (get_or rows 0 0) (get_or codes 0 0) (get_or rows 1 0) (get_or codes 1 0) (λ e. ne (sym e))

  pub adds_none : (get_or codes 1 0 ≡ get_or codes 0 0 → ⊥) ⊎ (slots ≤ get_or codes 0 0) → parts slots (zip rows codes) ≡ []
  adds_none (inl ne) = differing ne
  adds_none (inr out) = elim (cases_eq (get_or codes 1 0) (get_or codes 0 0)) [
    | inl e ↦
        ap (parts slots) (pair_of rows codes two coded)
        ∙ ap (λ (d : ℕ). parts slots ((get_or rows 0 0, get_or codes 0 0) ∷ (get_or rows 1 0, d) ∷ [])) e
        ∙ parts-outside slots (get_or rows 0 0) (get_or codes 0 0) (get_or rows 1 0) out
    | inr ne ↦ differing ne
  ]

  -- and where they are one
  pub adds_one : get_or codes 1 0 ≡ get_or codes 0 0 → get_or codes 0 0 < slots → parts slots (zip rows codes) ≡ (get_or rows 0 0 ∷ get_or rows 1 0 ∷ []) ∷ []
  adds_one e within =
      ap (parts slots) (pair_of rows codes two coded)
      ∙ ap (λ (d : ℕ). parts slots ((get_or rows 0 0, get_or codes 0 0) ∷ (get_or rows 1 0, d) ∷ [])) e
      ∙ parts-alike slots (get_or rows 0 0) (get_or codes 0 0) (get_or rows 1 0) within

-- nothing added
pub rows_kept : (rows : List ℕ) (new : List (List ℕ)) → new ≡ [] → rows ≡ rows ++ concat new
rows_kept rows new e = sym (append-nil rows) ∙ ap (λ (gs : List (List ℕ)). rows ++ concat gs) (sym e)

pub ends_kept : (ends : List ℕ) (n : ℕ) (new : List (List ℕ)) → new ≡ [] → ends ≡ ends ++ ends_of n new
unfolding ends_of
ends_kept ends n new e = sym (append-nil ends) ∙ ap (λ (gs : List (List ℕ)). ends ++ ends_of n gs) (sym e)

-- one pair added
pub rows_grown : (rows next after : List ℕ) (r q : ℕ) (new : List (List ℕ)) → new ≡ (r ∷ q ∷ []) ∷ [] → next ≡ rows ++ r ∷ [] → after ≡ next ++ q ∷ []
    → after ≡ rows ++ concat new
rows_grown rows next after r q new e f g =
    g ∙ ap (λ (xs : List ℕ). xs ++ q ∷ []) f ∙ append_assoc rows (r ∷ []) (q ∷ []) ∙ ap (λ (gs : List (List ℕ)). rows ++ concat gs) (sym e)

pub ends_grown : (ends after : List ℕ) (n m r q : ℕ) (new : List (List ℕ)) → new ≡ (r ∷ q ∷ []) ∷ [] → m ≡ n + 2 → after ≡ ends ++ m ∷ []
    → after ≡ ends ++ ends_of n new
unfolding ends_of
ends_grown ends after n m r q new e l g = g ∙ ap (λ (k : ℕ). ends ++ k ∷ []) l ∙ ap (λ (gs : List (List ℕ)). ends ++ ends_of n gs) (sym e)
