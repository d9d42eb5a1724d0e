-- What a round asks, list by list.
use Rattle.std.proofs.Common.{◌≡◌, ◌∙◌, ◌+◌, ◌<◌, ◌||◌, ◌⊎◌, inl, inr, ℕ, arith, Bool, true, false, eqb, refl, sym, ap, subst, below_more, List, [], ◌∷◌, ◌++◌, length, take, get_or, length-append, Option}
use Rattle.std.specs.Borrow.{Bor}
use Rattle.std.specs.Bool.{then_some}
use Rattle.std.proofs.lemmas.Bool.{eq-eqb, or_left, or_right}
use Rattle.std.proofs.lemmas.List.{map-append, take_all, take_more}
use Rattle.std.proofs.Math.ListN.{get_or-append}
use Rattle.std.proofs.Math.Seq.{get_or-append_seam}
use Rattle.col_set.specs.Lists.{Listed, Listed-append_cases}
use Rattle.rel_base.specs.Cells.{Cell}
use Rattle.inclusion_merge.specs.Asked.{asked_cells, cells_asked}
use Rattle.inclusion_merge.specs.Sharing.{list_at}

-- ---- what holds of each of the first so many
module _ {X : Type 0} (P : X → Type 0) (xs : List X) (d : X) where
  pub each_more : (i : ℕ) → i < length xs → ((x : X) → Listed x (take i xs) → P x) → P (get_or xs i d) → (x : X) → Listed x (take (i + 1) xs) → P x
  each_more i l before here x h = by (Listed-append_cases x (take i xs) (get_or xs i d ∷ []) (subst (λ (ys : List X). Listed x ys) (take_more xs i d l) h))
    where
      by : Listed x (take i xs) ⊎ Listed x (get_or xs i d ∷ []) → P x
      by (inl g) = before x g
      by (inr (inl e)) = subst P (sym e) here
      by (inr (inr g)) = absurd g

  pub each_of_all : (n : ℕ) → length xs ≡ n → ((x : X) → Listed x (take n xs) → P x) → (x : X) → Listed x xs → P x
  each_of_all n is before x h = before x (subst (λ (ys : List X). Listed x ys) (sym (take_all n xs (omega arith))) h)

-- ---- one more column of a set
inserted : (a : Bool) (c : ℕ) → (a || eqb c c) ≡ true
inserted a c = or_right a (eqb c c) (eq-eqb c c refl)

pub insert_has : (old new : ℕ → Bool) (c : ℕ) → ((k : ℕ) → new k ≡ (old k || eqb k c)) → new c ≡ true
insert_has old new c is = is c ∙ inserted (old c) c

pub insert_grows : (old new : ℕ → Bool) (c : ℕ) → ((k : ℕ) → new k ≡ (old k || eqb k c)) → (k : ℕ) → old k ≡ true → new k ≡ true
insert_grows old new c is k e = is k ∙ or_left (old k) (eqb k c) e

-- ---- one more column that is asked of
pub all_asked_more : (asked : List (Option (Bor (List Cell)))) (column : Option (Bor (List Cell))) (columns : List (List Cell)) (i : ℕ) (d : List Cell) → i < length columns
    → cells_asked asked ≡ take i columns → asked_cells column ≡ get_or columns i d → cells_asked (asked ++ column ∷ []) ≡ take (i + 1) columns
all_asked_more asked column columns i d l before here =
    map-append asked_cells asked (column ∷ []) ∙ ap (λ cells. cells_asked asked ++ cells ∷ []) here ∙ ap (λ cells. cells ++ get_or columns i d ∷ []) before ∙ sym (take_more columns i d l)

pub length-cells_asked : (asked : List (Option (Bor (List Cell)))) → length (cells_asked asked) ≡ length asked
length-cells_asked [] = refl
length-cells_asked (a ∷ asked) = let e = length-cells_asked asked in omega arith

pub asked_more : (asked : List (Option (Bor (List Cell)))) (column : Option (Bor (List Cell))) (columns : List (List Cell)) (named : ℕ → Bool) (i : ℕ) → length (cells_asked asked) ≡ i
    → ((c : ℕ) → c < i → named c ≡ true → list_at (cells_asked asked) c ≡ list_at columns c) → (named i ≡ true → asked_cells column ≡ list_at columns i)
    → (c : ℕ) → c < i + 1 → named c ≡ true → list_at (cells_asked (asked ++ column ∷ [])) c ≡ list_at columns c
asked_more asked column columns named i long before here =
    let cells = cells_asked asked in
    let more : cells_asked (asked ++ column ∷ []) ≡ cells ++ asked_cells column ∷ [] = map-append asked_cells asked (column ∷ []) in
    below_more (λ c. named c ≡ true → list_at (cells_asked (asked ++ column ∷ [])) c ≡ list_at columns c) i
    (λ c l e. ap (λ (xs : List (List Cell)). list_at xs c) more ∙ get_or-append cells (asked_cells column ∷ []) [] c (omega arith) ∙ before c l e)
    (λ e. ap (λ (xs : List (List Cell)). list_at xs i) more ∙ ap (λ (n : ℕ). list_at (cells ++ asked_cells column ∷ []) n) (sym long) ∙ get_or-append_seam cells (asked_cells column) [] [] ∙ here e)

pub asked_count : (asked : List (Option (Bor (List Cell)))) (column : Option (Bor (List Cell))) (i : ℕ) → length (cells_asked asked) ≡ i → length (cells_asked (asked ++ column ∷ [])) ≡ i + 1
asked_count asked column i long =
    let before = length-cells_asked asked in
    let after = length-cells_asked (asked ++ column ∷ []) in
    let more = length-append asked (column ∷ []) in
    omega arith

pub then_some-asked : (b : Bool) (column : Bor (List Cell)) (asked : Option (Bor (List Cell))) → asked ≡ then_some b column → b ≡ true → asked_cells asked ≡ column.now
then_some-asked b column asked is e = ap asked_cells (is ∙ ap (λ b. then_some b column) e)

-- ---- one more answer on a column
pub whole_more : (whole : List Bool) (b : Bool) (i : ℕ) (P : ℕ → Type 0) → length whole ≡ i → ((c : ℕ) → c < i → get_or whole c false ≡ true → P c) → (b ≡ true → P i)
    → (c : ℕ) → c < i + 1 → get_or (whole ++ b ∷ []) c false ≡ true → P c
whole_more whole b i P long before here =
    below_more (λ c. get_or (whole ++ b ∷ []) c false ≡ true → P c) i
    (λ c l e. before c l (sym (get_or-append whole (b ∷ []) false c (omega arith)) ∙ e))
    (λ e. here (sym (ap (λ (n : ℕ). get_or (whole ++ b ∷ []) n false) (sym long) ∙ get_or-append_seam whole b [] false) ∙ e))
