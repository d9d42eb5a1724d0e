-- What is left of an inclusion of lists where a place is left out, and at one place alone.
use Rattle.std.proofs.Common.{inl, inr, ◌≡◌, ℕ, zero, suc, ◌<◌, ltb, Bool, true, ◌&&◌, ◌||◌, not, eqb, refl, sym, ap, arith, List, [], ◌∷◌, length, map, get_or}
use Rattle.std.specs.List.{list_all}
use Rattle.std.proofs.lemmas.Bool.{and_parts, and_from, or_cases, or_left, or_right}
use Rattle.std.proofs.lemmas.List.{get_or-map}
use Rattle.col_set.specs.Lists.{list_all_at}
use Rattle.col_set.proofs.Places.{Listed-get_or}
use Rattle.rel_base.specs.Cells.{Cell, cell}
use Rattle.rel_base.specs.Agreement.{same_cell}
use Rattle.rel_base.specs.RowState.{RowState}
use Rattle.nary_ind.specs.declared.found.ListInd.{ListInd}
use Rattle.nary_ind.specs.declared.found.Side.{Side}
use Rattle.nary_ind.specs.ListInclusions.{rows_at, is_ascending, are_different, differ_by_place, is_formed, holds_among, is_list_inclusion, from_to}
use Rattle.nary_ind.specs.Laws.{without_place}
use Rattle.nary_ind.proofs.Among.{among-made}

-- ---- without a place
without-map : {A B : Type 0} (f : A → B) (xs : List A) (k : ℕ) → map f (without_place xs k) ≡ without_place (map f xs) k
without-map f [] k = refl
without-map f (x ∷ xs) zero = refl
without-map {B = B} f (x ∷ xs) (suc k) = ap (λ (ys : List B). f x ∷ ys) (without-map f xs k)

all-without : {A : Type 0} (p : A → Bool) (xs : List A) (k : ℕ) → list_all p xs ≡ true → list_all p (without_place xs k) ≡ true
all-without p [] k e = refl
all-without p (x ∷ xs) zero e = (and_parts (p x) _ e).1
all-without p (x ∷ xs) (suc k) e = let w = and_parts (p x) (list_all p xs) e in and_from _ _ w.0 (all-without p xs k w.1)

ascending-without : (cs : List ℕ) (k : ℕ) → is_ascending cs ≡ true → is_ascending (without_place cs k) ≡ true
ascending-without [] k e = refl
ascending-without (c ∷ cs) zero e = (and_parts (list_all (ltb c) cs) _ e).1
ascending-without (c ∷ cs) (suc k) e = let w = and_parts (list_all (ltb c) cs) (is_ascending cs) e in and_from _ _ (all-without (ltb c) cs k w.0) (ascending-without cs k w.1)

different-without : (cs : List ℕ) (k : ℕ) → are_different cs ≡ true → are_different (without_place cs k) ≡ true
different-without [] k e = refl
different-without (c ∷ cs) zero e = (and_parts (list_all (λ d. not (eqb c d)) cs) _ e).1
different-without (c ∷ cs) (suc k) e =
    let w = and_parts (list_all (λ d. not (eqb c d)) cs) (are_different cs) e in and_from _ _ (all-without (λ d. not (eqb c d)) cs k w.0) (different-without cs k w.1)

differ-nil : (cs : List ℕ) → differ_by_place cs [] ≡ true
differ-nil [] = refl
differ-nil (c ∷ cs) = refl

differ-without : (cs ds : List ℕ) (k : ℕ) → differ_by_place cs ds ≡ true → differ_by_place (without_place cs k) (without_place ds k) ≡ true
differ-without [] ds k e = refl
differ-without (c ∷ cs) [] k e = differ-nil (without_place (c ∷ cs) k)
differ-without (c ∷ cs) (d ∷ ds) zero e = (and_parts (not (eqb c d)) _ e).1
differ-without (c ∷ cs) (d ∷ ds) (suc k) e = let w = and_parts (not (eqb c d)) (differ_by_place cs ds) e in and_from _ _ w.0 (differ-without cs ds k w.1)

-- ---- an inclusion in parts
pub record IsFormed (i : ListInd) : Type 0 where
  pub ascending : is_ascending i.dep_cols ≡ true
  pub different : are_different i.into_cols ≡ true
  pub apart : (not (eqb i.dep_rel i.into_rel) || differ_by_place i.dep_cols i.into_cols) ≡ true

pub formed-parts : (i : ListInd) → is_formed i ≡ true → IsFormed i
unfolding is_formed
formed-parts i e =
    let w = and_parts (is_ascending i.dep_cols && are_different i.into_cols) (not (eqb i.dep_rel i.into_rel) || differ_by_place i.dep_cols i.into_cols) e in
    let v = and_parts (is_ascending i.dep_cols) (are_different i.into_cols) w.0 in
    record { ascending = v.0; different = v.1; apart = w.1 }

pub formed-from : (i : ListInd) → IsFormed i → is_formed i ≡ true
unfolding is_formed
formed-from i f = and_from _ _ (and_from _ _ f.ascending f.different) f.apart

apart-from : (p q : ℕ) (a b : Bool) → (a ≡ true → b ≡ true) → (not (eqb p q) || a) ≡ true → (not (eqb p q) || b) ≡ true
apart-from p q a b f e = elim (or_cases (not (eqb p q)) a e) as (λ _. (not (eqb p q) || b) ≡ true) [ inl h ↦ or_left _ _ h | inr h ↦ or_right (not (eqb p q)) b (f h) ]

module _ (rs : List RowState) (d i : Side) where
  pub fewer_places : (k : ℕ) → is_list_inclusion rs (from_to d i) ≡ true
      → is_list_inclusion rs (from_to (record { rel = d.rel; columns = without_place d.columns k }) (record { rel = i.rel; columns = without_place i.columns k })) ≡ true
  fewer_places k e =
      let w = and_parts (is_formed (from_to d i)) (holds_among rs (from_to d i)) e in
      let f = formed-parts (from_to d i) w.0 in
      and_from _ _
      (formed-from (from_to (record { rel = d.rel; columns = without_place d.columns k }) (record { rel = i.rel; columns = without_place i.columns k })) (record {
        ascending = ascending-without d.columns k f.ascending;
        different = different-without i.columns k f.different;
        apart = apart-from d.rel i.rel (differ_by_place d.columns i.columns) (differ_by_place (without_place d.columns k) (without_place i.columns k)) (differ-without d.columns i.columns k) f.apart;
      }))
      (among-made (λ t. without_place t k) d.columns i.columns (without_place d.columns k) (without_place i.columns k) (rows_at rs d.rel) (rows_at rs i.rel)
      (λ x. without-map (cell x) d.columns k) (λ y. without-map (cell y) i.columns k) (λ t _ n. all-without (λ a. same_cell a []) t k n) w.1)

-- ---- one place alone
pub differ-at : (cs ds : List ℕ) (k : ℕ) → k < length cs → k < length ds → differ_by_place cs ds ≡ true → not (eqb (get_or cs k 0) (get_or ds k 0)) ≡ true
differ-at [] ds k l m e = absurd (omega arith)
differ-at (c ∷ cs) [] k l m e = absurd (omega arith)
differ-at (c ∷ cs) (d ∷ ds) zero l m e = (and_parts (not (eqb c d)) _ e).0
differ-at (c ∷ cs) (d ∷ ds) (suc k) l m e = differ-at cs ds k (omega arith) (omega arith) (and_parts (not (eqb c d)) _ e).1

-- the column at a place, alone
abbrev pub at_place : Side → ℕ → Side
at_place s k = record { rel = s.rel; columns = get_or s.columns k 0 ∷ [] }

module _ (rs : List RowState) (d i : Side) where
  pub one_place : (k : ℕ) → k < length d.columns → k < length i.columns → is_list_inclusion rs (from_to d i) ≡ true → is_list_inclusion rs (from_to (at_place d k) (at_place i k)) ≡ true
  one_place k l m e =
      let w = and_parts (is_formed (from_to d i)) (holds_among rs (from_to d i)) e in
      let f = formed-parts (from_to d i) w.0 in
      and_from _ _
      (formed-from (from_to (at_place d k) (at_place i k)) (record {
        ascending = refl;
        different = refl;
        apart = apart-from d.rel i.rel (differ_by_place d.columns i.columns) (differ_by_place (get_or d.columns k 0 ∷ []) (get_or i.columns k 0 ∷ []))
            (λ h. and_from _ _ (differ-at d.columns i.columns k l m h) refl) f.apart;
      }))
      (among-made (λ t. get_or t k [] ∷ []) d.columns i.columns (get_or d.columns k 0 ∷ []) (get_or i.columns k 0 ∷ []) (rows_at rs d.rel) (rows_at rs i.rel)
      (λ x. ap (λ (a : Cell). a ∷ []) (sym (get_or-map (cell x) d.columns k 0 [] l)))
      (λ y. ap (λ (a : Cell). a ∷ []) (sym (get_or-map (cell y) i.columns k 0 [] m)))
      (λ t e n. and_from _ _ (list_all_at (λ a. same_cell a []) (get_or t k []) t n (Listed-get_or t k [] (omega arith))) refl) w.1)
