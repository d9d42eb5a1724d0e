-- A column that is included in another is included in all that this one is included in.
use Rattle.std.proofs.Common.{◌≡◌, ◌≢◌, ◌∙◌, ◌++◌, ◌∷◌, ◌<◌, ◌≤◌, ◌⊎◌, inl, inr, ◌||◌, ℕ, arith, true, not, eqb, sym, ap, subst, List, [], length, get_or}
use Rattle.std.specs.List.{list_any}
use Rattle.std.proofs.lemmas.Bool.{and_parts, and_from, or_cases, or_left, not-true, false≢true, eqb-false, eqb-true, ne_eqb, cases_eq, cases_lt}
use Rattle.std.proofs.lemmas.List.{get_or_append_left, get_or_past, get_or_push, length_push}
use Rattle.col_set.specs.ColSet.{empty, has, union, with, without}
use Rattle.col_set.specs.Lists.{list_all_at, list_all_from, list_any_which}
use Rattle.col_set.specs.Members.{has-empty, has-union, has-with, has-without}
use Rattle.rel_base.specs.Agreement.{same_cell}
use Rattle.rel_base.specs.Cells.{Cell}
use Rattle.rel_base.specs.Inclusion.{included}
use Rattle.rel_base.proofs.Agree.{same_cell-true}
use Rattle.profile_text.specs.Including.{AreIncludedIn, IsIncludedIn}

-- inclusion is transitive, but for the column itself
pub included-trans : (columns : List (List Cell)) (c m d : ℕ) → included columns c m ≡ true → included columns m d ≡ true → c ≢ d → included columns c d ≡ true
unfolding included
included-trans columns c m d first second apart =
    and_from _ _ (ap not (ne_eqb c d apart))
    (list_all_from _ (get_or columns c []) (λ a listed. by a (or_cases (same_cell a []) (list_any (same_cell a) (get_or columns m [])) (list_all_at _ a (get_or columns c []) (and_parts (not (eqb c m)) _ first).1 listed))))
  where
    by : (a : Cell) → (same_cell a [] ≡ true) ⊎ (list_any (same_cell a) (get_or columns m []) ≡ true) → (same_cell a [] || list_any (same_cell a) (get_or columns d [])) ≡ true
    by a (inl null) = or_left _ _ null
    by a (inr there) =
        let w = list_any_which (same_cell a) (get_or columns m []) there in
        subst (λ (x : Cell). (same_cell x [] || list_any (same_cell x) (get_or columns d [])) ≡ true) (sym (same_cell-true a w.0 w.2))
        (list_all_at _ w.0 (get_or columns m []) (and_parts (not (eqb m d)) _ second).1 w.1)

-- ---- the columns that one is known to be included in
pub none_known : (columns : List (List Cell)) (c set : ℕ) → set ≡ empty → IsIncludedIn columns c set
none_known columns c set is = record { each = λ d h. absurd (false≢true (sym (has-empty d) ∙ ap (λ (s : ℕ). has s d) (sym is) ∙ h)) }

module _ (columns : List (List Cell)) (c m known further : ℕ) (found : included columns c m ≡ true) (old : IsIncludedIn columns c known) (more : IsIncludedIn columns m further) where
  joined : (d : ℕ) → d ≢ c → (has (with known m) d ≡ true) ⊎ (has further d ≡ true) → included columns c d ≡ true
  joined d apart (inl h) = by (or_cases (has known d) (eqb d m) (sym (has-with known m d) ∙ h))
    where
      by : (has known d ≡ true) ⊎ (eqb d m ≡ true) → included columns c d ≡ true
      by (inl g) = old.each d g
      by (inr g) = ap (included columns c) (eqb-true d m g) ∙ found
  joined d apart (inr h) = included-trans columns c m d found (more.each d h) (λ e. apart (sym e))

  pub more_known : (set : ℕ) → set ≡ without (union (with known m) further) c → IsIncludedIn columns c set
  more_known set is = record {
    each = λ d h.
        let w = and_parts (has (union (with known m) further) d) (not (eqb d c)) (sym (has-without (union (with known m) further) c d) ∙ ap (λ (s : ℕ). has s d) (sym is) ∙ h) in
        joined d (eqb-false d c (not-true _ w.1)) (or_cases (has (with known m) d) (has further d) (sym (has-union (with known m) further d) ∙ w.0));
  }

-- ---- the same of each of the first columns
pub none_earlier : (columns : List (List Cell)) (sets : List ℕ) → sets ≡ [] → AreIncludedIn columns sets
none_earlier columns sets is = record { each = λ c. none_known columns c (get_or sets c empty) (ap (λ (xs : List ℕ). get_or xs c empty) is) }

pub one_earlier : (columns : List (List Cell)) (old new : List ℕ) (n set : ℕ) → AreIncludedIn columns old → length old ≡ n → IsIncludedIn columns n set → new ≡ old ++ set ∷ [] → AreIncludedIn columns new
one_earlier columns old new n set so_far long is made = record { each = λ c. subst (λ (xs : List ℕ). IsIncludedIn columns c (get_or xs c empty)) (sym made) (at c (cases_lt c n) (cases_eq c n)) }
  where
    at : (c : ℕ) → (c < n) ⊎ (n ≤ c) → (c ≡ n) ⊎ (c ≢ n) → IsIncludedIn columns c (get_or (old ++ set ∷ []) c empty)
    at c (inl below) there = subst (λ (s : ℕ). IsIncludedIn columns c s) (sym (get_or_append_left old (set ∷ []) empty c (omega (arith, long)))) (so_far.each c)
    at c (inr from) (inl e) = subst (λ (k : ℕ). IsIncludedIn columns k (get_or (old ++ set ∷ []) k empty)) (sym e) (subst (λ (s : ℕ). IsIncludedIn columns n s) (sym (get_or_push old set empty n long)) is)
    at c (inr from) (inr apart) = none_known columns c _ (get_or_past (old ++ set ∷ []) c empty (omega (arith, long, length_push old set, apart)))
