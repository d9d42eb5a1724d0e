-- What the calls that count and that climb need, over plain values.
use Rattle.std.proofs.Common.{inl, inr, ◌≡◌, ◌⊎◌, ℕ, ◌<◌, ◌≤◌, Bool, true, false, cond, ◌||◌, eqb, leb, refl, sym, ap, ◌∙◌, subst, arith, List, length, Option, Some, None, unwrap_or}
use Rattle.std.proofs.lemmas.Bool.{eqb-false, ne_eqb, true≢false, leb-true, le-leb, cases_lt}
use Rattle.col_set.specs.declared.target.Target.{Target}
use Rattle.col_set.specs.declared.target.Target.TheVariants.{Col, RowId}
use Rattle.col_set.specs.ColSet.{has, with}
use Rattle.col_set.specs.Members.{has-with}
use Rattle.col_set.specs.Target.{has_target, is_target, IsColumnTarget}
use Rattle.rel_base.specs.CodeTable.{CodeTable, IsCodeTable}
use Rattle.rel_base.specs.declared.limits.TheConstants.{MOST_ROWS}
use Rattle.stripped_partition.specs.AnyOrder.{AreGroupsBy}
use Rattle.stripped_partition.specs.Stripped.{error_of}
use Rattle.stripped_partition.specs.Removed.{removed_of, up_to}
use Rattle.stripped_partition.proofs.Live.{length-live}
use Rattle.approx_fd.specs.Removal.{removed_in, least_removed}
use Rattle.approx_fd.specs.Search.{Searching, IsFailing, IsClimb}
use Rattle.approx_fd.proofs.Removing.{removed_in-column, removed_in-row}

-- ---- numbers up to a bound
up_to-few : (most n : ℕ) → n ≤ most → up_to most n ≡ Some n
up_to-few most n l = ap (λ b. cond b (Some n) None) (le-leb n most l)

up_to-many : (most n : ℕ) → most < n → up_to most n ≡ None
up_to-many most n l = by (leb n most) refl
  where
    by : (b : Bool) → leb n most ≡ b → cond b (Some n) None ≡ None
    by true e = let m = leb-true n most e in absurd (omega arith)
    by false e = refl

pub up_to-none : (most n : ℕ) → up_to most n ≡ None → most < n
up_to-none most n e = by (leb n most) refl e
  where
    by : (b : Bool) → leb n most ≡ b → cond b (Some n) None ≡ None → most < n
    by true i f = cc
    by false i f = at (cases_lt most n)
      where
        at : (most < n) ⊎ (n ≤ most) → most < n
        at (inl l) = l
        at (inr l) = absurd (true≢false (sym (le-leb n most l) ∙ i))

pub up_to-some : (most n k : ℕ) → up_to most n ≡ Some k → (k ≡ n) × (n ≤ most)
up_to-some most n k e = by (leb n most) refl e
  where
    by : (b : Bool) → leb n most ≡ b → cond b (Some n) None ≡ Some k → (k ≡ n) × (n ≤ most)
    by true i f = (cc, leb-true n most i)
    by false i f = cc

-- ---- counting
module _ (s : CodeTable) (groups : List (List ℕ)) (t : Target) (most : ℕ) where
  pub column-removed : (a : ℕ) (found : Option ℕ) → IsColumnTarget (length s.codes) t → t ≡ Col a → found ≡ up_to most (removed_of s a groups) → (x : ℕ) → AreGroupsBy s x groups → found ≡ up_to most (removed_in s x t)
  column-removed a found target is f x are =
      f ∙ ap (up_to most) (sym (removed_in-column s x groups are a (subst (IsColumnTarget (length s.codes)) is target)) ∙ ap (removed_in s x) (sym is))

  row-count : (count x : ℕ) → t ≡ RowId → count ≡ error_of groups → AreGroupsBy s x groups → count ≡ removed_in s x t
  row-count count x is e are = e ∙ sym (removed_in-row s x groups are) ∙ ap (removed_in s x) (sym is)

  pub row-few : (count : ℕ) → t ≡ RowId → count ≡ error_of groups → count ≤ most → (x : ℕ) → AreGroupsBy s x groups → Some count ≡ up_to most (removed_in s x t)
  row-few count is e l x are = let r = row-count count x is e are in sym (up_to-few most count l) ∙ ap (up_to most) r

  pub row-many : (count : ℕ) → t ≡ RowId → count ≡ error_of groups → most < count → (x : ℕ) → AreGroupsBy s x groups → None ≡ up_to most (removed_in s x t)
  row-many count is e l x are = let r = row-count count x is e are in sym (up_to-many most count l) ∙ ap (up_to most) r

-- there are at most a million rows to be removed
pub removed-few : (s : CodeTable) (x : ℕ) (t : Target) → IsCodeTable s → removed_in s x t ≤ MOST_ROWS
unfolding removed_in least_removed
removed-few s x t is = let l = length-live s in let m = is.short in omega arith

pub removed-all : (s : CodeTable) (groups : List (List ℕ)) (a count : ℕ) → IsCodeTable s → a < length s.codes → count ≡ unwrap_or (up_to 4294967295 (removed_of s a groups)) 4294967295
    → (x : ℕ) → AreGroupsBy s x groups → count ≡ removed_in s x (Col a)
removed-all s groups a count is l e x are =
    let r = removed_in-column s x groups are a l in
    let m = removed-few s x (Col a) is in
    e ∙ ap (λ (o : Option ℕ). unwrap_or o 4294967295) (up_to-few 4294967295 (removed_of s a groups) (omega arith)) ∙ sym r

-- ---- a climb by a column
has_target-with : (x k : ℕ) (t : Target) → has_target x t ≡ false → is_target k t ≡ false → has_target (with x k) t ≡ false
unfolding has_target is_target
has_target-with x k (Col a) l e = has-with x k a ∙ neither (has x a) (eqb a k) l (ne_eqb a k (λ i. eqb-false k a e (sym i)))
  where
    neither : (b c : Bool) → b ≡ false → c ≡ false → (b || c) ≡ false
    neither true c f g = f
    neither false c f g = g
has_target-with x k RowId l e = refl

pub climbed-on : (s : Searching) (t : Target) (x more k table_most : ℕ) (table : CodeTable) (finer : List (List ℕ)) (above : Bool) → IsFailing s.table s.most t x → is_target k t ≡ false → more ≡ with x k → AreGroupsBy s.table (with x k) finer
    → table ≡ s.table → table_most ≡ s.most → ((y : ℕ) → AreGroupsBy table y finer → above ≡ true → table_most < removed_in table y t) → above ≡ true
    → IsClimb s t (record { columns = more; own = Some finer })
climbed-on s t x more k table_most table finer above f apart m are same most up is = record {
  failing = subst (IsFailing s.table s.most t) (sym m) (record {
    lacks = has_target-with x k t f.lacks apart;
    above = subst (λ (n : ℕ). n < removed_in s.table (with x k) t) most (subst (λ (u : CodeTable). table_most < removed_in u (with x k) t) same (up (with x k) (subst (λ (u : CodeTable). AreGroupsBy u (with x k) finer) (sym same) are) is));
  });
  groups = subst (λ (y : ℕ). AreGroupsBy s.table y finer) (sym m) are;
}
