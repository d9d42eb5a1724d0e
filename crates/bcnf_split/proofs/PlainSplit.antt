-- The plain definition of the split, as the tests run it.
use Rattle.std.proofs.Common.{inl, inr, ◌≡◌, ◌≢◌, ◌⊎◌, ℕ, zero, suc, ◌+◌, ◌<◌, ◌≤◌, ◌^◌, Bool, true, false, not, ◌&&◌, refl, sym, ap, ap₂, ◌∙◌, subst, arith, List, [], ◌∷◌, ◌++◌, eqb, map, append_assoc, Less, Option, Some, None}
use Rattle.std.specs.Prelude.{IfSome}
use Rattle.std.specs.List.{list_any}
use Rattle.std.proofs.lemmas.Bool.{true≢false, false≢true, cases_eq, cases_Bool, and_parts, and_from, or_cases, or_right, not-true, not_from_false, eq-eqb, eqb-true, false_from_ne_true}
use Rattle.col_set.specs.declared.target.Target.TheVariants.{Col}
use Rattle.col_set.specs.ColSet.{Columns, has, subset, with, union, inter, minus, columns, all, report_cmp}
use Rattle.col_set.specs.Members.{has-empty, has-with, has-inter, same_set}
use Rattle.col_set.specs.Lists.{list_any_at, list_any_which}
use Rattle.col_set.specs.Subsets.{IsSubset-with, same_test, subset-true, true-subset, has_within, subset_below}
use Rattle.col_set.proofs.EachColumn.{Listed-columns, columns-listed}
use Rattle.rel_base.specs.declared.dependency.Table.{Table}
use Rattle.rel_base.specs.RowState.{RowState, width}
use Rattle.rel_base.specs.Validity.{agree_sets, determined, holds}
use Rattle.fd_closure.specs.Determined.{determined_columns, determines_all}
use Rattle.fd_closure.specs.Keys.{shrunk, table_key}
use Rattle.fd_closure.proofs.Determined.{determined-holds, holds-determined, subset-determined}
use Rattle.bcnf_split.specs.Bcnf.{violates, first_violation}
use Rattle.bcnf_split.specs.Split.{dependents, splits_within, tables_of}
use Rattle.bcnf_split.specs.Search.{IsFoundAs}
use Rattle.bcnf_split.proofs.Violating.{violates-parts, violates-from, first-violating, first-cases, first-before, none-violates}
use Rattle.bcnf_split.proofs.Searching.{not_both}
use Rattle.bcnf_split.proofs.Parting.{rest-less, moved-less}
use Rattle.bcnf_split.proofs.Splitting.{more_steps}
use Rattle.bcnf_split.proofs.Tabling.{all-below}

-- ---- the columns below n that are determined
pub record Found (sets : List Columns) (x : Columns) (n : ℕ) (found : Columns) : Type 0 where
  pub only : (k : ℕ) → has found k ≡ true → (k < n) × (determined sets x (Col k) ≡ true)
  pub every : (k : ℕ) → k < n → determined sets x (Col k) ≡ true → has found k ≡ true

module _ (sets : List Columns) (x : Columns) where
  pub found_none : (found : ℕ) → found ≡ 0 → Found sets x 0 found
  found_none found e = record {
    only = λ k h. absurd (false≢true (sym (has-empty k) ∙ ap (λ (z : ℕ). has z k) (sym e) ∙ h));
    every = λ k l h. absurd (omega arith);
  }

  pub found_with : (n found more : ℕ) → Found sets x n found → more ≡ with found n → determined sets x (Col n) ≡ true → Found sets x (n + 1) more
  found_with n found more f e h = record { only = λ k g. out k (or_cases _ _ (sym (has-with found n k) ∙ ap (λ (z : ℕ). has z k) (sym e) ∙ g)); every = λ k l g. ap (λ (z : ℕ). has z k) e ∙ in_ k l g (cases_eq k n) }
    where
      out : (k : ℕ) → (has found k ≡ true) ⊎ (eqb k n ≡ true) → (k < n + 1) × (determined sets x (Col k) ≡ true)
      out k (inl g) = let w = f.only k g in let l = w.0 in (omega arith, w.1)
      out k (inr g) = let i = eqb-true k n g in (omega arith, ap (λ (z : ℕ). determined sets x (Col z)) i ∙ h)

      in_ : (k : ℕ) → k < n + 1 → determined sets x (Col k) ≡ true → (k ≡ n) ⊎ (k ≢ n) → has (with found n) k ≡ true
      in_ k l g (inl i) = has-with found n k ∙ or_right (has found k) _ (eq-eqb k n i)
      in_ k l g (inr ne) = (IsSubset-with found n).each k (f.every k (omega arith) g)

  pub found_not : (n found : ℕ) → Found sets x n found → determined sets x (Col n) ≡ false → Found sets x (n + 1) found
  found_not n found f h = record { only = λ k g. let w = f.only k g in let l = w.0 in (omega arith, w.1); every = λ k l g. by k l g (cases_eq k n) }
    where
      by : (k : ℕ) → k < n + 1 → determined sets x (Col k) ≡ true → (k ≡ n) ⊎ (k ≢ n) → has found k ≡ true
      by k l g (inl i) = absurd (true≢false (sym g ∙ ap (λ (z : ℕ). determined sets x (Col z)) i ∙ h))
      by k l g (inr ne) = f.every k (omega arith) g

  holds-sets : (r : RowState) (k : ℕ) → agree_sets r ≡ sets → holds r x (Col k) ≡ determined sets x (Col k)
  unfolding holds
  holds-sets r k e = ap (λ (ws : List Columns). determined ws x (Col k)) e

  pub found_all : (n found : ℕ) → Found sets x n found → (r : RowState) → agree_sets r ≡ sets → width r ≡ n → found ≡ determined_columns r x
  found_all n found f r e w = same_set _ _ (λ k. same_test _ _
      (λ h. let v = f.only k h in holds-determined r x k (subst (λ (m : ℕ). k < m) (sym w) v.0) (holds-sets r k e ∙ v.1))
      (λ h. let v = determined-holds r x k h in f.every k (subst (λ (m : ℕ). k < m) w v.0) (sym (holds-sets r k e) ∙ v.1)))

-- ---- whether a set violates
module _ (r : RowState) (s x : Columns) (below : s < 2 ^ width r) where
  some_outside : not (subset (inter s (determined_columns r x)) x) ≡ list_any (λ a. not (has x a) && holds r x (Col a)) (columns s)
  some_outside = same_test _ _
      (λ e. by e (cases_Bool (list_any (λ a. not (has x a) && holds r x (Col a)) (columns s))))
      (λ e. let w = list_any_which (λ a. not (has x a) && holds r x (Col a)) (columns s) e in
      let v = and_parts (not (has x w.0)) (holds r x (Col w.0)) w.2 in
      let own = columns-listed s w.0 w.1 in
      not_from_false _ (false_from_ne_true _ (λ g. true≢false (sym ((subset-true g).each w.0 (has-inter s (determined_columns r x) w.0 ∙ and_from _ _ own (holds-determined r x w.0 (has_within s (width r) w.0 below own) v.1))) ∙ not-true _ v.0))))
    where
      all_own : list_any (λ a. not (has x a) && holds r x (Col a)) (columns s) ≡ false → (k : ℕ) → has (inter s (determined_columns r x)) k ≡ true → (has x k ≡ true) ⊎ (has x k ≡ false) → has x k ≡ true
      all_own none k h (inl g) = g
      all_own none k h (inr g) =
          let w = and_parts (has s k) (has (determined_columns r x) k) (sym (has-inter s (determined_columns r x) k) ∙ h) in
          absurd (true≢false (sym (list_any_at (λ a. not (has x a) && holds r x (Col a)) k (columns s) (Listed-columns s k w.0) (and_from _ _ (not_from_false _ g) (determined-holds r x k w.1).1)) ∙ none))

      by : not (subset (inter s (determined_columns r x)) x) ≡ true → (list_any (λ a. not (has x a) && holds r x (Col a)) (columns s) ≡ true) ⊎ (list_any (λ a. not (has x a) && holds r x (Col a)) (columns s) ≡ false) → list_any (λ a. not (has x a) && holds r x (Col a)) (columns s) ≡ true
      by e (inl g) = g
      by e (inr g) = absurd (true≢false (sym (true-subset (record { each = λ k h. all_own g k h (cases_Bool (has x k)) })) ∙ not-true _ e))

  pub violates-plainly : (found : ℕ) → found ≡ determined_columns r x → ((subset x s && not (subset (inter s found) x)) && not (subset s found)) ≡ violates r s x
  unfolding violates
  violates-plainly found e =
      ap (λ (z : ℕ). (subset x s && not (subset (inter s z) x)) && not (subset s z)) e
      ∙ ap₂ (λ a b. (subset x s && a) && not b) some_outside (subset-determined r x s below)

-- ---- the first of those that were tried
pub record Tried (r : RowState) (s n : ℕ) (first : Option Columns) : Type 0 where
  pub told : IfSome first (λ x. violates r s x ≡ true)
  pub before : (y : ℕ) → y < n → violates r s y ≡ true → IsFoundAs y first

module _ (r : RowState) (s : Columns) where
  pub tried_none : (first : Option Columns) → first ≡ None → Tried r s 0 first
  tried_none first e = subst (Tried r s 0) (sym e) (record { told = tt; before = λ y l v. absurd (omega arith) })

  pub tried_more : (n : ℕ) (first : Option Columns) → Tried r s n first → (violates r s n ≡ true → IsFoundAs n first) → Tried r s (n + 1) first
  tried_more n first t f = record { told = t.told; before = λ y l v. by y l v (cases_eq y n) }
    where
      by : (y : ℕ) → y < n + 1 → violates r s y ≡ true → (y ≡ n) ⊎ (y ≢ n) → IsFoundAs y first
      by y l v (inl e) = subst (λ (z : ℕ). IsFoundAs z first) (sym e) (f (ap (violates r s) (sym e) ∙ v))
      by y l v (inr ne) = t.before y (omega arith) v

  pub tried_found : (n : ℕ) (first : Option Columns) → Tried r s n first → violates r s n ≡ true → ((y : ℕ) → IsFoundAs y first → report_cmp n y ≡ Less) → Tried r s (n + 1) (Some n)
  tried_found n first t v f = tried_more n (Some n) (record { told = v; before = λ y l g. inr (f y (t.before y l g)) }) (λ g. inl refl)

  pub tried_all : (n : ℕ) (first : Option Columns) → Tried r s n first → 2 ^ width r ≤ n → s < 2 ^ width r → first ≡ first_violation r s
  tried_all n None t l b = elim (first-cases r s) as (λ _. None ≡ first_violation r s) [
    | inl e ↦ sym e
    | inr w ↦ let v = first-violating r s w.0 w.1 in let g = subset_below (width r) v.inside b in absurd (t.before w.0 (omega arith) (passes w.0 w.1))
  ]
    where
      passes : (x : ℕ) → first_violation r s ≡ Some x → violates r s x ≡ true
      passes x e = violates-from r s x (first-violating r s x e)
  tried_all n (Some x) t l b = elim (first-cases r s) as (λ _. Some x ≡ first_violation r s) [
    | inl e ↦ absurd (true≢false (sym t.told ∙ none-violates r s x e (subset_below (width r) (violates-parts r s x t.told).inside b)))
    | inr w ↦ let v = first-violating r s w.0 w.1 in let g = subset_below (width r) v.inside b in
        by w.0 w.1 (t.before w.0 (omega arith) (violates-from r s w.0 v)) (first-before r s w.0 x w.1 (subset_below (width r) (violates-parts r s x t.told).inside b) t.told)
  ]
    where
      by : (y : ℕ) → first_violation r s ≡ Some y → (x ≡ y) ⊎ (report_cmp x y ≡ Less) → (y ≡ x) ⊎ (report_cmp y x ≡ Less) → Some x ≡ first_violation r s
      by y e (inl i) o = ap Some i ∙ sym e
      by y e (inr i) (inl o) = ap Some (sym o) ∙ sym e
      by y e (inr i) (inr o) = absurd (not_both x y i o)

-- two tests, the second of which is only made where the first one passes
pub both_tests : (one two value : Bool) → ((one ≡ true) × (value ≡ two)) ⊎ ((one ≡ false) × (value ≡ false)) → value ≡ (one && two)
both_tests one two value (inl w) = w.1 ∙ sym (ap (λ b. b && two) w.0)
both_tests one two value (inr w) = w.1 ∙ sym (ap (λ b. b && two) w.0)

-- ---- the key
module _ (r : RowState) (s : Columns) where
  pub key_start : (n : ℕ) → width r ≡ n → shrunk (λ x. determines_all r x s) n s ≡ table_key r s
  unfolding table_key
  key_start n w = ap (λ k. shrunk (λ x. determines_all r x s) k s) (sym w)

  pub key_answer : (n x y found : ℕ) (answer : Bool) → width r ≡ n → s < 2 ^ n → x ≡ y → found ≡ determined_columns r x → answer ≡ subset s found → answer ≡ determines_all r y s
  key_answer n x y found answer w b e f g = g ∙ ap (subset s) f ∙ subset-determined r x s (subst (λ (m : ℕ). s < 2 ^ m) (sym w) b) ∙ ap (λ (z : ℕ). determines_all r z s) e

-- ---- the tables
abbrev pub with_keys : RowState → List Columns → List Table
with_keys r ts = map (λ t. record { columns = t; key = table_key r t }) ts

module _ (r : RowState) (s : Columns) where
  pub steps_whole : (steps : ℕ) → (first_violation r s ≡ None) ⊎ (steps ≤ 0) → splits_within steps r s ≡ s ∷ []
  unfolding splits_within
  steps_whole zero e = refl
  steps_whole (suc n) (inr l) = absurd (omega arith)
  steps_whole (suc n) (inl e) = subst (λ (o : Option ℕ). elim o [ None ↦ s ∷ [] | Some x ↦ splits_within n r (minus s (dependents r s x)) ++ splits_within n r (union x (dependents r s x)) ] ≡ s ∷ []) (sym e) refl

  pub steps_parted : (steps less x : ℕ) → steps ≡ suc less → first_violation r s ≡ Some x → splits_within steps r s ≡ splits_within less r (minus s (dependents r s x)) ++ splits_within less r (union x (dependents r s x))
  unfolding splits_within
  steps_parted steps less x d e = ap (λ n. splits_within n r s) d
      ∙ subst (λ (o : Option ℕ). elim o [ None ↦ s ∷ [] | Some y ↦ splits_within less r (minus s (dependents r s y)) ++ splits_within less r (union y (dependents r s y)) ] ≡ splits_within less r (minus s (dependents r s x)) ++ splits_within less r (union x (dependents r s x))) (sym e) refl

  with_keys-append : (xs ys : List Columns) → with_keys r (xs ++ ys) ≡ with_keys r xs ++ with_keys r ys
  with_keys-append [] ys = refl
  with_keys-append (x ∷ xs) ys = ap (λ (ts : List Table). record { columns = x; key = table_key r x } ∷ ts) (with_keys-append xs ys)

  pub plain_joined : (steps less x moved rest more : ℕ) (before one two : List Table) → steps ≡ suc less → Some x ≡ first_violation r s → moved ≡ dependents r s x → rest ≡ minus s moved → more ≡ union x moved →
      one ≡ before ++ with_keys r (splits_within less r rest) → two ≡ one ++ with_keys r (splits_within less r more) → two ≡ before ++ with_keys r (splits_within steps r s)
  plain_joined steps less x moved rest more before one two d e m f g h i =
      i ∙ ap (λ (ts : List Table). ts ++ with_keys r (splits_within less r more)) h ∙ append_assoc before (with_keys r (splits_within less r rest)) (with_keys r (splits_within less r more))
      ∙ ap (λ (ts : List Table). before ++ ts) (sym (with_keys-append (splits_within less r rest) (splits_within less r more))
      ∙ ap₂ (λ (a b : ℕ). with_keys r (splits_within less r a ++ splits_within less r b)) (f ∙ ap (minus s) m) (g ∙ ap (union x) m)
      ∙ ap (with_keys r) (sym (steps_parted steps less x d (sym e))))

pub part_below : (r : RowState) (s x moved rest more n : ℕ) → width r ≡ n → s < 2 ^ n → Some x ≡ first_violation r s → moved ≡ dependents r s x → rest ≡ minus s moved → more ≡ union x moved → (rest < 2 ^ n) × (more < 2 ^ n)
part_below r s x moved rest more n w b e m f g =
    let c : s < 2 ^ width r = subst (λ (k : ℕ). s < 2 ^ k) (sym w) b in
    let v = first-violating r s x (sym e) in
    let p = rest-less r s x c v in
    let q = moved-less r s x v in
    let i : rest ≡ minus s (dependents r s x) = f ∙ ap (minus s) m in
    let j : more ≡ union x (dependents r s x) = g ∙ ap (union x) m in
    (omega arith, omega arith)

pub plain_tables : (r : RowState) (n s steps : ℕ) → width r ≡ n → s ≡ all n → steps ≡ 2 ^ n → with_keys r (splits_within steps r s) ≡ tables_of r (all n)
plain_tables r n s steps w e d =
    let l = all-below n in
    ap (λ (z : ℕ). with_keys r (splits_within steps r z)) e
    ∙ ap (with_keys r) (more_steps r steps (all n) (all n) (omega arith) (omega arith) (subst (λ (k : ℕ). all n < 2 ^ k) (sym w) l))

pub moved_are : (r : RowState) (s x found met moved : ℕ) → found ≡ determined_columns r x → met ≡ inter s found → moved ≡ minus met x → moved ≡ dependents r s x
unfolding dependents
moved_are r s x found met moved e f g = g ∙ ap (λ (z : ℕ). minus z x) (f ∙ ap (inter s) e)
