-- What partitions tell of claims, and which claim is the first that fails.
use Rattle.std.proofs.Common.{inl, ◌≡◌, ℕ, ◌+◌, ◌<◌, ◌≤◌, Bool, true, false, not, eqb, refl, sym, ap, subst, arith, List, [], ◌∷◌, length, Option, Some, None, is_none, is_some}
use Rattle.std.proofs.lemmas.Bool.{false≢true, true≢false, eqb-true, eq-eqb}
use Rattle.col_set.specs.declared.target.Target.TheVariants.{Col, RowId}
use Rattle.col_set.specs.Lists.{Listed}
use Rattle.col_set.specs.Subsets.{same_test}
use Rattle.rel_base.specs.CodeTable.{CodeTable}
use Rattle.rel_base.specs.Shows.{holds_in}
use Rattle.stripped_partition.specs.Stripped.{stripped}
use Rattle.stripped_partition.specs.SplitBy.{split_by}
use Rattle.stripped_partition.specs.AnyOrder.{AreGroupsBy}
use Rattle.stripped_partition.proofs.Dependencies.{no_groups-unique, unique-no_groups, held-split, split-held, split_by-none, none-split_by}
use Rattle.cover_cert.specs.declared.line.Claim.{Claim}
use Rattle.cover_cert.specs.Holding.{IsLeastFailing}
use Rattle.cover_cert.specs.Comparing.{first_where}
use Rattle.cover_cert.specs.Certificates.{rows_in, fails}
use Rattle.cover_cert.proofs.Firsts.{first_where-none, first_where-at}

no_members : (gs : List (List ℕ)) → ((g : List ℕ) → Listed g gs → ⊥) → gs ≡ []
no_members [] f = refl
no_members (g ∷ gs) f = absurd (f g (inl refl))

length-none : (gs : List (List ℕ)) → length gs ≡ 0 → gs ≡ []
length-none [] e = refl
length-none (g ∷ gs) e = absurd (omega arith)

empty_list : (gs hs : List (List ℕ)) → gs ≡ [] → ((g : List ℕ) → Listed g hs → Listed g gs) → hs ≡ []
empty_list gs hs e f = no_members hs (λ g l. subst (Listed g) e (f g l))

module _ (s : CodeTable) (x : ℕ) (groups : List (List ℕ)) (are : AreGroupsBy s x groups) where
  pub unique-told : eqb (length groups) 0 ≡ holds_in s x RowId
  unique-told = same_test _ _
      (λ e. unique-no_groups s x (empty_list groups (stripped s x) (length-none groups (eqb-true (length groups) 0 e)) are.kept))
      (λ e. eq-eqb (length groups) 0 (ap length (empty_list (stripped s x) groups (no_groups-unique s x e) are.only)))

  some-none : {A : Type 0} (o : Option A) → is_none o ≡ true → o ≡ None
  some-none None e = refl
  some-none (Some a) e = absurd (false≢true e)

  pub column-told : (a : ℕ) → a < length s.codes → is_none (split_by s a groups) ≡ holds_in s x (Col a)
  column-told a l = same_test _ _
      (λ e. let none = split_by-none s x a groups (some-none (split_by s a groups) e) in
      held-split s x a l (none-split_by s x a (stripped s x) (λ g h i m. none g (are.kept g h) i m)))
      (λ e. let none = split_by-none s x a (stripped s x) (split-held s x a e) in
      ap is_none (none-split_by s x a groups (λ g h i m. none g (are.only g h) i m)))

pub flipped : {A : Type 0} (o : Option A) (b : Bool) → is_some o ≡ not b → b ≡ is_none o
flipped None true e = refl
flipped None false e = absurd (false≢true e)
flipped (Some a) true e = absurd (true≢false e)
flipped (Some a) false e = refl

-- ---- the first claim that fails
module _ (s : CodeTable) (claims : List Claim) where
  pub failing-record : (number place : ℕ) → IsLeastFailing s claims place → place < length claims → Some (number + place) ≡ first_where (fails (rows_in s)) number claims
  failing-record number place is l = by claims l is
    where
      by : (cs : List Claim) → place < length cs → IsLeastFailing s cs place → Some (number + place) ≡ first_where (fails (rows_in s)) number cs
      by [] l is = absurd (omega arith)
      by (c ∷ cs) l is = sym (first_where-at (fails (rows_in s)) number (c ∷ cs) place c l (ap not (is.fails c l)) (λ k d m. ap not (is.before k m d)))

  pub none-failing : (number place : ℕ) → IsLeastFailing s claims place → length claims ≤ place → None ≡ first_where (fails (rows_in s)) number claims
  none-failing number place is l = sym (first_where-none (fails (rows_in s)) number claims (λ k d m. ap not (is.before k (omega arith) d)))
