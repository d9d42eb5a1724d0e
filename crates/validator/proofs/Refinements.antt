-- Partitions refined column by column.
use Rattle.std.proofs.Common.{◌≡◌, ℕ, ◌<◌, ◌^◌, Bool, true, false, not, ◌&&◌, ◌||◌, eqb, refl, sym, ap, ap₂, ◌∙◌, arith, List, length, Some, None}
use Rattle.std.proofs.lemmas.Bool.{eqb-true}
use Rattle.col_set.specs.ColSet.{empty, has, with, without, union, first, set_of}
use Rattle.col_set.specs.Members.{has-empty, has-union, has-with, has-without, same_set}
use Rattle.col_set.specs.Subsets.{has_within}
use Rattle.col_set.specs.AllSets.{set_of-columns}
use Rattle.col_set.proofs.EachColumn.{Rest, first-Some, first-None}
use Rattle.rel_base.specs.CodeTable.{CodeTable}
use Rattle.stripped_partition.specs.Stripped.{stripped, IsPartitionOf}

-- a set without columns
pub no_columns : (x : ℕ) → None ≡ first x → x ≡ empty
unfolding set_of
no_columns x e = sym (set_of-columns x) ∙ ap set_of (first-None x e)

pub or_false : (b : Bool) → (b || false) ≡ b
or_false true = refl
or_false false = refl

pub union-empty : (x : ℕ) → union x empty ≡ x
union-empty x = same_set _ _ (λ k. has-union x empty k ∙ ap (λ b. has x k || b) (has-empty k) ∙ or_false (has x k))

empty-union : (x : ℕ) → union empty x ≡ x
empty-union x = same_set _ _ (λ k. has-union empty x k ∙ ap (λ b. b || has x k) (has-empty k))

-- a column that moves from one set to the other
moved : (a b e : Bool) → (e ≡ true → b ≡ true) → ((a || e) || (b && not e)) ≡ (a || b)
moved true b e f = refl
moved false true true f = refl
moved false true false f = refl
moved false false true f = sym (f refl)
moved false false false f = refl

pub union-moved : (x y c : ℕ) → has y c ≡ true → union (with x c) (without y c) ≡ union x y
union-moved x y c h = same_set _ _ (λ k.
    has-union (with x c) (without y c) k ∙ ap₂ (λ a b. a || b) (has-with x c k) (has-without y c k)
    ∙ moved (has x k) (has y k) (eqb k c) (λ e. ap (has y) (eqb-true k c e) ∙ h) ∙ sym (has-union x y k))

pub with-without : (x c : ℕ) → has x c ≡ true → with (without x c) c ≡ x
with-without x c h = same_set _ _ (λ k.
    has-with (without x c) c k ∙ ap (λ b. b || eqb k c) (has-without x c k) ∙ back (has x k) (eqb k c) (λ e. ap (has x) (eqb-true k c e) ∙ h))
  where
    back : (a e : Bool) → (e ≡ true → a ≡ true) → ((a && not e) || e) ≡ a
    back true true f = refl
    back true false f = refl
    back false true f = sym (f refl)
    back false false f = refl

-- the partition so far, and the columns that are left
pub record Underway (s : CodeTable) (wanted : ℕ) (groups : List (List ℕ)) (done rest : ℕ) : Type 0 where
  pub is : groups ≡ stripped s done
  pub both : union done rest ≡ wanted
  pub within : rest < 2 ^ length s.codes

module _ (s : CodeTable) (wanted : ℕ) (groups : List (List ℕ)) where
  pub underway_start : groups ≡ stripped s empty → wanted < 2 ^ length s.codes → Underway s wanted groups empty wanted
  underway_start e l = record { is = e; both = empty-union wanted; within = l }

  module _ (done rest : ℕ) (p : Underway s wanted groups done rest) where
    pub underway_of : IsPartitionOf s groups
    underway_of = record { columns = done; is = p.is }

    pub underway_end : None ≡ first rest → groups ≡ stripped s wanted
    underway_end e = p.is ∙ ap (stripped s) (sym (union-empty done) ∙ ap (union done) (sym (no_columns rest e)) ∙ p.both)

    module _ (column : ℕ) (e : Some column ≡ first rest) where
      of_rest : Rest rest column
      of_rest = first-Some rest column e

      pub underway_column : column < length s.codes
      underway_column = has_within rest (length s.codes) column p.within of_rest.had

      pub underway_smaller : without rest column < rest
      underway_smaller = of_rest.smaller

      pub underway_more : (new : List (List ℕ)) → ((x : ℕ) → groups ≡ stripped s x → new ≡ stripped s (with x column)) → (now left : ℕ) → now ≡ with done column → left ≡ without rest column → Underway s wanted new now left
      underway_more new f now left d r = record {
        is = f done p.is ∙ ap (stripped s) (sym d);
        both = ap₂ union d r ∙ union-moved done rest column of_rest.had ∙ p.both;
        within = (let a = of_rest.smaller in let b = p.within in omega arith);
      }
