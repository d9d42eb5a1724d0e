-- Lists of kept partitions.
use Rattle.std.proofs.Common.{inl, inr, ◌⊎◌, not, eqb, ◌≡◌, ◌≢◌, ℕ, zero, suc, ◌+◌, [], ◌∷◌, ◌++◌, take, drop, replicate, ◌<◌, ◌^◌, true, false, Bool, ◌&&◌, ◌||◌, ap₂, refl, sym, ap, ◌∙◌, subst, arith, List, length, get_or, Option, Some, None}
use Rattle.std.proofs.lemmas.Bool.{and_parts, false≢true, cases_eq, ne_eqb}
use Rattle.std.specs.Option.{option_or}
use Rattle.std.proofs.lemmas.List.Elements.{All-append, All-take, All-drop}
use Rattle.col_set.specs.ColSet.{has, subset, first, without, IsSubset}
use Rattle.col_set.specs.Members.{has-without}
use Rattle.col_set.specs.Subsets.{IsSubset-trans}
use Rattle.col_set.proofs.EachColumn.{first-Some, without-lt}
use Rattle.col_set.specs.ColSet.{empty, with, union, minus}
use Rattle.col_set.specs.Members.{has-with, has-empty, has-union, has-minus, same_set}
use Rattle.col_set.specs.Subsets.{true-subset, subset-true, has_within, subset_below}
use Rattle.rel_base.specs.CodeTable.{CodeTable}
use Rattle.stripped_partition.specs.AnyOrder.{AreGroupsBy}
use Rattle.validator.specs.Kept.{IsKept, AreKept}
use Rattle.validator.specs.Walk.{plus, IsClear}
use Rattle.validator.specs.declared.cache.Kept.{Kept}
use Rattle.validator.proofs.Refinements.{or_false, no_columns, union-moved, union-empty}

-- the columns tried so far, and the place of a partition by some of them
pub record Nearest (kept : List Kept) (columns chosen : ℕ) (best : Option ℕ) : Type 0 where
  pub inside : IsSubset chosen columns
  pub place : (n : ℕ) → best ≡ Some n → n < length kept
  pub within : (n : ℕ) (d : Kept) → best ≡ Some n → subset (get_or kept n d).columns columns ≡ true

-- what is found for a set of the columns
module _ (kept : List Kept) (columns : ℕ) where
  pub nearest_of : (chosen : ℕ) (found : Option ℕ) → IsSubset chosen columns → ((n : ℕ) → found ≡ Some n → n < length kept) → ((n : ℕ) (d : Kept) → found ≡ Some n → (get_or kept n d).columns ≡ chosen) → Nearest kept columns chosen found
  nearest_of chosen found sub l e = record { inside = sub; place = l; within = λ n d is. true-subset (subst (λ (x : ℕ). IsSubset x columns) (sym (e n d is)) sub) }

  pub nearest_or : (chosen next : ℕ) (best found : Option ℕ) → Nearest kept columns chosen best → Nearest kept columns next found → Nearest kept columns next (option_or found best)
  nearest_or chosen next best None p q = record { inside = q.inside; place = p.place; within = p.within }
  nearest_or chosen next best (Some n) p q = q

  pub one_chosen : (chosen column : ℕ) → IsSubset chosen columns → has (minus columns chosen) column ≡ true → IsSubset (with chosen column) columns
  one_chosen chosen column sub h = record { each = λ k m. here k (cases_eq k column) m }
    where
      here : (k : ℕ) → (k ≡ column) ⊎ (k ≢ column) → has (with chosen column) k ≡ true → has columns k ≡ true
      here k (inl e) m = (and_parts (has columns k) (not (has chosen k)) (sym (has-minus columns chosen k) ∙ ap (has (minus columns chosen)) e ∙ h)).0
      here k (inr ne) m = sub.each k (sym (ap (λ b. has chosen k || b) (ne_eqb k column ne) ∙ or_false (has chosen k)) ∙ sym (has-with chosen column k) ∙ m)

pub none_chosen : (columns chosen : ℕ) → chosen ≡ empty → IsSubset chosen columns
none_chosen columns chosen e = record { each = λ k h. absurd (false≢true (sym (has-empty k) ∙ ap (λ (z : ℕ). has z k) (sym e) ∙ h)) }

-- the column chosen so far
pub record Chosen (columns best left : ℕ) : Type 0 where
  pub column : has columns best ≡ true
  pub bound : best < 128
  pub inside : IsSubset left columns

pub chosen_start : (columns first : ℕ) → has columns first ≡ true → first < 128 → Chosen columns first columns
chosen_start columns first h l = record { column = h; bound = l; inside = record { each = λ k m. m } }

module _ (columns best left column : ℕ) (p : Chosen columns best left) (e : Some column ≡ first left) where
  smaller_set : IsSubset (without left column) left
  smaller_set = record { each = λ k h. (and_parts (has left k) (not (eqb k column)) (sym (has-without left column k) ∙ h)).0 }

  pub chosen_next : (new : ℕ) → (new ≡ best) ⊎ (new ≡ column) → column < 128 → (rest : ℕ) → rest ≡ without left column → Chosen columns new rest
  chosen_next new (inl s) b rest r = record { column = ap (has columns) s ∙ p.column; bound = (let a = p.bound in omega arith); inside = subst (λ (x : ℕ). IsSubset x columns) (sym r) (IsSubset-trans smaller_set p.inside) }
  chosen_next new (inr s) b rest r = record { column = ap (has columns) s ∙ p.inside.each column (first-Some left column e).had; bound = omega arith; inside = subst (λ (x : ℕ). IsSubset x columns) (sym r) (IsSubset-trans smaller_set p.inside) }

  pub chosen_smaller : (rest : ℕ) → rest ≡ without left column → rest < left
  chosen_smaller rest r = let a = (first-Some left column e).smaller in omega arith

pub empty_within : (x columns : ℕ) → x ≡ empty → subset x columns ≡ true
empty_within x columns e = true-subset (record { each = λ k h. absurd (false≢true (sym (has-empty k) ∙ ap (λ (z : ℕ). has z k) (sym e) ∙ h)) })

-- a set and the columns that it lacks of a larger one
pub union-minus : (x y : ℕ) → subset x y ≡ true → union x (minus y x) ≡ y
union-minus x y e = same_set _ _ (λ k. has-union x (minus y x) k ∙ ap (λ b. has x k || b) (has-minus y x k) ∙ both (has x k) (has y k) ((subset-true e).each k))
  where
    both : (a b : Bool) → (a ≡ true → b ≡ true) → (a || (b && not a)) ≡ b
    both true b f = sym (f refl)
    both false true f = refl
    both false false f = refl

pub minus-below : (x y n : ℕ) → y < 2 ^ n → minus y x < 2 ^ n
minus-below x y n l = subset_below {x = minus y x} {y = y} n (record { each = λ k h. (and_parts (has y k) (not (has x k)) (sym (has-minus y x k) ∙ h)).0 }) l

-- ---- partitions made for the columns of a set
pub record Keeping (s : CodeTable) (kept : List Kept) (left : ℕ) : Type 0 where
  pub are : AreKept s kept
  pub within : left < 2 ^ length s.codes

pub keeping_column : (s : CodeTable) (kept : List Kept) (left column : ℕ) → Keeping s kept left → Some column ≡ first left → column < length s.codes
keeping_column s kept left column p e = has_within left (length s.codes) column p.within (first-Some left column e).had

pub keeping_next : (s : CodeTable) (kept now : List Kept) (left column rest : ℕ) → Keeping s kept left → Some column ≡ first left → AreKept s now → rest ≡ without left column → Keeping s now rest
keeping_next s kept now left column rest p e are r = record { are = are; within = (let a = (first-Some left column e).smaller in let b = p.within in omega arith) }

-- ---- a partition refined by columns in turn
pub record Refining (s : CodeTable) (wanted : Kept → ℕ) (kept : List Kept) (slots : List ℕ) (k left : ℕ) : Type 0 where
  pub are : AreKept s kept
  pub place : k < length kept
  pub columns : (d : Kept) → union (get_or kept k d).columns left ≡ wanted d
  pub clear : IsClear slots
  pub within : left < 2 ^ length s.codes

module _ (s : CodeTable) (wanted : Kept → ℕ) (kept : List Kept) (slots : List ℕ) (k left : ℕ) (p : Refining s wanted kept slots k left) where
  pub refining_end : None ≡ first left → (d : Kept) → plus (get_or kept k d).columns None ≡ wanted d
  refining_end e d = sym (union-empty (get_or kept k d).columns) ∙ ap (union (get_or kept k d).columns) (sym (no_columns left e)) ∙ p.columns d

  module _ (column : ℕ) (h : has left column ≡ true) where
    pub refining_column : column < length s.codes
    refining_column = has_within left (length s.codes) column p.within h

    pub refining_last : without left column ≡ empty → (d : Kept) → plus (get_or kept k d).columns (Some column) ≡ wanted d
    refining_last e d =
        sym (union-empty (with (get_or kept k d).columns column)) ∙ ap (union (with (get_or kept k d).columns column)) (sym e)
        ∙ union-moved (get_or kept k d).columns left column h ∙ p.columns d

    pub refining_smaller : (rest : ℕ) → rest ≡ without left column → rest < left
    refining_smaller rest r = let a = without-lt left column h in omega arith

    pub refining_next : (now : List Kept) (slots_after : List ℕ) (next rest : ℕ) → AreKept s now → next < length now → ((d : Kept) → (get_or now next d).columns ≡ with (get_or kept k d).columns column) → rest ≡ without left column → IsClear slots_after → Refining s wanted now slots_after next rest
    refining_next now slots_after next rest are place columns r clear = record {
      are = are;
      place = place;
      clear = clear;
      columns = λ d. ap₂ union (columns d) r ∙ union-moved (get_or kept k d).columns left column h ∙ p.columns d;
      within = (let a = without-lt left column h in let b = p.within in omega arith);
    }

-- ---- partitions that are dropped
pub record StillKept (old kept : List Kept) : Type 0 where
  pub are : (s : CodeTable) → AreKept s old → AreKept s kept

pub still_none : (kept : List Kept) → StillKept kept kept
still_none kept = record { are = λ s a. a }

pub still_more : (old kept rest : List Kept) (k : ℕ) → StillKept old kept → rest ≡ take k kept ++ drop (k + 1) kept → StillKept old rest
still_more old kept rest k p e = record {
  are = λ s a. subst (AreKept s) (sym e) (All-append (IsKept s) (take k kept) (drop (k + 1) kept) (All-take (IsKept s) k kept (p.are s a)) (All-drop (IsKept s) (k + 1) kept (p.are s a)));
}

-- the partition at a place
pub kept_of : (s : CodeTable) (kept : List Kept) (k : ℕ) (r : Kept) → AreKept s kept → k < length kept → r ≡ get_or kept k r → AreGroupsBy s r.columns r.partition.value
unfolding IsKept
kept_of s kept k r are l e = subst (IsKept s) (sym e) (are k r l)

-- a partition that is kept with its columns
pub kept_from : (s : CodeTable) (kept : Kept) (columns : ℕ) (groups : List (List ℕ)) → kept.partition.value ≡ groups → kept.columns ≡ columns → AreGroupsBy s columns groups → IsKept s kept
unfolding IsKept
kept_from s kept columns groups e d are = subst (λ (x : ℕ). AreGroupsBy s x kept.partition.value) (sym d) (subst (AreGroupsBy s columns) (sym e) are)

-- one more owner of a partition
pub kept_as : (s : CodeTable) (kept new : Kept) → new.partition.value ≡ kept.partition.value → new.columns ≡ kept.columns → IsKept s kept → IsKept s new
unfolding IsKept
kept_as s kept new e d are = kept_from s new kept.columns kept.partition.value e d are

-- slots that are clear
pub clear_zeros : (slots : List ℕ) → IsClear slots → slots ≡ replicate (length slots) 0
clear_zeros [] f = refl
clear_zeros (x ∷ slots) f = ap₂ (λ (y : ℕ) (ys : List ℕ). y ∷ ys) (f 0) (clear_zeros slots (λ k. f (suc k)))

-- one more that is kept
pub kept_push : (s : CodeTable) (old new : List Kept) (kept : Kept) → new ≡ old ++ kept ∷ [] → AreKept s old → IsKept s kept → AreKept s new
kept_push s old new kept e are is = subst (AreKept s) (sym e) (All-append (IsKept s) old (kept ∷ []) are one)
  where
    one : (k : ℕ) (d : Kept) → k < 1 → IsKept s (get_or (kept ∷ []) k d)
    one zero d l = is
    one (suc k) d l = absurd (omega arith)
