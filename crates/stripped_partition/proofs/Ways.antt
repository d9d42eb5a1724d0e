-- Levels that come and go on a path.
use Rattle.std.proofs.Common.{inl, inr, ◌≡◌, ◌⊎◌, ℕ, ◌+◌, ◌<◌, Bool, true, false, cond, not, ◌&&◌, ◌||◌, eqb, refl, sym, ap, ◌∙◌, subst, arith, List, [], ◌∷◌, ◌++◌, vec_len, Option, Some, None, Result, Ok, Err}
use Rattle.std.specs.Prelude.{IfSome, MatchOption, OnOk, OnErr}
use Rattle.std.specs.Option.{option_to_list}
use Rattle.std.specs.List.{All}
use Rattle.std.proofs.lemmas.Bool.{and_parts, and_from, false≢true}
use Rattle.std.proofs.lemmas.List.Elements.{All-pop}
use Rattle.col_set.specs.ColSet.{IsSubset, has, with, without, minus, subset, first, empty}
use Rattle.col_set.specs.Members.{has-empty, has-minus, has-with, has-without, same_set}
use Rattle.col_set.specs.Subsets.{same_test, with_subset, true-subset}
use Rattle.col_set.specs.Lists.{Listed, Listed-append_cases}
use Rattle.col_set.proofs.EachColumn.{first-Some, first-None, Listed-columns}
use Rattle.rel_base.specs.CodeTable.{CodeTable}
use Rattle.rel_base.proofs.States.{All-listed, All-from}
use Rattle.stripped_partition.specs.Paths.{columns_of, IsLevel, IsTop}
use Rattle.stripped_partition.specs.declared.path.Level.{Level}
use Rattle.stripped_partition.specs.declared.path.Levels.{Levels}

pub none_inside : (x columns : ℕ) → x ≡ empty → IsSubset x columns
none_inside x columns e = record { each = λ k h. absurd (false≢true (sym (has-empty k) ∙ ap (λ (z : ℕ). has z k) (sym e) ∙ h)) }

-- ---- levels
-- how many there are
abbrev pub count_of : Levels → ℕ
count_of levels = vec_len levels.below + top_count levels.top
  where
    top_count : Option Level → ℕ
    top_count None = 0
    top_count (Some level) = 1

pub popped_levels : (s : CodeTable) (old new : List Level) (r : Option Level) → old ≡ new ++ option_to_list r → All (IsLevel s) old → All (IsLevel s) new × IsTop s r
popped_levels s old new r e a = let p = All-pop (IsLevel s) old new r e a in (p.0, top r p.1)
  where
    top : (r : Option Level) → IfSome r (IsLevel s) → IsTop s r
    top None h = tt
    top (Some level) h = h

pub fewer_levels : (old new : Levels) (columns : ℕ) → subset (columns_of old.top) columns ≡ false → MatchOption new.top ((vec_len old.below ≡ 0) × (vec_len new.below ≡ 0)) (λ _. vec_len new.below + 1 ≡ vec_len old.below) → count_of new < count_of old
fewer_levels old new columns f m = by old.top new.top f m
  where
    by : (o n : Option Level) → subset (columns_of o) columns ≡ false → MatchOption n ((vec_len old.below ≡ 0) × (vec_len new.below ≡ 0)) (λ _. vec_len new.below + 1 ≡ vec_len old.below)
        → count_of (record { below = new.below; top = n }) < count_of (record { below = old.below; top = o })
    by None n g h = absurd (false≢true (sym g ∙ true-subset (none_inside empty columns refl)))
    by (Some level) None g h = let a = h.0 in let b = h.1 in omega arith
    by (Some level) (Some next) g h = omega arith

pub pushed_levels : (s : CodeTable) (b : Bool) (old new : List Level) (level : Level) → new ≡ cond b (old ++ level ∷ []) old → All (IsLevel s) old → IsLevel s level → All (IsLevel s) new
pushed_levels s true old new level e a p = All-from (IsLevel s) new (λ y l. at y (Listed-append_cases y old (level ∷ []) (subst (Listed y) e l)))
  where
    at : (y : Level) → Listed y old ⊎ Listed y (level ∷ []) → IsLevel s y
    at y (inl l) = All-listed (IsLevel s) y old a l
    at y (inr (inl i)) = subst (IsLevel s) (sym i) p
    at y (inr (inr l)) = absurd l
pushed_levels s false old new level e a p = subst (All (IsLevel s)) (sym e) a

-- ---- columns
-- a column that is left is one of the columns
pub left_column : (columns there k : ℕ) → has (minus columns there) k ≡ true → has columns k ≡ true
left_column columns there k h = (and_parts (has columns k) (not (has there k)) (sym (has-minus columns there k) ∙ h)).0

pub next_column : (columns there k : ℕ) → Some k ≡ first (minus columns there) → has columns k ≡ true
next_column columns there k e = left_column columns there k (first-Some (minus columns there) k e).had

-- one column more, or the same columns
pub one_more : {U E : Type 0} (r : Result U E) (columns there k next : ℕ) → IsSubset there columns → has columns k ≡ true → OnOk r (next ≡ with there k) → OnErr r (next ≡ there) → IsSubset next columns
one_more (Ok u) columns there k next i h o e = subst (λ (z : ℕ). IsSubset z columns) (sym o) (with_subset k i h)
one_more (Err u) columns there k next i h o e = subst (λ (z : ℕ). IsSubset z columns) (sym e) i

-- one column is left less
pub fewer_left : (columns there k next : ℕ) → Some k ≡ first (minus columns there) → next ≡ with there k → minus columns next < minus columns there
fewer_left columns there k next e n =
    subst (λ (z : ℕ). z < minus columns there) (sym (ap (minus columns) n ∙ same)) (first-Some (minus columns there) k e).smaller
  where
    parts : (a b c : Bool) → (a && not (b || c)) ≡ ((a && not b) && not c)
    parts false b c = refl
    parts true false c = refl
    parts true true c = refl

    same : minus columns (with there k) ≡ without (minus columns there) k
    same = same_set (minus columns (with there k)) (without (minus columns there) k) (λ j.
        has-minus columns (with there k) j
        ∙ ap (λ b. has columns j && not b) (has-with there k j)
        ∙ parts (has columns j) (has there j) (eqb j k)
        ∙ ap (λ b. b && not (eqb j k)) (sym (has-minus columns there j))
        ∙ sym (has-without (minus columns there) k j))

-- none is left
pub all_there : (columns there : ℕ) → IsSubset there columns → None ≡ first (minus columns there) → there ≡ columns
all_there columns there i e = same_set there columns (λ j. same_test _ _ (i.each j) (λ h. by j h (has there j) refl))
  where
    by : (j : ℕ) → has columns j ≡ true → (b : Bool) → has there j ≡ b → has there j ≡ true
    by j h true f = f
    by j h false f = absurd (subst (Listed j) (first-None (minus columns there) e) (Listed-columns (minus columns there) j (has-minus columns there j ∙ and_from _ _ h (ap not f))))
