-- What the tests of what a column set determines mean, and the usual laws of it: a set determines its own columns, more columns
-- determine more, and what determines all of Y determines what Y does.
use Rattle.std.proofs.Common.{◌≡◌, ℕ, ◌<◌, ◌^◌, true}
use Rattle.col_set.specs.declared.target.Target.TheVariants.{Col}
use Rattle.col_set.specs.ColSet.{IsSubset, has, subset, columns, upto}
use Rattle.col_set.specs.Target.{has_target}
use Rattle.col_set.specs.Lists.{Listed-filter, Listed-filter_parts, list_all_at, list_all_from}
use Rattle.col_set.specs.AllSets.{set_of-has, has-set_of, Listed-upto, Listed-upto_within}
use Rattle.col_set.specs.Subsets.{same_test, subset-true, true-subset, has_within}
use Rattle.col_set.proofs.EachColumn.{Listed-columns, columns-listed}
use Rattle.col_set.proofs.Places.{Climbs}
use Rattle.rel_base.specs.RowState.{RowState, width}
use Rattle.rel_base.specs.Validity.{agree_sets, holds}
use Rattle.rel_base.proofs.Valid.{determined-at, determined-from, holds-more, Holds-tested, holds-true}
use Rattle.fd_closure.specs.Determined.{determined_columns, determines_all, Determines}

module _ (r : RowState) where
  pub determined-holds : (x a : ℕ) → has (determined_columns r x) a ≡ true → (a < width r) × (holds r x (Col a) ≡ true)
  unfolding determined_columns
  determined-holds x a e = let w = Listed-filter_parts (λ a. holds r x (Col a)) a (upto (width r)) (set_of-has a _ e) in (Listed-upto_within (width r) a w.0, w.1)

  pub holds-determined : (x a : ℕ) → a < width r → holds r x (Col a) ≡ true → has (determined_columns r x) a ≡ true
  unfolding determined_columns
  holds-determined x a l e = has-set_of a _ (Listed-filter (λ a. holds r x (Col a)) a (upto (width r)) (Listed-upto (width r) a l) e)

  pub all-holds : (x s a : ℕ) → determines_all r x s ≡ true → has s a ≡ true → holds r x (Col a) ≡ true
  unfolding determines_all
  all-holds x s a e h = list_all_at (λ a. holds r x (Col a)) a (columns s) e (Listed-columns s a h)

  pub holds-all : (x s : ℕ) → ((a : ℕ) → has s a ≡ true → holds r x (Col a) ≡ true) → determines_all r x s ≡ true
  unfolding determines_all
  holds-all x s f = list_all_from (λ a. holds r x (Col a)) (columns s) (λ a h. f a (columns-listed s a h))

  pub Determines-tested : (x s : ℕ) → determines_all r x s ≡ true → Determines r x s
  Determines-tested x s e = record { each = λ a h. Holds-tested r x (Col a) (all-holds x s a e h) }

  pub determines-true : (x s : ℕ) → Climbs r.live → Determines r x s → determines_all r x s ≡ true
  determines-true x s up d = holds-all x s (λ a h. holds-true r x (Col a) up (d.each a h))

  -- as one set inside another
  pub subset-determined : (x s : ℕ) → s < 2 ^ width r → subset s (determined_columns r x) ≡ determines_all r x s
  subset-determined x s b = same_test _ _
      (λ e. holds-all x s (λ a h. (determined-holds x a ((subset-true e).each a h)).1))
      (λ e. true-subset (record { each = λ a h. holds-determined x a (has_within s (width r) a b h) (all-holds x s a e h) }))

  -- a set determines its own columns
  pub holds-own : (x a : ℕ) → has x a ≡ true → holds r x (Col a) ≡ true
  unfolding holds has_target
  holds-own x a h = determined-from (agree_sets r) x (Col a) (λ w l s. s.each a h)

  -- more columns determine more
  pub all-more : (x y s : ℕ) → IsSubset x y → determines_all r x s ≡ true → determines_all r y s ≡ true
  all-more x y s i e = holds-all y s (λ a h. holds-more r x y (Col a) i (all-holds x s a e h))

  -- what determines all of Y determines what Y does
  pub holds-through : (x y a : ℕ) → ((b : ℕ) → has y b ≡ true → holds r x (Col b) ≡ true) → holds r y (Col a) ≡ true → holds r x (Col a) ≡ true
  unfolding holds has_target
  holds-through x y a f e = determined-from (agree_sets r) x (Col a) (λ w l s.
      determined-at (agree_sets r) y (Col a) w e l (record { each = λ b h. determined-at (agree_sets r) x (Col b) w (f b h) l s }))
