-- What the tests of minimal dependencies and keys mean, and that covers are the least sets of the agree sets of the live rows.
use Rattle.std.proofs.Common.{◌≡◌, ℕ, ◌^◌, ◌<◌, Bool, true, not, ◌&&◌, ap}
use Rattle.std.specs.List.{filter, flat_map}
use Rattle.std.proofs.lemmas.Bool.{and_parts, and_from, not-true, not_from_false}
use Rattle.col_set.specs.declared.target.Target.TheVariants.{Col, RowId}
use Rattle.col_set.specs.ColSet.{has, upto, all_sets}
use Rattle.col_set.specs.Target.{has_target}
use Rattle.col_set.specs.Minimal.{is_minimal}
use Rattle.col_set.specs.Evidence.{least}
use Rattle.col_set.proofs.Minimal.{IsMinimal-from_test, test_from_IsMinimal}
use Rattle.col_set.proofs.Places.{Climbs}
use Rattle.rel_base.specs.RowState.{RowState, width}
use Rattle.rel_base.specs.Validity.{agree_sets, holds, unique}
use Rattle.rel_base.specs.Minimality.{min_fd, MinFd, min_key, MinKey}
use Rattle.rel_base.specs.Covers.{fds_to, covers}
use Rattle.rel_base.specs.Covers.{least_covers}
use Rattle.rel_base.proofs.Valid.{Holds-tested, holds-true, holds-refuted}

pub MinFd-tested : (r : RowState) (x a : ℕ) → Climbs r.live → a < width r → x < 2 ^ width r → min_fd r x a ≡ true → MinFd r x a
unfolding min_fd
MinFd-tested r x a up l b e =
    let q = and_parts (not (has x a)) (is_minimal (width r) (λ y. holds r y (Col a)) x) e in
    let m = IsMinimal-from_test (width r) (λ y. holds r y (Col a)) x b q.1 in
    record {
      column = l;
      below = b;
      lacks = not-true _ q.0;
      determines = Holds-tested r x (Col a) m.passes;
      smallest = λ y s h. m.smallest y s (holds-true r y (Col a) up h);
    }

pub min_fd-true : (r : RowState) (x a : ℕ) → Climbs r.live → MinFd r x a → min_fd r x a ≡ true
unfolding min_fd
min_fd-true r x a up m = and_from _ _ (not_from_false _ m.lacks) (test_from_IsMinimal (width r) (λ y. holds r y (Col a)) x (record {
  passes = holds-true r x (Col a) up m.determines;
  smallest = λ y s e. m.smallest y s (Holds-tested r y (Col a) e);
}))

pub MinKey-tested : (r : RowState) (x : ℕ) → Climbs r.live → x < 2 ^ width r → min_key r x ≡ true → MinKey r x
unfolding min_key
MinKey-tested r x up b e =
    let m = IsMinimal-from_test (width r) (unique r) x b e in
    record {
      below = b;
      determines = Holds-tested r x RowId m.passes;
      smallest = λ y s h. m.smallest y s (holds-true r y RowId up h);
    }

pub min_key-true : (r : RowState) (x : ℕ) → Climbs r.live → MinKey r x → min_key r x ≡ true
unfolding min_key
min_key-true r x up m = test_from_IsMinimal (width r) (unique r) x (record {
  passes = holds-true r x RowId up m.determines;
  smallest = λ y s e. m.smallest y s (Holds-tested r y RowId e);
})

min_fd-least : (r : RowState) (a : ℕ) → filter (λ x. min_fd r x a) (all_sets (width r)) ≡ least (width r) (agree_sets r) (Col a)
unfolding min_fd least is_minimal has_target
min_fd-least r a = ap (λ (p : ℕ → Bool). filter (λ x. not (has x a) && is_minimal (width r) p x) (all_sets (width r))) (λ i y. holds-refuted r y (Col a) i)

min_key-least : (r : RowState) → filter (min_key r) (all_sets (width r)) ≡ least (width r) (agree_sets r) RowId
unfolding min_key least has_target
min_key-least r = ap (λ (p : ℕ → Bool). filter (λ x. is_minimal (width r) p x) (all_sets (width r))) (λ i y. holds-refuted r y RowId i)

pub covers-least : (r : RowState) → covers r ≡ least_covers (width r) (agree_sets r)
unfolding covers least_covers
covers-least r = λ i. record {
  keys = min_key-least r i;
  fds = flat_map (λ a. fds_to a (min_fd-least r a i)) (upto (width r));
}
