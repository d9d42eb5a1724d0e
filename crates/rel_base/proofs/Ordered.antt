-- Covers and inclusions list each fact once, in order.
use Rattle.std.proofs.Common.{inl, inr, refl, ◌≡◌, ℕ, ◌+◌, ◌<◌, ◌≤◌, Ordering, sym, ap, ◌∙◌, subst, arith, List, [], ◌∷◌, length, map, Less}
use Rattle.std.specs.List.{filter, flat_map, Contains}
use Rattle.std.specs.Ordering.{nat_cmp, ordering_then}
use Rattle.std.proofs.lemmas.Cmp.{nat_cmp_total, tied_itself}
use Rattle.col_set.specs.declared.col_set.TheConstants.{MOST_COLUMNS}
use Rattle.col_set.specs.declared.target.Target.TheVariants.{Col, RowId}
use Rattle.col_set.specs.ColSet.{Columns, upto, all_sets, report_cmp}
use Rattle.col_set.specs.Evidence.{least}
use Rattle.col_set.specs.Columns.{nat_cmp-lt}
use Rattle.col_set.specs.Lists.{Listed, Rises, Listed-filter, Listed-filter_parts, Listed-map, Listed-map_which, Listed-flat_map, Listed-flat_map_which, Rises-filter, Rises-map, Rises-append}
use Rattle.col_set.specs.AllSets.{Ascends, Ascends-range, Ascends_within, Listed-upto, Listed-upto_within, Listed-all_sets, all_sets_below, Rises-all_sets}
use Rattle.col_set.proofs.Places.{Contains-listed, Listed-contained, AllPairs-rises}
use Rattle.col_set.proofs.More.{Rises-least}
use Rattle.rel_base.specs.declared.dependency.Fd.{Fd}
use Rattle.rel_base.specs.Cells.{Cell}
use Rattle.rel_base.specs.RowState.{RowState, IsRowState, width}
use Rattle.rel_base.specs.Validity.{agree_sets}
use Rattle.rel_base.specs.Minimality.{min_fd, MinFd, min_key, MinKey}
use Rattle.rel_base.specs.Covers.{fd_cmp, fds_to, covers, least_covers, AreInOrder, IsInOrder}
use Rattle.rel_base.specs.Inclusion.{included, Included, inclusions}
use Rattle.rel_base.specs.Laws.{CoversListed, pair_cmp, InclusionsListed}
use Rattle.rel_base.proofs.States.{All-from, live_climbs}
use Rattle.rel_base.proofs.Minima.{MinFd-tested, min_fd-true, MinKey-tested, min_key-true, covers-least}
use Rattle.rel_base.proofs.Parts.{Included-tested, included-true}

-- lists made for each of some ascending numbers, each in order and each element of the first before each of a later one, are in order
module _ {Y : Type 0} where
  rises_each : (R : Y → Y → Ordering) (f : ℕ → List Y) (a b : ℕ) (ns : List ℕ) → Ascends a b ns → ((n : ℕ) → Listed n ns → Rises R (f n))
      → ((m n : ℕ) (x y : Y) → m < n → Listed x (f m) → Listed y (f n) → R x y ≡ Less) → Rises R (flat_map f ns)
  rises_each R f a b [] up own across = tt
  rises_each R f a b (n ∷ ns) up own across = Rises-append R (f n) (flat_map f ns) (own n (inl refl)) (rises_each R f (n + 1) b ns up.2 (λ m h. own m (inr h)) across)
      (λ x y h g. let w = Listed-flat_map_which f y ns g in let l = (Ascends_within (n + 1) b w.0 ns up.2 w.1).0 in across n w.0 x y (omega arith) h w.2)

then_less : (a b : ℕ) (o : Ordering) → a < b → ordering_then (nat_cmp a b) o ≡ Less
then_less a b o l = ap (λ c. ordering_then c o) (nat_cmp-lt a b l)

then_tied : (a : ℕ) (o : Ordering) → o ≡ Less → ordering_then (nat_cmp a a) o ≡ Less
then_tied a o e = ap (λ c. ordering_then c o) (tied_itself nat_cmp_total a) ∙ e

-- ---- dependencies of left sides in order
module _ (lefts : ℕ → List Columns) where
  to_one : (a : ℕ) → Rises report_cmp (lefts a) → Rises fd_cmp (fds_to a (lefts a))
  to_one a up = Rises-map report_cmp fd_cmp (λ (x : ℕ). record { left = x; right = a }) (lefts a) up (λ x y h g e. then_tied a (report_cmp x y) e)

  to_two : (a b : ℕ) (f g : Fd) → a < b → Listed f (fds_to a (lefts a)) → Listed g (fds_to b (lefts b)) → fd_cmp f g ≡ Less
  to_two a b f g l h i =
      let w = Listed-map_which (λ (x : ℕ). record { left = x; right = a }) f (lefts a) h in
      let v = Listed-map_which (λ (x : ℕ). record { left = x; right = b }) g (lefts b) i in
      subst (λ (f : Fd). fd_cmp f g ≡ Less) (sym w.2) (subst (λ (g : Fd). fd_cmp (record { left = w.0; right = a }) g ≡ Less) (sym v.2) (then_less a b (report_cmp w.0 v.0) l))

  pub fds-rise : (n : ℕ) → ((a : ℕ) → a < n → Rises report_cmp (lefts a)) → Rises fd_cmp (flat_map (λ a. fds_to a (lefts a)) (upto n))
  fds-rise n up = rises_each fd_cmp (λ a. fds_to a (lefts a)) 0 n (upto n) (Ascends-range n 0 n (omega arith)) (λ a h. to_one a (up a (Listed-upto_within n a h))) to_two

  fds-narrow : (n : ℕ) → n ≤ MOST_COLUMNS → (f : Fd) → Listed f (flat_map (λ a. fds_to a (lefts a)) (upto n)) → f.right < MOST_COLUMNS
  fds-narrow n l f h =
      let w = Listed-flat_map_which (λ a. fds_to a (lefts a)) f (upto n) h in
      let v = Listed-map_which (λ (x : ℕ). record { left = x; right = w.0 }) f (lefts w.0) w.2 in
      let b = Listed-upto_within n w.0 w.1 in
      subst (λ (g : Fd). g.right < MOST_COLUMNS) (sym v.2) (let g : w.0 < MOST_COLUMNS = omega arith in g)

  pub fds-in_order : (n : ℕ) → n ≤ MOST_COLUMNS → ((a : ℕ) → a < n → Rises report_cmp (lefts a)) → IsInOrder (flat_map (λ a. fds_to a (lefts a)) (upto n))
  fds-in_order n l up = record {
    rising = AllPairs-rises fd_cmp _ (fds-rise n up);
    narrow = All-from (λ (f : Fd). f.right < MOST_COLUMNS) _ (fds-narrow n l);
  }

-- what agree sets leave stands in order
pub least_covers-in_order : (n : ℕ) (ws : List Columns) → n ≤ MOST_COLUMNS → AreInOrder (least_covers n ws)
unfolding least_covers
least_covers-in_order n ws l = record {
  keys = AllPairs-rises report_cmp _ (Rises-least n ws RowId);
  fds = fds-in_order (λ a. least n ws (Col a)) n l (λ a b. Rises-least n ws (Col a));
}

pub covers-in_order : (r : RowState) → IsRowState r → AreInOrder (covers r)
covers-in_order r is = subst AreInOrder (sym (covers-least r)) (least_covers-in_order (width r) (agree_sets r) is.narrow)

-- ---- covers
module _ (r : RowState) (is : IsRowState r) where
  abbrev lefts : ℕ → List Columns
  lefts a = filter (λ x. min_fd r x a) (all_sets (width r))

  key_found : (x : ℕ) → Contains (covers r).keys x → MinKey r x
  unfolding covers
  key_found x h = let w = Listed-filter_parts (min_key r) x (all_sets (width r)) (Listed-contained x _ h) in MinKey-tested r x (live_climbs r is) (all_sets_below (width r) x w.0) w.1

  key_there : (x : ℕ) → MinKey r x → Contains (covers r).keys x
  unfolding covers
  key_there x m = Contains-listed x _ (Listed-filter (min_key r) x (all_sets (width r)) (Listed-all_sets (width r) x m.below) (min_key-true r x (live_climbs r is) m))

  fd_found : (f : Fd) → Contains (covers r).fds f → MinFd r f.left f.right
  unfolding covers
  fd_found f h =
      let w = Listed-flat_map_which (λ a. fds_to a (lefts a)) f (upto (width r)) (Listed-contained f _ h) in
      let v = Listed-map_which (λ (x : ℕ). record { left = x; right = w.0 }) f (lefts w.0) w.2 in
      let q = Listed-filter_parts (λ x. min_fd r x w.0) v.0 (all_sets (width r)) v.1 in
      subst (λ (g : Fd). MinFd r g.left g.right) (sym v.2) (MinFd-tested r v.0 w.0 (live_climbs r is) (Listed-upto_within (width r) w.0 w.1) (all_sets_below (width r) v.0 q.0) q.1)

  fd_there : (f : Fd) → MinFd r f.left f.right → Contains (covers r).fds f
  unfolding covers
  fd_there f m = Contains-listed f _ (Listed-flat_map (λ a. fds_to a (lefts a)) f.right f (upto (width r)) (Listed-upto (width r) f.right m.column)
      (Listed-map (λ (x : ℕ). record { left = x; right = f.right }) f.left (lefts f.right)
      (Listed-filter (λ x. min_fd r x f.right) f.left (all_sets (width r)) (Listed-all_sets (width r) f.left m.below) (min_fd-true r f.left f.right (live_climbs r is) m))))

  keys_rise : Rises report_cmp (covers r).keys
  unfolding covers
  keys_rise = Rises-filter report_cmp (min_key r) (all_sets (width r)) (Rises-all_sets (width r))

  fds_rise : Rises fd_cmp (covers r).fds
  unfolding covers
  fds_rise = fds-rise lefts (width r) (λ a l. Rises-filter report_cmp (λ x. min_fd r x a) (all_sets (width r)) (Rises-all_sets (width r)))

  pub covers-listed : CoversListed r
  covers-listed = record {
    keys = λ x. (key_found x, key_there x);
    keys_in_order = AllPairs-rises report_cmp _ keys_rise;
    fds = λ f. (fd_found f, fd_there f);
    fds_in_order = AllPairs-rises fd_cmp _ fds_rise;
  }

-- ---- inclusions
module _ (columns : List (List Cell)) where
  abbrev with_each : ℕ → List (ℕ × ℕ)
  with_each c = map (λ d. (c, d)) (upto (length columns))

  pair_found : (c d : ℕ) → Contains (inclusions columns) (c, d) → Included columns c d
  unfolding inclusions
  pair_found c d h =
      let q = Listed-filter_parts (λ (p : ℕ × ℕ). included columns p.0 p.1) (c, d) (flat_map with_each (upto (length columns))) (Listed-contained (c, d) _ h) in
      let w = Listed-flat_map_which with_each (c, d) (upto (length columns)) q.0 in
      let v = Listed-map_which (λ (d : ℕ). (w.0, d)) (c, d) (upto (length columns)) w.2 in
      Included-tested columns c d
      (subst (λ (m : ℕ). m < length columns) (sym (ap (λ (p : ℕ × ℕ). p.0) v.2)) (Listed-upto_within (length columns) w.0 w.1))
      (subst (λ (m : ℕ). m < length columns) (sym (ap (λ (p : ℕ × ℕ). p.1) v.2)) (Listed-upto_within (length columns) v.0 v.1)) q.1

  pair_there : (c d : ℕ) → Included columns c d → Contains (inclusions columns) (c, d)
  unfolding inclusions
  pair_there c d m = Contains-listed (c, d) _ (Listed-filter (λ (p : ℕ × ℕ). included columns p.0 p.1) (c, d) (flat_map with_each (upto (length columns)))
      (Listed-flat_map with_each c (c, d) (upto (length columns)) (Listed-upto (length columns) c m.dependent) (Listed-map (λ (d : ℕ). (c, d)) d (upto (length columns)) (Listed-upto (length columns) d m.referenced)))
      (included-true columns c d m))

  upto_rises : Rises nat_cmp (upto (length columns))
  upto_rises = by 0 (length columns) (upto (length columns)) (Ascends-range (length columns) 0 (length columns) (omega arith))
    where
      by : (a b : ℕ) (ns : List ℕ) → Ascends a b ns → Rises nat_cmp ns
      by a b [] up = tt
      by a b (m ∷ ns) up = ((λ k h. nat_cmp-lt m k (let l = (Ascends_within (m + 1) b k ns up.2 h).0 in omega arith)), by (m + 1) b ns up.2)

  of_one : (c : ℕ) → Rises pair_cmp (with_each c)
  of_one c = Rises-map nat_cmp pair_cmp (λ (d : ℕ). (c, d)) (upto (length columns)) upto_rises (λ x y h g e. then_tied c (nat_cmp x y) e)

  of_two : (a b : ℕ) (p q : ℕ × ℕ) → a < b → Listed p (with_each a) → Listed q (with_each b) → pair_cmp p q ≡ Less
  of_two a b p q l h i =
      let w = Listed-map_which (λ (d : ℕ). (a, d)) p (upto (length columns)) h in
      let v = Listed-map_which (λ (d : ℕ). (b, d)) q (upto (length columns)) i in
      subst (λ (p : ℕ × ℕ). pair_cmp p q ≡ Less) (sym w.2) (subst (λ (q : ℕ × ℕ). pair_cmp (a, w.0) q ≡ Less) (sym v.2) (then_less a b (nat_cmp w.0 v.0) l))

  pairs_rise : Rises pair_cmp (inclusions columns)
  unfolding inclusions
  pairs_rise = Rises-filter pair_cmp (λ (p : ℕ × ℕ). included columns p.0 p.1) (flat_map with_each (upto (length columns)))
      (rises_each pair_cmp with_each 0 (length columns) (upto (length columns)) (Ascends-range (length columns) 0 (length columns) (omega arith)) (λ c h. of_one c) of_two)

  pub inclusions-listed : InclusionsListed columns
  inclusions-listed = record {
    pairs = λ c d. (pair_found c d, pair_there c d);
    in_order = AllPairs-rises pair_cmp _ pairs_rise;
  }
