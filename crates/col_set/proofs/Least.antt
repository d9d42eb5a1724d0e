-- What `least` lists, and that below each set that stands there is a least one.
use Rattle.std.proofs.Common.{◌≡◌, ℕ, ◌^◌, ◌<◌, true, false, not, ◌&&◌, refl, sym, ◌∙◌, List}
use Rattle.std.proofs.lemmas.Bool.{and_parts, and_from, true≢false, not-true, not_from_false, false_from_ne_true}
use Rattle.col_set.specs.declared.target.Target.{Target}
use Rattle.col_set.specs.declared.target.Target.TheVariants.{Col, RowId}
use Rattle.col_set.specs.ColSet.{subset, all_sets}
use Rattle.col_set.specs.Target.{has_target}
use Rattle.col_set.specs.Minimal.{is_minimal}
use Rattle.col_set.specs.Evidence.{refuted, least}
pub use Rattle.col_set.specs.Evidence.{IsLeast}
use Rattle.col_set.specs.Lists.{Listed, Listed-filter, Listed-filter_parts, list_any_at, list_any_which}
use Rattle.col_set.specs.Subsets.{IsSubset, IsSubset-trans, subset-true, true-subset, subset_below}
use Rattle.col_set.specs.AllSets.{Listed-all_sets, all_sets_below}
use Rattle.col_set.proofs.Minimal.{IsMinimal-from_test, test_from_IsMinimal, minimal_below}

pub Listed-least : (n : ℕ) (ws : List ℕ) (t : Target) (x : ℕ) → IsLeast n ws t x → Listed x (least n ws t)
unfolding least
Listed-least n ws t x l = Listed-filter _ x (all_sets n) (Listed-all_sets n x l.below)
    (and_from _ _ (not_from_false _ l.lacks) (test_from_IsMinimal n (λ y. not (refuted ws t y)) x (record {
      passes = not_from_false _ l.stands;
      smallest = λ y s g. l.smallest y s (not-true _ g);
    })))

pub IsLeast-listed : (n : ℕ) (ws : List ℕ) (t : Target) (x : ℕ) → Listed x (least n ws t) → IsLeast n ws t x
unfolding least
IsLeast-listed n ws t x h =
    let w = Listed-filter_parts (λ x. not (has_target x t) && is_minimal n (λ y. not (refuted ws t y)) x) x (all_sets n) h in
    let b = all_sets_below n x w.0 in
    let q = and_parts (not (has_target x t)) (is_minimal n (λ y. not (refuted ws t y)) x) w.1 in
    let m = IsMinimal-from_test n (λ y. not (refuted ws t y)) x b q.1 in
    record {
      below = b;
      lacks = not-true _ q.0;
      stands = not-true _ m.passes;
      smallest = λ y s g. m.smallest y s (not_from_false _ g);
    }

-- a subset of a refuted set is refuted, and a subset of a set without t is without t
pub refuted_inside : (ws : List ℕ) (t : Target) {x y : ℕ} → IsSubset x y → refuted ws t y ≡ true → refuted ws t x ≡ true
unfolding refuted
refuted_inside ws t {x} {y} s e =
    let w = list_any_which (λ w. subset y w && not (has_target w t)) ws e in
    let q = and_parts (subset y w.0) (not (has_target w.0 t)) w.2 in
    list_any_at (λ w. subset x w && not (has_target w t)) w.0 ws w.1 (and_from _ _ (true-subset (IsSubset-trans s (subset-true q.0))) q.1)

pub stands_above : (ws : List ℕ) (t : Target) {x y : ℕ} → IsSubset x y → refuted ws t x ≡ false → refuted ws t y ≡ false
stands_above ws t {x} {y} s e = false_from_ne_true _ (λ h. true≢false (sym (refuted_inside ws t s h) ∙ e))

pub lacks_inside : (t : Target) {x y : ℕ} → IsSubset x y → has_target y t ≡ false → has_target x t ≡ false
unfolding has_target
lacks_inside (Col a) {x} {y} s e = false_from_ne_true _ (λ h. true≢false (sym (s.each a h) ∙ e))
lacks_inside RowId s e = refl

-- below each set that stands there is a least one
pub least_below : (n : ℕ) (ws : List ℕ) (t : Target) (x : ℕ) → x < 2 ^ n → has_target x t ≡ false → refuted ws t x ≡ false → (y : ℕ) × IsLeast n ws t y × IsSubset y x
least_below n ws t x b l e =
    let m = minimal_below (λ y. not (refuted ws t y)) x (not_from_false _ e) in (
      m.set,
      record {
        below = subset_below n m.inside b;
        lacks = lacks_inside t m.inside l;
        stands = not-true _ m.minimal.passes;
        smallest = λ y s g. m.minimal.smallest y s (not_from_false _ g);
      },
      m.inside,
    )
