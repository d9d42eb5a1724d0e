use Rattle.std.proofs.Common.{◌≡◌, ◌∙◌, ◌+◌, ◌<◌, arith, ap, sym, subst, List, [], ℕ, true, false, drop, set, length}
use Rattle.std.specs.Borrow.{Bor}
use Rattle.std.proofs.lemmas.List.{get_or-map, map-set}
use Rattle.inclusion_merge.specs.Candidates.{may}
use Rattle.inclusion_merge.specs.declared.candidates.Candidates.{Candidates}
use Rattle.inclusion_merge.specs.WideSet.{has_wide}
use Rattle.inclusion_merge.specs.Sharing.{list_at, lists_of}
use Rattle.inclusion_merge.proofs.Advancing.{Moved, Moved-marked, Moved-unmarked, Narrowed, Narrowed-marked, Narrowed-unmarked}
use Rattle.inclusion_merge.proofs.Places.{length-lists_of}
use Rattle.inclusion_merge.proofs.merge.advance.Goals as goal
use Rattle.inclusion_merge.proofs.merge.advance.Goals.{then-has_wide, else-has_wide}

pub loop-place-preserved : goal.loop-place-preserved
loop-place-preserved c =
    let i = c.loop-place.place in
    let within : i < length c.loop-place.rests = omega arith in
    let column : i < c.args.kept.now.columns = omega arith in
    let columns = c.loop-place.invariant.columns in
    let parts = c.loop-place.invariant.parts in
    let long : length (lists_of c.loop-place.rests) ≡ length c.loop-place.rests = length-lists_of c.loop-place.rests in
    elim c.if-has_wide.branch [
      | then-has_wide w ↦
          let marked : has_wide c.args.shared.now i ≡ true = sym c.has_wide.ensures ∙ w.if-has_wide.true in
          let behind : w.behind_first.result.now ≡ drop 1 (list_at (lists_of c.loop-place.rests) i) =
          w.behind_first.ensures
          ∙ sym (ap (λ (l : List (List ℕ)). drop 1 l)
          (get_or-map (λ (slice : Bor (List (List ℕ))). slice.now) c.loop-place.rests i w.index-rests-place.result [] within
          ∙ ap (λ (s : Bor (List (List ℕ))). s.now) (sym w.index-rests-place.is))) in
          let is : lists_of c.if-has_wide.rests ≡ set (lists_of c.loop-place.rests) i w.behind_first.result.now =
          ap lists_of w.rests-is ∙ map-set (λ (slice : Bor (List (List ℕ))). slice.now) c.loop-place.rests i w.behind_first.result in
          record {
            columns = ap (λ (k : Candidates). k.columns) w.kept-is ∙ w.keep.ensures.columns ∙ columns;
            parts = ap (λ (k : Candidates). k.parts) w.kept-is ∙ w.keep.ensures.parts ∙ parts;
            moved = Moved-marked (has_wide c.args.shared.now) _ _ i c.loop-place.invariant.moved _ _ (omega arith) marked is behind;
            narrowed =
                Narrowed-marked (has_wide c.args.shared.now) c.args.kept.now.columns (may c.args.kept.now) (may c.loop-place.kept) i c.loop-place.invariant.narrowed (may c.if-has_wide.kept) column marked
                (λ k d l m other. ap (λ (x : Candidates). may x k d) w.kept-is ∙ w.keep.ensures.others k d (omega arith) (omega arith) other)
                (λ d m. ap (λ (x : Candidates). may x i d) w.kept-is ∙ w.keep.ensures.kept d (omega arith));
          }
      | else-has_wide w ↦
          let unmarked : has_wide c.args.shared.now i ≡ false = sym c.has_wide.ensures ∙ w.if-has_wide.false in
          record {
            columns = ap (λ (k : Candidates). k.columns) w.kept-is ∙ columns;
            parts = ap (λ (k : Candidates). k.parts) w.kept-is ∙ parts;
            moved =
                subst (λ (rests : List (Bor (List (List ℕ)))). Moved (has_wide c.args.shared.now) (lists_of c.args.rests.now) (lists_of rests) (i + 1)) (sym w.rests-is)
                (Moved-unmarked (has_wide c.args.shared.now) _ _ i c.loop-place.invariant.moved unmarked);
            narrowed =
                subst (λ (k : Candidates). Narrowed (has_wide c.args.shared.now) c.args.kept.now.columns (may c.args.kept.now) (may k) (i + 1)) (sym w.kept-is)
                (Narrowed-unmarked (has_wide c.args.shared.now) c.args.kept.now.columns (may c.args.kept.now) (may c.loop-place.kept) i c.loop-place.invariant.narrowed column unmarked);
          }
    ]
