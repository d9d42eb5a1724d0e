use Rattle.std.proofs.Common.{◌∙◌, ◌≡◌, ℕ, List, sym, ap}
use Rattle.std.proofs.lemmas.Bool.{and_parts}
use Rattle.std.proofs.lemmas.List.{take_all}
use Rattle.std.specs.List.{flat_map}
use Rattle.col_set.specs.ColSet.{IsSubset, has, inter}
use Rattle.col_set.specs.Members.{has-inter}
use Rattle.col_set.specs.Subsets.{subset_below}
use Rattle.rel_base.specs.Cells.{Row}
use Rattle.rel_base.specs.Projection.{distinct}
use Rattle.lossless_join.specs.Joining.{matches, joined_with}
use Rattle.lossless_join.proofs.Distinct.{flat_more}
use Rattle.lossless_join.proofs.Steps.{ok_more}
use Rattle.lossless_join.proofs.natural_join.joined_with.Goals as goal

of_left : (x y z : ℕ) → z ≡ inter x y → IsSubset z x
of_left x y z e = record { each = λ k h. (and_parts (has x k) (has y k) (sym (has-inter x y k) ∙ ap (λ (w : ℕ). has w k) (sym e) ∙ h)).0 }

of_right : (x y z : ℕ) → z ≡ inter x y → IsSubset z y
of_right x y z e = record { each = λ k h. (and_parts (has x k) (has y k) (sym (has-inter x y k) ∙ ap (λ (w : ℕ). has w k) (sym e) ∙ h)).1 }

pub index_of-requires : goal.index_of-requires
index_of-requires c = of_right c.args.done c.args.table.now.columns c.inter-common.result (c.inter-common.ensures ∙ ap (inter c.args.done) c.columns.ensures.value)

pub loop-row-init : goal.loop-row-init
unfolding distinct
loop-row-init c = c.no_rows-whole.ensures

pub push_matches-requires-clause-common : goal.push_matches-requires-clause-common
push_matches-requires-clause-common c = subset_below c.args.width (of_left c.args.done c.columns.result c.inter-common.result c.inter-common.ensures) c.requires.done

pub loop-row-preserved : goal.loop-row-preserved
loop-row-preserved c = flat_more (matches c.args.width c.inter-common.result c.args.table.now) c.args.rows.now c.loop-row.row-index c.row-item.result c.loop-row.whole.keys c.push_matches.new.whole.keys c.loop-row-test.true c.row-item.is c.loop-row.invariant c.in_ok-push_matches.ensures

pub returns : goal.returns
unfolding joined_with
returns c = ok_more _ _ c.listed.result (λ list e. e ∙ c.loop-row.invariant ∙ ap (λ (rows : List Row). distinct (flat_map (matches c.args.width c.inter-common.result c.args.table.now) rows)) (take_all c.loop-row.row-index c.args.rows.now c.loop-row-test.false)
    ∙ ap (λ (common : ℕ). distinct (flat_map (matches c.args.width common c.args.table.now) c.args.rows.now)) (c.inter-common.ensures ∙ ap (inter c.args.done) c.columns.ensures.value)) c.listed.ensures
