use Rattle.std.proofs.Common.{◌≡◌, ◌∙◌, ◌≤◌, ℕ, List, length, sym, ap, subst}
use Rattle.least_sets.specs.Drafts.{AreDrafted, lists_behind}
use Rattle.candidate_cover.specs.Cands.{AreLeast}
use Rattle.candidate_cover.proofs.Drafted.{lists_count, lists_drafted, lists_more}
use Rattle.candidate_cover.proofs.candidate_cover.CandidateCover.draft.Goals as goal

pub loop-column-preserved : goal.loop-column-preserved
loop-column-preserved c = lists_more c.args.self.now c.loop-column.column c.loop-column.columns.items c.push.new.self.items c.in_ok-copied_lefts.field-0 c.loop-column.invariant c.in_ok-push.ensures.items c.in_ok-copied_lefts.ensures

pub of-requires-clause-few : goal.of-requires-clause-few
of-requires-clause-few c =
    subst (λ (n : ℕ). n ≤ 128) (sym (lists_count c.columns-count.result c.loop-column.column c.args.agree_sets.items c.args.self.now c.loop-column.columns.items c.loop-column.auto.column-end c.loop-column-test.false c.loop-column.invariant)) c.columns-count.ensures.bound

pub of-requires-clause-lists : goal.of-requires-clause-lists
of-requires-clause-lists c =
    subst (λ (ws : List ℕ). AreDrafted (length c.loop-column.columns.items) ws c.in_ok-row_id.row_id.items (lists_behind c.loop-column.columns.items)) (sym c.as_slice.ensures.value)
    (lists_drafted c.columns-count.result c.loop-column.column c.args.agree_sets.items c.args.self.now c.loop-column.columns.items c.loop-column.auto.column-end c.loop-column-test.false c.loop-column.invariant
    (subst (λ (n : ℕ). AreLeast n c.args.agree_sets.items c.args.self.now) (sym c.columns-count.ensures.width) c.requires) c.in_ok-row_id.row_id.items c.in_ok-row_id.ensures)

pub returns : goal.returns
returns c =
    let count : length c.loop-column.columns.items ≡ c.columns-count.result = lists_count c.columns-count.result c.loop-column.column c.args.agree_sets.items c.args.self.now c.loop-column.columns.items c.loop-column.auto.column-end c.loop-column-test.false c.loop-column.invariant in
    c.in_ok-draft.ensures ∙ ap (λ (ws : List ℕ). record { width = length c.loop-column.columns.items; agree_sets = ws }) c.as_slice.ensures.value
    ∙ ap (λ (n : ℕ). record { width = n; agree_sets = c.args.agree_sets.items }) (count ∙ c.columns-count.ensures.width)
