use Rattle.std.proofs.Common.{◌≡◌, ◌∙◌, List, [], Option, ap, arith, length, true}
use Rattle.std.specs.Borrow.{Bor}
use Rattle.std.proofs.lemmas.List.{get_or_read}
use Rattle.rel_base.specs.Cells.{Cell}
use Rattle.inclusion_merge.specs.Asked.{asked_cells, cells_asked}
use Rattle.inclusion_merge.specs.Sharing.{list_at}
use Rattle.inclusion_merge.specs.WideSet.{has_wide}
use Rattle.inclusion_merge.proofs.Asking.{asked_count, asked_more, then_some-asked}
use Rattle.inclusion_merge.proofs.questions.asked_in.Goals as goal

pub loop-place-preserved : goal.loop-place-preserved
loop-place-preserved c =
    let asked = c.loop-place.asked.items in
    let column = c.then_some.result in
    let place = c.loop-place.place in
    let before = c.loop-place.invariant in
    let is = c.in_ok-push.ensures.items in
    let here : has_wide c.args.named.now place ≡ true → asked_cells column ≡ list_at c.args.columns.now place = λ e.
    then_some-asked c.has_wide.result _ column c.then_some.ensures (c.has_wide.ensures ∙ e) ∙ get_or_read c.args.columns.now _ _ (omega arith) c.index-columns-place.is [] in
    record {
      count = ap (λ (asked : List (Option (Bor (List Cell)))). length (cells_asked asked)) is ∙ asked_count asked column place before.count;
      each =
          λ k l e.
          ap (λ (asked : List (Option (Bor (List Cell)))). list_at (cells_asked asked) k) is
          ∙ asked_more asked column c.args.columns.now (has_wide c.args.named.now) place before.count before.each here k l e;
    }
