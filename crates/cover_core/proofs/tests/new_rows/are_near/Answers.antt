use Rattle.std.proofs.Common.{◌∙◌, ℕ, ◌-◌, ap, sym, subst, length}
use Rattle.std.specs.List.{find}
use Rattle.std.specs.Option.{option_map}
use Rattle.rel_base.specs.RowState.{next}
use Rattle.candidate_cover.specs.Lists.{CandLists}
use Rattle.cover_steps.specs.Core.{entries_in, is_unfinished}
use Rattle.cover_core.specs.Past.{IsPast, place}
use Rattle.cover_core.proofs.Cursors.{past-start}
use Rattle.cover_core.proofs.NearBooks.{near-from}
use Rattle.cover_core.proofs.tests.new_rows.are_near.Goals as goal

pub first_unfinished-requires : goal.first_unfinished-requires
first_unfinished-requires c = subst (IsPast (is_unfinished c.of.result) c.candidates.result.now) (sym c.start-cursor.ensures) (past-start (is_unfinished c.of.result) c.candidates.result.now)

pub returns : goal.returns
returns c = near-from c.args.book.now c.candidates.ensures.sound c.of.result c.first_unfinished.result c.is_none.result
    (c.of.ensures ∙ ap (λ (m : ℕ). m - 1) (c.number-next.ensures.value ∙ c.next.ensures.value ∙ ap next c.rows.ensures.rows))
    (c.first_unfinished.ensures.found ∙ ap (λ (k : CandLists). option_map place (find (λ e. is_unfinished c.of.result e.1) (entries_in (length k.columns) k))) c.candidates.ensures.candidates)
    c.is_none.ensures
