use Rattle.std.proofs.Common.{◌∙◌, ap, subst, List, ℕ}
use Rattle.candidate_cover.specs.Cands.{width}
use Rattle.negative_cover.specs.Witnesses.{sets_of, live_of}
use Rattle.negative_cover.specs.EndedRows.{ended}
use Rattle.cover_steps.specs.NewLists.{AreNewLists}
use Rattle.cover_core.proofs.Calls.{AreLeast-parted}
use Rattle.cover_core.proofs.Ending.{live_of-permuted}
use Rattle.cover_core.proofs.renewal.renewed_after.Goals as goal

pub generalised-requires : goal.generalised-requires
generalised-requires g c = AreLeast-parted (width c.args.candidates.now) c.args.candidates.now c.args.witnesses.now c.as_slice.result.now c.as_slice-2.result.now c.as_slice-3.result.now c.requires.least
    (c.as_slice-2.ensures.value ∙ c.in_ok-withdrawal.ensures.rest) (c.as_slice-3.ensures.value ∙ c.in_ok-withdrawal.ensures.gone)

pub returns-clause-new_lists : goal.returns-clause-new_lists
returns-clause-new_lists g c = subst (λ (sets : List ℕ). AreNewLists (width c.args.candidates.now) sets c.args.candidates.now c.in_ok-new_lists.new_lists.row_id c.in_ok-new_lists.new_lists.columns.items)
    (c.as_slice-2.ensures.value ∙ c.in_ok-withdrawal.ensures.rest ∙ ap sets_of (ap (λ (dead : List ℕ). live_of dead c.args.witnesses.now) c.as_slice.ensures.value ∙ live_of-permuted (ended c.args.batch.now) c.in_ok-dead.dead.items c.args.witnesses.now c.in_ok-dead.ensures))
    c.in_ok-new_lists.ensures
