use Rattle.std.proofs.Common.{◌∙◌, ap}
use Rattle.candidate_cover.specs.Cands.{width}
use Rattle.candidate_cover.proofs.Targets.{width-with_list, width-opening}
use Rattle.candidate_cover_tests.proofs.tests.drafted.Goals as goal
use Rattle.candidate_cover_tests.proofs.tests.drafted.Goals.{in-Some, in_default}

pub returns : goal.returns
returns c = elim c.match-branch-3.branch [
  | in-Some w ↦ ap width w.cover-is ∙ ap width w.put.ensures ∙ width-with_list c.in_ok-cover.cover c.args.target _ ∙ ap width c.in_ok-cover.ensures ∙ width-opening c.args.columns
  | in_default w ↦ ap width w.cover-is ∙ ap width c.in_ok-cover.ensures ∙ width-opening c.args.columns
]
