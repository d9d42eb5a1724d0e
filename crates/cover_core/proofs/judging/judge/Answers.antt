use Rattle.std.proofs.Common.{◌∙◌, refl, arith, rules, List, sym, subst}
use Rattle.std.specs.List.{All}
use Rattle.std.proofs.lemmas.List.Elements.{All-push}
use Rattle.cover_core.specs.Judged.{IsHeld}
use Rattle.cover_core.specs.declared.waiting.Waiting.{Waiting}
use Rattle.cover_core.proofs.JobVerdicts.{asked-fitting, asked-held}
use Rattle.cover_steps.proofs.Putting.{none_left}
use Rattle.cover_core.proofs.judging.judge.Goals as goal

pub violations-requires-clause-name : goal.violations-requires-clause-name
violations-requires-clause-name c = refl

pub violations-requires-clause-parts : goal.violations-requires-clause-parts
violations-requires-clause-parts c = refl

pub violations-requires-clause-some : goal.violations-requires-clause-some
violations-requires-clause-some c = let e = c.new.ensures in omega (arith, e)

pub violations-requires-clause-fitting : goal.violations-requires-clause-fitting
violations-requires-clause-fitting c = asked-fitting c.args.rows.now c.args.snapshot.now.value c.args.waiting c.next.result c.next.ensures.value c.of-job.result
    (record { target = c.of-job.ensures.target; left = c.of-job.ensures.left; from = c.of-job.ensures.from; to = c.of-job.ensures.to; shared = c.of-job.ensures.snapshot ∙ c.in_ok-clone.ensures.cases }) c.requires.asked

pub returns-then-is_empty-clause-verdicts : goal.returns-then-is_empty-clause-verdicts
returns-then-is_empty-clause-verdicts c = (
  subst (λ (ws : List Waiting). All (IsHeld c.args.rows.now c.args.snapshot.now.value) ws) (sym c.in_ok-push.ensures.items)
      (All-push (IsHeld c.args.rows.now c.args.snapshot.now.value) c.args.all.now.held.items c.args.waiting c.requires.verdicts.0
      (asked-held c.args.rows.now c.args.snapshot.now.value c.args.waiting c.next.result c.next.ensures.value c.of-job.result
      (record { target = c.of-job.ensures.target; left = c.of-job.ensures.left; from = c.of-job.ensures.from; to = c.of-job.ensures.to; shared = c.of-job.ensures.snapshot ∙ c.in_ok-clone.ensures.cases }) c.requires.asked
      (c.in_ok-pairs.ensures.none (none_left c.in_ok-pairs.pairs.items (search rules))))),
  c.requires.verdicts.1,
)
