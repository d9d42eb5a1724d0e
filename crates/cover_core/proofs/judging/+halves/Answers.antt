use Rattle.std.proofs.Common.{rules, List, sym, subst}
use Rattle.std.specs.List.{All}
use Rattle.std.proofs.lemmas.List.Elements.{All-append}
use Rattle.cover_steps.specs.Evidences.{IsEvidence}
use Rattle.cover_core.specs.Judged.{IsHeld}
use Rattle.negative_cover.specs.declared.negative_cover.Witness.{Witness as Evidence}
use Rattle.cover_core.specs.declared.waiting.Waiting.{Waiting}
use Rattle.cover_core.proofs.judging.+halves.Goals as goal

pub both_halves-returns-clause-verdicts : goal.both_halves-returns-clause-verdicts
both_halves-returns-clause-verdicts g t c = (
  subst (λ (ws : List Waiting). All (IsHeld c.args.rows.now c.args.snapshot.now.value) ws) (sym c.in_ok-all.ensures.held)
      (All-append (IsHeld c.args.rows.now c.args.snapshot.now.value) c.in_ok-first.field-0.held.items c.in_ok-second.field-0.held.items (search rules) (search rules)),
  subst (λ (es : List Evidence). All (IsEvidence c.args.rows.now) es) (sym c.in_ok-all.ensures.found)
      (All-append (IsEvidence c.args.rows.now) c.in_ok-first.field-0.found.items c.in_ok-second.field-0.found.items (search rules) (search rules)),
)
