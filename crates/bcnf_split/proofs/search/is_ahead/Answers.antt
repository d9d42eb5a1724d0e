use Rattle.std.proofs.Common.{◌∙◌, sym}
use Rattle.std.proofs.lemmas.Bool.{true≢false, not-false}
use Rattle.bcnf_split.proofs.Testing.{key-not_violating}
use Rattle.bcnf_split.proofs.Searching.{inside-answer}
use Rattle.bcnf_split.proofs.search.is_ahead.Goals as goal
use Rattle.bcnf_split.proofs.search.is_ahead.Goals.{then-lies_inside, else-lies_inside}

pub returns-then-stands_before-clause-told : goal.returns-then-stands_before-clause-told
returns-then-stands_before-clause-told c r t own v e = absurd (true≢false (sym v ∙ key-not_violating c.args.covers.now r c.args.s t c.args.fd.now.left (c.is_key.ensures (not-false c.is_key.result e))))

pub returns-else-stands_before-clause-told : goal.returns-else-stands_before-clause-told
returns-else-stands_before-clause-told c r t own v e =
    elim c.if-lies_inside.branch [
      | then-lies_inside w ↦ w.stands_before.ensures.no (sym w.value-is ∙ e)
      | else-lies_inside w ↦ absurd (true≢false (sym (inside-answer c.args.covers.now r c.args.s t c.args.fd.now c.lies_inside.result c.lies_inside.ensures.every own v) ∙ w.if-lies_inside.false))
    ]
