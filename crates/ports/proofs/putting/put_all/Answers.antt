use Rattle.std.proofs.Common.{◌∙◌, rules}
use Rattle.std.proofs.lemmas.List.{take_rest}
use Rattle.ports.proofs.Moving.{Gains-more}
use Rattle.ports.proofs.putting.put_all.Goals as goal

pub loop-done-preserved : goal.loop-done-preserved
loop-done-preserved g c =
    let before = c.loop-done.invariant in
    let write = rw take_rest at c.in-Took.ensures.appended in
    (search rules, Gains-more _ _ _ c.args.bytes.now _ _ before.1 write.2, search rules, search rules)

pub returns-in-Failed-clause-puts : goal.returns-in-Failed-clause-puts
returns-in-Failed-clause-puts g c = (c.loop-done.done, c.loop-done-test.true, c.in-Failed.ensures.appended ∙ c.loop-done.invariant.1)
