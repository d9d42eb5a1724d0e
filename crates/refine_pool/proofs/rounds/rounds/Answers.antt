use Rattle.std.proofs.Common.{List, length, sym, subst, take}
use Rattle.row_log.specs.declared.applying.Applying.{Applying}
use Rattle.refine_pool.specs.Crews.{IsFed}
use Rattle.refine_pool.proofs.Passing.{over_further}
use Rattle.refine_pool.proofs.Crewing.{has_all}
use Rattle.refine_pool.proofs.Feeding.{fed_goes}
use Rattle.refine_pool.proofs.rounds.rounds.Goals as goal

pub returns-then-is_empty-clause-whole : goal.returns-then-is_empty-clause-whole
returns-then-is_empty-clause-whole g c = λ n below. has_all c.args.feeder.pass c.last_round.result.pass.pass n _ _ c.requires.numbers.0 c.requires.numbers.1 c.last_round.ensures.over below

pub returns-in-Done-clause-whole : goal.returns-in-Done-clause-whole
returns-in-Done-clause-whole g c = λ n below. has_all c.args.feeder.pass c.last_round-in-Done.result.pass.pass n _ _ c.requires.numbers.0 c.requires.numbers.1
    (over_further c.args.feeder.pass c.feeding_round-fed.result.pass.pass c.last_round-in-Done.result.pass.pass c.feeding_round-fed.ensures.over c.last_round-in-Done.ensures.over) below

pub returns-in-NoMemory-clause-whole : goal.returns-in-NoMemory-clause-whole
returns-in-NoMemory-clause-whole g c = λ n below. has_all c.args.feeder.pass c.feeding_round-fed.result.pass.pass n _ _ c.requires.numbers.0 c.requires.numbers.1 c.feeding_round-fed.ensures.over below

pub returns-in-Done-clause-fed : goal.returns-in-Done-clause-fed
returns-in-Done-clause-fed g c =
    subst (λ (rs : List Applying). IsFed c.args.desk.now c.last_round-in-Done.result.pass.pass (take (length rs) c.args.batches.items) rs) (sym c.last_round-in-Done.ensures.replies)
    (fed_goes c.args.desk.now c.feeding_round-fed.result.pass.pass c.last_round-in-Done.result.pass.pass _ _ c.feeding_round-fed.ensures.fed c.last_round-in-Done.ensures.quiet)
