use Rattle.refine_pool.proofs.Passing.{over_went}
use Rattle.refine_pool.proofs.Crewing.{round_over, round_zero}
use Rattle.refine_pool.proofs.Feeding.{fed_goes}
use Rattle.refine_pool.proofs.rounds.feeding_round.Goals as goal

pub returns-clause-over : goal.returns-clause-over
returns-clause-over g c =
    let l = c.hire-worker.new.pass.pass in
    let m = c.join-fed.result.0.pass.pass in
    round_over c.args.feeder.pass l m c.hire-worker.result.pass c.join-fed.result.1.pass.pass c.join.new.into.pass _
    (record {
      kept = c.hire-worker.ensures.kept;
      given = c.hire-worker.ensures.given;
      own = over_went l m c.join-fed.ensures.first.1;
      crew = c.join-fed.ensures.second.1;
      united_is = c.join.ensures.united;
      into = c.join.ensures.into;
      gone = c.join.ensures.gone;
    })

pub returns-clause-fed : goal.returns-clause-fed
returns-clause-fed g c =
    let l = c.hire-worker.new.pass.pass in
    let m = c.join-fed.result.0.pass.pass in
    fed_goes c.args.desk.now m c.join.new.into.pass _ _ c.join-fed.ensures.first.2
    (round_zero c.args.feeder.pass l m c.join.new.into.pass _ _ c.requires.numbers.0 c.requires.numbers.1 c.hire-worker.ensures.kept c.join-fed.ensures.first.1 c.join.ensures.into)
