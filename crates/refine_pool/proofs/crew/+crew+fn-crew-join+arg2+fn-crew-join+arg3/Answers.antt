use Rattle.desk.specs.Desks.{seen}
use Rattle.refine_pool.specs.Crews.{SettledAfter}
use Rattle.refine_pool.proofs.Crewing.{on_either, round_over, round_own_settled, round_crew_settled}
use Rattle.refine_pool.proofs.crew.+crew+fn-crew-join+arg2+fn-crew-join+arg3.Goals as goal

pub returns-clause-over : goal.returns-clause-over
returns-clause-over g t c =
    let p = c.args.pass.pass in
    let l = c.split-other.new.pass.pass in
    let r = c.split-other.result.pass in
    let m = c.join-one.result.0.pass.pass in
    let q = c.join-one.result.1.pass.pass in
    let u = c.join.new.into.pass in
    round_over p l m r q u _
    (record {
      kept = c.split-other.ensures.kept;
      given = c.split-other.ensures.given;
      own = c.join-one.ensures.first.1;
      crew = c.join-one.ensures.second.1;
      united_is = c.join.ensures.united;
      into = c.join.ensures.into;
      gone = c.join.ensures.gone;
    })

pub returns-clause-settled : goal.returns-clause-settled
returns-clause-settled g t c =
    let p = c.args.pass.pass in
    let l = c.split-other.new.pass.pass in
    let r = c.split-other.result.pass in
    let m = c.join-one.result.0.pass.pass in
    let q = c.join-one.result.1.pass.pass in
    let u = c.join.new.into.pass in
    on_either (SettledAfter (seen l) (seen m)) (SettledAfter (seen r) (seen q)) (SettledAfter (seen p) (seen u)) _ _ _ c.or-ending.ensures c.join-one.ensures.first.2 c.join-one.ensures.second.2
    (round_own_settled p l m r q u _
    (record {
      kept = c.split-other.ensures.kept;
      given = c.split-other.ensures.given;
      own = c.join-one.ensures.first.1;
      crew = c.join-one.ensures.second.1;
      united_is = c.join.ensures.united;
      into = c.join.ensures.into;
      gone = c.join.ensures.gone;
    }))
    (round_crew_settled p l m r q u _
    (record {
      kept = c.split-other.ensures.kept;
      given = c.split-other.ensures.given;
      own = c.join-one.ensures.first.1;
      crew = c.join-one.ensures.second.1;
      united_is = c.join.ensures.united;
      into = c.join.ensures.into;
      gone = c.join.ensures.gone;
    }))
