use Rattle.std.proofs.Common.{◌≡◌, ap, subst}
use Rattle.desk_lock.specs.History.{GoesOn}
use Rattle.desk.specs.Desks.{History, seen}
use Rattle.refine_pool.specs.Crews.{SettledAfter, SettledLast}
use Rattle.refine_pool.proofs.Passing.{V, over_itself, settled_last, went_nowhere}
use Rattle.refine_pool.proofs.Crewing.{on_done, round_over, round_crew_settled, round_zero}
use Rattle.refine_pool.proofs.rounds.last_round.Goals as goal

pub returns-clause-over : goal.returns-clause-over
returns-clause-over g c =
    round_over c.args.feeder.pass c.hire-worker.new.pass.pass c.hire-worker.new.pass.pass c.hire-worker.result.pass c.crew-shift.result.pass.pass c.join.new.into.pass _
    (record {
      kept = c.hire-worker.ensures.kept;
      given = c.hire-worker.ensures.given;
      own = over_itself c.hire-worker.new.pass.pass;
      crew = c.crew-shift.ensures.over;
      united_is = c.join.ensures.united;
      into = c.join.ensures.into;
      gone = c.join.ensures.gone;
    })

pub returns-clause-quiet : goal.returns-clause-quiet
returns-clause-quiet g c =
    let l = c.hire-worker.new.pass.pass in
    subst (λ (h : History). GoesOn (λ n. n ≡ 0) h (seen c.join.new.into.pass)) (ap (λ (v : V). v.seen) c.hire-worker.ensures.kept)
    (round_zero c.args.feeder.pass l l c.join.new.into.pass _ _ c.requires.numbers.0 c.requires.numbers.1 c.hire-worker.ensures.kept (went_nowhere l) c.join.ensures.into)

pub returns-clause-settled : goal.returns-clause-settled
returns-clause-settled g c =
    let p = c.args.feeder.pass in
    let l = c.hire-worker.new.pass.pass in
    let r = c.hire-worker.result.pass in
    let q = c.crew-shift.result.pass.pass in
    let u = c.join.new.into.pass in
    let quiet : GoesOn (λ n. n ≡ 0) (seen p) (seen u) =
    subst (λ (h : History). GoesOn (λ n. n ≡ 0) h (seen u)) (ap (λ (v : V). v.seen) c.hire-worker.ensures.kept)
    (round_zero p l l u _ _ c.requires.numbers.0 c.requires.numbers.1 c.hire-worker.ensures.kept (went_nowhere l) c.join.ensures.into) in
    on_done (SettledAfter (seen r) (seen q)) (SettledLast (seen u)) _
    (λ s. settled_last (seen p) (seen u)
    (round_crew_settled p l l r q u _
    (record {
      kept = c.hire-worker.ensures.kept;
      given = c.hire-worker.ensures.given;
      own = over_itself l;
      crew = c.crew-shift.ensures.over;
      united_is = c.join.ensures.united;
      into = c.join.ensures.into;
      gone = c.join.ensures.gone;
    }) s)
    quiet)
    c.crew-shift.ensures.settled
