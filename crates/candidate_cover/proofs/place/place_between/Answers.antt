use Rattle.std.proofs.Common.{◌-◌}
use Rattle.candidate_cover.proofs.Within.{rises_within, stands_within, lacks_within}
use Rattle.candidate_cover.proofs.place.place_between.Goals as goal

pub place_of-requires : goal.place_of-requires
place_of-requires c = rises_within c.args.sets.now c.args.start (c.args.end - c.args.start) c.requires.order

pub returns-in-Ok : goal.returns-in-Ok
returns-in-Ok c = stands_within c.args.sets.now c.args.x c.args.start c.args.end c.requires.start c.requires.end c.requires.before c.requires.after c.in-Ok.place c.in-Ok.ensures

pub returns-in-Err : goal.returns-in-Err
returns-in-Err c = lacks_within c.args.sets.now c.args.x c.args.start c.args.end c.requires.start c.requires.end c.requires.before c.requires.after c.in-Err.place c.in-Err.ensures
