use Rattle.std.proofs.Common.{◌≡◌, ◌∙◌, List, [], length, sym, ap, subst}
use Rattle.row_log.specs.declared.applying.Applying.{Applying}
use Rattle.cover_steps.specs.Core.{Core, first_unfinished}
use Rattle.desk.specs.Desks.{seen}
use Rattle.refine_pool.specs.Crews.{SettledLast}
use Rattle.refine_pool.specs.Phases.{IsSoFar}
use Rattle.refine_pool.proofs.Crewing.{done}
use Rattle.refine_pool.proofs.Left.{nothing_left, left_grown, left_all, desk_finished, phase_left}
use Rattle.refine_pool.proofs.refining.refine.Goals as goal

pub returns-in-Err-clause-so_far : goal.returns-in-Err-clause-so_far
returns-in-Err-clause-so_far g c =
    subst (λ (told : List Applying). IsSoFar c.args.book c.args.batches.items c.in-Err.field-0.0 told) (sym c.requires.room.0)
    (subst (λ (book : Core). IsSoFar c.args.book c.args.batches.items book []) (sym c.in-Err.ensures.refused)
    (left_grown c.args.book c.prepare.new.book c.prepare.new.book [] [] c.in-Ok.ensures.rows c.in-Ok.ensures.witnesses (nothing_left c.prepare.new.book c.args.batches.items c.in-Ok.ensures.sound)))

pub returns-in-Done-clause-whole : goal.returns-in-Done-clause-whole
returns-in-Done-clause-whole g c = record {
  left = left_all c.args.book c.take_back.new.self c.args.batches.items c.rounds-fed.result.replies.items (done (length c.rounds-fed.result.replies.items ≡ length c.args.batches.items) c.rounds-fed.result.ending c.in-Done.is c.rounds-fed.ensures.all) (phase_left c.in-Ok-open.opened.0 c.rounds-fed.result.pass.pass c.args.book c.prepare.new.book c.close-book.result c.take_back.new.self c.args.batches.items c.rounds-fed.result.replies.items c.in-Ok.ensures.rows c.in-Ok.ensures.witnesses c.in-Ok-open.ensures.opened.0 c.in-Ok-open.ensures.own.sound c.close-book.ensures.sound (c.close-book.ensures.whole c.rounds-fed.ensures.whole) c.rounds-fed.ensures.fed c.take_back.ensures.same);
  finished = ap first_unfinished c.take_back.ensures.same ∙ desk_finished c.in-Ok-open.opened.0 c.rounds-fed.result.pass.pass c.prepare.new.book c.close-book.result c.args.batches.items c.rounds-fed.result.replies.items c.in-Ok-open.ensures.opened.0 c.in-Ok-open.ensures.own.sound c.close-book.ensures.sound (c.close-book.ensures.whole c.rounds-fed.ensures.whole) (done (SettledLast (seen c.rounds-fed.result.pass.pass)) c.rounds-fed.result.ending c.in-Done.is c.rounds-fed.ensures.settled);
}

pub returns-clause-so_far : goal.returns-clause-so_far
returns-clause-so_far g c = phase_left c.in-Ok-open.opened.0 c.rounds-fed.result.pass.pass c.args.book c.prepare.new.book c.close-book.result c.take_back.new.self c.args.batches.items c.rounds-fed.result.replies.items c.in-Ok.ensures.rows c.in-Ok.ensures.witnesses c.in-Ok-open.ensures.opened.0 c.in-Ok-open.ensures.own.sound c.close-book.ensures.sound (c.close-book.ensures.whole c.rounds-fed.ensures.whole) c.rounds-fed.ensures.fed c.take_back.ensures.same
