use Rattle.std.proofs.Common.{◌∙◌, sym, ap, subst, List, ℕ}
use Rattle.rel_base.specs.Batches.{after}
use Rattle.rel_base.specs.CodeTable.{CodeTable}
use Rattle.validator.specs.Stores.{AreOf}
use Rattle.negative_cover.specs.Witnesses.{live_of}
use Rattle.row_log.specs.declared.applying.Applying.{Applying}
use Rattle.cover_steps.specs.Core.{Core}
use Rattle.cover_steps.specs.Steps as steps
use Rattle.cover_core.specs.Kept.{IsBook}
use Rattle.cover_core.specs.Replies.{reply_of_batch}
use Rattle.negative_cover.specs.EndedRows.{ended}
use Rattle.cover_core.proofs.Ending.{live_of-permuted}
use Rattle.cover_core.proofs.Whole.{ApplyAll, apply-all}
use Rattle.cover_core.proofs.Cursors.{past-both, to_search, searched}
use Rattle.cover_core.proofs.book.Book.apply.Goals as goal
use Rattle.cover_core.proofs.book.Book.apply.Goals.{After-drop-made}

all : (c : After-drop-made) → ApplyAll _ _ _ c.self.invariant.0 c.self.view_is c.args.batch.now c.apply-answer.new.self c.in-Ok.made.snapshot.value (record { rows = c.apply-answer.new.self; witnesses = c.withdraw.new.self; candidates = c.put_all-lists.new.candidates })
all c = apply-all _ _ _ c.self.invariant.0 c.self.view_is c.args.batch.now c.apply-answer.new.self c.in-Ok.made.snapshot.value c.withdraw.new.self c.put_all-lists.new.candidates c.requires c.in-Applied.ensures.after c.in-Ok.ensures.table c.in-Ok.ensures.snapshot
    (c.withdraw.ensures ∙ ap (λ (dead : List ℕ). live_of dead c.self.inside.witnesses) c.as_slice.ensures.value ∙ live_of-permuted (ended c.args.batch.now) c.in-Ok.made.dead.items c.self.inside.witnesses c.in-Ok.ensures.dead) (c.put_all-lists.ensures _ c.in-Ok.ensures.new_lists)

pub first_unfinished-self-inside-requires : goal.first_unfinished-self-inside-requires
first_unfinished-self-inside-requires c = to_search (record { rows = c.apply-answer.new.self; witnesses = c.withdraw.new.self; candidates = c.put_all-lists.new.candidates }) c.next-next.result c.start-self-inside.result c.next-next.ensures.value (past-both _ c.start-self-inside.result c.start-self-inside.ensures.unfinished c.start-self-inside.ensures.drawable)

pub invariant_of-self-in-Ok : goal.invariant_of-self-in-Ok
invariant_of-self-in-Ok c =
    let w = searched (record { rows = c.apply-answer.new.self; witnesses = c.withdraw.new.self; candidates = c.put_all-lists.new.candidates }) _ (all c).kept c.next-next.result c.start-self-inside.result c.first_unfinished-self-inside.new.cursor c.first_unfinished-self-inside.result c.next-next.ensures.value (past-both _ c.start-self-inside.result c.start-self-inside.ensures.unfinished c.start-self-inside.ensures.drawable) c.first_unfinished-self-inside.ensures.past c.first_unfinished-self-inside.ensures.found in (
      subst (λ snapshot. IsBook (record { rows = c.apply-answer.new.self; witnesses = c.withdraw.new.self; candidates = c.put_all-lists.new.candidates }) snapshot.value) (sym c.replace-snapshot.ensures.after) (all c).kept,
      subst (λ (t : CodeTable). AreOf t c.renew-groups.new.self) (c.in-Ok.ensures.shared ∙ sym (ap (λ snapshot. snapshot.value) c.replace-snapshot.ensures.after)) c.renew-groups.ensures,
      w.past,
      w.first,
    )

pub returns-in-Ok-clause-step : goal.returns-in-Ok-clause-step
returns-in-Ok-clause-step c = subst (λ (a : Applying). steps.IsApplying c.args.self.now c.args.batch.now (reply_of_batch a) (record { rows = c.apply-answer.new.self; witnesses = c.withdraw.new.self; candidates = c.put_all-lists.new.candidates })) (sym c.in-Applied.is) (record {
  rows = c.apply-answer.new.self;
  after = ap (λ (s : Core). after s.rows c.args.batch.now) (sym c.self.view_is) ∙ c.in-Applied.ensures.after;
  inserts = c.in-Applied.ensures.inserted;
  deletes = c.in-Applied.ensures.deleted;
  state = (all c).state;
})

pub returns-in-Ok-clause-fits : goal.returns-in-Ok-clause-fits
returns-in-Ok-clause-fits c = (all c).fits

pub returns-in-Ok-clause-sound : goal.returns-in-Ok-clause-sound
returns-in-Ok-clause-sound c = (all c).kept.sound
