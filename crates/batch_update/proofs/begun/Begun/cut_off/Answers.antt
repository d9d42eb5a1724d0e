use Rattle.std.proofs.Common.{◌++◌, ap, sym}
use Rattle.std.proofs.lemmas.List.{append-nil}
use Rattle.batch_update.specs.Changes.{items_of_parts}
use Rattle.batch_update.specs.Coming.{coming}
use Rattle.batch_update.proofs.Steps.{text_ends_after_fault, text_ends_after_operations}
use Rattle.batch_update.proofs.begun.Begun.cut_off.Goals as goal
use Rattle.batch_update.proofs.begun.Begun.cut_off.Goals.{in-Nothing, in-Sound+in_ok-push-in-Sound, in-Faulty+in_ok-push-in-Faulty}

pub returns : goal.returns
unfolding coming items_of_parts
returns c = elim c.match-self.branch [
  | in-Nothing w ↦ rw (w.result-is, w.items-is, w.in-Nothing.is) (sym (append-nil c.args.items.now.items))
  | in-Sound+in_ok-push-in-Sound w ↦
      rw (w.result-is, w.items-is, w.in-Sound.is, w.in_ok-push-in-Sound.ensures.items)
      (ap (λ more. c.args.items.now.items ++ more) (sym (text_ends_after_operations c.args.place.no c.args.place.rec w.in-Sound.first w.in-Sound.batch)))
  | in-Faulty+in_ok-push-in-Faulty w ↦
      rw (w.result-is, w.items-is, w.in-Faulty.is, w.in_ok-push-in-Faulty.ensures.items)
      (ap (λ more. c.args.items.now.items ++ more) (sym (text_ends_after_fault c.args.place.no c.args.place.rec w.in-Faulty.rec w.in-Faulty.why)))
]
