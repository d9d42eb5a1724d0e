use Rattle.cover_steps.specs.Core.{is_unfinished, is_drawable}
use Rattle.cover_core.proofs.searching.move_both_back.Goals as goal

pub returns-clause-unfinished : goal.returns-clause-unfinished
returns-clause-unfinished c = c.move_back.ensures (is_unfinished c.args.next) (λ k b h. h.1) c.requires.unfinished

pub returns-clause-drawable : goal.returns-clause-drawable
returns-clause-drawable c = c.move_back-2.ensures (is_drawable c.args.next) (λ k b h. h.1) c.requires.drawable
