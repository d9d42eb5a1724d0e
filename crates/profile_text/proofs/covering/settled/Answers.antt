use Rattle.std.proofs.Common.{List, sym, subst, arith}
use Rattle.std.specs.List.{All}
use Rattle.rel_base.specs.Batches.{IsAsWide}
use Rattle.rel_base.specs.RowState.{width}
use Rattle.rel_base.specs.declared.batch.Op.{Op}
use Rattle.profile_text.proofs.covering.settled.Goals as goal

pub refined-requires-clause-wide : goal.refined-requires-clause-wide
refined-requires-clause-wide g c κs within = subst (λ (bs : List (List Op)). All (All (IsAsWide (width c.args.book.rows))) bs) (sym c.new.ensures.items) (λ k d h. absurd (omega arith))
