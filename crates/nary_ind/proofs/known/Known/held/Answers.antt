use Rattle.std.proofs.Common.{List, length, subst, sym}
use Rattle.rel_base.specs.RowState.{RowState}
use Rattle.nary_ind.specs.Levels.{IsSide}
use Rattle.nary_ind.specs.Tables.{AreUsed}
use Rattle.nary_ind.proofs.known.Known.held.Goals as goal

pub held-requires-clause-candidates : goal.held-requires-clause-candidates
held-requires-clause-candidates c i h =
    subst (λ (rs : List RowState). IsSide rs (length c.args.dependent.now.columns) i × AreUsed rs i.rel i.columns) (sym c.self.view_is) (c.requires.candidates i h)
