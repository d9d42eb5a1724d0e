use Rattle.std.proofs.Common.{◌∙◌, ℕ, ap, sym, subst, eqb, is_none, length}
use Rattle.col_set.specs.Target.{IsColumnTarget}
use Rattle.rel_base.specs.Shows.{holds_in}
use Rattle.cover_cert.proofs.Held.{unique-told, column-told, flipped}
use Rattle.cover_cert.proofs.holding.determine.Goals as goal

pub returns-in-RowId : goal.returns-in-RowId
returns-in-RowId c x are = ap (λ (n : ℕ). eqb n 0) c.group_count.ensures ∙ unique-told c.args.snapshot.now x c.args.groups.now are ∙ ap (holds_in c.args.snapshot.now x) (sym c.in-RowId.is)

pub returns-in-Col : goal.returns-in-Col
returns-in-Col c x are = flipped c.splits_by.result c.is_none.result c.is_none.ensures ∙ ap is_none c.splits_by.ensures.value
    ∙ column-told c.args.snapshot.now x c.args.groups.now are c.in-Col.column (subst (IsColumnTarget (length c.args.snapshot.now.codes)) c.in-Col.is c.requires.target)
    ∙ ap (holds_in c.args.snapshot.now x) (sym c.in-Col.is)
