use Rattle.std.proofs.Common.{◌≡◌, ◌∙◌, ◌<◌, ◌^◌, ℕ, List, length, ap, ap₂, sym, subst}
use Rattle.std.specs.List.{All}
use Rattle.rel_base.specs.declared.dependency.Fd.{Fd}
use Rattle.rel_base.specs.Cells.{Row}
use Rattle.rel_base.specs.Covers.{CoverLists, covers}
use Rattle.rel_base.specs.RowState.{width}
use Rattle.synth_3nf.specs.Shorter.{shorter}
use Rattle.synth_3nf.specs.Tables.{synthesis}
use Rattle.synth_text.specs.Synthesize.{tables}
use Rattle.synth_text.proofs.Chosen.{chosen-below}
use Rattle.synth_text.proofs.synthesizing.tables_of.Goals as goal

pub synthesize-requires-clause-within : goal.synthesize-requires-clause-within
synthesize-requires-clause-within c =
    let n : c.len.result ≡ width c.args.rows.now = c.len.ensures ∙ ap (λ (row : Row). length row) c.names.ensures.value in
    let chosen : c.in_ok-chosen.chosen.fds ≡ shorter c.args.most (covers c.args.rows.now).fds = c.in_ok-chosen.ensures.fds ∙ ap (λ (l : CoverLists). shorter c.args.most l.fds) c.requires in
    subst (λ (fds : List Fd). All (λ (fd : Fd). fd.left < 2 ^ c.len.result) fds) (sym chosen)
    (subst (λ (m : ℕ). All (λ (fd : Fd). fd.left < 2 ^ m) (shorter c.args.most (covers c.args.rows.now).fds)) (sym n) (chosen-below c.args.most c.args.rows.now))

pub returns : goal.returns
unfolding tables
returns c =
    c.in_ok-tables.ensures
    ∙ ap₂ (λ (n : ℕ) (fds : List Fd). synthesis n fds) (c.len.ensures ∙ ap (λ (row : Row). length row) c.names.ensures.value)
    (c.in_ok-chosen.ensures.fds ∙ ap (λ (l : CoverLists). shorter c.args.most l.fds) c.requires)
