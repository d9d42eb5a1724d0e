use Rattle.std.proofs.Common.{◌<◌, ◌^◌, ◌∙◌, List, sym, subst}
use Rattle.std.specs.List.{All}
use Rattle.col_set.specs.declared.col_set.TheConstants.{MOST_COLUMNS}
use Rattle.rel_base.specs.declared.dependency.Fd.{Fd}
use Rattle.synth_3nf.proofs.Trials.{canonical-All}
use Rattle.synth_3nf.proofs.Tabling.{synthesis-found}
use Rattle.synth_3nf.proofs.tables.synthesize.Goals as goal

pub tables_by-requires-clause-narrow : goal.tables_by-requires-clause-narrow
tables_by-requires-clause-narrow c =
    subst (λ (fds : List Fd). All (λ (fd : Fd). fd.right < MOST_COLUMNS) fds) (sym (c.as_slice.ensures.value ∙ c.in_ok-kept.ensures)) (canonical-All (λ (fd : Fd). fd.right < MOST_COLUMNS) c.args.covers.now.fds c.fds-fds.ensures.order.narrow)

pub tables_by-requires-clause-within : goal.tables_by-requires-clause-within
tables_by-requires-clause-within c =
    subst (λ (fds : List Fd). All (λ (fd : Fd). fd.left < 2 ^ c.args.n) fds) (sym (c.as_slice.ensures.value ∙ c.in_ok-kept.ensures)) (canonical-All (λ (fd : Fd). fd.left < 2 ^ c.args.n) c.args.covers.now.fds c.requires.within)

pub returns : goal.returns
returns c = synthesis-found c.args.n c.args.covers.now.fds c.as_slice.result.now _ (c.as_slice.ensures.value ∙ c.in_ok-kept.ensures) c.in_ok-tables.ensures
