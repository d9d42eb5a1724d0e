use Rattle.std.proofs.Common.{sym, ◌∙◌, arith}
use Rattle.candidate_cover.specs.Cands.{width}
use Rattle.cover_steps.proofs.Renewing.{renewed_list-same}
use Rattle.cover_steps.proofs.Leaving.{least-idle, within_128, none_lacks}
use Rattle.cover_steps.proofs.new_lists.generalised_list.Goals as goal

pub some_lacks-requires : goal.some_lacks-requires
some_lacks-requires g c = within_128 (width c.args.candidates.now) c.args.target (omega (arith, c.columns-count.ensures.bound)) c.requires.target

pub returns-then-not-some_lacks : goal.returns-then-not-some_lacks
returns-then-not-some_lacks g c =
    renewed_list-same (width c.args.candidates.now) c.args.rest.now c.args.candidates.now c.args.target
    (c.requires.least ∙ least-idle (width c.args.candidates.now) c.args.rest.now c.args.withdrawn.now c.args.target (none_lacks c.args.withdrawn.now c.args.target (sym c.some_lacks.ensures ∙ c.if-not-some_lacks.true)))
