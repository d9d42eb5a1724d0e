use Rattle.std.proofs.Common.{sym, ◌∙◌, arith}
use Rattle.candidate_cover.specs.Cands.{width}
use Rattle.cover_steps.proofs.Renewing.{renewed_list-unconcerned}
use Rattle.cover_steps.proofs.Leaving.{unconcerned, within_128}
use Rattle.cover_steps.proofs.new_lists.specialised_list.Goals as goal

pub has-requires : goal.has-requires
has-requires c = within_128 (width c.args.candidates.now) c.args.target (omega (arith, c.columns-count.ensures.bound)) c.requires

pub returns-then-not-has : goal.returns-then-not-has
returns-then-not-has c ws e f = renewed_list-unconcerned (width c.args.candidates.now) ws c.args.candidates.now c.args.target c.args.agree e
    (unconcerned (width c.args.candidates.now) ws c.args.candidates.now c.args.target c.args.agree e (sym f ∙ sym c.has.ensures ∙ c.if-not-has.true))
