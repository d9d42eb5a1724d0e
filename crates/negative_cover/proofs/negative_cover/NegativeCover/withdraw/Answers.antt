use Rattle.std.proofs.Common.{rules, ap, ◌∙◌, not}
use Rattle.std.proofs.lemmas.Fn.{filter_same}
use Rattle.negative_cover.specs.Witnesses.{has_dead, live_of}
use Rattle.negative_cover.proofs.negative_cover.NegativeCover.withdraw.Goals as goal

pub returns : goal.returns
returns c = filter_same _ (λ w. not (has_dead c.args.dead.now w)) _ (λ x b f' k. search rules) _ _ c.retain.ensures.filtered ∙ ap (live_of c.args.dead.now) c.self.view_is
