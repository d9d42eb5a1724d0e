use Rattle.std.proofs.Common.{◌∙◌, sym}
use Rattle.key_finder.proofs.Judging.{found-held}
use Rattle.key_finder.proofs.rounds.is_held.Goals as goal

pub returns : goal.returns
returns c e = found-held c.args.held.now c.args.set c.binary_search.result (sym c.is_ok.ensures.value ∙ e) c.binary_search.ensures.bound c.binary_search.ensures.ok
