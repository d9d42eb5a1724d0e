use Rattle.std.proofs.Common.{◌≡◌, not, take}
use Rattle.std.specs.List.{filter}
use Rattle.set_tree.proofs.Listing.{is_among}
use Rattle.set_tree.proofs.set_tree.SetTree.take_subsets_of.Given as goal

abbrev pub invariant-loop-pair : goal.invariant-loop-pair
invariant-loop-pair g l = l.self ≡ filter (λ p. not (is_among (take l.pair-index l.pair-items) p)) l.fn.self
