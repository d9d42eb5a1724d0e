use Rattle.std.proofs.Common.{◌≡◌, ◌∙◌, rules}
use Rattle.std.specs.Option.{option_map}
use Rattle.bcnf_split.specs.declared.parted.Parting.{Parting}
use Rattle.bcnf_split.proofs.Searching.{found_first}
use Rattle.bcnf_split.proofs.Tabling.{none-normal}
use Rattle.bcnf_split.proofs.search.violation.Goals as goal

left_of : (c : goal.After-map) → c.map.result ≡ option_map (λ (p : Parting). p.left) c.first_parting.result
left_of c = search rules

pub returns-clause-first : goal.returns-clause-first
returns-clause-first c r t = left_of c ∙ found_first r c.args.s c.first_parting.result t.below (c.first_parting.ensures.told r t) (c.first_parting.ensures.first r t)

pub returns-clause-none : goal.returns-clause-none
returns-clause-none c r t = none-normal c.args.covers.now r c.args.s c.map.result t (returns-clause-first c r t)
