use Rattle.std.proofs.Common.{◌∙◌, ap₂, ℕ, List}
use Rattle.rel_base.specs.Packed.{packed_cells}
use Rattle.rel_base.proofs.Packed.{packed-none}
use Rattle.rel_base.proofs.cells.Cells.new.Goals as goal

pub returns : goal.returns
returns c = ap₂ (λ (bytes ends : List ℕ). packed_cells bytes ends) c.new.ensures.items c.new-2.ensures.items ∙ packed-none
