use Rattle.std.proofs.Common.{◌≡◌, ℕ, List, [], map, take, get_or, Bor}
use Rattle.rel_base.proofs.relation.Relation.row.Given as goal

abbrev pub invariant-loop-column : goal.invariant-loop-column
invariant-loop-column l = map (λ (cell : Bor (List ℕ)). cell.now) l.cells.items ≡ map (λ (cells : List (List ℕ)). get_or cells l.place []) (take l.column-index l.column-items)
