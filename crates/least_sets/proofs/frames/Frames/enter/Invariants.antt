use Rattle.std.proofs.Common.{◌≡◌, ◌≤◌, ◌-◌, map, take, drop}
use Rattle.least_sets.specs.Growth.{having}
use Rattle.least_sets.specs.Branches.{parts, IsEntered}
use Rattle.least_sets.proofs.frames.Frames.enter.Given as goal

abbrev pub invariant-loop-place : goal.invariant-loop-place
invariant-loop-place g l = (l.runs_from ≤ l.place) × (l.self.pending.items ≡ l.fn.self.pending.items) × IsEntered l.fn.self.own.items l.fn.self.runs.items (map (having l.column) (parts l.fn.self.own.items (take (l.place - l.runs_from) (drop l.runs_from l.fn.self.runs.items)))) l.self.own.items l.self.runs.items
