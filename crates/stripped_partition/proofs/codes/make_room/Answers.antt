use Rattle.std.proofs.Common.{◌<◌, ◌≤◌, ℕ, List, arith}
use Rattle.std.specs.List.{All}
use Rattle.std.proofs.lemmas.List.Elements.{All-weaker}
use Rattle.stripped_partition.specs.Codes.{IsRecoded}
use Rattle.stripped_partition.proofs.Coding.{same_recode}
use Rattle.stripped_partition.proofs.codes.make_room.Goals as goal

roomy : (codes : List ℕ) (greatest bound : ℕ) → All (λ (c : ℕ). c ≤ greatest) codes → greatest < bound → IsRecoded codes codes bound
roomy codes greatest bound h l = same_recode codes bound (All-weaker (λ (c : ℕ). c ≤ greatest) (λ (c : ℕ). c < bound) (λ c m. omega arith) codes h)

pub returns-in_ok-resize-clause-room : goal.returns-in_ok-resize-clause-room
returns-in_ok-resize-clause-room c = roomy c.args.codes.now c.greatest_code.result _ c.greatest_code.ensures (let e = c.in_ok-resize.ensures.len in omega arith)

pub returns-else-len-bound-clause-room : goal.returns-else-len-bound-clause-room
returns-else-len-bound-clause-room c = roomy c.args.codes.now c.greatest_code.result _ c.greatest_code.ensures (let e = c.len.ensures in let f = c.if-len-bound.false in omega arith)
