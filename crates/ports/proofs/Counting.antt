-- Counts over several calls.
use Rattle.std.proofs.Common.{◌∙◌, ℕ, ◌+◌, ◌≤◌, arith, List, Option}
use Rattle.ports.specs.Faults.{RoseAt, SameFaults}
use Rattle.ports.specs.Whole.{most_taken, IsWithin}
use Rattle.ports.specs.declared.loading.Loading.{Loading}
use Rattle.ports.specs.declared.loading.Loading.TheVariants.{Loaded, TooLong, Failed, NoMemory}

-- no answer took more than one byte beyond the limit
pub most_taken-bound : (answer : Loading) (limit : ℕ) → IsWithin answer limit → most_taken answer limit ≤ limit + 1
most_taken-bound (Loaded bytes) limit h = omega arith
most_taken-bound TooLong limit h = omega arith
most_taken-bound Failed limit h = omega arith
most_taken-bound NoMemory limit h = omega arith

module _ {S : Type 0} (faults : S → ℕ) (last : S → Option (List ℕ)) where
  pub SameFaults-trans : (a b c : S) → SameFaults faults last a b → SameFaults faults last b c → SameFaults faults last a c
  SameFaults-trans a b c first second = record { count = second.count ∙ first.count; name_is = second.name_is ∙ first.name_is }

  -- a call that failed after others that did not
  pub RoseAt-after : (name : List ℕ) (a b c : S) → SameFaults faults last a b → RoseAt name faults last b c → RoseAt name faults last a c
  RoseAt-after name a b c first second =
      let before = first.count in
      let rose = second.count in
      let not_fallen = rose.not_fallen in
      let risen = rose.risen in
      record { count = record { not_fallen = omega arith; risen = λ same. risen (omega arith) }; name_is = second.name_is }
