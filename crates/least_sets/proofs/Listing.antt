-- A list of the least sets in report order is the list of them.
use Rattle.std.proofs.Common.{◌≡◌, ℕ, List}
use Rattle.col_set.specs.declared.target.Target.{Target}
use Rattle.col_set.specs.ColSet.{report_cmp}
use Rattle.col_set.specs.Columns.{report_total}
use Rattle.col_set.specs.Evidence.{least}
use Rattle.col_set.specs.Lists.{Rises}
use Rattle.col_set.proofs.Places.{same_rising}
use Rattle.col_set.proofs.More.{Rises-least}
use Rattle.col_set.proofs.Least.{Listed-least, IsLeast-listed}
use Rattle.least_sets.specs.Growth.{choices, ListsLeast}
use Rattle.least_sets.specs.Members.{HasMembers}
use Rattle.least_sets.proofs.Evidence.{among_from, least_from}

pub lists_members : (u : ℕ) (ws : List ℕ) (t : Target) (xs ys : List ℕ) → HasMembers xs ys → ListsLeast u ws t xs → ListsLeast u ws t ys
lists_members u ws t xs ys m l = record { each = λ x h. l.each x (m.each x h); every = λ x i. m.every x (l.every x i) }

pub sorted_least : (n : ℕ) (ws : List ℕ) (t : Target) (xs : List ℕ) → Rises report_cmp xs → ListsLeast (choices n t) ws t xs → xs ≡ least n ws t
sorted_least n ws t xs r l = same_rising report_total xs (least n ws t) r (Rises-least n ws t)
    (λ x h. Listed-least n ws t x (least_from n ws t x (l.each x h)))
    (λ x h. l.every x (among_from n ws t x (IsLeast-listed n ws t x h)))
