-- Kinds of calls on a shelf, and which are to fail.
use Rattle.std.specs.Prelude.{ℕ, ◌==◌, ◌&&◌, Bool, List, slice_index, slice_set}
use Rattle.std.specs.List.{list_any}
use Rattle.ports.specs.declared.kinds.Kind.{Kind}
use Rattle.ports.specs.declared.kinds.Kind.TheVariants.{Open, Read, Create, Write, Close}
use Rattle.ports.specs.Memory.{one_more}

abbrev pub place_of_kind : Kind → ℕ
place_of_kind Open = 0
place_of_kind Read = 1
place_of_kind Create = 2
place_of_kind Write = 3
place_of_kind Close = 4

abbrev pub same_kind : Kind → Kind → Bool
same_kind x y = place_of_kind x == place_of_kind y

-- The calls that are to fail: a kind, and a number among the calls of that kind, counted from 1. Beside it the number of calls so far,
-- of opens, reads, creates, writes and closes.
pub record ShelfCourse : Type 0 where
  pub fails : List (Kind × ℕ)
  pub made : List ℕ

-- the number of the next call of this kind
abbrev pub next_number : Kind → ShelfCourse → ℕ
next_number kind course = one_more (slice_index course.made (place_of_kind kind))

-- whether the next call of this kind is to fail
abbrev pub is_due : Kind → ShelfCourse → Bool
is_due kind course = list_any (λ call. same_kind call.0 kind && call.1 == next_number kind course) course.fails

-- the course after a call of this kind
abbrev pub after_begin : Kind → ShelfCourse → ShelfCourse
after_begin kind course = record course { made = slice_set course.made (place_of_kind kind) (next_number kind course) }
