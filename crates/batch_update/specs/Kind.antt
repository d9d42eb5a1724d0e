-- What a record's first field says that it is.
use Rattle.std.specs.Prelude.{if◌then◌else◌, ◌==◌, ℕ, List, [], ◌∷◌, Option, Some, None}
use Rattle.batch_update.specs.declared.kind.Kind.{Kind}
use Rattle.batch_update.specs.declared.kind.Kind.TheVariants.{Insert, Delete, End, Report, Update}

-- the kinds by their marks: + - ! ? =
abbrev pub marked : ℕ → Option Kind
marked byte =
    if byte == 43 then Some Insert
    else if byte == 45 then Some Delete
    else if byte == 33 then Some End
    else if byte == 63 then Some Report
    else if byte == 61 then Some Update
    else None

-- a mark is one byte
abbrev pub kind_of : List ℕ → Option Kind
kind_of [] = None
kind_of (byte ∷ []) = marked byte
kind_of (byte ∷ other ∷ others) = None
