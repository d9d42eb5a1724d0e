-- Row numbers in a change text.
use Rattle.std.specs.Prelude.{◌&&◌, if◌then◌else◌, ◌==◌, not, nat_le, ℕ, Bool, List, length, slice_index, Option, Some, None}
use Rattle.std.specs.Char.{is_ascii_digit}
use Rattle.std.specs.List.{list_all}
use Rattle.std.specs.Str.Parse.{digits_value}

-- at most ten bytes, of which the first is not the digit 0
abbrev pub is_short : List ℕ → Bool
is_short field = nat_le (length field) 10 && not (slice_index field 0 == 48)

-- the number that digits write, if nothing else is there; no digits write 0
abbrev pub value_of : List ℕ → Option ℕ
value_of field = if list_all is_ascii_digit field then Some (digits_value 10 field) else None

-- the number, if a row may have it
abbrev pub numbered : ℕ → Option ℕ
numbered n = if nat_le 1 n && nat_le n 4294967295 then Some n else None

-- where there is a number, the row number that it is
abbrev pub numbered_where : Option ℕ → Option ℕ
numbered_where None = None
numbered_where (Some n) = numbered n

-- the row number that a field writes in plain decimal, if it does
abbrev pub row_number : List ℕ → Option ℕ
row_number field = if is_short field then numbered_where (value_of field) else None
