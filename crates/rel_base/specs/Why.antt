-- The numbers that reports write for causes.
use Rattle.std.specs.Prelude.{ℕ}
use Rattle.rel_base.specs.declared.why.Why.{Why}
use Rattle.rel_base.specs.declared.why.Why.TheVariants.{NoHeader, Columns, Fields, Cell, Rows, Bytes, Kind, Number, Missing, Cut}

abbrev pub code_of : Why → ℕ
code_of NoHeader = 1
code_of Columns = 2
code_of Fields = 3
code_of Cell = 4
code_of Rows = 5
code_of Bytes = 6
code_of Kind = 7
code_of Number = 8
code_of Missing = 9
code_of Cut = 10
