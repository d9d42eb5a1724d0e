-- The numbers that the flaws of a certificate have.
use Rattle.std.specs.Prelude.{ℕ}
use Rattle.cover_cert.specs.declared.answer.Flaw.{Flaw}
use Rattle.cover_cert.specs.declared.answer.Flaw.TheVariants.{Form, Shape, Pair, Least, Fails}

abbrev pub code_of : Flaw → ℕ
code_of Form = 21
code_of Shape = 22
code_of Pair = 23
code_of Least = 24
code_of Fails = 25
