-- The text of `check`.
use Rattle.std.specs.Prelude.{◌++◌, ◌∷◌, [], ℕ, List, codes, decimal}
use Rattle.rel_base.specs.RowState.{RowState}
use Rattle.cover_cert.specs.Answers.{code_of}
use Rattle.cover_cert.specs.Certificates.{answer}
use Rattle.cover_cert.specs.declared.answer.Answer.{Answer}
use Rattle.cover_cert.specs.declared.answer.Answer.TheVariants.{Yes, No}

-- the words of an answer: a flaw has the record that it stands at, and its number
abbrev pub answer_words : Answer → List ℕ
answer_words Yes = codes "yes"
answer_words (No number flaw) = codes "no," ++ decimal number ++ codes "," ++ decimal (code_of flaw)

-- one line, ended by a line feed
abbrev pub answer_line : Answer → List ℕ
answer_line it = answer_words it ++ 10 ∷ []

-- what `check` says of these rows and of the bytes of a text
abbrev pub check_text : RowState → List ℕ → List ℕ
check_text r bytes = answer_line (answer r bytes)
