-- What became of files and of batches.
use Rattle.std.specs.Prelude.{ℕ, List, [], ◌∷◌, codes, decimal}
use Rattle.rel_base.specs.Why.{code_of}
use Rattle.rel_base.specs.declared.why.Why.{Why}
use Rattle.report_text.specs.Line.{line}

-- something was refused at a record
abbrev pub refusal_line : List ℕ → ℕ → Why → List ℕ
refusal_line what rec why = line (codes "refused" ∷ what ∷ decimal rec ∷ decimal (code_of why) ∷ [])

-- a file was, by its name; the record is 0 where none is at fault
abbrev pub file_line : List ℕ → ℕ → Why → List ℕ
file_line name rec why = refusal_line name rec why

-- a batch was, by its number
abbrev pub refused_line : ℕ → ℕ → Why → List ℕ
refused_line batch rec why = refusal_line (decimal batch) rec why

-- a file could not be read
abbrev pub fault_line : List ℕ → List ℕ
fault_line name = line (codes "fault" ∷ codes "read" ∷ name ∷ [])

-- a batch was applied, with this many operations of each kind and this many live rows after it
abbrev pub applied_line : ℕ → ℕ → ℕ → ℕ → List ℕ
applied_line batch inserted deleted live = line (codes "applied" ∷ decimal batch ∷ decimal inserted ∷ decimal deleted ∷ decimal live ∷ [])

-- how many lines of each kind a normalisation of the relation of a seed writes: keys, dependencies, inclusions and tables. The relation has 12 columns and 5,000 rows.
abbrev pub demo_line : ℕ → ℕ → ℕ → ℕ → ℕ → List ℕ
demo_line seed keys fds inclusions tables =
    line (codes "demo" ∷ decimal seed ∷ codes "12" ∷ codes "5000" ∷ decimal keys ∷ decimal fds ∷ decimal inclusions ∷ decimal tables ∷ [])
