-- A certificate of covers, line by line.
use Rattle.std.specs.Prelude.{ℕ, List, [], ◌∷◌, ◌++◌, codes, decimal}
use Rattle.std.specs.List.{flat_map}
use Rattle.rel_base.specs.Covers.{CoverLists}
use Rattle.report_text.specs.Line.{line}
use Rattle.report_text.specs.Report.{key_line, fd_line}

-- how many columns and rows there are
abbrev pub cert_line : ℕ → ℕ → List ℕ
cert_line columns rows = line (codes "cert" ∷ decimal columns ∷ decimal rows ∷ [])

-- two rows by their numbers
abbrev pub pair_line : ℕ × ℕ → List ℕ
pair_line pair = line (codes "pair" ∷ decimal pair.0 ∷ decimal pair.1 ∷ [])

abbrev pub end_line : List ℕ
end_line = line (codes "end" ∷ [])

-- a line for the size, one for each pair of rows, one for each key, one for each dependency, and the end
unfoldable pub certificate_text : ℕ → ℕ → List (ℕ × ℕ) → CoverLists → List ℕ
certificate_text columns rows pairs covers =
    cert_line columns rows ++ flat_map pair_line pairs ++ flat_map key_line covers.keys ++ flat_map fd_line covers.fds ++ end_line
