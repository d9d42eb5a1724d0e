-- Lines: each is a record of fields, as csv writes it.
use Rattle.std.specs.Prelude.{◌≡◌, ◌==◌, ◌||◌, ◌&&◌, not, ℕ, ◌<◌, ◌-◌, ◌^◌, false, true, List, [], ◌∷◌, ◌++◌, length}
use Rattle.std.specs.Global.{Vec}
use Rattle.csv.specs.Writing.{row_text, row_body, is_blank, default_writer, with_flexible, writer_setup, writer_under, writer_pending, fields_written, has_written}
use Rattle.csv.specs.declared.writer.Writer.{Writer}
use Rattle.csv.specs.declared.writer.WriterBuilder.{WriterBuilder}

-- commas, quotes only where a field needs them, and a line feed at the end
unfoldable pub line : List (List ℕ) → List ℕ
line fields = row_text default_writer fields

-- the same for records of any number of fields
abbrev pub line_writer : WriterBuilder
line_writer = with_flexible default_writer true

-- what a writer has written into its vector, and what it still holds
abbrev pub text_in : Writer (Vec ℕ) → List ℕ
text_in writer = (writer_under writer).items ++ writer_pending writer

-- the writer stands at the start of a line
pub record IsAtLine (writer : Writer (Vec ℕ)) : Type 0 where
  pub setup : writer_setup writer ≡ line_writer
  pub fields : fields_written writer ≡ 0
  pub wrote : has_written writer ≡ false

-- the writer has written a text, and then these fields of a line
pub record HasFields (text : List ℕ) (fields : List (List ℕ)) (writer : Writer (Vec ℕ)) : Type 0 where
  pub setup : writer_setup writer ≡ line_writer
  pub count : fields_written writer ≡ length fields
  pub written : text_in writer ≡ text ++ row_body line_writer fields
  pub blank : is_blank line_writer fields ≡ (not (has_written writer) && ((length fields == 0) || (length fields == 1)))

-- one more field of the line, whatever was written before
abbrev pub AddsField : Writer (Vec ℕ) → Writer (Vec ℕ) → List ℕ → Type 0
AddsField old new field = (text : List ℕ) (fields : List (List ℕ)) → length fields < 2 ^ 64 - 1 → HasFields text fields old
    → HasFields text (fields ++ field ∷ []) new

-- the line has its end
abbrev pub EndsLine : Writer (Vec ℕ) → Writer (Vec ℕ) → Type 0
EndsLine old new = (text : List ℕ) (fields : List (List ℕ)) → HasFields text fields old → IsAtLine new × (text_in new ≡ text ++ line fields)
