-- What a writer has written of a line, field by field.
use Rattle.std.proofs.Common.{◌≡◌, ◌≢◌, ◌==◌, not, ℕ, ◌+◌, ◌<◌, ◌-◌, ◌^◌, min, true, false, List, [], ◌∷◌, ◌++◌, length, length-append, append_assoc, Result, Ok, Err, refl, ap, sym, ◌∙◌, arith}
use Rattle.std.specs.Global.{Vec}
use Rattle.std.specs.Result.{is_ok, OnOk}
use Rattle.std.proofs.lemmas.List.{append-nil}
use Rattle.csv.specs.Writing.{row_text, next_sep, tail_text, field_text, fields_text, escaped, is_blank, default_writer, writer_setup, fields_written, has_written}
use Rattle.csv.specs.declared.writer.QuoteStyle.TheVariants as style
use Rattle.csv.specs.declared.writer.Writer.{Writer}
use Rattle.csv.proofs.WriteFacts.{row-more, blank-more}
use Rattle.report_text.specs.Line.{line, line_writer, text_in, AddsField, EndsLine, IsAtLine, HasFields}

-- ---- a writer for records of any number of fields writes them as the default writer does
escaped-flexible : (field : List ℕ) → escaped line_writer field ≡ escaped default_writer field
unfolding escaped
escaped-flexible [] = refl
escaped-flexible (b ∷ field) = rw (escaped-flexible field) refl

fields_text-flexible : (fields : List (List ℕ)) → fields_text line_writer fields ≡ fields_text default_writer fields
unfolding fields_text
fields_text-flexible [] = refl
fields_text-flexible (field ∷ fields) = rw (fields_text-flexible fields, escaped-flexible field) refl

row_text-flexible : (fields : List (List ℕ)) → row_text line_writer fields ≡ row_text default_writer fields
unfolding is_blank
row_text-flexible [] = refl
row_text-flexible (field ∷ []) = rw (fields_text-flexible [], escaped-flexible field) refl
row_text-flexible (field ∷ next ∷ fields) = rw (fields_text-flexible (next ∷ fields), escaped-flexible field) refl

-- ---- the line's start, one more field, and the line's end
pub HasFields-none : (writer : Writer (Vec ℕ)) → IsAtLine writer → HasFields (text_in writer) [] writer
unfolding is_blank
HasFields-none writer at = record {
  setup = at.setup;
  count = at.fields;
  written = sym (append-nil (text_in writer));
  blank = rw at.wrote refl;
}

-- what the writer of csv says of one more field
record WritesField (old new : Writer (Vec ℕ)) (field : List ℕ) : Type 0 where
  text : (writer_setup old).style ≢ style.NonNumeric → text_in new ≡ text_in old ++ (next_sep (writer_setup old) (fields_written old) ++ field_text (writer_setup old) field)
  same : writer_setup new ≡ writer_setup old
  count : fields_written new ≡ min (fields_written old + 1) (2 ^ 64 - 1)
  wrote : has_written old ≡ false → (writer_setup old).style ≢ style.NonNumeric → has_written new ≡ not (length (field_text (writer_setup old) field) == 0)
  stays : has_written old ≡ true → has_written new ≡ true

HasFields-more : (old new : Writer (Vec ℕ)) (field text : List ℕ) (fields : List (List ℕ)) → WritesField old new field → length fields < 2 ^ 64 - 1 → HasFields text fields old → HasFields text (fields ++ field ∷ []) new
HasFields-more old new field text fields w fits h =
    let plain : (writer_setup old).style ≢ style.NonNumeric = rw h.setup (λ e. cc e) in
    let more : text_in new ≡ text_in old ++ (next_sep line_writer (length fields) ++ field_text line_writer field) = rw (h.setup, h.count) at (w.text plain) in
    let size = length-append fields (field ∷ []) in
    let all : length (fields ++ field ∷ []) ≡ length fields + 1 = omega arith in
    record {
      setup = w.same ∙ h.setup;
      count = omega (arith, w.count, h.count);
      written = more ∙ ap (λ t. t ++ (next_sep line_writer (length fields) ++ field_text line_writer field)) h.written ∙ append_assoc text _ _ ∙ ap (λ t. text ++ t) (sym (row-more line_writer fields field));
      blank = rw all (blank-more line_writer fields field (has_written old) (has_written new) h.blank (λ none. rw h.setup at (w.wrote none plain)) w.stays);
    }

-- where the call of the writer went well, and so the call around it
pub writes_field : {T E D : Type 0} (old new : Writer (Vec ℕ)) (field : List ℕ) (inner : Result T E) (outer : Result T D) → is_ok outer ≡ is_ok inner
    → OnOk inner ((writer_setup old).style ≢ style.NonNumeric → text_in new ≡ text_in old ++ (next_sep (writer_setup old) (fields_written old) ++ field_text (writer_setup old) field))
    → OnOk inner (writer_setup new ≡ writer_setup old) → OnOk inner (fields_written new ≡ min (fields_written old + 1) (2 ^ 64 - 1))
    → OnOk inner (has_written old ≡ false → (writer_setup old).style ≢ style.NonNumeric → has_written new ≡ not (length (field_text (writer_setup old) field) == 0))
    → OnOk inner (has_written old ≡ true → has_written new ≡ true)
    → OnOk outer (AddsField old new field)
writes_field old new field inner (Err d) e text same count wrote stays = tt
writes_field old new field (Err d) (Ok v) e text same count wrote stays = cc e
writes_field old new field (Ok u) (Ok v) e text same count wrote stays =
    λ before fields fits h. HasFields-more old new field before fields (record { text = text; same = same; count = count; wrote = wrote; stays = stays }) fits h

HasFields-line : (writer : Writer (Vec ℕ)) (text after : List ℕ) (fields : List (List ℕ)) → after ≡ text_in writer ++ tail_text (writer_setup writer) (has_written writer) (fields_written writer) → HasFields text fields writer → after ≡ text ++ line fields
unfolding line
HasFields-line writer text after fields ends h =
    let tail : after ≡ text_in writer ++ tail_text line_writer (has_written writer) (length fields) = rw (h.setup, h.count) at ends in
    tail ∙ ap (λ t. t ++ tail_text line_writer (has_written writer) (length fields)) h.written ∙ append_assoc text _ _ ∙ ap (λ t. text ++ t) (rw (← h.blank) (row_text-flexible fields))

-- the same for a record's end
pub ends_line : {T E D : Type 0} (old new : Writer (Vec ℕ)) (inner : Result T E) (outer : Result T D) → is_ok outer ≡ is_ok inner
    → OnOk inner (text_in new ≡ text_in old ++ tail_text (writer_setup old) (has_written old) (fields_written old))
    → OnOk inner (writer_setup new ≡ writer_setup old) → OnOk inner (fields_written new ≡ 0) → OnOk inner (has_written new ≡ false)
    → OnOk outer (EndsLine old new)
ends_line old new inner (Err d) e ends same none blank = tt
ends_line old new (Err d) (Ok v) e ends same none blank = cc e
ends_line old new (Ok u) (Ok v) e ends same none blank = λ text fields h.
    (record { setup = same ∙ h.setup; fields = none; wrote = blank }, HasFields-line old text (text_in new) fields ends h)
