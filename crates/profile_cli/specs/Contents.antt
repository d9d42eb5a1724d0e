-- What files hold, by how they are read, and which file is refused.
use Rattle.std.specs.Prelude.{if◌then◌else◌, nat_lt, ℕ, List, [], ◌∷◌, length, Option, Some, None}
use Rattle.std.specs.List.{flat_map}
use Rattle.rel_base.specs.declared.limits.Limits.{Limits}
use Rattle.rel_base.specs.declared.why.Why.{Why}
use Rattle.rel_base.specs.declared.why.Why.TheVariants.{Bytes}
use Rattle.rel_base.specs.Relation.{Content}
use Rattle.ports.specs.Files.{Files, bytes_of}
use Rattle.csv_load.specs.Records.{records_of}
use Rattle.csv_load.specs.Refusal.{refused_file}
use Rattle.task_base.specs.Reading.{Reading, if_relation, if_text}
use Rattle.task_base.specs.Task.{Sources, content_of}
use Rattle.task_base.specs.declared.reads.ReadAs.{ReadAs}
use Rattle.task_base.specs.declared.reads.ReadAs.TheVariants.{Relation, Text}

-- the relation that a file holds
abbrev pub file_content : List ℕ → Content
file_content bytes = content_of (records_of bytes)

-- the relations that files hold, of those that are read as relations
abbrev pub contents_of : Files → List Reading → List Content
contents_of held reads = flat_map (λ r. if_relation r.1 (file_content (bytes_of held r.0))) reads

-- the bytes of the others
abbrev pub texts_of : Files → List Reading → List (List ℕ)
texts_of held reads = flat_map (λ r. if_text r.1 (bytes_of held r.0)) reads

-- what a command has read, where the input has these bytes
abbrev pub sources_of : Files → List Reading → List ℕ → Sources
sources_of held reads input = record { relations = contents_of held reads; texts = texts_of held reads; input = input }

-- why a file with these bytes is refused: as a relation by its records, and as a text by the number of its bytes alone
abbrev pub refused_as : ReadAs → Limits → List ℕ → Option (ℕ × Why)
refused_as Relation limits bytes = refused_file limits bytes
refused_as Text limits bytes = if nat_lt limits.bytes (length bytes) then Some (0, Bytes) else None

-- this refusal, if it is one, or else that
abbrev pub or_else : Option (List ℕ × ℕ × Why) → Option (List ℕ × ℕ × Why) → Option (List ℕ × ℕ × Why)
or_else (Some refusal) other = Some refusal
or_else None other = other

-- a file's refusal, with its name
abbrev pub named : List ℕ → Option (ℕ × Why) → Option (List ℕ × ℕ × Why)
named name None = None
named name (Some refusal) = Some (name, refusal.0, refusal.1)

-- the first file that a rule refuses, in their order, with the record and the cause
unfoldable pub first_refusal : Limits → Files → List Reading → Option (List ℕ × ℕ × Why)
first_refusal limits files [] = None
first_refusal limits files (r ∷ reads) = or_else (named r.0 (refused_as r.1 limits (bytes_of files r.0))) (first_refusal limits files reads)
