-- What reading files comes to.
use Rattle.std.specs.Prelude.{◌≡◌, ◌<◌, ◌+◌, ℕ, Bool, true, false, List, [], ◌∷◌, length, take, slice_index_or, Some, None, ⊤}
use Rattle.rel_base.specs.declared.limits.Limits.{Limits}
use Rattle.rel_base.specs.Relation.{Content}
use Rattle.ports.specs.Files.{Files, bytes_of}
use Rattle.profile_cli.specs.declared.reading.Held.{Held}
use Rattle.profile_cli.specs.declared.reading.Held.TheVariants as held
use Rattle.profile_cli.specs.declared.reading.FileRead.{FileRead}
use Rattle.profile_cli.specs.declared.reading.FileRead.TheVariants.{Read, Refused, Fault, NoMemory}
use Rattle.profile_cli.specs.declared.reading.FilesRead.{FilesRead}
use Rattle.profile_cli.specs.declared.reading.FilesRead.TheVariants as files
use Rattle.profile_cli.specs.Contents.{contents_of, file_content, first_refusal, refused_as, texts_of}
use Rattle.task_base.specs.Reading.{Reading, if_relation, if_text, no_reading, relation_names, text_names}
use Rattle.task_base.specs.declared.reads.ReadAs.{ReadAs}
use Rattle.task_base.specs.declared.reads.ReadAs.TheVariants.{Relation, Text}

-- how what a file holds was read
abbrev pub kind_of : Held → ReadAs
kind_of (held.Relation relation) = Relation
kind_of (held.Text text) = Text

-- its relation, and its text
abbrev pub relation_in : Held → List Content
relation_in (held.Relation relation) = relation ∷ []
relation_in (held.Text text) = []

abbrev pub text_in : Held → List (List ℕ)
text_in (held.Relation relation) = []
text_in (held.Text text) = text ∷ []

-- whether a call on the file failed
abbrev pub faulted : FileRead → Bool
faulted (Read found) = false
faulted (Refused rec why) = false
faulted Fault = true
faulted NoMemory = false

-- the file was read in this way, if at all
abbrev pub IsReadAs : FileRead → ReadAs → Type 0
IsReadAs (Read found) read_as = kind_of found ≡ read_as
IsReadAs (Refused rec why) read_as = ⊤
IsReadAs Fault read_as = ⊤
IsReadAs NoMemory read_as = ⊤

-- what is known of the file's bytes
abbrev pub Understands : FileRead → ReadAs → Limits → List ℕ → Type 0
Understands (Read found) read_as limits bytes =
    (refused_as read_as limits bytes ≡ None) × (relation_in found ≡ if_relation read_as (file_content bytes)) × (text_in found ≡ if_text read_as bytes)
Understands (Refused rec why) read_as limits bytes = refused_as read_as limits bytes ≡ Some (rec, why)
Understands Fault read_as limits bytes = ⊤
Understands NoMemory read_as limits bytes = ⊤

-- whether a call on one of the files failed, and on which
abbrev pub any_faulted : FilesRead → Bool
any_faulted (files.Read found) = false
any_faulted (files.Refused place rec why) = false
any_faulted (files.Fault place) = true
any_faulted files.NoMemory = false

abbrev pub fault_name : FilesRead → List Reading → List ℕ
fault_name (files.Read found) reads = []
fault_name (files.Refused place rec why) reads = []
fault_name (files.Fault place) reads = (slice_index_or reads place no_reading).0
fault_name files.NoMemory reads = []

-- the file that is named is one of them, and there are as many relations and texts as are read
abbrev pub IsOfFiles : FilesRead → List Reading → Type 0
IsOfFiles (files.Read found) reads = (length found.relations.items ≡ length (relation_names reads)) × (length found.texts.items ≡ length (text_names reads))
IsOfFiles (files.Refused place rec why) reads = place < length reads
IsOfFiles (files.Fault place) reads = place < length reads
IsOfFiles files.NoMemory reads = ⊤

-- of so many files, how many are opened at most: those up to the one that is named, and all where none is
abbrev pub most_opened : FilesRead → ℕ → ℕ
most_opened (files.Read found) count = count
most_opened (files.Refused place rec why) count = place + 1
most_opened (files.Fault place) count = place + 1
most_opened files.NoMemory count = count

-- what is known of the files
abbrev pub UnderstandsAll : FilesRead → Limits → List Reading → Files → Type 0
UnderstandsAll (files.Read found) limits reads on =
    (first_refusal limits on reads ≡ None) × (found.relations.items ≡ contents_of on reads) × (found.texts.items ≡ texts_of on reads)
UnderstandsAll (files.Refused place rec why) limits reads on =
    (first_refusal limits on (take place reads) ≡ None)
    × (refused_as (slice_index_or reads place no_reading).1 limits (bytes_of on (slice_index_or reads place no_reading).0) ≡ Some (rec, why))
    × (first_refusal limits on reads ≡ Some ((slice_index_or reads place no_reading).0, rec, why))
UnderstandsAll (files.Fault place) limits reads on = first_refusal limits on (take place reads) ≡ None
UnderstandsAll files.NoMemory limits reads on = ⊤
