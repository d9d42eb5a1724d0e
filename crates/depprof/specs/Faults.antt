-- The fault that closing leaves behind.
use Rattle.std.specs.Prelude.{◌≡◌, Option, List, ℕ, Some}
use Rattle.depprof.specs.declared.file_shelf.Held.{Held}
use Rattle.depprof.specs.declared.file_shelf.Fault.{Fault}
use Rattle.depprof.specs.declared.file_shelf.Fault.TheVariants.{Nowhere, Read, Write}
use Rattle.depprof.specs.Held.{read_last_of, write_last_of}

-- after these last names
abbrev pub read_last_after : Fault → Option (List ℕ) → Option (List ℕ)
read_last_after Nowhere last = last
read_last_after (Read name) last = Some name
read_last_after (Write name) last = last

abbrev pub write_last_after : Fault → Option (List ℕ) → Option (List ℕ)
write_last_after Nowhere last = last
write_last_after (Read name) last = last
write_last_after (Write name) last = Some name

-- it stands at what was open where one of its calls failed
abbrev pub StandsAt : {F : Type 0} → Fault → Held F → Type 0
StandsAt fault held = ((last : Option (List ℕ)) → read_last_after fault last ≡ read_last_of held last)
    × ((last : Option (List ℕ)) → write_last_after fault last ≡ write_last_of held last)
