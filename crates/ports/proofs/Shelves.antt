-- What calls on an open file leave.
use Rattle.std.proofs.Common.{◌≡◌, ◌∙◌, ap, sym, inr, ℕ, ◌+◌, List, [], length, take, take_all, le_refl, drop, Option}
use Rattle.std.specs.Option.{option_map}
use Rattle.ports.specs.declared.whole_files.Storing.{Storing}
use Rattle.ports.specs.declared.whole_files.Storing.TheVariants.{Stored, Failed}
use Rattle.ports.specs.Faults.{SameFaults}
use Rattle.ports.specs.Files.{Files, Access, ForReading, ForWriting, name_of, left_of, with_file, with_more}
use Rattle.ports.specs.Whole.{AppendsTo, Stores}
use Rattle.ports.proofs.Counting.{SameFaults-trans}
use Rattle.ports.proofs.Contents.{more-more, more-of_created}

module _ {S : Type 0} (opened : S → Access) (content : S → Option Files) (read_faults : S → ℕ) (read_last : S → Option (List ℕ)) (write_faults : S → ℕ) (write_last : S → Option (List ℕ)) where
  -- a file is being read: it is still open, the files are the same, and no fault was counted
  pub record ReadsOn (old new : S) : Type 0 where
    pub still : opened new ≡ ForReading (name_of (opened old)) (left_of (opened new))
    pub content_is : content new ≡ content old
    pub reads : SameFaults read_faults read_last old new
    pub writes : SameFaults write_faults write_last old new

  -- a file is being written: it is still open, so many bytes of a text were appended, and no fault was counted
  pub record WritesOn (bytes : List ℕ) (done : ℕ) (old new : S) : Type 0 where
    pub still : opened new ≡ opened old
    pub content_is : content new ≡ option_map (with_more (name_of (opened old)) (take done bytes)) (content old)
    pub reads : SameFaults read_faults read_last old new
    pub writes : SameFaults write_faults write_last old new

  pub ReadsOn-more : (a b c : S) → ReadsOn a b → opened c ≡ ForReading (name_of (opened b)) (left_of (opened c)) → content c ≡ content b
      → SameFaults read_faults read_last b c → SameFaults write_faults write_last b c → ReadsOn a c
  ReadsOn-more a b c first still content_is reads writes = record {
    still = still ∙ ap (λ name. ForReading name (left_of (opened c))) (ap name_of first.still);
    content_is = content_is ∙ first.content_is;
    reads = SameFaults-trans _ _ a b c first.reads reads;
    writes = SameFaults-trans _ _ a b c first.writes writes;
  }

  pub WritesOn-more : (a b c : S) (bytes : List ℕ) (done count : ℕ) → WritesOn bytes done a b → opened c ≡ opened b
      → content c ≡ option_map (with_more (name_of (opened b)) (take count (drop done bytes))) (content b)
      → SameFaults read_faults read_last b c → SameFaults write_faults write_last b c → WritesOn bytes (done + count) a c
  WritesOn-more a b c bytes done count first still more reads writes = record {
    still = still ∙ first.still;
    content_is = more-more _ bytes done count _ _ _ first.content_is (more ∙ ap (λ access. option_map (with_more (name_of access) (take count (drop done bytes))) (content b)) first.still);
    reads = SameFaults-trans _ _ a b c first.reads reads;
    writes = SameFaults-trans _ _ a b c first.writes writes;
  }

-- a file that was created and written to holds some first bytes of the text, whether the last write failed or not
pub Stores-cut : (answer : Storing) (name : List ℕ) (access : Access) (bytes : List ℕ) (first created written now : Option Files) → created ≡ option_map (with_file name []) first
    → access ≡ ForWriting name → AppendsTo answer (name_of access) bytes created written → now ≡ written → Stores Failed name bytes first now
Stores-cut Stored name access bytes first created written now c is w n =
    inr (length bytes, more-of_created name _ first created now c (n ∙ w ∙ ap (λ x. option_map (with_more (name_of x) bytes) created) is ∙ ap (λ piece. option_map (with_more name piece) created) (sym (take_all (length bytes) bytes (le_refl _)))))
Stores-cut Failed name access bytes first created written now c is w n =
    inr (w.0, more-of_created name _ first created now c (n ∙ w.2 ∙ ap (λ x. option_map (with_more (name_of x) (take w.0 bytes)) created) is))
