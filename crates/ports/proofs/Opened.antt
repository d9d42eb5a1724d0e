-- What a shelf of which calls may fail shows of the file that is open.
use Rattle.std.proofs.Common.{◌≡◌, ◌==◌, ◌∙◌, refl, sym, ap, subst, ℕ, ◌<◌, arith, List, [], ◌++◌, length, None, Some, unwrap_or, Bool, true, false, cond}
use Rattle.std.proofs.Math.ListN.{set, length-set}
use Rattle.std.proofs.lemmas.Bool.{false≢true, eqb-true, eq-eqb}
use Rattle.ports.specs.Files.{Nothing as NothingOpen, ForReading, bytes_of, with_file, with_more}
use Rattle.ports.specs.Lists.{File, look_up, IsPlaceOf, file_at, KeepsNames}
use Rattle.ports.specs.Memory.{Room}
use Rattle.ports.specs.MemShelf.{told, opened_of, is_written, IsOpen, IsNamed}
use Rattle.ports.specs.declared.mem_shelf.Open.{Open}
use Rattle.ports.specs.declared.mem_shelf.Open.TheVariants.{Nothing, Reading, Writing}
use Rattle.ports.specs.declared.mem_shelf.Last.{Last}
use Rattle.ports.specs.declared.mem_shelf.Last.TheVariants.{NoName, Named, At}
use Rattle.ports.proofs.Contents.{with_more-with_file, with_file-same, with_file-other}
use Rattle.ports.proofs.Places.{place-same, look_up-none, look_up-at, look_up-set, name-at}

-- with nothing open the files are as they are kept
pub told-idle : (files : List File) (access : Open) (at : ℕ) (written : List ℕ) → opened_of files access at ≡ NothingOpen → told files access written ≡ files
told-idle files Nothing at written h = refl
told-idle files (Reading place) at written h = refl
told-idle files (Writing place) at written h = absurd (cc)

-- a file that was found is read from its start
pub from_start-at : (name : List ℕ) (files : List File) (place : ℕ) → IsPlaceOf name files place → ForReading (file_at files place).0 (Some (file_at files place).1) ≡ ForReading name (Some (bytes_of (look_up files) name))
from_start-at name files place h =
    ap (λ n. ForReading n (Some (file_at files place).1)) (name-at name files place ([], []) h)
    ∙ ap (λ found. ForReading name (Some (unwrap_or found []))) (sym (look_up-at name files place ([], []) h))

-- a place stands for a file still where there are more files
pub IsNamed-more : (old new : List File) (last : Last) → KeepsNames old new → IsNamed old last → IsNamed new last
IsNamed-more old new NoName kept h = tt
IsNamed-more old new (Named name) kept h = tt
IsNamed-more old new (At place) kept h = let fewer = kept.no_fewer in omega arith

-- a file that is put in a place holds these bytes
pub told-placed : (name bytes : List ℕ) (files : List File) (place : ℕ) → IsPlaceOf name files place → look_up (set files place ((file_at files place).0, bytes)) ≡ with_file name bytes (look_up files)
told-placed name bytes files place h =
    ap (λ n. look_up (set files place (n, bytes))) (name-at name files place ([], []) h) ∙ look_up-set name bytes files place h

-- what is written goes behind what was written
pub told-more : (files : List File) (place : ℕ) (held piece : List ℕ) → IsPlaceOf (file_at files place).0 files place
    → look_up (set files place ((file_at files place).0, held ++ piece)) ≡ with_more (file_at files place).0 piece (look_up (set files place ((file_at files place).0, held)))
told-more files place held piece h =
    let name = (file_at files place).0 in
    look_up-set name (held ++ piece) files place h ∙ sym (ap (with_more name piece) (look_up-set name held files place h) ∙ with_more-with_file name held piece (look_up files))

-- the last name after a close, which failed or not
pub IsNamed-close : (files : List File) (fails : Bool) (place : ℕ) (last : Last) → place < length files → IsNamed files last → IsNamed files (cond fails (At place) last)
IsNamed-close files true place last here h = here
IsNamed-close files false place last here h = h

-- the same where a file is put in a place
pub IsNamed-set : (files : List File) (place : ℕ) (file : File) (last : Last) → IsNamed files last → IsNamed (set files place file) last
IsNamed-set files place file NoName h = tt
IsNamed-set files place file (Named name) h = tt
IsNamed-set files place file (At other) h = omega (arith, length-set {A = File})

-- what the file at a place holds, written or not
pub told-at : (name : List ℕ) (files : List File) (access : Open) (at : ℕ) (buffer : Room) (room place : ℕ) → IsOpen files access at buffer room → IsPlaceOf name files place
    → look_up (told files access buffer.held) name ≡ Some (cond (is_written access place) buffer.held (file_at files place).1)
told-at name files Nothing at buffer room place h is = look_up-at name files place ([], []) is
told-at name files (Reading read) at buffer room place h is = look_up-at name files place ([], []) is
told-at name files (Writing written) at buffer room place h is =
    ap (λ found. found name) (told-placed (file_at files written).0 buffer.held files written h.0) ∙ chosen (written == place) refl
  where
    named : List ℕ
    named = (file_at files written).0

    chosen : (b : Bool) → (written == place) ≡ b → with_file named buffer.held (look_up files) name ≡ Some (cond b buffer.held (file_at files place).1)
    chosen true same =
        let file : named ≡ name = ap (λ k. (file_at files k).0) (eqb-true written place same) ∙ name-at name files place ([], []) is in
        ap (λ n. with_file n buffer.held (look_up files) name) file ∙ with_file-same name buffer.held (look_up files)
    chosen false same =
        with_file-other named buffer.held (look_up files) name
        (λ file. false≢true (sym same ∙ eq-eqb written place (place-same name files written place (subst (λ (n : List ℕ). IsPlaceOf n files written) (sym file) h.0) is)))
        ∙ look_up-at name files place ([], []) is

-- no file of a name, written or not
pub told-none : (name : List ℕ) (files : List File) (access : Open) (at : ℕ) (buffer : Room) (room : ℕ) → IsOpen files access at buffer room → look_up files name ≡ None
    → look_up (told files access buffer.held) name ≡ None
told-none name files Nothing at buffer room h none = none
told-none name files (Reading read) at buffer room h none = none
told-none name files (Writing written) at buffer room h none = ap (λ found. found name) (told-placed (file_at files written).0 buffer.held files written h.0)
    ∙ with_file-other (file_at files written).0 buffer.held (look_up files) name
    (λ file. look_up-none name files written none (subst (λ (n : List ℕ). IsPlaceOf n files written) (sym file) h.0))
    ∙ none

-- the file that is being written holds what was written
pub bytes-written : (files : List File) (place : ℕ) (held : List ℕ) → IsPlaceOf (file_at files place).0 files place
    → bytes_of (look_up (set files place ((file_at files place).0, held))) (file_at files place).0 ≡ held
bytes-written files place held h =
    let name = (file_at files place).0 in
    ap (λ found. unwrap_or found []) (ap (λ found. found name) (look_up-set name held files place h) ∙ with_file-same name held (look_up files))
