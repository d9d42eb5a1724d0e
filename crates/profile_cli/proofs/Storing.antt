-- Files that are written one after another.
use Rattle.std.proofs.Common.{◌≡◌, ◌∙◌, ℕ, ◌+◌, ◌<◌, refl, sym, ap, List, [], ◌∷◌, ◌++◌, length, get_or, take, Option, Some, None}
use Rattle.std.specs.Option.{option_map}
use Rattle.std.proofs.lemmas.List.{take_more}
use Rattle.ports.specs.Files.{Files, with_file}
use Rattle.ports.specs.Lists.{File}
use Rattle.profile_cli.specs.Output.{with_files}

with_files-append : (xs : List File) (y : File) (held : Files) → with_files (xs ++ y ∷ []) held ≡ with_file y.0 y.1 (with_files xs held)
unfolding with_files
with_files-append [] y held = refl
with_files-append (x ∷ xs) y held = with_files-append xs y (with_file x.0 x.1 held)

-- none so far
pub stored_none : (files : List File) (content : Option Files) → content ≡ option_map (with_files (take 0 files)) content
unfolding with_files
stored_none files None = refl
stored_none files (Some held) = refl

-- one more
pub stored_more : (files : List File) (n : ℕ) (y : File) (before now then' : Option Files) → n < length files → y ≡ get_or files n ([], [])
    → now ≡ option_map (with_files (take n files)) before → then' ≡ option_map (with_file y.0 y.1) now → then' ≡ option_map (with_files (take (n + 1) files)) before
stored_more files n y before now then' h at so_far more =
    more ∙ ap (option_map (with_file y.0 y.1)) so_far ∙ joined before
    ∙ ap (λ fs. option_map (with_files fs) before) (ap (λ (f : File). take n files ++ f ∷ []) at ∙ sym (take_more files n ([], []) h))
  where
    joined : (o : Option Files) → option_map (with_file y.0 y.1) (option_map (with_files (take n files)) o) ≡ option_map (with_files (take n files ++ y ∷ [])) o
    joined None = refl
    joined (Some held) = ap (λ (f : Files). Some f) (sym (with_files-append (take n files) y held))
