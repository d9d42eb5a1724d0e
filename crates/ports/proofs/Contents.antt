-- Files after one write and after several, and that the others stay.
use Rattle.std.proofs.Common.{◌≡◌, ◌≢◌, ℕ, ◌+◌, ◌∙◌, refl, sym, ap, Bool, true, false, cond, List, [], ◌++◌, append_assoc, append-nil, Option, None, Some, take, drop, nat_eq}
use Rattle.std.specs.Option.{option_map}
use Rattle.std.specs.Cmp.Lexicographic.{pointwise, bytes_decides}
use Rattle.std.proofs.Math.Seq.{take-add}
use Rattle.ports.specs.Files.{Files, with_file, with_more, OthersKept}

-- the same name at each place
same-files : (f g : Files) → ((name : List ℕ) → f name ≡ g name) → f ≡ g
same-files f g h = λ i. λ name. h name i

pub with_more-nil : (name : List ℕ) (files : Files) → with_more name [] files ≡ files
with_more-nil name files = same-files _ _ (λ other. at (pointwise nat_eq other name) (files other))
  where
    at : (b : Bool) (o : Option (List ℕ)) → cond b (option_map (λ held. held ++ []) o) o ≡ o
    at true None = refl
    at true (Some x) = ap Some (append-nil x)
    at false o = refl

pub with_more-with_more : (name p q : List ℕ) (files : Files) → with_more name q (with_more name p files) ≡ with_more name (p ++ q) files
with_more-with_more name p q files = same-files _ _ (λ other. at (pointwise nat_eq other name) (files other))
  where
    at : (b : Bool) (o : Option (List ℕ)) → cond b (option_map (λ held. held ++ q) (cond b (option_map (λ held. held ++ p) o) o)) (cond b (option_map (λ held. held ++ p) o) o) ≡ cond b (option_map (λ held. held ++ (p ++ q)) o) o
    at true None = refl
    at true (Some x) = ap Some (append_assoc x p q)
    at false o = refl

pub with_more-with_file : (name held p : List ℕ) (files : Files) → with_more name p (with_file name held files) ≡ with_file name (held ++ p) files
with_more-with_file name held p files = same-files _ _ (λ other. at (pointwise nat_eq other name) (files other))
  where
    at : (b : Bool) (o : Option (List ℕ)) → cond b (option_map (λ bytes. bytes ++ p) (cond b (Some held) o)) (cond b (Some held) o) ≡ cond b (Some (held ++ p)) o
    at true o = refl
    at false o = refl

-- the same of what a shelf tells

pub more-nil : (name : List ℕ) (content : Option Files) → content ≡ option_map (with_more name []) content
more-nil name None = refl
more-nil name (Some files) = ap Some (sym (with_more-nil name files))

pub more-more : (name bytes : List ℕ) (done count : ℕ) (first mid now : Option Files) → mid ≡ option_map (with_more name (take done bytes)) first
    → now ≡ option_map (with_more name (take count (drop done bytes))) mid → now ≡ option_map (with_more name (take (done + count) bytes)) first
more-more name bytes done count first mid now so_far more =
    more ∙ ap (option_map (with_more name (take count (drop done bytes)))) so_far ∙ joined first ∙ ap (λ piece. option_map (with_more name piece) first) (sym (take-add done count bytes))
  where
    joined : (o : Option Files) → option_map (with_more name (take count (drop done bytes))) (option_map (with_more name (take done bytes)) o)
        ≡ option_map (with_more name (take done bytes ++ take count (drop done bytes))) o
    joined None = refl
    joined (Some files) = ap Some (with_more-with_more name (take done bytes) (take count (drop done bytes)) files)

pub more-of_created : (name bytes : List ℕ) (first created now : Option Files) → created ≡ option_map (with_file name []) first → now ≡ option_map (with_more name bytes) created
    → now ≡ option_map (with_file name bytes) first
more-of_created name bytes first created now c m = m ∙ ap (option_map (with_more name bytes)) c ∙ joined first
  where
    joined : (o : Option Files) → option_map (with_more name bytes) (option_map (with_file name []) o) ≡ option_map (with_file name bytes) o
    joined None = refl
    joined (Some files) = ap Some (with_more-with_file name [] bytes files)

-- where one name is written, each other name holds what it held

pub with_file-other : (name bytes : List ℕ) (files : Files) (other : List ℕ) → other ≢ name → with_file name bytes files other ≡ files other
with_file-other name bytes files other differ = at (pointwise nat_eq other name) (bytes_decides other name).0
  where
    at : (b : Bool) → (b ≡ true → other ≡ name) → cond b (Some bytes) (files other) ≡ files other
    at true same = absurd (differ (same refl))
    at false same = refl

pub with_file-same : (name bytes : List ℕ) (files : Files) → with_file name bytes files name ≡ Some bytes
with_file-same name bytes files = ap (λ b. cond b (Some bytes) (files name)) ((bytes_decides name name).1 refl)

pub OthersKept-with_file : (name bytes : List ℕ) (before : Option Files) → OthersKept name before (option_map (with_file name bytes) before)
OthersKept-with_file name bytes None = refl
OthersKept-with_file name bytes (Some files) = with_file-other name bytes files

pub OthersKept-refl : (name : List ℕ) (content : Option Files) → OthersKept name content content
OthersKept-refl name None = refl
OthersKept-refl name (Some files) = λ other differ. refl
