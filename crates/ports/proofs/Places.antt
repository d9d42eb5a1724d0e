-- The first file of a name in a list of files.
use Rattle.std.proofs.Common.{◌≡◌, ◌∙◌, refl, sym, ap, subst, ℕ, zero, suc, ◌+◌, ◌<◌, arith, Bool, true, false, cond, List, [], ◌∷◌, ◌++◌, length, get_or, Option, None, Some, MatchOption, nat_eq}
use Rattle.std.specs.List.{position, position_from}
use Rattle.std.proofs.lemmas.Iterator.Adapters.{position_from-zero}
use Rattle.std.proofs.Math.ListN.{set}
use Rattle.std.proofs.lemmas.Bool.{false≢true}
use Rattle.std.proofs.lemmas.Option.{none-some}
use Rattle.std.specs.Cmp.Lexicographic.{pointwise, bytes_decides}
use Rattle.ports.specs.Files.{with_file}
use Rattle.ports.specs.Lists.{File, has_name, look_up, IsPlaceOf, file_at}

-- what a search from the front found, where the list starts at a place further on
abbrev Found : List ℕ → List File → ℕ → Option ℕ → Type 0
Found name files from found = MatchOption found (look_up files name ≡ None) (λ place. (k : ℕ) × (place ≡ from + k) × IsPlaceOf name files k)

later : (name : List ℕ) (file : File) (files : List File) (from : ℕ) → has_name name file ≡ false → (found : Option ℕ) → Found name files (from + 1) found → Found name (file ∷ files) from found
later name file files from differs None none = ap (λ x. cond x (Some file.1) (look_up files name)) differs ∙ none
later name file files from differs (Some place) some = (suc some.0, omega (arith, some.1), (differs, some.2))

first : (name : List ℕ) (file : File) (files : List File) (from : ℕ) (b : Bool) → has_name name file ≡ b → (rest : Option ℕ) → Found name files (from + 1) rest
    → Found name (file ∷ files) from (cond b (Some from) rest)
first name file files from true is rest found = (0, omega arith, is)
first name file files from false is rest found = later name file files from is rest found

found_from : (name : List ℕ) (files : List File) (from : ℕ) → Found name files from (position_from (has_name name) from files)
found_from name [] from = refl
found_from name (file ∷ files) from = first name file files from (has_name name file) refl (position_from (has_name name) (from + 1) files) (found_from name files (from + 1))

-- what a search found
pub IsPlaceOf-from_position : (name : List ℕ) (files : List File) (found : Option ℕ) → found ≡ position (has_name name) files → MatchOption found (look_up files name ≡ None) (IsPlaceOf name files)
IsPlaceOf-from_position name files found is = plain found (subst (Found name files 0) (sym (is ∙ position_from-zero (has_name name) files)) (found_from name files 0))
  where
    plain : (o : Option ℕ) → Found name files 0 o → MatchOption o (look_up files name ≡ None) (IsPlaceOf name files)
    plain None none = none
    plain (Some place) some = subst (IsPlaceOf name files) (omega (arith, some.1)) some.2

pub place-lt : (name : List ℕ) (files : List File) (place : ℕ) → IsPlaceOf name files place → place < length files
place-lt name [] place h = absurd h
place-lt name (file ∷ files) zero h = omega arith
place-lt name (file ∷ files) (suc place) h = let rest = place-lt name files place h.1 in omega arith

-- the file at its place has the name, and is the one that counts
pub look_up-at : (name : List ℕ) (files : List File) (place : ℕ) (d : File) → IsPlaceOf name files place → look_up files name ≡ Some (get_or files place d).1
look_up-at name [] place d h = absurd h
look_up-at name (file ∷ files) zero d h = ap (λ b. cond b (Some file.1) (look_up files name)) h
look_up-at name (file ∷ files) (suc place) d h = ap (λ b. cond b (Some file.1) (look_up files name)) h.0 ∙ look_up-at name files place d h.1

pub name-at : (name : List ℕ) (files : List File) (place : ℕ) (d : File) → IsPlaceOf name files place → (get_or files place d).0 ≡ name
name-at name [] place d h = absurd h
name-at name (file ∷ files) zero d h = sym ((bytes_decides name file.0).0 h)
name-at name (file ∷ files) (suc place) d h = name-at name files place d h.1

pub IsPlaceOf-named : (name : List ℕ) (files : List File) (place : ℕ) → IsPlaceOf name files place → IsPlaceOf (file_at files place).0 files place
IsPlaceOf-named name files place h = subst (λ (other : List ℕ). IsPlaceOf other files place) (sym (name-at name files place ([], []) h)) h

-- ---- a file that is put in its place

over : (b c : Bool) (x y : List ℕ) (o : Option (List ℕ)) → c ≡ b → cond b (Some x) o ≡ cond b (Some x) (cond c (Some y) o)
over true c x y o is = refl
over false c x y o is = ap (λ b. cond b (Some y) o) (sym is)

apart : (b c : Bool) (x y : List ℕ) (o : Option (List ℕ)) → (b ≡ true → c ≡ true → ⊥) → cond c (Some y) (cond b (Some x) o) ≡ cond b (Some x) (cond c (Some y) o)
apart true true x y o differ = absurd (differ refl refl)
apart true false x y o differ = refl
apart false c x y o differ = refl

named : (a b : List ℕ) → pointwise nat_eq a b ≡ true → a ≡ b
named a b h = (bytes_decides a b).0 h

look_up-set-at : (name bytes : List ℕ) (files : List File) (place : ℕ) (other : List ℕ) → IsPlaceOf name files place
    → look_up (set files place (name, bytes)) other ≡ with_file name bytes (look_up files) other
look_up-set-at name bytes [] place other h = absurd h
look_up-set-at name bytes (file ∷ files) zero other h =
    over (pointwise nat_eq other name) (pointwise nat_eq other file.0) bytes file.1 (look_up files other) (ap (pointwise nat_eq other) (sym (named name file.0 h)))
look_up-set-at name bytes (file ∷ files) (suc place) other h =
    ap (cond (pointwise nat_eq other file.0) (Some file.1)) (look_up-set-at name bytes files place other h.1)
    ∙ apart (pointwise nat_eq other name) (pointwise nat_eq other file.0) bytes file.1 (look_up files other)
    (λ to_name to_file. false≢true (sym h.0 ∙ (bytes_decides name file.0).1 (sym (named other name to_name) ∙ named other file.0 to_file)))

pub look_up-set : (name bytes : List ℕ) (files : List File) (place : ℕ) → IsPlaceOf name files place → look_up (set files place (name, bytes)) ≡ with_file name bytes (look_up files)
look_up-set name bytes files place h = λ i. λ other. look_up-set-at name bytes files place other h i

-- ---- a file that is put behind the others

look_up-push-at : (name bytes : List ℕ) (files : List File) (other : List ℕ) → pointwise nat_eq other name ≡ false → look_up (files ++ (name, bytes) ∷ []) other ≡ look_up files other
look_up-push-at name bytes [] other differs = ap (λ b. cond b (Some bytes) None) differs
look_up-push-at name bytes (file ∷ files) other differs = ap (cond (pointwise nat_eq other file.0) (Some file.1)) (look_up-push-at name bytes files other differs)

pub with_file-push : (name bytes more : List ℕ) (files : List File) → with_file name more (look_up (files ++ (name, bytes) ∷ [])) ≡ with_file name more (look_up files)
with_file-push name bytes more files = λ i. λ other. at other (pointwise nat_eq other name) refl i
  where
    at : (other : List ℕ) (b : Bool) → pointwise nat_eq other name ≡ b → cond b (Some more) (look_up (files ++ (name, bytes) ∷ []) other) ≡ cond b (Some more) (look_up files other)
    at other true is = refl
    at other false is = look_up-push-at name bytes files other is

none_of_first : (name : List ℕ) (file : File) (files : List File) (b : Bool) → has_name name file ≡ b → look_up (file ∷ files) name ≡ None → (has_name name file ≡ false) × (look_up files name ≡ None)
none_of_first name file files true is h = absurd (none-some _ (sym h ∙ ap (λ b. cond b (Some file.1) (look_up files name)) is))
none_of_first name file files false is h = (is, sym (ap (λ b. cond b (Some file.1) (look_up files name)) is) ∙ h)

pub IsPlaceOf-push : (name bytes : List ℕ) (files : List File) → look_up files name ≡ None → IsPlaceOf name (files ++ (name, bytes) ∷ []) (length files)
IsPlaceOf-push name bytes [] h = (bytes_decides name name).1 refl
IsPlaceOf-push name bytes (file ∷ files) h = let none = none_of_first name file files (has_name name file) refl h in (none.0, IsPlaceOf-push name bytes files none.1)

-- a name has one first place
pub place-same : (name : List ℕ) (files : List File) (a b : ℕ) → IsPlaceOf name files a → IsPlaceOf name files b → a ≡ b
place-same name [] a b h g = absurd h
place-same name (file ∷ files) zero zero h g = refl
place-same name (file ∷ files) zero (suc b) h g = absurd (false≢true (sym g.0 ∙ h))
place-same name (file ∷ files) (suc a) zero h g = absurd (false≢true (sym h.0 ∙ g))
place-same name (file ∷ files) (suc a) (suc b) h g = ap suc (place-same name files a b h.1 g.1)

pub look_up-none : (name : List ℕ) (files : List File) (place : ℕ) → look_up files name ≡ None → IsPlaceOf name files place → ⊥
look_up-none name files place none h = none-some _ (sym none ∙ look_up-at name files place ([], []) h)
