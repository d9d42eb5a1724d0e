-- Files that are read as relations alone.
use Rattle.std.proofs.Common.{◌≡◌, ◌∙◌, ℕ, zero, suc, refl, ap, List, [], ◌∷◌, length, get_or, map, append-nil}
use Rattle.std.proofs.lemmas.List.{length-map}
use Rattle.task_base.specs.Reading.{Reading, no_reading, readings, relation_names}
use Rattle.task_base.specs.declared.reads.ReadAs.TheVariants.{Relation}

-- their names
names_alone : (names : List (List ℕ)) → relation_names (map (λ name. (name, Relation)) names) ≡ names
names_alone [] = refl
names_alone (x ∷ names) = ap (λ (xs : List (List ℕ)). x ∷ xs) (names_alone names)

pub relation_names-alone : (names : List (List ℕ)) → relation_names (readings names []) ≡ names
relation_names-alone names = ap relation_names (append-nil (map (λ name. (name, Relation)) names)) ∙ names_alone names

pub length-alone : (names : List (List ℕ)) → length (readings names []) ≡ length names
length-alone names = ap (λ (rs : List Reading). length rs) (append-nil (map (λ name. (name, Relation)) names)) ∙ length-map names (λ name. (name, Relation))

-- the name at a place
name_alone : (names : List (List ℕ)) (place : ℕ) → (get_or (map (λ name. (name, Relation)) names) place no_reading).0 ≡ get_or names place []
name_alone [] place = refl
name_alone (x ∷ names) zero = refl
name_alone (x ∷ names) (suc place) = name_alone names place

pub name-alone : (names : List (List ℕ)) (place : ℕ) → (get_or (readings names []) place no_reading).0 ≡ get_or names place []
name-alone names place = ap (λ (rs : List Reading). (get_or rs place no_reading).0) (append-nil (map (λ name. (name, Relation)) names)) ∙ name_alone names place
