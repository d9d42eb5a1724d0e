-- Files that are read, and how.
use Rattle.std.specs.Prelude.{◌++◌, ℕ, List, [], ◌∷◌, map}
use Rattle.std.specs.List.{flat_map}
use Rattle.task_base.specs.declared.reads.ReadAs.{ReadAs}
use Rattle.task_base.specs.declared.reads.ReadAs.TheVariants.{Relation, Text}

-- the name of a file, and how it is read
abbrev pub Reading : Type 0
Reading = List ℕ × ReadAs

-- what stands for a file that there is none of
abbrev pub no_reading : Reading
no_reading = ([], Relation)

-- relations, and behind them texts, in this order
abbrev pub readings : List (List ℕ) → List (List ℕ) → List Reading
readings relations texts = map (λ name. (name, Relation)) relations ++ map (λ name. (name, Text)) texts

-- a name, if the file is read as a relation, or as a text
abbrev pub if_relation : {X : Type 0} → ReadAs → X → List X
if_relation Relation x = x ∷ []
if_relation Text x = []

abbrev pub if_text : {X : Type 0} → ReadAs → X → List X
if_text Relation x = []
if_text Text x = x ∷ []

-- the names of the relations, and of the texts
abbrev pub relation_names : List Reading → List (List ℕ)
relation_names reads = flat_map (λ r. if_relation r.1 r.0) reads

abbrev pub text_names : List Reading → List (List ℕ)
text_names reads = flat_map (λ r. if_text r.1 r.0) reads
