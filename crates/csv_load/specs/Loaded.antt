-- What reading a relation comes to.
use Rattle.std.specs.Prelude.{◌≡◌, ℕ, ⊤, List, ◌∷◌, Some, None}
use Rattle.rel_base.specs.declared.limits.Limits.{Limits}
use Rattle.rel_base.specs.declared.why.Why.{Why}
use Rattle.rel_base.specs.Cells.{Row}
use Rattle.rel_base.specs.Relation.{Content, IsContent}
use Rattle.csv_load.specs.Refusal.{IsWithin, refused_records}
use Rattle.csv_load.specs.declared.load.Loaded.{Loaded}
use Rattle.csv_load.specs.declared.load.Loaded.TheVariants.{Read, Refused, NoMemory}

-- a fact of the relation that was read
abbrev pub IfRead : Loaded → (Content → Type 0) → Type 0
IfRead (Read relation) P = P relation
IfRead (Refused rec why) P = ⊤
IfRead NoMemory P = ⊤

-- a fact of the record and the cause of a refusal
abbrev pub IfRefused : Loaded → (ℕ → Why → Type 0) → Type 0
IfRefused (Read relation) P = ⊤
IfRefused (Refused rec why) P = P rec why
IfRefused NoMemory P = ⊤

-- What reading these records as a relation comes to, under these limits: a refusal exactly where a rule refuses, or else
-- the relation whose names are the first record and whose rows are the others.
pub record ReadsAs (limits : Limits) (records : List Row) (reading : Loaded) : Type 0 where
  pub refused : IfRefused reading (λ rec why. refused_records limits records ≡ Some (rec, why))
  pub accepted : IfRead reading (λ relation. refused_records limits records ≡ None)
  pub content : IfRead reading (λ relation. records ≡ relation.names ∷ relation.rows)
  pub bounds : IfRead reading IsContent
  pub within : IfRead reading (IsWithin limits)
