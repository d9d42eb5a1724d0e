-- Histories of turns.
use Rattle.std.specs.Prelude.{◌≡◌, ℕ, ◌==◌, List, [], ◌∷◌, ◌++◌, if◌then◌else◌}
use Rattle.desk_lock.specs.declared.history.Entry.{Entry}

abbrev pub entry : {C R : Type 0} → ℕ → C → R → Entry C R
entry number call reply = record { number = number; call = call; reply = reply }

module _ {C R : Type 0} where
  -- no entry has such a number
  abbrev pub NoneIn : (ℕ → Type 0) → List (Entry C R) → Type 0
  NoneIn home [] = Unit {0}
  NoneIn home (e ∷ es) = ¬ (home e.number) × NoneIn home es

  -- `history` begins with `seen`
  abbrev pub Begins : List (Entry C R) → List (Entry C R) → Type 0
  Begins seen history = (more : List (Entry C R)) × (history ≡ seen ++ more)

  -- `later` begins with `seen`, and goes on with no entry of the home
  abbrev pub GoesOn : (ℕ → Type 0) → List (Entry C R) → List (Entry C R) → Type 0
  GoesOn home seen later = (more : List (Entry C R)) × (later ≡ seen ++ more) × NoneIn home more

  -- the calls of one number, in order
  abbrev pub calls_of : ℕ → List (Entry C R) → List (Entry C R)
  calls_of number [] = []
  calls_of number (e ∷ es) = if e.number == number then e ∷ calls_of number es else calls_of number es

module _ {T C R : Type 0} (step : T → C → R → T → Type 0) (may : T → ℕ → List (Entry C R) → C → Type 0) where
  -- after the entries `past` left x, these entries lead to y, each a step that its pass may make there
  abbrev pub LegalFrom : T → List (Entry C R) → T → List (Entry C R) → T → Type 0
  LegalFrom opened past x [] y = x ≡ y
  LegalFrom opened past x (e ∷ es) y = may opened e.number past e.call × ((z : T) × step x e.call e.reply z × LegalFrom opened (past ++ e ∷ []) z es y)

  -- from the state at the opening, these entries lead to y
  abbrev pub Legal : T → List (Entry C R) → T → Type 0
  Legal opened es y = LegalFrom opened [] opened es y

  -- the call may be made by some pass after some legal history that leads to x
  abbrev pub MayTurn : T → C → Type 0
  MayTurn x call = (opened : T) × (number : ℕ) × (past : List (Entry C R)) × Legal opened past x × may opened number past call
