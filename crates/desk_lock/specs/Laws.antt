-- The laws of histories, which functions with an empty body ensure.
use Rattle.std.specs.Prelude.{◌≡◌, ◌⊎◌, ◌↔◌, ◌<◌, ℕ, List, [], ◌∷◌, ◌++◌}
use Rattle.desk_lock.specs.declared.history.Entry.{Entry}
use Rattle.desk_lock.specs.declared.view.View.{View}
use Rattle.desk_lock.specs.History.{entry, Begins, GoesOn, calls_of, LegalFrom, Legal}
use Rattle.desk_lock.specs.Views.{InHome, Turned, kept_of, given_of, united}

module _ {T C R : Type 0} (step : T → C → R → T → Type 0) (may : T → ℕ → List (Entry C R) → C → Type 0) where
  -- A legal history with one more entry, which its pass may make, is legal.
  abbrev pub GrowsAtTheEnd : Type 0
  GrowsAtTheEnd = (opened : T) (history : List (Entry C R)) (x : T) (number : ℕ) (call : C) (reply : R) (y : T) → Legal step may opened history x
      → may opened number history call → step x call reply y → Legal step may opened (history ++ entry number call reply ∷ []) y

  -- The last entry of a legal history is a step from the state after the others, and its pass might make it.
  abbrev pub EndsWithAStep : Type 0
  EndsWithAStep = (opened : T) (history : List (Entry C R)) (e : Entry C R) (y : T) → Legal step may opened (history ++ e ∷ []) y → (x : T)
      × Legal step may opened history x × may opened e.number history e.call × step x e.call e.reply y

  -- A beginning of a legal history is legal, and the rest goes on from where it led.
  abbrev pub BeginningIsLegal : Type 0
  BeginningIsLegal = (opened : T) (seen more : List (Entry C R)) (y : T) → Legal step may opened (seen ++ more) y → (x : T)
      × Legal step may opened seen x × LegalFrom step may opened seen x more y

  -- After a turn the caller's calls are those before, and then this one.
  abbrev pub CallsStandOnce : Type 0
  CallsStandOnce = (opened : T) (v w : View T C R) (call : C) (reply : R) → v.low < v.high → Turned step may opened v call reply w
      → calls_of v.low w.seen ≡ calls_of v.low v.seen ++ entry v.low call reply ∷ []

module _ (C R : Type 0) where
  -- Of two beginnings of one history, one begins the other.
  abbrev pub OneBeginsTheOther : Type 0
  OneBeginsTheOther = (one other history : List (Entry C R)) → Begins one history → Begins other history → Begins one other ⊎ Begins other one

module _ (T C R : Type 0) where
  -- Where a history goes on with no entry of a pass's home, the calls of the home's numbers stay the same.
  abbrev pub CallsStay : Type 0
  CallsStay = (v : View T C R) (number : ℕ) (later : List (Entry C R)) → InHome v number → GoesOn (InHome v) v.seen later
      → calls_of number later ≡ calls_of number v.seen

  -- A split divides the home: the owned numbers from `at` on are the new pass's, and all others stay.
  abbrev pub HomesDivide : Type 0
  HomesDivide = (v : View T C R) (at n : ℕ) → v.low < at → at < v.high → InHome v n ↔ (InHome (kept_of at v) n ⊎ InHome (given_of at v) n)

  -- A join unites the homes.
  abbrev pub HomesUnite : Type 0
  HomesUnite = (v w : View T C R) (n : ℕ) → InHome (united v w) n ↔ (InHome v n ⊎ InHome w n)
