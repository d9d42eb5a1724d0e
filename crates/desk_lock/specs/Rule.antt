-- The rule of a desk, which holds between any two steps.
use Rattle.std.specs.Prelude.{◌≡◌, ℕ, ◌+◌, ◌-◌, ◌%◌, ◌<◌, ◌≤◌, Bool, true, false, List, [], ◌∷◌, length, slice_index, Option, Some, None}
use mathlib.Core.Option.{some}
use lib.ListN.{get_elem?}
use Rattle.atomic_table.specs.Table.{State}
use Rattle.desk_lock.specs.declared.history.Entry.{Entry}
use Rattle.desk_lock.specs.declared.view.View.{View}
use Rattle.desk_lock.specs.declared.view.Heard.{Heard}
use Rattle.desk_lock.specs.declared.view.Terms.{Terms}
use Rattle.desk_lock.specs.declared.view.Stage.{Stage}
use Rattle.desk_lock.specs.declared.view.Stage.TheVariants.{Idle, Drawn, Served}
use Rattle.desk_lock.specs.History.{NoneIn, GoesOn, Legal}
use Rattle.desk_lock.specs.Views.{Among, Home, InHome, IsUnborne}

-- the weights of the items, added up
abbrev pub total : {A : Type 0} → (A → ℕ) → List A → ℕ
total g [] = 0
total g (x ∷ xs) = g x + total g xs

module _ {C : Type 0} where
  -- how many tickets are out there
  abbrev pub out : Stage C → ℕ
  out Idle = 0
  out (Drawn t call) = 1
  out (Served t call) = 1

  -- a pass that makes a call takes the state
  abbrev pub takes_state : Option C → Bool
  takes_state None = false
  takes_state (Some call) = true

module _ {C R : Type 0} where
  -- A ticket that is out is one from the word served to below the next ticket, and its seat's alone.
  -- The first of them may be served: then its pass has seen the whole history, and the state is out with it if it makes a call
  abbrev pub Stands : List (Entry C R) → ℕ → Bool → (ℕ → ℕ) → ℕ → List (Entry C R) → Stage C → Type 0
  Stands history drawn away owner seat seen Idle = Unit {0}
  Stands history drawn away owner seat seen (Drawn t call) = (length history ≤ t) × (t < drawn) × (owner t ≡ seat) × (t ≡ length history → away ≡ false)
  Stands history drawn away owner seat seen (Served t call) = (length history ≡ t) × (t < drawn) × (owner t ≡ seat) × (away ≡ takes_state call) × (seen ≡ history)

  -- what was heard is a beginning of the history too, and its numbers are the seat's now, but none that it owns
  pub record Hears (history : List (Entry C R)) (home_of : ℕ → ℕ) (seat low high : ℕ) (h : Heard C R) : Type 0 where
    pub begins : GoesOn (Home h.low h.high h.joined) h.seen history
    pub homes : (n : ℕ) → Home h.low h.high h.joined n → home_of n ≡ seat
    pub apart : (n : ℕ) → Home h.low h.high h.joined n → low ≤ n → n < high → ⊥

module _ {T C R : Type 0} where
  abbrev pub tickets : View T C R → ℕ
  tickets v = out v.stage

  abbrev pub owned : View T C R → ℕ
  owned v = v.high - v.low

  module _ (opened : T) (passes : ℕ) (history : List (Entry C R)) (drawn : ℕ) (away : Bool) (owner home_of : ℕ → ℕ) (seat : ℕ) where
    pub record Knows (v : View T C R) : Type 0 where
      -- a pass that is gone owns nothing, and is excepted
      pub opened_is : v.low < v.high → v.opened ≡ Some opened
      pub inside : v.high ≤ passes
      pub stands : Stands history drawn away owner seat v.seen v.stage
      -- what was seen is a beginning of the history, which goes on with no entry of the home
      pub begins : GoesOn (InHome v) v.seen history
      -- homes are disjoint: each number has one seat
      pub homes : (n : ℕ) → InHome v n → home_of n ≡ seat
      pub apart : (n : ℕ) → Among n v.joined → v.low ≤ n → n < v.high → ⊥
      -- numbers that are not yet borne have no entry
      pub unborne : NoneIn (IsUnborne v) history
      -- a ticket is drawn by who owns a number
      pub armed : tickets v ≤ owned v
      pub heard : (h : Heard C R) → v.heard ≡ Some h → Hears history home_of seat v.low v.high h

  module _ (step : T → C → R → T → Type 0) (may : T → ℕ → List (Entry C R) → C → Type 0) where
    pub record Kept (key : Terms T) (s : State T (View T C R)) : Type 0 where
      pub history : List (Entry C R)
      -- the state after it
      pub state : T
      -- how many tickets were drawn, and whether the state is out
      pub drawn : ℕ
      pub away : Bool
      -- the seat of each ticket, and of each number
      pub owner : ℕ → ℕ
      pub home_of : ℕ → ℕ
      pub wide : length s.words ≡ 2
      pub deep : length s.homes ≡ 1
      pub legal : Legal step may key.opened.value history state
      pub numbered : NoneIn (λ n. key.passes ≤ n) history
      -- the words count modulo 2^64
      pub ticket_is : slice_index s.words 0 ≡ drawn % 18446744073709551616
      pub serving_is : slice_index s.words 1 ≡ length history % 18446744073709551616
      -- every ticket from the word served to below the next stands in one view, and there are at most 64 passes
      pub counted : total tickets s.views + length history ≡ drawn
      pub few : total owned s.views ≤ 64
      pub away_out : away ≡ true → length history < drawn
      pub at_home : away ≡ false → get_elem? s.homes 0 ≡ some (some state)
      pub each_seat : (j : ℕ) (v : View T C R) → get_elem? s.views j ≡ some v → Knows key.opened.value key.passes history drawn away owner home_of j v
