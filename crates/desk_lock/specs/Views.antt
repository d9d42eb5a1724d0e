-- What a pass knows, and what each step tells it.
use Rattle.std.specs.Prelude.{◌≡◌, ◌≢◌, ◌⊎◌, ℕ, ◌%◌, ◌<◌, ◌≤◌, List, [], ◌∷◌, ◌++◌, length, Option, Some, None, nat_lt, if◌then◌else◌}
use Rattle.atomic_table.specs.Table.{Me, Step, rest}
use Rattle.desk_lock.specs.declared.history.Entry.{Entry}
use Rattle.desk_lock.specs.declared.view.View.{View}
use Rattle.desk_lock.specs.declared.view.Heard.{Heard}
use Rattle.desk_lock.specs.declared.view.Stage.{Stage}
use Rattle.desk_lock.specs.declared.view.Stage.TheVariants.{Idle, Drawn, Served}
use Rattle.desk_lock.specs.History.{entry, NoneIn, GoesOn, Legal}

-- the number lies in one of the ranges
abbrev pub Among : ℕ → List (ℕ × ℕ) → Type 0
Among n [] = ⊥
Among n (r ∷ rs) = ((r.0 ≤ n) × (n < r.1)) ⊎ Among n rs

abbrev pub Home : ℕ → ℕ → List (ℕ × ℕ) → ℕ → Type 0
Home low high joined n = ((low ≤ n) × (n < high)) ⊎ Among n joined

-- of two histories, one of which begins the other, the longer
abbrev pub longer : {C R : Type 0} → List (Entry C R) → List (Entry C R) → List (Entry C R)
longer xs ys = if nat_lt (length xs) (length ys) then ys else xs

-- a seat: what it knows, and the slots that it has taken
abbrev pub Sat : Type 0 → Type 0 → Type 0 → Type 0
Sat T C R = Me T (View T C R)

abbrev pub At : Type 0 → Type 0
At T = Step T

-- where a call is made, the state is taken from the slot
abbrev pub with_state : {T C : Type 0} → Option C → T → List (ℕ × T) → List (ℕ × T)
with_state None x taken = taken
with_state (Some call) x taken = (0, x) ∷ taken

module _ {T C R : Type 0} where
  -- the number is one that the pass owns, or of the home of a pass that was joined into it
  abbrev pub InHome : View T C R → ℕ → Type 0
  InHome v = Home v.low v.high v.joined

  -- the pass owns the number, and bears another
  abbrev pub IsUnborne : View T C R → ℕ → Type 0
  IsUnborne v n = (v.low < n) × (n < v.high)

  abbrev pub at_stage : Stage C → View T C R → View T C R
  at_stage g v = record v { stage = g }

  abbrev pub seeing : List (Entry C R) → View T C R → View T C R
  seeing more v = record v { seen = v.seen ++ more }

  -- a pass with these numbers, which makes no call now
  abbrev pub fresh : Option T → ℕ → ℕ → List (Entry C R) → View T C R
  fresh opened low high seen = record { stage = Idle; opened = opened; low = low; high = high; joined = []; seen = seen; heard = None }

  -- a pass that was joined into another
  abbrev pub gone : View T C R
  gone = fresh None 0 0 []

  -- the numbers from `at` on go to another pass
  abbrev pub kept_of : ℕ → View T C R → View T C R
  kept_of at v = record v { high = at }

  -- the other pass bears `at`, and has seen as much
  abbrev pub given_of : ℕ → View T C R → View T C R
  given_of at v = fresh v.opened at v.high v.seen

  abbrev pub hearing : View T C R → View T C R → View T C R
  hearing v w = let h : Heard C R = record { low = w.low; high = w.high; joined = w.joined; seen = w.seen } in record v { heard = Some h }

  -- what was heard belongs to it
  abbrev pub met : View T C R → Heard C R → View T C R
  met v h = record v { joined = v.joined ++ (h.low, h.high) ∷ h.joined; seen = longer v.seen h.seen; heard = None }

  -- the two are one pass, which has seen the longer of the two histories, and has the numbers of both
  abbrev pub united : View T C R → View T C R → View T C R
  united v w = record v { joined = v.joined ++ (w.low, w.high) ∷ w.joined; seen = longer v.seen w.seen }

  -- a ticket was drawn for the call
  abbrev pub drew : Option C → At T → Sat T C R → ℕ → Sat T C R → Type 0
  drew call st m r n = (t : ℕ) × (n ≡ (at_stage (Drawn t call) m.0, m.1)) × (r ≡ t % 18446744073709551616)

  module _ (step : T → C → R → T → Type 0) (may : T → ℕ → List (Entry C R) → C → Type 0) where
    -- the whole history was seen, which leaves x, and x was taken if there is a call
    abbrev pub Took : ℕ → Option C → Sat T C R → Sat T C R → Type 0
    Took t call m n = (more : List (Entry C R)) × (x : T) × (n ≡ (seeing more (at_stage (Served t call) m.0), with_state call x m.1))
        × NoneIn (InHome m.0) more × ((o : T) → m.0.opened ≡ Some o → Legal step may o (m.0.seen ++ more) x)

    -- where the word served is the ticket, it is served; else nothing changed
    abbrev pub reached : At T → Sat T C R → ℕ → Sat T C R → Type 0
    reached st m r n = (t : ℕ) (call : Option C) → m.0.stage ≡ Drawn t call
        → (r ≡ t % 18446744073709551616 → Took t call m n) × (r ≢ t % 18446744073709551616 → n ≡ m)

    -- the call was made: the history that is now seen is legal, begins with all that was seen and ends with this call,
    -- and between them nobody of the home made one
    abbrev pub Turned : T → View T C R → C → R → View T C R → Type 0
    Turned opened v call reply w = (between : List (Entry C R)) × (x : T) × (w ≡ seeing (between ++ entry v.low call reply ∷ []) v)
        × NoneIn (InHome v) between × Legal step may opened w.seen x

  -- the state was given back, and the history has this entry more
  abbrev pub left : Option R → At T → Sat T C R → ℕ → Sat T C R → Type 0
  left said st m r n = (t : ℕ) (call : C) (reply : R) → m.0.stage ≡ Served t (Some call) → said ≡ Some reply
      → n ≡ (seeing (entry m.0.low call reply ∷ []) (at_stage Idle m.0), rest m.1)

  -- what was heard is seen now, and both goes on from what either had seen
  abbrev pub Listens : Sat T C R → Sat T C R → Type 0
  Listens m n = (h : Heard C R) → m.0.heard ≡ Some h
      → (n ≡ (met m.0 h, m.1)) × GoesOn (InHome m.0) m.0.seen (longer m.0.seen h.seen) × GoesOn (Home h.low h.high h.joined) h.seen (longer m.0.seen h.seen)

  abbrev pub listened : At T → Sat T C R → ℕ → Sat T C R → Type 0
  listened st m r n = Listens m n
