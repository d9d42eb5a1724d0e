-- What a clause says of a desk and of its passes.
use Rattle.std.specs.Prelude.{◌≡◌, ◌<◌, ◌≤◌, ℕ, List, Some, None, []}
use Rattle.atomic_table.specs.declared.shared.Seat.{Seat}
use Rattle.desk_lock.specs.declared.history.Entry.{Entry}
use Rattle.desk_lock.specs.declared.view.View.{View}
use Rattle.desk_lock.specs.declared.view.Stage.TheVariants.{Idle}
use Rattle.desk_lock.specs.declared.desk.TicketDesk.{TicketDesk}
use Rattle.desk_lock.specs.History.{NoneIn, Legal}
use Rattle.desk_lock.specs.Views.{IsUnborne}

module _ {T C R : Type 0} where
  -- what the pass knows
  abbrev pub view : Seat T (View T C R) → View T C R
  view p = p.me.0

  abbrev pub IsSamePass : Seat T (View T C R) → Seat T (View T C R) → Type 0
  IsSamePass p q = (q.table_id ≡ p.table_id) × (q.id ≡ p.id)

module _ {T K C R : Type 0} where
  -- the state that the desk was opened with
  abbrev pub opened : TicketDesk T K C R → T
  opened desk = desk.table.shared.key.opened.value

  -- how many numbers it has
  abbrev pub passes : TicketDesk T K C R → ℕ
  passes desk = desk.table.shared.key.passes

  -- it is a pass of this desk, bears a number, and makes no call now
  pub record IsPassOf (desk : TicketDesk T K C R) (p : Seat T (View T C R)) : Type 0 where
    pub of_desk : p.table_id ≡ desk.table.shared.table_id
    pub empty_handed : p.me.1 ≡ []
    pub idle : p.me.0.stage ≡ Idle
    pub bears : p.me.0.low < p.me.0.high
    pub from : p.me.0.opened ≡ Some (opened desk)
    pub heard : p.me.0.heard ≡ None
    -- numbers that it owns and does not bear have no entry
    pub unborne : NoneIn (IsUnborne p.me.0) p.me.0.seen

  module _ (step : T → C → R → T → Type 0) (may : T → ℕ → List (Entry C R) → C → Type 0) where
    -- the history, by the desk's numbers alone, leads to x
    pub record IsEnd (desk : TicketDesk T K C R) (history : List (Entry C R)) (x : T) : Type 0 where
      pub legal : Legal step may (opened desk) history x
      pub numbered : NoneIn (λ n. passes desk ≤ n) history
