-- A pass stays a pass of its desk.
use Rattle.std.proofs.Common.{◌≡◌, ◌<◌, ◌≤◌, ◌⊎◌, ℕ, List, [], ◌∷◌, ◌++◌, Bool, true, false, length, sym, refl, ap, ◌∙◌, subst, Some, None, inl, inr, arith, nat_lt}
use Rattle.atomic_table.specs.declared.shared.Seat.{Seat}
use Rattle.desk_lock.specs.declared.history.Entry.{Entry}
use Rattle.desk_lock.specs.declared.view.View.{View}
use Rattle.desk_lock.specs.declared.desk.TicketDesk.{TicketDesk}
use Rattle.desk_lock.specs.History.{entry, NoneIn, GoesOn}
use Rattle.desk_lock.specs.Views.{Sat, InHome, IsUnborne, longer, Turned, kept_of, given_of, united}
use Rattle.desk_lock.specs.Passes.{view, opened, IsPassOf}
use Rattle.desk_lock.proofs.Histories.{none-append, none-snoc, none-narrower}

-- the parts of what a seat has
module _ {T C R : Type 0} (m : Sat T C R) (w : View T C R) (l : List (ℕ × T)) (is : m ≡ (w, l)) where
  pub view_is : m.0 ≡ w
  view_is = ap (λ (n : Sat T C R). n.0) is

  pub stage_is : m.0.stage ≡ w.stage
  stage_is = ap (λ (n : Sat T C R). n.0.stage) is

  pub heard_is : m.0.heard ≡ w.heard
  heard_is = ap (λ (n : Sat T C R). n.0.heard) is

  pub hand_is : m.1 ≡ l
  hand_is = ap (λ (n : Sat T C R). n.1) is

module _ {T K C R : Type 0} (desk : TicketDesk T K C R) where
  abbrev Token : Type 0
  Token = Seat T (View T C R)

  abbrev V : Type 0
  V = View T C R

  -- another view, of which the same holds
  pub is_pass : (q : Token) (w : V) → q.table_id ≡ desk.table.shared.table_id → q.me.1 ≡ [] → q.me.0 ≡ w → w.stage ≡ Rattle.desk_lock.specs.declared.view.Stage.TheVariants.Idle → w.low < w.high → w.opened ≡ Some (opened desk) → w.heard ≡ None → NoneIn (IsUnborne w) w.seen → IsPassOf desk q
  is_pass q w of none is idle bears from heard unborne = record {
    of_desk = of;
    empty_handed = none;
    idle = ap (λ (v : V). v.stage) is ∙ idle;
    bears = subst (λ (v : V). v.low < v.high) (sym is) bears;
    from = ap (λ (v : V). v.opened) is ∙ from;
    heard = ap (λ (v : V). v.heard) is ∙ heard;
    unborne = subst (λ (v : V). NoneIn (IsUnborne v) v.seen) (sym is) unborne;
  }

  unborne_home : (v : V) (n : ℕ) → IsUnborne v n → InHome v n
  unborne_home v n i = let lt = i.0 in inl (omega arith, i.1)

  pub turned_pass : (taken : T → C → R → T → Type 0) (may : T → ℕ → List (Entry C R) → C → Type 0) (o : T) (p q : Token) (call : C) (reply : R) → IsPassOf desk p → q.table_id ≡ p.table_id → q.me.1 ≡ [] → Turned taken may o (view p) call reply (view q) → IsPassOf desk q
  turned_pass taken may o p q call reply own same none t = let v : V = view p in is_pass q _ (same ∙ own.of_desk) none t.2 own.idle own.bears own.from own.heard
      (none-append (IsUnborne v) v.seen (t.0 ++ entry v.low call reply ∷ []) own.unborne
      (none-snoc (IsUnborne v) t.0 (entry v.low call reply) (none-narrower (InHome v) (IsUnborne v) t.0 (unborne_home v) t.3) (λ i. (let lt = i.0 in omega arith))))

  pub kept_pass : (p q : Token) (at : ℕ) → IsPassOf desk p → q.table_id ≡ p.table_id → q.me.1 ≡ [] → view q ≡ kept_of at (view p) → (view p).low < at → at < (view p).high → IsPassOf desk q
  kept_pass p q at own same none is above below = is_pass q (kept_of at (view p)) (same ∙ own.of_desk) none is own.idle above own.from own.heard
      (none-narrower (IsUnborne (view p)) (IsUnborne (kept_of at (view p))) (view p).seen (λ n i. (let under = i.1 in (i.0, omega arith))) own.unborne)

  pub given_pass : (p q : Token) (at : ℕ) → IsPassOf desk p → q.table_id ≡ p.table_id → q.me.1 ≡ [] → view q ≡ given_of at (view p) → (view p).low < at → at < (view p).high → IsPassOf desk q
  given_pass p q at own same none is above below = is_pass q (given_of at (view p)) (same ∙ own.of_desk) none is refl below own.from refl
      (none-narrower (IsUnborne (view p)) (IsUnborne (given_of at (view p))) (view p).seen (λ n i. (let over = i.0 in (omega arith, i.1))) own.unborne)

  -- no call by a number of the new pass was made
  pub given_unborne : (p : Token) (w : V) (at : ℕ) → IsPassOf desk p → w ≡ given_of at (view p) → (view p).low < at → NoneIn (InHome w) w.seen
  given_unborne p w at own is above = subst (λ (v : V). NoneIn (InHome v) v.seen) (sym is)
      (none-narrower (IsUnborne (view p)) (InHome (given_of at (view p))) (view p).seen (λ n. Rattle.std.proofs.Common.⊎_elim (λ i. (let over = i.0 in (omega arith, i.1))) (λ i. absurd i)) own.unborne)

  pub united_pass : (p q : Token) (w : V) → IsPassOf desk p → q.table_id ≡ p.table_id → q.me.1 ≡ [] → view q ≡ united (view p) w → GoesOn (InHome (view p)) (view p).seen (longer (view p).seen w.seen) → IsPassOf desk q
  united_pass p q w own same none is on = let v : V = view p in is_pass q (united v w) (same ∙ own.of_desk) none is own.idle own.bears own.from own.heard
      (subst (NoneIn (IsUnborne v)) (sym on.1) (none-append (IsUnborne v) v.seen on.0 own.unborne (none-narrower (InHome v) (IsUnborne v) on.0 (unborne_home v) on.2)))
