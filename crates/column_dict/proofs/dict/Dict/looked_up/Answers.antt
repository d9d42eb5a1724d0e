use Rattle.std.proofs.Common.{◌≡◌, ◌<◌, ◌++◌, ◌∷◌, [], true, false, length, slice_get, Some, ap, ◌∙◌, sym, subst}
use Rattle.std.proofs.lemmas.Bool.{true≢false}
use Rattle.rel_base.specs.Cells.{Cell}
use Rattle.column_dict.specs.Coding.{Coding, is_fresh, is_new}
use Rattle.column_dict.specs.Layout.{nowhere, cells_at, IsLaid}
use Rattle.column_dict.proofs.Laid.{add-fresh, add-known}
use Rattle.column_dict.proofs.Coded.{either, both, neither, on_ok, if_ok, fewer, room, fresh-new, missing-new, found-old, same, grown, grown-at, new-code-of, old-code-of}
use Rattle.column_dict.proofs.dict.Dict.looked_up.Goals as goal
use Rattle.column_dict.proofs.dict.Dict.looked_up.Goals.{After-add_fresh, In-Some, After-add_known}
use Rattle.std.specs.Map.{keys_of}

is_fresh_null : (c : After-add_fresh) → is_fresh c.self.inside.nulls c.args.bytes.now ≡ true
is_fresh_null c = sym c.is_fresh.ensures ∙ c.if-is_fresh.true

room_for_null : (c : After-add_fresh) → length c.self.inside.places.items < nowhere
room_for_null c = room c.self.inside.nulls c.self.inside.known.entries c.self.inside.places.items c.args.self.now c.self.view_is c.requires

pub invariant_of-self : goal.invariant_of-self
invariant_of-self c =
    let old = c.self.invariant in (
      old.0,
      either c.add_fresh.result c.add_fresh.ensures.places c.add_fresh.ensures.refused
          (λ p. (add-fresh c.self.inside.nulls c.self.inside.known.entries c.self.inside.places.items c.args.bytes.now old.1 (room_for_null c) c.self.inside.known.entries c.add_fresh.new.places.items (is_fresh_null c) (λ i. c.self.inside.known.entries) p).1)
          (λ p. subst (IsLaid c.self.inside.nulls c.self.inside.known.entries) (sym p) old.1),
    )

pub returns-then-is_fresh-clause-cell : goal.returns-then-is_fresh-clause-cell
returns-then-is_fresh-clause-cell c =
    let old = c.self.invariant in
    if_ok _ _ c.add_fresh.result c.add_fresh.ensures.places c.add_fresh.ensures.code
    (λ v p k. grown-at c.self.inside.nulls c.self.inside.known.entries c.self.inside.places.items c.args.self.now c.self.view_is c.args.bytes.now c.self.inside.known.entries c.add_fresh.new.places.items v
    (add-fresh c.self.inside.nulls c.self.inside.known.entries c.self.inside.places.items c.args.bytes.now old.1 (room_for_null c) c.self.inside.known.entries c.add_fresh.new.places.items (is_fresh_null c) (λ i. c.self.inside.known.entries) p).0 k)

pub returns-then-is_fresh-clause-cells : goal.returns-then-is_fresh-clause-cells
returns-then-is_fresh-clause-cells c =
    let old = c.self.invariant in
    on_ok c.add_fresh.result c.add_fresh.ensures.places
    (λ p. grown c.self.inside.nulls c.self.inside.known.entries c.self.inside.places.items c.args.self.now c.self.view_is c.args.bytes.now c.self.inside.known.entries c.add_fresh.new.places.items
    (add-fresh c.self.inside.nulls c.self.inside.known.entries c.self.inside.places.items c.args.bytes.now old.1 (room_for_null c) c.self.inside.known.entries c.add_fresh.new.places.items (is_fresh_null c) (λ i. c.self.inside.known.entries) p).0
    (fresh-new c.self.inside.nulls c.self.inside.known.entries c.self.inside.places.items c.args.self.now c.self.view_is c.args.bytes.now (is_fresh_null c)))

pub returns-then-is_fresh-clause-agrees : goal.returns-then-is_fresh-clause-agrees
returns-then-is_fresh-clause-agrees c =
    if_ok _ _ c.add_fresh.result c.add_fresh.ensures.places c.add_fresh.ensures.code
    (λ v p k. new-code-of c.self.inside.nulls c.self.inside.known.entries c.self.inside.places.items c.args.self.now c.self.view_is c.args.bytes.now v
    (fresh-new c.self.inside.nulls c.self.inside.known.entries c.self.inside.places.items c.args.self.now c.self.view_is c.args.bytes.now (is_fresh_null c)) k)

-- the cell was there
there : (c : In-Some) → (is_new c.args.self.now c.args.bytes.now ≡ false) × (slice_get c.args.self.now.cells c.in-Some.code ≡ Some c.args.bytes.now)
there c =
    let old = c.self.invariant in
    found-old c.self.inside.nulls c.self.inside.known.entries c.self.inside.places.items c.args.self.now c.self.view_is c.args.bytes.now c.in-Some.code old.1
    (sym c.in_ok-code.ensures.code ∙ c.in-Some.is) (sym c.is_fresh.ensures ∙ c.if-is_fresh.false)

pub returns-in-Some-clause-cell : goal.returns-in-Some-clause-cell
returns-in-Some-clause-cell c = ap (λ (d : Coding). slice_get d.cells c.in-Some.code) c.self.view_is ∙ (there c).1

pub returns-in-Some-clause-cells : goal.returns-in-Some-clause-cells
returns-in-Some-clause-cells c =
    c.self.view_is ∙ same c.self.inside.nulls c.self.inside.known.entries c.self.inside.places.items c.args.self.now c.self.view_is c.args.bytes.now (there c).0

pub returns-in-Some-clause-last : goal.returns-in-Some-clause-last
returns-in-Some-clause-last c n = absurd (true≢false (sym n ∙ (there c).0))

pub returns-in-Some-clause-agrees : goal.returns-in-Some-clause-agrees
returns-in-Some-clause-agrees c =
    let old = c.self.invariant in
    old-code-of c.self.inside.nulls c.self.inside.known.entries c.self.inside.places.items c.args.self.now c.self.view_is c.args.bytes.now c.in-Some.code old.1
    c.in_ok-code.ensures.unique (sym c.is_fresh.ensures ∙ c.if-is_fresh.false) (there c).1

-- the cell is new
pub add_known-requires-clause-fewer : goal.add_known-requires-clause-fewer
add_known-requires-clause-fewer c = let old = c.self.invariant in fewer c.self.inside.nulls c.self.inside.known.entries c.self.inside.places.items old.1

not_fresh : (c : After-add_known) → is_fresh c.self.inside.nulls c.args.bytes.now ≡ false
not_fresh c = sym c.is_fresh.ensures ∙ c.if-is_fresh.false

copied : (c : After-add_known) → c.in_ok-cell.cell ≡ c.args.bytes.now
copied c = c.in_ok-cell.ensures

added : (c : After-add_known) → c.add_known.new.known.entries ≡ c.self.inside.known.entries ++ (c.in_ok-cell.cell, length c.self.inside.places.items) ∷ []
    → c.add_known.new.places.items ≡ c.self.inside.places.items ++ length c.self.inside.known.entries ∷ []
    → (cells_at (keys_of c.add_known.new.known.entries) c.add_known.new.places.items ≡ cells_at (keys_of c.self.inside.known.entries) c.self.inside.places.items ++ c.args.bytes.now ∷ [])
    × IsLaid c.self.inside.nulls c.add_known.new.known.entries c.add_known.new.places.items
added c e p =
    let old = c.self.invariant in
    add-known c.self.inside.nulls c.self.inside.known.entries c.self.inside.places.items c.args.bytes.now old.1
    (room c.self.inside.nulls c.self.inside.known.entries c.self.inside.places.items c.args.self.now c.self.view_is c.requires)
    c.add_known.new.known.entries c.add_known.new.places.items (not_fresh c)
    (e ∙ ap (λ (x : Cell). c.self.inside.known.entries ++ (x, length c.self.inside.places.items) ∷ []) (copied c)) p

is_new_cell : (c : After-add_known) → is_new c.args.self.now c.args.bytes.now ≡ true
is_new_cell c =
    let old = c.self.invariant in
    missing-new c.self.inside.nulls c.self.inside.known.entries c.self.inside.places.items c.args.self.now c.self.view_is c.args.bytes.now old.1
    (sym c.in_ok-code.ensures.code ∙ c.in_default.is) (not_fresh c)

pub invariant_of-self-2 : goal.invariant_of-self-2
invariant_of-self-2 c =
    let old = c.self.invariant in (
      old.0,
      either c.add_known.result (both _ _ c.add_known.result c.add_known.ensures.entries c.add_known.ensures.places) (neither _ _ c.add_known.result c.add_known.ensures.entries_refused c.add_known.ensures.places_refused)
          (λ p. (added c p.0 p.1).1)
          (λ p. let h : IsLaid c.self.inside.nulls c.self.inside.known.entries c.add_known.new.places.items = subst (IsLaid c.self.inside.nulls c.self.inside.known.entries) (sym p.1) old.1 in
          subst (λ es. IsLaid c.self.inside.nulls es c.add_known.new.places.items) (sym p.0) h),
    )

pub returns-clause-cell : goal.returns-clause-cell
returns-clause-cell c =
    if_ok _ _ c.add_known.result (both _ _ c.add_known.result c.add_known.ensures.entries c.add_known.ensures.places) c.add_known.ensures.code
    (λ v p k. grown-at c.self.inside.nulls c.self.inside.known.entries c.self.inside.places.items c.args.self.now c.self.view_is c.args.bytes.now c.add_known.new.known.entries c.add_known.new.places.items v (added c p.0 p.1).0 k)

pub returns-clause-cells : goal.returns-clause-cells
returns-clause-cells c =
    on_ok c.add_known.result (both _ _ c.add_known.result c.add_known.ensures.entries c.add_known.ensures.places)
    (λ p. grown c.self.inside.nulls c.self.inside.known.entries c.self.inside.places.items c.args.self.now c.self.view_is c.args.bytes.now c.add_known.new.known.entries c.add_known.new.places.items (added c p.0 p.1).0
    (is_new_cell c))

pub returns-clause-agrees : goal.returns-clause-agrees
returns-clause-agrees c =
    if_ok _ _ c.add_known.result (both _ _ c.add_known.result c.add_known.ensures.entries c.add_known.ensures.places) c.add_known.ensures.code
    (λ v p k. new-code-of c.self.inside.nulls c.self.inside.known.entries c.self.inside.places.items c.args.self.now c.self.view_is c.args.bytes.now v (is_new_cell c) k)
