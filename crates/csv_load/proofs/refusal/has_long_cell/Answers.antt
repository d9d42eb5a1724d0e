use Rattle.std.proofs.Common.{◌≡◌, ◌<◌, ◌≤◌, ◌+◌, ◌∙◌, refl, sym, arith, ℕ, List, [], true, length, drop, get_or}
use Rattle.std.proofs.lemmas.Bool.{le-ltb, lt-ltb}
use Rattle.std.proofs.lemmas.List.{drop_more}
use Rattle.csv.specs.Records.{fields_of}
use Rattle.csv_load.specs.Refusal.{has_long_cell}
use Rattle.rel_base.proofs.Fields.{field-there, field-now}
use Rattle.csv_load.proofs.refusal.has_long_cell.Goals as goal
use Rattle.csv_load.proofs.refusal.has_long_cell.Goals.{After-get}

-- a cell that is too long, before others
long_cell : (limit : ℕ) (cells : List (List ℕ)) (place : ℕ) (cell : List ℕ) → place < length cells → cell ≡ get_or cells place [] → limit < length cell
    → has_long_cell limit (drop place cells) ≡ true
long_cell limit cells place cell there is long = rw (drop_more cells place [] there, ← is, lt-ltb limit (length cell) long) refl

-- a cell that is not, before others
short_cell : (limit : ℕ) (cells : List (List ℕ)) (place : ℕ) (cell : List ℕ) → place < length cells → cell ≡ get_or cells place [] → length cell ≤ limit
    → has_long_cell limit (drop place cells) ≡ has_long_cell limit (drop (place + 1) cells)
short_cell limit cells place cell there is short = rw (drop_more cells place [] there, ← is, le-ltb limit (length cell) short) refl

below : (c : After-get) → c.loop-place.place < length (fields_of c.args.fields.now)
below c = omega (arith, c.len-place-end.ensures, c.loop-place-test.true)

pub unwrap-cell-requires : goal.unwrap-cell-requires
unwrap-cell-requires c = field-there c.get.result (fields_of c.args.fields.now) c.loop-place.place (below c) c.get.ensures.value

pub returns-then-cell-limit : goal.returns-then-cell-limit
returns-then-cell-limit c =
    let there : c.loop-place.place < length (fields_of c.args.fields.now) = omega (arith, c.len-place-end.ensures) in
    let is = field-now c.get.result c.unwrap-cell.result (fields_of c.args.fields.now) c.loop-place.place c.unwrap-cell.ensures there c.get.ensures.value in
    sym (c.loop-place.invariant ∙ long_cell c.args.limit (fields_of c.args.fields.now) c.loop-place.place c.unwrap-cell.result.now there is c.if-cell-limit.true)

pub loop-place-preserved : goal.loop-place-preserved
loop-place-preserved c =
    let there : c.loop-place.place < length (fields_of c.args.fields.now) = omega (arith, c.len-place-end.ensures) in
    let is = field-now c.get.result c.unwrap-cell.result (fields_of c.args.fields.now) c.loop-place.place c.unwrap-cell.ensures there c.get.ensures.value in
    c.loop-place.invariant ∙ short_cell c.args.limit (fields_of c.args.fields.now) c.loop-place.place c.unwrap-cell.result.now there is c.if-cell-limit.false
