use Rattle.std.proofs.Common.{◌≡◌, ℕ, ◌+◌, ◌&&◌, ◌∙◌, sym, ap, true}
use Rattle.std.proofs.lemmas.Bool.{and_parts}
use Rattle.col_set.specs.ColSet.{subset, minus, all}
use Rattle.least_sets.proofs.Drafting.{KnownSoFar, known_none, known_told, known_same, known_enough}
use Rattle.least_sets.proofs.filing.known_by.Goals as goal

pub loop-w-init : goal.loop-w-init
loop-w-init c = known_none c.args.columns c.args.z c.empty.result c.empty.ensures

pub loop-w-preserved-then-not-subset_of : goal.loop-w-preserved-then-not-subset_of
loop-w-preserved-then-not-subset_of c =
    known_same c.args.columns c.args.z c.args.agree_sets.now c.loop-w.w-index c.w-item.result c.loop-w-test.true c.w-item.is c.loop-w.known.row_id c.loop-w.known.columns c.loop-w.invariant
    (sym c.subset_of.ensures ∙ c.if-not-subset_of.true)

pub loop-w-preserved : goal.loop-w-preserved
loop-w-preserved c =
    known_told c.args.columns c.args.z c.args.agree_sets.now c.loop-w.w-index c.w-item.result c.loop-w-test.true c.w-item.is c.loop-w.known c.told-known.result c.all-all.result c.all-all.ensures c.told-known.ensures
    (sym c.subset_of.ensures ∙ c.if-not-subset_of.false) c.loop-w.invariant

found : (c : goal.Then-has_all) → (c.told-known.result.row_id && subset (minus (all c.args.columns) c.args.z) c.told-known.result.columns) ≡ true
found c =
    ap (λ (u : ℕ). c.told-known.result.row_id && subset u c.told-known.result.columns) (sym (c.minus-open.ensures ∙ ap (λ (v : ℕ). minus v c.args.z) c.all-all.ensures))
    ∙ sym c.has_all.ensures ∙ c.if-has_all.true

enough : (c : goal.Then-has_all) → KnownSoFar c.args.columns c.args.agree_sets.now c.args.z c.told-known.result.row_id c.told-known.result.columns
enough c = known_enough c.args.columns c.args.z c.args.agree_sets.now (c.loop-w.w-index + 1) c.told-known.result.row_id c.told-known.result.columns (found c)
    (known_told c.args.columns c.args.z c.args.agree_sets.now c.loop-w.w-index c.w-item.result c.loop-w-test.true c.w-item.is c.loop-w.known c.told-known.result c.all-all.result c.all-all.ensures c.told-known.ensures
    (sym c.subset_of.ensures ∙ c.if-not-subset_of.false) c.loop-w.invariant)

pub returns-then-has_all-clause-row_id : goal.returns-then-has_all-clause-row_id
returns-then-has_all-clause-row_id c = sym (and_parts _ _ (found c)).0 ∙ (enough c).of_row_id

pub returns-then-has_all-clause-columns : goal.returns-then-has_all-clause-columns
returns-then-has_all-clause-columns c = (enough c).of_columns
