use Rattle.std.proofs.Common.{inl, inr, ◌≡◌, ℕ, suc, ◌-◌, ◌∙◌, ap, sym, arith, List, ◌++◌, ◌∷◌, []}
use Rattle.bcnf_split.proofs.PlainSplit.{moved_are, part_below, plain_joined, steps_whole, with_keys}
use Rattle.bcnf_split.proofs.Tabling.{on_ok}
use Rattle.bcnf_split.proofs.tests.plain.+push_tables.Goals as goal
use Rattle.bcnf_split.proofs.tests.plain.+push_tables.Goals.{in_default-via-in-Some+else-steps-gt0, in_default-via-in_default}

pub returns-in_ok-push_tables-in-Some : goal.returns-in_ok-push_tables-in-Some
returns-in_ok-push_tables-in-Some t c = on_ok c.push_tables-in-Some.result
    (λ f r e w b.
    let l = c.if-steps-gt0.true in
    let d : c.args.steps ≡ suc (c.args.steps - 1) = omega arith in
    let m = moved_are r c.args.s c.in-Some.x c.determined_columns.result c.inter.result c.minus-moved.result (c.determined_columns.ensures r e w) c.inter.ensures c.minus-moved.ensures in
    let p = part_below r c.args.s c.in-Some.x c.minus-moved.result c.minus.result c.union.result c.args.n w b (c.in-Some.ensures r e w b) m c.minus.ensures c.union.ensures in
    plain_joined r c.args.s c.args.steps (c.args.steps - 1) c.in-Some.x c.minus-moved.result c.minus.result c.union.result c.args.tables.now.items c.push_tables.new.tables.items c.push_tables-in-Some.new.tables.items
    d (c.in-Some.ensures r e w b) m c.minus.ensures c.union.ensures (c.in_ok-push_tables-in-Some.ensures r e w p.0) (f r e w p.1))
    c.push_tables-in-Some.ensures

pub returns-in_ok-push-in_default : goal.returns-in_ok-push-in_default
returns-in_ok-push-in_default t c r e w b =
    c.in_ok-push-in_default.ensures.items
    ∙ ap (λ (z : ℕ). c.args.tables.now.items ++ record { columns = c.args.s; key = z } ∷ []) (c.table_key.ensures r e w b)
    ∙ ap (λ (ts : List ℕ). c.args.tables.now.items ++ with_keys r ts) (sym (steps_whole r c.args.s c.args.steps (elim c.in_default.branch [
      | in_default-via-in-Some+else-steps-gt0 v ↦ inr v.if-steps-gt0.false
      | in_default-via-in_default v ↦ inl (sym (v.in_default.ensures r e w b))
    ])))
