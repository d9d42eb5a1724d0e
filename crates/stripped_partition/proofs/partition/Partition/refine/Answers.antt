use Rattle.std.proofs.Common.{◌≡◌, ◌<◌, ℕ, List, length, map, sym, ap, ◌∙◌, subst, arith}
use Rattle.std.specs.List.{All}
use Rattle.std.proofs.lemmas.List.{length-map}
use Rattle.col_set.specs.ColSet.{with}
use Rattle.rel_base.specs.CodeTable.{code_at}
use Rattle.stripped_partition.specs.Groups.{cut}
use Rattle.stripped_partition.specs.Codes.{IsRecoded}
use Rattle.stripped_partition.proofs.Refining.{in_its_order, put_in_order, rows_given, split_cut, refined, same_flat}
use Rattle.stripped_partition.proofs.partition.Partition.refine.Goals as goal

pub codes_of-requires-clause-given : goal.codes_of-requires-clause-given
codes_of-requires-clause-given c =
    subst (All (λ (row : ℕ). row < c.args.snapshot.now.to)) (sym c.deref.ensures.value)
    (rows_given c.args.snapshot.now c.requires.of.columns c.self.inside.rows.items c.self.inside.ends.items c.self.invariant
    (in_its_order c.args.snapshot.now c.requires.of.columns (cut 0 c.self.inside.rows.items c.self.inside.ends.items) (c.self.view_is ∙ c.requires.of.is)))

-- the codes that were gathered
gathered : (f : ℕ → ℕ) (rows rows_read codes : List ℕ) → rows_read ≡ rows → codes ≡ map f rows_read → codes ≡ map f rows
gathered f rows rows_read codes r e = e ∙ ap (map f) r

as_many : (f : ℕ → ℕ) (rows codes : List ℕ) → codes ≡ map f rows → length codes ≡ length rows
as_many f rows codes e = ap length e ∙ length-map rows f

recoded : (old new : List ℕ) (bound : ℕ) → IsRecoded old new bound → length new ≡ length old
recoded old new bound r = as_many r.recode old new r.is

pub dense-requires : goal.dense-requires
dense-requires c =
    let codes = gathered (λ row. code_at c.args.snapshot.now row c.args.column) c.self.inside.rows.items c.deref.result.now c.in_ok-codes.codes.items c.deref.ensures.value c.in_ok-codes.ensures in
    let e = as_many (λ row. code_at c.args.snapshot.now row c.args.column) c.self.inside.rows.items c.in_ok-codes.codes.items codes in
    let s = c.self.invariant.short in omega arith

pub in_order-requires : goal.in_order-requires
in_order-requires c =
    let codes = gathered (λ row. code_at c.args.snapshot.now row c.args.column) c.self.inside.rows.items c.deref.result.now c.in_ok-codes.codes.items c.deref.ensures.value c.in_ok-codes.ensures in
    split_cut c.in_ok-codes-2.bound c.self.inside.rows.items c.in_ok-codes-2.codes.items c.self.inside.ends.items c.in_ok-groups.groups.rows.items c.in_ok-groups.groups.ends.items c.self.invariant
    (recoded c.in_ok-codes.codes.items c.in_ok-codes-2.codes.items c.in_ok-codes-2.bound c.in_ok-codes-2.ensures
    ∙ as_many (λ row. code_at c.args.snapshot.now row c.args.column) c.self.inside.rows.items c.in_ok-codes.codes.items codes)
    (same_flat c.in_ok-codes-2.bound c.self.inside.rows.items c.deref-2.result.now c.self.inside.ends.items c.deref-3.result.now c.in_ok-codes-2.codes.items c.deref-4.result.now
    c.in_ok-groups.groups.rows.items c.in_ok-groups.groups.ends.items c.deref-2.ensures.value c.deref-3.ensures.value c.deref-4.ensures.value c.in_ok-groups.ensures)

pub returns-clause-value : goal.returns-clause-value
returns-clause-value c x e =
    put_in_order c.args.snapshot.now (with x c.args.column) (cut 0 c.in_ok-groups.groups.rows.items c.in_ok-groups.groups.ends.items) (cut 0 c.in_ok-rows.field-0.rows.items c.in_ok-rows.field-0.ends.items)
    (refined c.args.snapshot.now x c.self.inside.rows.items c.self.inside.ends.items c.self.invariant (in_its_order c.args.snapshot.now x (cut 0 c.self.inside.rows.items c.self.inside.ends.items) (c.self.view_is ∙ e)) c.args.column c.requires.column
    c.in_ok-codes.codes.items c.in_ok-codes-2.codes.items c.in_ok-codes-2.bound
    (gathered (λ row. code_at c.args.snapshot.now row c.args.column) c.self.inside.rows.items c.deref.result.now c.in_ok-codes.codes.items c.deref.ensures.value c.in_ok-codes.ensures)
    c.in_ok-codes-2.ensures c.in_ok-groups.groups.rows.items c.in_ok-groups.groups.ends.items
    (same_flat c.in_ok-codes-2.bound c.self.inside.rows.items c.deref-2.result.now c.self.inside.ends.items c.deref-3.result.now c.in_ok-codes-2.codes.items c.deref-4.result.now
    c.in_ok-groups.groups.rows.items c.in_ok-groups.groups.ends.items c.deref-2.ensures.value c.deref-3.ensures.value c.deref-4.ensures.value c.in_ok-groups.ensures))
    c.in_ok-rows.ensures.order

pub returns-clause-of : goal.returns-clause-of
returns-clause-of c = record { columns = with c.requires.of.columns c.args.column; is = returns-clause-value c c.requires.of.columns c.requires.of.is }
