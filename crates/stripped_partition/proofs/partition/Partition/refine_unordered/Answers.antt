use Rattle.std.proofs.Common.{refl, ◌≡◌, ◌<◌, ℕ, List, length, map, vec_len, sym, ap, ◌∙◌, subst, arith}
use Rattle.std.specs.List.{All}
use Rattle.std.proofs.lemmas.List.{length-map}
use Rattle.col_set.specs.ColSet.{with}
use Rattle.rel_base.specs.CodeTable.{code_at}
use Rattle.stripped_partition.specs.Codes.{IsRecoded}
use Rattle.stripped_partition.specs.AnyOrder.{AreGroupsBy}
use Rattle.stripped_partition.proofs.Refining.{rows_given, split_cut, refined, same_flat}
use Rattle.stripped_partition.proofs.partition.Partition.refine_unordered.Goals as goal

pub write_codes-requires-clause-given : goal.write_codes-requires-clause-given
write_codes-requires-clause-given c =
    subst (All (λ (row : ℕ). row < c.args.snapshot.now.to)) (sym c.deref.ensures.value)
    (rows_given c.args.snapshot.now c.requires.of.columns c.self.inside.rows.items c.self.inside.ends.items c.self.invariant
    (subst (AreGroupsBy c.args.snapshot.now c.requires.of.columns) (sym c.self.view_is) c.requires.of.are))

-- the codes that were gathered
gathered : (f : ℕ → ℕ) (rows rows_read codes : List ℕ) → rows_read ≡ rows → codes ≡ map f rows_read → codes ≡ map f rows
gathered f rows rows_read codes r e = e ∙ ap (map f) r

as_many : (f : ℕ → ℕ) (rows codes : List ℕ) → codes ≡ map f rows → length codes ≡ length rows
as_many f rows codes e = ap length e ∙ length-map rows f

-- the slots have room for the codes
recoded : (codes codes_read : List ℕ) (bound room : ℕ) → codes_read ≡ codes → room ≡ bound → IsRecoded codes_read codes_read room → IsRecoded codes codes bound
recoded codes codes_read bound room e r p = subst (λ (n : ℕ). IsRecoded codes codes n) r (subst (λ (cs : List ℕ). IsRecoded cs cs room) e p)

pub invariant_of-result : goal.invariant_of-result
invariant_of-result c =
    split_cut (length c.deref_mut-2.result.now) c.self.inside.rows.items c.write_codes.new.codes c.self.inside.ends.items c.in_ok-groups.groups.rows.items c.in_ok-groups.groups.ends.items c.self.invariant
    (as_many (λ row. code_at c.args.snapshot.now row c.args.column) c.self.inside.rows.items c.write_codes.new.codes
    (gathered (λ row. code_at c.args.snapshot.now row c.args.column) c.self.inside.rows.items c.deref.result.now c.write_codes.new.codes c.deref.ensures.value c.write_codes.ensures))
    (same_flat (length c.deref_mut-2.result.now) c.self.inside.rows.items c.deref-2.result.now c.self.inside.ends.items c.deref-3.result.now c.write_codes.new.codes c.write_codes.new.codes
    c.in_ok-groups.groups.rows.items c.in_ok-groups.groups.ends.items c.deref-2.ensures.value c.deref-3.ensures.value refl c.in_ok-groups.ensures.flat)

pub returns-clause-groups : goal.returns-clause-groups
returns-clause-groups c x are =
    refined c.args.snapshot.now x c.self.inside.rows.items c.self.inside.ends.items c.self.invariant (subst (AreGroupsBy c.args.snapshot.now x) (sym c.self.view_is) are) c.args.column c.requires.column
    c.write_codes.new.codes c.write_codes.new.codes (length c.deref_mut-2.result.now)
    (gathered (λ row. code_at c.args.snapshot.now row c.args.column) c.self.inside.rows.items c.deref.result.now c.write_codes.new.codes c.deref.ensures.value c.write_codes.ensures)
    (recoded c.write_codes.new.codes c.write_codes.new.codes (length c.deref_mut-2.result.now) (vec_len c.make_room.new.slots) refl (let l = c.deref_mut-2.ensures.len in omega arith) c.in_ok-make_room.ensures.room)
    c.in_ok-groups.groups.rows.items c.in_ok-groups.groups.ends.items
    (same_flat (length c.deref_mut-2.result.now) c.self.inside.rows.items c.deref-2.result.now c.self.inside.ends.items c.deref-3.result.now c.write_codes.new.codes c.write_codes.new.codes
    c.in_ok-groups.groups.rows.items c.in_ok-groups.groups.ends.items c.deref-2.ensures.value c.deref-3.ensures.value refl c.in_ok-groups.ensures.flat)

pub returns-clause-of : goal.returns-clause-of
returns-clause-of c = record { columns = with c.requires.of.columns c.args.column; are = returns-clause-groups c c.requires.of.columns c.requires.of.are }
