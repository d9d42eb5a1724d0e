use Rattle.std.proofs.Common.{◌∙◌, ℕ, List, ap, subst, sym}
use Rattle.nary_ind.specs.declared.found.Side.{Side}
use Rattle.nary_ind.specs.declared.key_lists.Entry.{Entry}
use Rattle.nary_ind.specs.Tables.{Coded, table_at}
use Rattle.nary_ind.specs.Keys.{AreKeysIn}
use Rattle.nary_ind.proofs.KeyLists.{entries-more, pushed-at, read-table}
use Rattle.nary_ind.proofs.key_lists.KeyLists.add.Goals as goal

pub returns-clause-entries : goal.returns-clause-entries
returns-clause-entries c =
    let e : Entry = record { side = c.copied.result; keys = c.in_ok-keys.keys } in
    entries-more c.make_room.new.self.tables.items c.make_room.new.self.entries.items c.push.new.self.items e c.make_room.ensures.entries c.in_ok-push.ensures.items
    (record {
      rises = c.in_ok-keys.ensures.rises;
      each = subst (λ (s : Side). AreKeysIn (table_at c.make_room.new.self.tables.items s.rel) s.columns c.in_ok-keys.keys.items) (sym c.copied.ensures)
          (subst (λ (t : Coded). AreKeysIn t c.args.side.now.columns c.in_ok-keys.keys.items)
          (read-table c.args.self.now.tables.items c.args.side.now.rel c.table.result.now c.table.ensures ∙ ap (λ (ts : List Coded). table_at ts c.args.side.now.rel) (sym (ap (λ v. v.items) c.make_room.ensures.tables)))
          (subst (λ (cs : List ℕ). AreKeysIn c.table.result.now cs c.in_ok-keys.keys.items) c.as_slice.ensures.value c.in_ok-keys.ensures.each));
    })

pub returns-clause-place : goal.returns-clause-place
returns-clause-place c =
    let e : Entry = record { side = c.copied.result; keys = c.in_ok-keys.keys } in
    (e, pushed-at c.make_room.new.self.entries.items c.push.new.self.items e c.len-place.result (c.len-place.ensures ∙ c.make_room.new.self.entries.ok.0) c.in_ok-push.ensures.items, c.copied.ensures)
