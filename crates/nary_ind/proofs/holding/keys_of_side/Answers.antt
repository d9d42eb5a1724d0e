use Rattle.std.proofs.Common.{◌∙◌, ℕ, List, ap, subst, sym}
use Rattle.nary_ind.specs.Tables.{Coded, table_at}
use Rattle.nary_ind.specs.Keys.{AreKeysIn}
use Rattle.nary_ind.proofs.Held.{keyed-of}
use Rattle.nary_ind.proofs.KeyLists.{entry-keys}
use Rattle.nary_ind.proofs.holding.keys_of_side.Goals as goal

pub place_of-requires-clause-keyed : goal.place_of-requires-clause-keyed
place_of-requires-clause-keyed c = keyed-of c.args.unary.now c.args.lists.now.tables.items c.requires.lists.0 c.args.side.now _ c.requires.short c.requires.side c.requires.used

pub returns-clause-keys : goal.returns-clause-keys
returns-clause-keys c =
    let made = entry-keys c.place_of.new.self c.in_ok-place.ensures.entries c.in_ok-place.place c.args.side.now c.in_ok-place.ensures.place c.entry.result.now c.entry.ensures in
    subst (λ (xs : List ℕ). AreKeysIn (table_at c.args.lists.now.tables.items c.args.side.now.rel) c.args.side.now.columns xs) (sym (c.in_ok-keys.ensures.items ∙ c.deref.ensures.value))
    (subst (λ (ts : List Coded). AreKeysIn (table_at ts c.args.side.now.rel) c.args.side.now.columns c.entry.result.now.keys.items) (ap (λ v. v.items) c.in_ok-place.ensures.tables) made)
