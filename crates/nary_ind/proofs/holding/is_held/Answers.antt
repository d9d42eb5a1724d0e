use Rattle.std.proofs.Common.{ℕ, List, ap, subst, sym}
use Rattle.std.specs.List.Sorted.{IsStrictlyIncreasing}
use Rattle.col_set.specs.Subsets.{same_test}
use Rattle.nary_ind.specs.ListInclusions.{from_to, holds_among}
use Rattle.nary_ind.specs.Tables.{Coded, table_at}
use Rattle.nary_ind.specs.Keys.{AreKeysIn}
use Rattle.nary_ind.proofs.Held.{found-holds, holds-found, keyed-of}
use Rattle.nary_ind.proofs.KeyLists.{entry-keys, entry-rises}
use Rattle.nary_ind.proofs.holding.is_held.Goals as goal

pub place_of-requires-clause-keyed : goal.place_of-requires-clause-keyed
place_of-requires-clause-keyed c = keyed-of c.args.unary.now c.args.lists.now.tables.items c.requires.lists.0 c.args.candidate.now _ c.requires.short c.requires.candidate c.requires.asked

pub has_all-all-requires : goal.has_all-all-requires
has_all-all-requires c =
    subst IsStrictlyIncreasing (sym c.deref.ensures.value) (entry-rises c.place_of.new.self c.in_ok-place.ensures.entries c.in_ok-place.place c.args.candidate.now c.in_ok-place.ensures.place c.entry.result.now c.entry.ensures)

pub returns-clause-held : goal.returns-clause-held
returns-clause-held c =
    let rs = c.args.unary.now in
    let ts = c.args.lists.now.tables.items in
    let d = c.args.dependent.now in
    let i = c.args.candidate.now in
    let made = entry-keys c.place_of.new.self c.in_ok-place.ensures.entries c.in_ok-place.place i c.in_ok-place.ensures.place c.entry.result.now c.entry.ensures in
    let here = subst (λ (us : List Coded). AreKeysIn (table_at us i.rel) i.columns c.entry.result.now.keys.items) (ap (λ v. v.items) c.in_ok-place.ensures.tables) made in
    let each = subst (λ (xs : List ℕ). AreKeysIn (table_at ts i.rel) i.columns xs) (sym c.deref.ensures.value) here in
    same_test c.has_all-all.result (holds_among rs (from_to d i))
    (λ e.
    found-holds rs ts c.requires.lists.0 d i _ c.requires.short c.requires.dependent c.requires.candidate c.requires.used c.requires.asked c.args.keys.now c.requires.keys
    (λ key h. ((each key).0 (c.has_all-all.ensures.0 e key h)).0))
    (λ e.
    c.has_all-all.ensures.1 (λ key h.
    (each key).1
    (holds-found rs ts c.requires.lists.0 d i _ c.requires.short c.requires.dependent c.requires.candidate c.requires.used c.requires.asked c.args.keys.now c.requires.keys e key h, ((c.requires.keys key).0 h).1)))
