use Rattle.std.proofs.Common.{◌≡◌, ◌<◌, ◌≤◌, ◌∙◌, ◌++◌, ◌∷◌, sym, ap, arith, ℕ, [], length}
use Rattle.csv.specs.Records.{fields_of}
use Rattle.rel_base.specs.Relation.{Content}
use Rattle.rel_base.proofs.Across.{length-across, AreColumns-more, across-more}
use Rattle.rel_base.proofs.relation.Relation.with_record.Goals as goal

-- all columns got their cell
all_places : (n m place j : ℕ) → m ≤ place → m ≡ n → j < n → j < place
all_places n m place j l e g = omega (arith, l, e, g)

pub invariant_of-result : goal.invariant_of-result
invariant_of-result c =
    let columns = c.self.inside.columns in
    let count = c.self.inside.count in
    let room = c.requires.room in
    let rows = ap (λ (r : Content). length r.rows) c.self.view_is in
    let long = length-across columns.items count in
    AreColumns-more c.self.inside.names columns.items c.loop-place.columns.items (fields_of c.args.fields.now) count c.self.invariant
    (c.requires.wide ∙ sym (ap (λ (r : Content). length r.names) c.self.view_is)) c.loop-place.invariant.0
    (λ j l. c.loop-place.invariant.1 j (all_places (length columns.items) c.len-place-end.result c.loop-place.place j c.loop-place-test.false (c.len-place-end.ensures ∙ columns.ok.0) l))
    (omega (arith, room, rows, long))

pub returns-clause-rows : goal.returns-clause-rows
returns-clause-rows c =
    let columns = c.self.inside.columns in
    across-more c.self.inside.names columns.items c.loop-place.columns.items (fields_of c.args.fields.now) c.self.inside.count c.self.invariant
    (c.requires.wide ∙ sym (ap (λ (r : Content). length r.names) c.self.view_is)) c.loop-place.invariant.0
    (λ j l. c.loop-place.invariant.1 j (all_places (length columns.items) c.len-place-end.result c.loop-place.place j c.loop-place-test.false (c.len-place-end.ensures ∙ columns.ok.0) l))
    ∙ ap (λ (r : Content). r.rows ++ fields_of c.args.fields.now ∷ []) c.self.view_is
