use Rattle.std.proofs.Common.{◌≡◌, ◌∙◌, ◌<◌, ◌+◌, ◌∷◌, ℕ, List, [], length, map, get_or, sym, ap, arith, subst}
use Rattle.std.proofs.lemmas.List.{get_or-map, length-append, length-map}
use Rattle.std.proofs.lemmas.List.FromFn.{get_or-enumerate_from, length-enumerate_from}
use Rattle.std.proofs.lemmas.Iterator.Adapters.{YieldsList-from_vec}
use Rattle.std.proofs.lemmas.Iterator.Consumers.{YieldsList-at, YieldsList-end, YieldsList-from_enumerate, YieldsList-turn}
use Rattle.rel_base.specs.Relation.{Content}
use Rattle.rel_base.specs.RowState.{RowState, opened}
use Rattle.task_base.proofs.Facts.{at_place}
use Rattle.task_base.proofs.Facts.{IfOk-map}
use Rattle.profile_text.proofs.Texts.{AreReports, AreReports-more, AreReports-none, AreReports-whole, reports-whole}
use Rattle.profile_text.proofs.reports.reports_of.Goals as goal

pub loop-place-init : goal.loop-place-init
loop-place-init g c = AreReports-none c.args.names.now (map (opened c.args.nulls c.args.means.now.limits.rows) c.args.relations.items) _ _ _ c.new-lines.ensures c.new-columns.ensures

pub loop-place-preserved : goal.loop-place-preserved
loop-place-preserved g c =
    let names = c.args.names.now in
    let rs = c.args.relations.items in
    let f : Content → RowState = opened c.args.nulls c.args.means.now.limits.rows in
    let n : ℕ = length c.loop-place.yielded in
    let place = c.in-Some.place in
    let relation = c.in-Some.relation in
    let turn = YieldsList-turn (YieldsList-at c.into_iter-place-iterator.ensures.into_iter_gives
    (YieldsList-from_enumerate (YieldsList-at c.enumerate-place-items.ensures.source (YieldsList-from_vec rs c.into_iter.ensures.rest (c.into_iter.ensures.len ∙ c.args.relations.ok.0))) c.enumerate-place-items.ensures.count))
    c.loop-place.yielded c.loop-place.place-iterator c.loop-place.yielded_by c.next.result c.next.new.self (place, relation) c.in-Some.is c.next.ensures.steps in
    let long = length-enumerate_from 0 rs in
    let less = turn.0 in
    let h : n < length rs = omega arith in
    let met : (place, relation) ≡ (0 + n, get_or rs n relation) = turn.1 ∙ get_or-enumerate_from 0 rs n (place, relation) h in
    let at : place ≡ 0 + n = ap (λ (p : ℕ × Content). p.0) met in
    let same : place ≡ n = omega arith in
    let here : relation ≡ get_or rs n relation = ap (λ (p : ℕ × Content). p.1) met in
    let as_many : length rs ≡ length names = c.requires.named in
    let inside : place < length names = omega arith in
    let states : List RowState = map f rs in
    let counted : length states ≡ length rs = length-map rs f in
    subst (λ (m : ℕ). AreReports names states m c.push_relation.new.lines c.push_relation.new.columns.widths.items c.push_relation.new.columns.cells.items)
    (sym (length-append c.loop-place.yielded ((place, relation) ∷ [])))
    (AreReports-more names states n c.loop-place.lines c.push_relation.new.lines c.loop-place.columns.widths.items c.push_relation.new.columns.widths.items c.loop-place.columns.cells.items c.push_relation.new.columns.cells.items
    c.index-names-place.result (f relation) (omega arith) (omega arith)
    (at_place names place c.index-names-place.result [] inside c.index-names-place.is ∙ ap (λ (i : ℕ). get_or names i []) same)
    (ap f here ∙ sym (get_or-map f rs n relation (f relation) h))
    c.in_ok-push_relation.ensures.report
    c.in_ok-push_relation.ensures.columns
    c.loop-place.invariant)

pub push_inclusions-requires-after_bounds : goal.push_inclusions-requires-after_bounds
push_inclusions-requires-after_bounds g c κs lives =
    let rs = c.args.relations.items in
    let states : List RowState = map (opened c.args.nulls c.args.means.now.limits.rows) rs in
    let end = YieldsList-end (YieldsList-at c.into_iter-place-iterator.ensures.into_iter_gives
    (YieldsList-from_enumerate (YieldsList-at c.enumerate-place-items.ensures.source (YieldsList-from_vec rs c.into_iter.ensures.rest (c.into_iter.ensures.len ∙ c.args.relations.ok.0))) c.enumerate-place-items.ensures.count))
    c.loop-place.yielded c.loop-place.place-iterator c.loop-place.yielded_by c.next.result c.next.new.self c.in-None.is c.next.ensures.steps in
    let all : length c.loop-place.yielded ≡ length rs = end.1 ∙ length-enumerate_from 0 rs in
    let as_many : length rs ≡ length c.args.names.now = c.requires.named in
    let counted : length states ≡ length rs = length-map rs (opened c.args.nulls c.args.means.now.limits.rows) in
    (states, (AreReports-whole c.args.names.now states (length c.loop-place.yielded) c.loop-place.lines c.loop-place.columns.widths.items c.loop-place.columns.cells.items (omega arith) (omega arith) c.loop-place.invariant).1)

pub returns : goal.returns
returns g c =
    let rs = c.args.relations.items in
    let states : List RowState = map (opened c.args.nulls c.args.means.now.limits.rows) rs in
    let end = YieldsList-end (YieldsList-at c.into_iter-place-iterator.ensures.into_iter_gives
    (YieldsList-from_enumerate (YieldsList-at c.enumerate-place-items.ensures.source (YieldsList-from_vec rs c.into_iter.ensures.rest (c.into_iter.ensures.len ∙ c.args.relations.ok.0))) c.enumerate-place-items.ensures.count))
    c.loop-place.yielded c.loop-place.place-iterator c.loop-place.yielded_by c.next.result c.next.new.self c.in-None.is c.next.ensures.steps in
    let all : length c.loop-place.yielded ≡ length rs = end.1 ∙ length-enumerate_from 0 rs in
    let as_many : length rs ≡ length c.args.names.now = c.requires.named in
    let counted : length states ≡ length rs = length-map rs (opened c.args.nulls c.args.means.now.limits.rows) in
    let whole = AreReports-whole c.args.names.now states (length c.loop-place.yielded) c.loop-place.lines c.loop-place.columns.widths.items c.loop-place.columns.cells.items (omega arith) (omega arith) c.loop-place.invariant in
    IfOk-map c.into_text.result
    (λ text e. e ∙ reports-whole c.args.names.now states c.loop-place.lines c.push_inclusions.new.lines whole.0 (c.in_ok-push_inclusions.ensures states whole.1))
    c.into_text.ensures
