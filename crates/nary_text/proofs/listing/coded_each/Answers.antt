use Rattle.std.proofs.Common.{◌∙◌, ◌++◌, ◌∷◌, [], List, ap, ap₂, map, sym}
use Rattle.std.proofs.lemmas.List.{map-id, map_push}
use Rattle.std.proofs.lemmas.Iterator.Adapters.{YieldsList-from_vec}
use Rattle.std.proofs.lemmas.Iterator.Consumers.{YieldsList-end}
use Rattle.rel_base.specs.Relation.{Content}
use Rattle.rel_base.specs.RowState.{RowState, opened}
use Rattle.rel_base.specs.declared.nulls.Nulls.TheVariants.{Equal}
use Rattle.nary_text.proofs.listing.coded_each.Goals as goal

pub loop-relation-preserved : goal.loop-relation-preserved
loop-relation-preserved g c =
    let f : Content → RowState = opened Equal c.args.means.now.limits.rows in
    c.in_ok-push.ensures.items ∙ ap₂ (λ (rs : List RowState) (r : RowState). rs ++ r ∷ []) c.loop-relation.invariant c.in_ok-coded_of.ensures ∙ sym (map_push f c.loop-relation.yielded c.in-Some.relation)

pub returns : goal.returns
returns g c =
    let f : Content → RowState = opened Equal c.args.means.now.limits.rows in
    let end = YieldsList-end (YieldsList-from_vec c.args.relations.items c.into_iter-relation-iterator.ensures.into_iter_gives.0 (c.into_iter-relation-iterator.ensures.into_iter_gives.1 ∙ c.args.relations.ok.0))
    c.loop-relation.yielded c.loop-relation.relation-iterator c.loop-relation.yielded_by c.next.result c.next.new.self c.in-None.is c.next.ensures.steps in
    c.loop-relation.invariant ∙ ap (map f) (sym (map-id c.loop-relation.yielded) ∙ end.0)
