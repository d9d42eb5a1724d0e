use Rattle.std.proofs.Common.{◌≡◌, ◌∙◌, ◌++◌, ◌∷◌, [], ℕ, List, ap, arith, map, sym}
use Rattle.std.specs.List.{filter}
use Rattle.std.proofs.lemmas.List.{map_push}
use Rattle.col_set.specs.ColSet.{upto}
use Rattle.nary_ind.specs.declared.found.Side.{Side}
use Rattle.nary_ind.specs.ListInclusions.{width_at}
use Rattle.nary_ind.specs.Levels.{extend, grouped, has_some, next_groups, next_into}
use Rattle.nary_ind.proofs.Widening.{kept-more, left-more}
use Rattle.nary_ind.proofs.level.push_next.Goals as goal
use Rattle.nary_ind.proofs.level.push_next.Goals.{then-has_some+in_ok-push, else-has_some}

pub loop-column-preserved : goal.loop-column-preserved
loop-column-preserved c =
    let F : ℕ → Side × List Side = λ k. (extend c.args.group.now.side k, next_into c.args.known.now (extend c.args.group.now.side k) c.args.group.now.into.items) in
    let more = sym (ap has_some c.in_ok-more.ensures.group) ∙ sym c.has_some.ensures in
    record {
      lists = c.in_ok-more.ensures.lists;
      groups = elim c.if-has_some.branch [
        | then-has_some+in_ok-push w ↦
            kept-more has_some F c.loop-column.column (map grouped c.args.next.now.items) (map grouped c.loop-column.next.items) (map grouped c.if-has_some.next.items) c.loop-column.invariant.groups (more ∙ w.if-has_some.true)
            (let e : c.if-has_some.next.items ≡ c.loop-column.next.items ++ c.in_ok-more.more ∷ [] = let r = w.next-is in let i = w.in_ok-push.ensures.items in cc in
            ap (map grouped) e ∙ map_push grouped c.loop-column.next.items c.in_ok-more.more ∙ ap (λ (x : Side × List Side). map grouped c.loop-column.next.items ++ x ∷ []) c.in_ok-more.ensures.group)
        | else-has_some w ↦
            left-more has_some F c.loop-column.column (map grouped c.args.next.now.items) (map grouped c.loop-column.next.items) (map grouped c.if-has_some.next.items) c.loop-column.invariant.groups (more ∙ w.if-has_some.false)
            (let e : c.if-has_some.next.items ≡ c.loop-column.next.items = let r = w.next-is in cc in ap (map grouped) e)
      ];
    }

pub returns-clause-groups : goal.returns-clause-groups
unfolding next_groups
returns-clause-groups c =
    let e : c.loop-column.column ≡ width_at c.args.known.now c.args.group.now.side.rel = let a = c.loop-column.auto.column-end in let f = c.loop-column-test.false in let m = c.width-column-end.ensures in omega arith in
    c.loop-column.invariant.groups
    ∙ ap (λ (n : ℕ). map grouped c.args.next.now.items ++ filter has_some (map {B = Side × List Side} (λ k. (extend c.args.group.now.side k, next_into c.args.known.now (extend c.args.group.now.side k) c.args.group.now.into.items)) (upto n))) e
