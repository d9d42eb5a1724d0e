use Rattle.std.proofs.Common.{◌∙◌, List, ap, arith, map, subst, sym}
use Rattle.std.specs.List.{flat_map}
use Rattle.std.proofs.lemmas.List.{take_all}
use Rattle.col_set.specs.Lists.{Listed, Listed-map}
use Rattle.nary_ind.specs.declared.found.Group.{Group}
use Rattle.nary_ind.specs.declared.found.Side.{Side}
use Rattle.nary_ind.specs.Levels.{grouped, next_groups}
use Rattle.nary_ind.proofs.Levels.{group-of, groups-more}
use Rattle.nary_ind.proofs.Widening.{level-more, member-at}
use Rattle.nary_ind.proofs.level.next_level.Goals as goal

pub push_next-requires-clause-group : goal.push_next-requires-clause-group
push_next-requires-clause-group c =
    group-of c.args.known.now c.args.width (grouped c.group-item.result)
    (subst (λ (gs : List (Side × List Side)). Listed (grouped c.group-item.result) gs) c.requires.groups (Listed-map grouped c.group-item.result c.args.level.now (member-at c.args.level.now c.loop-group.group-index c.group-item.result c.loop-group-test.true c.group-item.is)))

pub loop-group-preserved : goal.loop-group-preserved
loop-group-preserved c = record {
  lists = c.in_ok-push_next.ensures.lists;
  groups = level-more c.args.known.now grouped c.args.level.now c.loop-group.group-index c.group-item.result (map grouped c.loop-group.next.items) (map grouped c.push_next.new.next.items) c.loop-group-test.true c.group-item.is c.loop-group.invariant.groups
      c.in_ok-push_next.ensures.groups;
}

pub returns-clause-groups : goal.returns-clause-groups
returns-clause-groups c =
    c.loop-group.invariant.groups ∙ ap (λ (gs : List Group). flat_map (next_groups c.args.known.now) (map grouped gs)) (take_all c.loop-group.group-index c.args.level.now (omega arith)) ∙ ap (flat_map (next_groups c.args.known.now)) c.requires.groups
    ∙ sym (groups-more c.args.known.now c.args.width)
