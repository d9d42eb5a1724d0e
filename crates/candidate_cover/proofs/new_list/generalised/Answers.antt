use Rattle.std.proofs.Common.{◌++◌, List, ℕ, ap, ap₂, subst, ◌∙◌}
use Rattle.std.specs.List.{filter, list_any}
use Rattle.col_set.specs.ColSet.{subset}
use Rattle.least_sets.specs.Members.{HasMembers}
use Rattle.candidate_cover.specs.Marks.{fresh_mark}
use Rattle.candidate_cover.specs.Pairs.{toggled}
use Rattle.candidate_cover.proofs.new_list.generalised.Goals as goal

pub returns : goal.returns
returns c = record {
  sets = c.in_ok-changes.changes.items;
  order = c.in_ok-changes.ensures.order;
  members = subst (λ (xs : List ℕ). HasMembers xs c.in_ok-changes.changes.items)
      (ap₂ (λ (fs ks : List ℕ). fs ++ filter (λ x. list_any (λ y. subset y x) fs) ks) c.as_slice.ensures.value c.sets.ensures.sets) c.in_ok-changes.ensures.members;
  from = c.sets.ensures.order;
  is = c.in_ok-made.ensures ∙ ap (λ (xs : List ℕ). toggled c.args.list.now xs fresh_mark) c.as_slice-2.ensures.value;
}
