use Rattle.std.proofs.Common.{◌++◌, ◌∙◌, List, ℕ, ap, subst}
use Rattle.least_sets.specs.Growth.{choices, inside, outside, near, grown}
use Rattle.least_sets.specs.Members.{HasMembers}
use Rattle.candidate_cover.specs.Marks.{fresh_mark}
use Rattle.candidate_cover.specs.Pairs.{toggled}
use Rattle.candidate_cover.proofs.new_list.specialised.Goals as goal

pub returns : goal.returns
returns c =
    let n = c.args.columns in
    let z = c.args.z in
    record {
      sets = c.in_ok-changes.changes.items;
      order = c.in_ok-changes.ensures.order;
      members = subst (λ (xs : List ℕ). HasMembers (inside z xs ++ grown n (choices n c.args.target) z (inside z xs) (near z (outside z xs))) c.in_ok-changes.changes.items) c.sets.ensures.sets c.in_ok-changes.ensures.members;
      from = c.sets.ensures.order;
      is = c.in_ok-made.ensures ∙ ap (λ (xs : List ℕ). toggled c.args.list.now xs fresh_mark) c.as_slice.ensures.value;
    }
