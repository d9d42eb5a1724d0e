use Rattle.std.proofs.Common.{◌≡◌, ◌<◌, ◌∙◌, [], ℕ, length, get_or, sym, subst, arith}
use Rattle.std.proofs.lemmas.List.{length-map}
use Rattle.col_set.specs.declared.target.Target.{Target}
use Rattle.col_set.specs.Target.{IsColumnTarget}
use Rattle.col_set.specs.declared.target.Target.TheVariants.{Col}
use Rattle.least_sets.specs.Growth.{choices, ListsLeast}
use Rattle.least_sets.specs.Drafts.{lists_behind}
use Rattle.least_sets.proofs.Filed.{behind_at}
use Rattle.least_sets.proofs.draft.sides_of.Goals as goal

pub returns-in-Col : goal.returns-in-Col
returns-in-Col c = λ ws d.
    let a = c.in-Col.column in
    let n : ℕ = length c.args.columns.now in
    let l : a < n = subst (IsColumnTarget n) c.in-Col.is c.requires in
    let list : c.as_slice.result.now ≡ get_or (lists_behind c.args.columns.now) a []
    = c.as_slice.ensures.value ∙ behind_at c.args.columns.now a c.index-columns-column.result (let m = length-map c.args.columns.now (λ v. v.items) in omega (arith, l, m)) c.index-columns-column.is in
    subst (λ (t : Target). ListsLeast (choices n t) ws t c.as_slice.result.now) (sym c.in-Col.is) (subst (ListsLeast (choices n (Col a)) ws (Col a)) (sym list) (d.each a l))
