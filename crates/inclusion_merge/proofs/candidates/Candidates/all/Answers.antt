use Rattle.std.proofs.Common.{rules, ◌≡◌, ◌∙◌, ◌*◌, ap, ap₂, drop, replicate, ℕ, List}
use Rattle.col_set.specs.ColSet.{Columns}
use Rattle.inclusion_merge.specs.WideSet.{has_wide}
use Rattle.inclusion_merge.proofs.Wide.{has_wide-all}
use Rattle.inclusion_merge.proofs.candidates.Candidates.all.Goals as goal

pub returns-clause-has : goal.returns-clause-has
returns-clause-has c k d l m =
    let columns = c.args.columns in
    let parts = c.parts_for-parts.result in
    let count : c.in-Some.count ≡ columns * parts = search rules in
    ap (λ (kept : List Columns). has_wide (drop (k * parts) kept) d)
    (c.in_ok-kept.ensures ∙ ap₂ (λ (n : ℕ) (part : Columns). replicate n part) count c.all.ensures)
    ∙ has_wide-all columns parts k d c.parts_for-parts.ensures l m
