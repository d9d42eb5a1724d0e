use Rattle.std.proofs.Common.{◌≡◌, ◌∙◌, ℕ, List, [], arith, true, below_more, subst, sym}
use Rattle.std.proofs.lemmas.Bool.{false≢true}
use Rattle.std.proofs.lemmas.List.{get_or_read}
use Rattle.col_set.specs.Lists.{Listed}
use Rattle.rel_base.specs.Cells.{Cell}
use Rattle.inclusion_merge.specs.Marks.{is_marked}
use Rattle.inclusion_merge.specs.Sharing.{list_at}
use Rattle.inclusion_merge.specs.WideSet.{has_wide}
use Rattle.inclusion_merge.specs.declared.marks.Marks.{Marks}
use Rattle.inclusion_merge.proofs.questions.values_in.Goals as goal
use Rattle.inclusion_merge.proofs.questions.values_in.Goals.{then-has_wide+else-len-left, else-has_wide}

pub loop-place-preserved : goal.loop-place-preserved
loop-place-preserved c =
    let P : ℕ → Type 0 = λ k. has_wide c.args.named.now k ≡ true → (a : Cell) → Listed a (list_at c.args.columns.now k) → is_marked c.if-has_wide.values a ≡ true in
    elim c.if-has_wide.branch [
      | then-has_wide+else-len-left w ↦
          below_more P c.loop-place.place
          (λ k l e a h. subst (λ (marks : Marks). is_marked marks a ≡ true) (sym w.values-is) (w.insert_cells.ensures.grows a (c.loop-place.invariant k l e a h)))
          (λ e a h. subst (λ (marks : Marks). is_marked marks a ≡ true) (sym w.values-is) (w.insert_cells.ensures.each a (subst (λ (cells : List Cell). Listed a cells) (sym (get_or_read c.args.columns.now _ _ (omega arith) w.index-columns-place.is [])) h)))
      | else-has_wide w ↦
          below_more P c.loop-place.place
          (λ k l e a h. subst (λ (marks : Marks). is_marked marks a ≡ true) (sym w.values-is) (c.loop-place.invariant k l e a h))
          (λ e a h. absurd (false≢true (sym (sym c.has_wide.ensures ∙ w.if-has_wide.false) ∙ e)))
    ]
