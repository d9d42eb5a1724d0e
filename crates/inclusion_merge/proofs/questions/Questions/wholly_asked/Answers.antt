use Rattle.std.proofs.Common.{◌≡◌, ◌∙◌, ◌+◌, ℕ, Bool, true, false, List, [], ap, arith, get_or, length, subst, sym}
use Rattle.std.proofs.lemmas.List.{get_or_read, length_push}
use Rattle.col_set.specs.Lists.{Listed}
use Rattle.inclusion_merge.specs.Marks.{is_marked}
use Rattle.inclusion_merge.specs.Sharing.{list_at}
use Rattle.inclusion_merge.proofs.Asking.{whole_more}
use Rattle.inclusion_merge.proofs.questions.Questions.wholly_asked.Goals as goal

pub loop-column-preserved : goal.loop-column-preserved
loop-column-preserved c =
    let whole = c.loop-column.whole.items in
    let i = c.loop-column.column-index in
    let before = c.loop-column.invariant in
    let picked = is_marked c.args.self.now.values in
    let is = c.in_ok-push.ensures.items in
    let P : ℕ → Type 0 = λ k. (a : List ℕ) → Listed a (list_at c.args.columns.now k) → picked a ≡ true in
    let here = get_or_read c.args.columns.now _ _ (omega arith) c.column-item.is [] in
    record {
      count = ap (λ (whole : List Bool). length whole) is ∙ length_push whole _ ∙ ap (λ (n : ℕ). n + 1) before.count;
      each =
          λ k l e.
          whole_more whole c.has_all.result i P before.count before.each (λ b a h. c.has_all.ensures b a (subst (λ (cells : List (List ℕ)). Listed a cells) (sym here) h)) k l
          (sym (ap (λ (whole : List Bool). get_or whole k false) is) ∙ e);
    }
