-- Evidence whose least sets more evidence refutes none of has the least sets of all.
use Rattle.std.proofs.Common.{◌≡◌, ℕ, ◌^◌, ◌<◌, true, false, sym, ◌∙◌, subst, List}
use Rattle.std.proofs.lemmas.Bool.{true≢false, false_from_ne_true}
use Rattle.col_set.specs.declared.target.Target.{Target}
use Rattle.col_set.specs.Evidence.{refuted, least}
use Rattle.col_set.specs.Columns.{report_total}
use Rattle.col_set.specs.Lists.{Listed}
use Rattle.col_set.specs.Subsets.{subset_below}
use Rattle.col_set.proofs.Places.{same_rising}
use Rattle.col_set.proofs.Least.{Listed-least, IsLeast-listed, least_below}
use Rattle.col_set.proofs.More.{Rises-least}

-- Where vs refutes what ws refutes, and none of the least sets of ws, both leave the same.
module _ (n : ℕ) (ws vs : List ℕ) (t : Target) (more : (x : ℕ) → x < 2 ^ n → refuted ws t x ≡ true → refuted vs t x ≡ true) (stand : (x : ℕ) → Listed x (least n ws t) → refuted vs t x ≡ false) where
  weaker : (x : ℕ) → x < 2 ^ n → refuted vs t x ≡ false → refuted ws t x ≡ false
  weaker x b e = false_from_ne_true _ (λ h. true≢false (sym (more x b h) ∙ e))

  there : (x : ℕ) → Listed x (least n ws t) → Listed x (least n vs t)
  there x h =
      let l = IsLeast-listed n ws t x h in
      Listed-least n vs t x (record { below = l.below; lacks = l.lacks; stands = stand x h; smallest = λ y s g. l.smallest y s (weaker y (subset_below n s l.below) g) })

  back : (x : ℕ) → Listed x (least n vs t) → Listed x (least n ws t)
  back x h =
      let l = IsLeast-listed n vs t x h in
      let m = least_below n ws t x l.below l.lacks (weaker x l.below l.stands) in
      let g = Listed-least n ws t m.0 m.1 in
      subst (λ (z : ℕ). Listed z (least n ws t)) (l.smallest m.0 m.2 (stand m.0 g)) g

  pub least-same : least n ws t ≡ least n vs t
  least-same = same_rising report_total (least n ws t) (least n vs t) (Rises-least n ws t) (Rises-least n vs t) there back
