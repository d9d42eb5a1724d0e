use Rattle.std.proofs.Common.{◌≡◌, ◌++◌, ◌-◌, ◌+◌, Bool, List, [], ◌∷◌, length, take, drop, refl, sym, ap, ◌∙◌, subst}
use Rattle.first_rows.specs.Marked.{Marked, MarkedBy}
use Rattle.first_rows.proofs.Marking.{marks-more}
use Rattle.first_rows.proofs.first.marked.Goals as goal

-- what is written back to a list is the list
front : (xs ys : List Bool) → take (length xs) (xs ++ ys) ≡ xs
front [] ys = refl
front (x ∷ xs) ys = ap (λ (zs : List Bool). x ∷ zs) (front xs ys)

pub loop-k-preserved : goal.loop-k-preserved
loop-k-preserved c =
    let one : Marked c.group.result.now c.loop-k.later.items (length c.group.result.now) c.mark_later.new.later = subst (λ (old : List Bool). Marked c.group.result.now old (length c.group.result.now) c.mark_later.new.later) c.deref_mut.ensures.value c.mark_later.ensures in
    let more = marks-more c.args.groups.now (c.args.snapshot.now.to - 1) c.loop-k.k c.group.result.now c.loop-k.later.items c.mark_later.new.later c.group.ensures c.loop-k.invariant one in
    let long : length c.mark_later.new.later ≡ c.loop-k.later.len = one.long ∙ sym c.loop-k.later.ok.0 in
    subst (MarkedBy c.args.groups.now (c.args.snapshot.now.to - 1) (c.loop-k.k + 1))
    (sym (ap (λ n. take n (c.mark_later.new.later ++ drop (length c.mark_later.new.later) c.loop-k.later.items)) (sym long) ∙ front c.mark_later.new.later _)) more
