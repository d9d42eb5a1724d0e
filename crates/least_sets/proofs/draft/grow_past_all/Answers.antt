use Rattle.std.proofs.Common.{◌++◌, ◌∷◌, ◌∙◌, [], ℕ, List, sym, ap, subst, take, append_assoc, append-nil}
use Rattle.std.proofs.lemmas.List.{take_more, take_all}
use Rattle.least_sets.specs.Growth.{choices, ListsLeast}
use Rattle.least_sets.proofs.draft.grow_past_all.Goals as goal

pub loop-z-init : goal.loop-z-init
loop-z-init c = λ ws l. subst (λ (vs : List ℕ). ListsLeast (choices c.args.columns c.args.target) vs c.args.target c.args.sets.now.items) (sym (append-nil ws)) l

pub loop-z-preserved : goal.loop-z-preserved
loop-z-preserved c = λ ws l.
    subst (λ (vs : List ℕ). ListsLeast (choices c.args.columns c.args.target) vs c.args.target c.grow_unless.new.sets.items)
    (append_assoc ws (take c.loop-z.z-index c.args.news.now) (c.z-item.result ∷ [])
    ∙ ap (λ (vs : List ℕ). ws ++ vs) (sym (take_more c.args.news.now c.loop-z.z-index c.z-item.result c.loop-z-test.true ∙ ap (λ (y : ℕ). take c.loop-z.z-index c.args.news.now ++ y ∷ []) (sym c.z-item.is))))
    (c.in_ok-grow_unless.ensures (ws ++ take c.loop-z.z-index c.args.news.now) (c.loop-z.invariant ws l))

pub returns : goal.returns
returns c = λ ws l. subst (λ (vs : List ℕ). ListsLeast (choices c.args.columns c.args.target) (ws ++ vs) c.args.target c.loop-z.sets.items) (take_all c.loop-z.z-index c.args.news.now c.loop-z-test.false) (c.loop-z.invariant ws l)
