use Rattle.std.proofs.Common.{true, ◌≡◌, ◌∙◌, ◌++◌, [], ℕ, List, length, take, drop, sym, ap, subst, Vec}
use Rattle.std.specs.declared.alloc.Global.{Global}
use Rattle.std.proofs.lemmas.List.{take_rest}
use Rattle.col_set.specs.ColSet.{IsSubset}
use Rattle.col_set.specs.Evidence.{refuted}
use Rattle.least_sets.specs.Branches.{HasBranched}
use Rattle.least_sets.specs.Growth.{choices, ListsLeast}
use Rattle.least_sets.specs.Drafts.{Drafted, AreDrafted, lists_behind}
use Rattle.least_sets.proofs.Branches.{branched_least}
use Rattle.least_sets.proofs.Soles.{refuted_fresh, refuted_front, lists_same}
use Rattle.least_sets.proofs.draft.Draft.left_sides.Goals as goal

pub returns-then-news-gt-FEW : goal.returns-then-news-gt-FEW
returns-then-news-gt-FEW c =
    let filed : c.self.inside.filing.agree_sets ≡ c.args.self.now.agree_sets = ap (λ (d : Drafted). d.agree_sets) c.self.view_is in
    let wide : c.columns-columns.result ≡ c.args.self.now.width = c.columns-columns.ensures.width ∙ c.self.invariant.2 ∙ ap (λ (d : Drafted). d.width) c.self.view_is in
    let chosen : c.choices-choices.result ≡ choices c.args.self.now.width c.args.target = c.choices-choices.ensures ∙ ap (λ (n : ℕ). choices n c.args.target) wide in
    branched_least (choices c.args.self.now.width c.args.target) c.args.self.now.agree_sets c.args.target c.in_ok-kept.kept.items c.in_ok-sets.sets.items
    (λ x i. c.in_ok-kept.ensures x (subst (IsSubset x) (sym chosen) i) ∙ c.outer-outer.ensures x ∙ ap (λ (vs : List ℕ). refuted vs c.args.target x) filed)
    (subst (λ (u : ℕ). HasBranched true c.in_ok-kept.kept.items 0 u [] c.in_ok-sets.sets.items) chosen c.in_ok-sets.ensures)

pub returns : goal.returns
returns c =
    let d = c.self.inside in
    let front : List ℕ = take d.made d.filing.agree_sets in
    let n : ℕ = length d.columns.items in
    let wide : c.columns-columns.result ≡ n = c.columns-columns.ensures.width ∙ c.self.invariant.2 in
    let own : ListsLeast (choices n c.args.target) front c.args.target c.sides_of-own.result.now
    = subst (λ (m : ℕ). ListsLeast (choices m c.args.target) front c.args.target c.sides_of-own.result.now) (ap length c.as_slice-2.ensures.value)
    (c.sides_of-own.ensures front (subst (λ (xs : List ℕ). AreDrafted (length c.as_slice-2.result.now) front xs (lists_behind c.as_slice-2.result.now)) (sym c.as_slice.ensures.value)
    (subst (λ (ls : List (Vec ℕ Global)). AreDrafted (length ls) front d.row_id.items (lists_behind ls)) (sym c.as_slice-2.ensures.value) c.self.invariant.0))) in
    let old : ListsLeast (choices n c.args.target) front c.args.target c.extend_from_slice.new.self.items
    = subst (ListsLeast (choices n c.args.target) front c.args.target) (sym (c.in_ok-extend_from_slice.ensures.items ∙ ap (λ (xs : List ℕ). xs ++ c.sides_of-own.result.now) c.in_ok-sets-2.ensures.items)) own in
    let outer = c.outer-outer.result.now in
    let count = c.count_old.result in
    let told : (x : ℕ) → refuted (front ++ drop count outer) c.args.target x ≡ refuted d.filing.agree_sets c.args.target x
    = refuted_fresh d.filing.agree_sets front outer count c.args.target c.outer-outer.ensures (refuted_front d.filing.agree_sets d.made c.args.target)
    (λ w h. subst (λ (vs : List ℕ). refuted (take d.made vs) c.args.target w ≡ true) c.agree_sets.ensures (c.count_old.ensures.old w h)) in
    let made = c.in_ok-grow_past_all.ensures front (subst (λ (m : ℕ). ListsLeast (choices m c.args.target) front c.args.target c.extend_from_slice.new.self.items) (sym wide) old) in
    let fresh : ListsLeast (choices c.columns-columns.result c.args.target) (front ++ drop count outer) c.args.target c.grow_past_all.new.sets.items
    = subst (λ (ws : List ℕ). ListsLeast (choices c.columns-columns.result c.args.target) (front ++ ws) c.args.target c.grow_past_all.new.sets.items) (take_rest outer count) made in
    let all = lists_same (choices c.columns-columns.result c.args.target) (front ++ drop count outer) d.filing.agree_sets c.args.target c.grow_past_all.new.sets.items (λ y. sym (told y)) fresh in
    subst (λ (m : ℕ). ListsLeast (choices m c.args.target) c.args.self.now.agree_sets c.args.target c.grow_past_all.new.sets.items) (wide ∙ ap (λ (d : Drafted). d.width) c.self.view_is)
    (subst (λ (ws : List ℕ). ListsLeast (choices c.columns-columns.result c.args.target) ws c.args.target c.grow_past_all.new.sets.items) (ap (λ (d : Drafted). d.agree_sets) c.self.view_is) all)
