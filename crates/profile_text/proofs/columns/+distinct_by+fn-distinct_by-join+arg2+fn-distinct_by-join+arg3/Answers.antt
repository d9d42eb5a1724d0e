use Rattle.std.proofs.Common.{◌≡◌, ℕ, List, ◌++◌, take, drop, sym, subst, rules}
use Rattle.std.specs.List.{AllZip}
use Rattle.std.proofs.lemmas.List.{take-append-drop}
use Rattle.row_log.specs.Distinct.{AreDistinctCells}
use Rattle.cover_steps.proofs.Drafting.{AllZip-append}
use Rattle.profile_text.proofs.columns.+distinct_by+fn-distinct_by-join+arg2+fn-distinct_by-join+arg3.Goals as goal

-- two parts of a list
AllZip-parts : {X Y : Type 0} (P : X → Y → Type 0) (xs first second : List X) (n : ℕ) (us vs ws : List Y) → first ≡ take n xs → second ≡ drop n xs → ws ≡ us ++ vs → AllZip P first us → AllZip P second vs → AllZip P xs ws
AllZip-parts P xs first second n us vs ws e f g h k = subst (AllZip P xs) (sym g) (subst (λ zs. AllZip P zs (us ++ vs)) (take-append-drop n xs)
    (AllZip-append P (take n xs) (drop n xs) us vs (subst (λ zs. AllZip P zs us) e h) (subst (λ zs. AllZip P zs vs) f k)))

pub returns : goal.returns
returns g t c =
    let P = AreDistinctCells c.args.rows.now in
    let one : AllZip P c.split_at.result.0.now c.in_ok-found.found.items = search rules in
    let other : AllZip P c.split_at.result.1.now c.in_ok-more.more.items = search rules in
    AllZip-parts P c.args.columns.now c.split_at.result.0.now c.split_at.result.1.now _ c.in_ok-found.found.items c.in_ok-more.more.items c.append.new.self.items
    c.split_at.ensures.front c.split_at.ensures.back c.in_ok-append.ensures.items one other
