use Rattle.std.proofs.Common.{◌≡◌, ◌≤◌, ◌∙◌, ◌++◌, ◌∷◌, ap, arith, refl, subst, sym, ℕ, Bool, true, false, List, [], length, take, cond}
use Rattle.std.proofs.lemmas.List.{length-append, take-append-le}
use Rattle.least_sets.specs.Drafts.{Drafted, AreDrafted, lists_behind}
use Rattle.least_sets.proofs.draft.Draft.noted.Goals as goal

-- the agree sets that were there stay the first ones
first_kept : (b : Bool) (made : ℕ) (ws : List ℕ) (z : ℕ) → made ≤ length ws → take made (cond b (ws ++ z ∷ []) ws) ≡ take made ws
first_kept true made ws z l = take-append-le made ws (z ∷ []) l
first_kept false made ws z l = refl

no_fewer : (b : Bool) (made : ℕ) (ws : List ℕ) (z : ℕ) → made ≤ length ws → made ≤ length (cond b (ws ++ z ∷ []) ws)
no_fewer true made ws z l = omega (arith, l, length-append ws (z ∷ []))
no_fewer false made ws z l = l

pub invariant_of-draft : goal.invariant_of-draft
invariant_of-draft c =
    let own = c.self.inside in
    let h = c.self.invariant in
    let sets = ap (λ (d : Drafted). d.agree_sets) c.in_ok-filing.ensures.filing in
    let wide = ap (λ (d : Drafted). d.width) c.in_ok-filing.ensures.filing in (
      subst (λ (ws : List ℕ). AreDrafted (length own.columns.items) ws own.row_id.items (lists_behind own.columns.items))
          (sym (ap (take own.made) sets ∙ first_kept c.in_ok-filing.is_news own.made own.filing.agree_sets c.args.z h.1)) h.0,
      subst (λ (ws : List ℕ). own.made ≤ length ws) (sym sets) (no_fewer c.in_ok-filing.is_news own.made own.filing.agree_sets c.args.z h.1),
      wide ∙ h.2,
    )
