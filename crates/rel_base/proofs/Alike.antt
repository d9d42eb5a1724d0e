-- What snapshots that are alike have in common.
use Rattle.std.proofs.Common.{inl, inr, ◌≡◌, ◌≢◌, ◌⊎◌, ℕ, ◌<◌, Bool, eqb, ltb, refl, sym, ap, ap₂, ◌∙◌, subst, List, [], ◌∷◌, map}
use Rattle.std.specs.List.{filter, Contains}
use Rattle.std.proofs.lemmas.Bool.{eqb-true, eq-eqb, cases_eq}
use Rattle.col_set.specs.declared.target.Target.{Target}
use Rattle.col_set.specs.Lists.{Listed, Listed-filter, Listed-filter_parts}
use Rattle.col_set.specs.Subsets.{same_test}
use Rattle.col_set.specs.Members.{same_set}
use Rattle.col_set.specs.AllSets.{set_of-has, has-set_of, Listed-upto, Listed-upto_within}
use Rattle.col_set.proofs.Places.{Contains-listed}
use Rattle.rel_base.specs.CodeTable.{CodeTable, code_at}
use Rattle.rel_base.specs.RowState.{RowState, IsRowState, width}
use Rattle.rel_base.specs.Validity.{pairs, determined}
use Rattle.rel_base.specs.Shows.{Shows, code_agree, live_numbers, code_sets, code_agree_sets, holds_in, holds_in_below}
use Rattle.rel_base.specs.Alike.{Alike}
use Rattle.rel_base.proofs.Agree.{PairOf, PairOf-pairs}
use Rattle.rel_base.proofs.Valid.{Climbs-filter}
use Rattle.rel_base.proofs.Shown.{Climbs-live_numbers, live_numbers-shown}

module _ (s u : CodeTable) (alike : Alike s u) where
  pub code_agree-alike : (i j : ℕ) → Contains (live_numbers s) i → Contains (live_numbers s) j → code_agree s i j ≡ code_agree u i j
  unfolding code_agree
  code_agree-alike i j h g = same_set _ _ (λ k. same_test _ _
      (λ e. let w = Listed-filter_parts (λ k. eqb (code_at s i k) (code_at s j k)) k _ (set_of-has k _ e) in
      let l = Listed-upto_within _ k w.0 in
      has-set_of k _ (Listed-filter (λ k. eqb (code_at u i k) (code_at u j k)) k _ (Listed-upto _ k (subst (λ (n : ℕ). k < n) alike.columns l))
      (eq-eqb _ _ ((alike.codes i j k h g l).0 (eqb-true _ _ w.1)))))
      (λ e. let w = Listed-filter_parts (λ k. eqb (code_at u i k) (code_at u j k)) k _ (set_of-has k _ e) in
      let l = subst (λ (n : ℕ). k < n) (sym alike.columns) (Listed-upto_within _ k w.0) in
      has-set_of k _ (Listed-filter (λ k. eqb (code_at s i k) (code_at s j k)) k _ (Listed-upto _ k l)
      (eq-eqb _ _ ((alike.codes i j k h g l).1 (eqb-true _ _ w.1))))))

  same_pairs : (ps : List (ℕ × ℕ)) → ((p : ℕ × ℕ) → Listed p ps → PairOf (live_numbers s) p.0 p.1) → map (λ p. code_agree s p.0 p.1) ps ≡ map (λ p. code_agree u p.0 p.1) ps
  same_pairs [] f = refl
  same_pairs (p ∷ ps) f =
      let q = f p (inl refl) in
      ap₂ (λ (w : ℕ) (ws : List ℕ). w ∷ ws) (code_agree-alike p.0 p.1 (Contains-listed p.0 _ q.first) (Contains-listed p.1 _ q.second)) (same_pairs ps (λ p h. f p (inr h)))

  code_sets-alike : (keep : ℕ → Bool) → code_sets s (filter keep (live_numbers s)) ≡ code_sets u (filter keep (live_numbers u))
  code_sets-alike keep =
      same_pairs (pairs (filter keep (live_numbers s))) (λ p h.
      let q = PairOf-pairs (filter keep (live_numbers s)) p (Climbs-filter keep (live_numbers s) (Climbs-live_numbers s)) h in
      record { first = (Listed-filter_parts keep p.0 _ q.first).0; second = (Listed-filter_parts keep p.1 _ q.second).0; rising = q.rising })
      ∙ ap (λ (ns : List ℕ). code_sets u (filter keep ns)) alike.live

  code_agree_sets-alike : code_agree_sets s ≡ code_agree_sets u
  unfolding code_agree_sets
  code_agree_sets-alike =
      same_pairs (pairs (live_numbers s)) (λ p h. PairOf-pairs (live_numbers s) p (Climbs-live_numbers s) h)
      ∙ ap (code_sets u) alike.live

  pub holds_in-alike : (x : ℕ) (t : Target) → holds_in s x t ≡ holds_in u x t
  unfolding holds_in
  holds_in-alike x t = ap (λ (ws : List ℕ). determined ws x t) code_agree_sets-alike

  pub holds_in_below-alike : (b x : ℕ) (t : Target) → holds_in_below b s x t ≡ holds_in_below b u x t
  unfolding holds_in_below
  holds_in_below-alike b x t = ap (λ (ws : List ℕ). determined ws x t) (code_sets-alike (λ i. ltb i b))

  pub alike-turned : Alike u s
  alike-turned = record {
    columns = sym alike.columns;
    next = sym alike.next;
    live = sym alike.live;
    codes = λ i j k h g l.
        let w = alike.codes i j k (subst (λ (ns : List ℕ). Contains ns i) (sym alike.live) h) (subst (λ (ns : List ℕ). Contains ns j) (sym alike.live) g) (subst (λ (n : ℕ). k < n) (sym alike.columns) l) in
        (w.1, w.0);
  }

pub alike-itself : (s : CodeTable) → Alike s s
alike-itself s = record { columns = refl; next = refl; live = refl; codes = λ i j k h g l. (λ e. e, λ e. e) }

pub alike-trans : (s u v : CodeTable) → Alike s u → Alike u v → Alike s v
alike-trans s u v a b = record {
  columns = a.columns ∙ b.columns;
  next = a.next ∙ b.next;
  live = a.live ∙ b.live;
  codes = λ i j k h g l.
      let w = a.codes i j k h g l in
      let z = b.codes i j k (subst (λ (ns : List ℕ). Contains ns i) a.live h) (subst (λ (ns : List ℕ). Contains ns j) a.live g) (subst (λ (n : ℕ). k < n) a.columns l) in
      (λ e. z.0 (w.0 e), λ e. w.1 (z.1 e));
}

pub alike-shown : (s u : CodeTable) (r : RowState) → IsRowState r → Shows s r → Shows u r → Alike s u
alike-shown s u r is a b = record {
  columns = a.columns ∙ sym b.columns;
  next = a.next ∙ sym b.next;
  live = live_numbers-shown s r is a ∙ sym (live_numbers-shown u r is b);
  codes = λ i j k h g l. by i j k (there i h) (there j g) (subst (λ (n : ℕ). k < n) a.columns l) (cases_eq i j);
}
  where
    there : (i : ℕ) → Contains (live_numbers s) i → Contains r.live i
    there i h = subst (λ (ns : List ℕ). Contains ns i) (live_numbers-shown s r is a) h

    by : (i j k : ℕ) → Contains r.live i → Contains r.live j → k < width r → (i ≡ j) ⊎ (i ≢ j) → ((code_at s i k ≡ code_at s j k) → (code_at u i k ≡ code_at u j k)) × ((code_at u i k ≡ code_at u j k) → (code_at s i k ≡ code_at s j k))
    by i j k h g l (inl e) = (λ _. ap (λ (n : ℕ). code_at u n k) e, λ _. ap (λ (n : ℕ). code_at s n k) e)
    by i j k h g l (inr ne) =
        let w = a.codes i j k h g ne l in
        let z = b.codes i j k h g ne l in
        (λ e. z.1 (w.0 e), λ e. w.1 (z.0 e))
