-- Evidence that is news.
use Rattle.std.proofs.Common.{inl, inr, ◌≡◌, ◌≢◌, ◌<◌, ◌+◌, ◌⊎◌, ℕ, length, take, get_or, true, false, not, ◌&&◌, refl, sym, ap, ◌∙◌, subst, List, [], ◌∷◌, ◌++◌, append_assoc, append-nil, eqb, Option, Some, None, IsPermutation}
use Rattle.std.specs.List.{All, AllPairs, list_any}
use Rattle.std.specs.Option.{option_eq}
use Rattle.std.proofs.lemmas.Bool.{eqb-true, true≢false, and_parts, and_from, or_cases, or_left, or_right, not-true, not_from_false, false_from_ne_true, true_from_ne_false}
use Rattle.std.proofs.lemmas.List.{map-append, take_more}
use Rattle.std.proofs.lemmas.List.Sorted.{Contains-permutation, IsPermutation-sym}
use Rattle.col_set.specs.declared.target.Target.{Target}
use Rattle.col_set.specs.declared.target.Target.TheVariants.{Col, RowId}
use Rattle.col_set.specs.AllSets.{Listed-upto}
use Rattle.col_set.specs.ColSet.{has, subset, upto}
use Rattle.col_set.specs.Target.{IsColumnTarget, has_target}
use Rattle.col_set.specs.Evidence.{refuted}
use Rattle.col_set.specs.Subsets.{IsSubset-refl, true-subset}
use Rattle.col_set.specs.Lists.{Listed, Listed-append_left, Listed-append_right, Listed-append_cases, Listed-map, list_any_at, list_any_which}
use Rattle.col_set.proofs.Places.{Contains-listed, Listed-contained}
use Rattle.rel_base.specs.RowState.{RowState}
use Rattle.rel_base.proofs.States.{All-listed, All-from}
use Rattle.negative_cover.specs.declared.negative_cover.Witness.{Witness}
use Rattle.negative_cover.specs.Witnesses.{sets_of}
use Rattle.least_sets.specs.Drafts.{Drafted, is_news}
use Rattle.cover_steps.specs.Sound.{IsWitness}
use Rattle.cover_steps.proofs.Lists.{AllPairs-Pairwise, Pairwise-AllPairs, Pairwise-append_one}
use Rattle.cover_steps.specs.Evidences.{IsNews}

All-push : {X : Type 0} (P : X → Type 0) (xs : List X) (x : X) → All P xs → P x → All P (xs ++ x ∷ [])
All-push P xs x a p = All-from P (xs ++ x ∷ []) (λ y h. at y (Listed-append_cases y xs (x ∷ []) h))
  where
    at : (y : _) → Listed y xs ⊎ Listed y (x ∷ []) → P y
    at y (inl h) = All-listed P y xs a h
    at y (inr (inl e)) = subst P (sym e) p
    at y (inr (inr h)) = absurd h

pub All-back : {X : Type 0} (P : X → Type 0) (xs : List X) (x : X) → All P (xs ++ x ∷ []) → P x
All-back P xs x a = All-listed P x (xs ++ x ∷ []) a (Listed-append_right x xs (x ∷ []) (inl refl))

pub All-permuted : {X : Type 0} (P : X → Type 0) (xs ys : List X) → IsPermutation xs ys → All P xs → All P ys
All-permuted P xs ys p a = All-from P ys (λ x h. All-listed P x xs a (Listed-contained x xs (Contains-permutation ys xs x (IsPermutation-sym xs ys p) (Contains-listed x ys h))))

pub same_option : (a b : Option ℕ) → option_eq eqb a b ≡ true → a ≡ b
same_option None None e = refl
same_option None (Some y) e = absurd (true≢false (sym e))
same_option (Some x) None e = absurd (true≢false (sym e))
same_option (Some x) (Some y) e = ap Some (eqb-true x y e)

-- what is news is not among the agree sets
pub news_apart : (n : ℕ) (ws : List ℕ) (z : ℕ) → is_news n ws z ≡ true → Listed z ws → ⊥
unfolding is_news refuted has_target
news_apart n ws z e h = by (or_cases _ _ e)
  where
    by : (not (refuted ws RowId z) ≡ true) ⊎ (list_any (λ a. not (has z a) && not (refuted ws (Col a) z)) (upto n) ≡ true) → ⊥
    by (inl f) = true≢false (sym (list_any_at (λ w. subset z w && not (has_target w RowId)) z ws h (and_from _ _ (true-subset (IsSubset-refl z)) refl)) ∙ not-true _ f)
    by (inr f) =
        let w = list_any_which (λ a. not (has z a) && not (refuted ws (Col a) z)) (upto n) f in
        let p = and_parts (not (has z w.0)) _ w.2 in
        true≢false (sym (list_any_at (λ v. subset z v && not (has_target v (Col w.0))) z ws h (and_from _ _ (true-subset (IsSubset-refl z)) p.0)) ∙ not-true _ p.1)

pub news_listed : (n : ℕ) (ws : List ℕ) (z : ℕ) → Listed z ws → is_news n ws z ≡ false
news_listed n ws z h = false_from_ne_true _ (λ e. news_apart n ws z e h)

-- what is no news to fewer agree sets is none to more
refuted_fewer : (ws vs : List ℕ) (t : Target) (z : ℕ) → refuted (ws ++ vs) t z ≡ false → refuted ws t z ≡ false
unfolding refuted
refuted_fewer ws vs t z e = false_from_ne_true _ (λ f.
    let w = list_any_which (λ w. subset z w && not (has_target w t)) ws f in
    true≢false (sym (list_any_at (λ w. subset z w && not (has_target w t)) w.0 (ws ++ vs) (Listed-append_left w.0 ws vs w.1) w.2) ∙ e))

news_fewer : (n : ℕ) (ws vs : List ℕ) (z : ℕ) → is_news n (ws ++ vs) z ≡ true → is_news n ws z ≡ true
unfolding is_news
news_fewer n ws vs z e = by (or_cases _ _ e)
  where
    by : (not (refuted (ws ++ vs) RowId z) ≡ true) ⊎ (list_any (λ a. not (has z a) && not (refuted (ws ++ vs) (Col a) z)) (upto n) ≡ true) → is_news n ws z ≡ true
    by (inl f) = or_left _ _ (not_from_false _ (refuted_fewer ws vs RowId z (not-true _ f)))
    by (inr f) =
        let w = list_any_which (λ a. not (has z a) && not (refuted (ws ++ vs) (Col a) z)) (upto n) f in
        let p = and_parts (not (has z w.0)) _ w.2 in
        or_right _ _ (list_any_at (λ a. not (has z a) && not (refuted ws (Col a) z)) w.0 (upto n) w.1 (and_from _ _ p.0 (not_from_false _ (refuted_fewer ws vs (Col w.0) z (not-true _ p.1)))))

pub news_kept : (n : ℕ) (ws vs : List ℕ) (z : ℕ) → is_news n ws z ≡ false → is_news n (ws ++ vs) z ≡ false
news_kept n ws vs z e = false_from_ne_true _ (λ f. true≢false (sym (news_fewer n ws vs z f) ∙ e))

-- what is no news is refuted for each target that it lacks
pub news_told : (n : ℕ) (ws : List ℕ) (z : ℕ) → is_news n ws z ≡ false → (t : Target) → IsColumnTarget n t → has_target z t ≡ false → refuted ws t z ≡ true
unfolding is_news has_target
news_told n ws z e RowId l h = true_from_ne_false _ (λ f. true≢false (sym (or_left _ _ (not_from_false _ f)) ∙ e))
news_told n ws z e (Col a) l h = true_from_ne_false _ (λ f.
    true≢false (sym (or_right _ _ (list_any_at (λ a. not (has z a) && not (refuted ws (Col a) z)) a (upto n) (Listed-upto n a l) (and_from _ _ (not_from_false _ h) (not_from_false _ f)))) ∙ e))

-- one more agree set that is noted
pub noted_told : (d e : Drafted) (z : ℕ) → e ≡ record { width = d.width; agree_sets = d.agree_sets ++ z ∷ [] } → is_news e.width e.agree_sets z ≡ false
noted_told d e z f = subst (λ (x : Drafted). is_news x.width x.agree_sets z ≡ false) (sym f) (news_listed d.width (d.agree_sets ++ z ∷ []) z (Listed-append_right z d.agree_sets (z ∷ []) (inl refl)))

pub noted_kept : (d e : Drafted) (z y : ℕ) → e ≡ record { width = d.width; agree_sets = d.agree_sets ++ z ∷ [] } → is_news d.width d.agree_sets y ≡ false → is_news e.width e.agree_sets y ≡ false
noted_kept d e z y f g = subst (λ (x : Drafted). is_news x.width x.agree_sets y ≡ false) (sym f) (news_kept d.width d.agree_sets (z ∷ []) y g)

pub news_none : (r : RowState) (n : ℕ) (ws : List Witness) (d : Drafted) → d ≡ record { width = n; agree_sets = sets_of ws } → IsNews r n ws [] d
news_none r n ws d e = record {
  drafted = e ∙ (λ i. record { width = n; agree_sets = sets_of (sym (append-nil ws) i) });
  witnesses = All-from (IsWitness r) [] (λ w h. absurd h);
  once = λ a. subst (AllPairs (λ v w. v.agree ≢ w.agree)) (sym (append-nil ws)) a;
}

pub news_more : (r : RowState) (n : ℕ) (ws more new : List Witness) (d e : Drafted) (w : Witness) → IsNews r n ws more d → is_news d.width d.agree_sets w.agree ≡ true → IsWitness r w → e ≡ record { width = d.width; agree_sets = d.agree_sets ++ w.agree ∷ [] }
    → new ≡ more ++ w ∷ [] → IsNews r n ws new e
news_more r n ws more new d e w k news is f g = subst (λ (vs : List Witness). IsNews r n ws vs e) (sym g) (record {
  drafted = f ∙ (λ i. record { width = (k.drafted i).width; agree_sets = (k.drafted i).agree_sets ++ w.agree ∷ [] })
      ∙ (λ i. record { width = n; agree_sets = sets i });
  witnesses = All-push (IsWitness r) more w k.witnesses is;
  once = λ a. subst (AllPairs (λ v w. v.agree ≢ w.agree)) (append_assoc ws more (w ∷ []))
      (AllPairs-Pairwise (λ v w. v.agree ≢ w.agree) ((ws ++ more) ++ w ∷ []) (Pairwise-append_one (λ v w. v.agree ≢ w.agree) (ws ++ more) w (Pairwise-AllPairs (λ v w. v.agree ≢ w.agree) (ws ++ more) (k.once a)) apart));
})
  where
    sets : sets_of (ws ++ more) ++ w.agree ∷ [] ≡ sets_of (ws ++ (more ++ w ∷ []))
    sets = sym (map-append (λ (w : Witness). w.agree) (ws ++ more) (w ∷ [])) ∙ ap (λ (vs : List Witness). sets_of vs) (append_assoc ws more (w ∷ []))

    apart : (v : Witness) → Listed v (ws ++ more) → v.agree ≢ w.agree
    apart v h i = news_apart d.width d.agree_sets w.agree news
        (subst (λ (x : Drafted). Listed w.agree x.agree_sets) (sym k.drafted) (subst (λ (z : ℕ). Listed z (sets_of (ws ++ more))) i (Listed-map (λ w. w.agree) v (ws ++ more) h)))

-- what is so of all up to a place, once it is so of what stands there
pub All-next : {X : Type 0} (P : X → Type 0) (xs : List X) (i : ℕ) (x : X) → i < length xs → x ≡ get_or xs i x → All P (take i xs) → P x → All P (take (i + 1) xs)
All-next P xs i x l is a p = subst (All P) (sym (take_more xs i x l ∙ ap (λ (y : _). take i xs ++ y ∷ []) (sym is))) (All-push P (take i xs) x a p)

-- and if what it says of the earlier ones stays so
pub All-still : {X : Type 0} (P Q : X → Type 0) (xs : List X) → ((x : X) → P x → Q x) → All P xs → All Q xs
All-still P Q xs f a = λ k d l. f (get_or xs k d) (a k d l)
