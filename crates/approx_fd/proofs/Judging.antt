-- What a round of candidates finds, and that rounds come to an end with all that is minimal.
use Rattle.std.proofs.Common.{inl, inr, ◌≡◌, ◌⊎◌, ℕ, ◌+◌, ◌<◌, ◌≤◌, true, false, eqb, refl, sym, ap, ap₂, ◌∙◌, subst, arith, List, [], ◌∷◌, ◌++◌, length, get_or, take, take_all, Option, Some, IfSome}
use Rattle.std.specs.List.{All, Contains}
use Rattle.std.proofs.lemmas.Bool.{eqb-true, eq-eqb, true≢false}
use Rattle.std.proofs.lemmas.List.{take_more}
use Rattle.col_set.specs.declared.target.Target.{Target}
use Rattle.col_set.specs.ColSet.{IsSubset}
use Rattle.col_set.specs.Evidence.{least}
use Rattle.col_set.specs.Lists.{Listed, Listed-append_cases, Listed-map}
use Rattle.col_set.proofs.Least.{IsLeast-listed}
use Rattle.col_set.proofs.Places.{Listed-get_or, Listed-contained}
use Rattle.rel_base.specs.CodeTable.{CodeTable}
use Rattle.rel_base.proofs.States.{All-listed, All-from}
use Rattle.stripped_partition.specs.Removed.{up_to}
use Rattle.approx_fd.specs.declared.found.NearKey.{NearKey}
use Rattle.approx_fd.specs.Removal.{removed_in}
use Rattle.approx_fd.specs.Approximate.{nearly_least}
use Rattle.approx_fd.specs.Search.{IsFailing, IsCounted, IsNews, IsCandidate, counted}
use Rattle.approx_fd.proofs.Calls.{up_to-some}
use Rattle.approx_fd.proofs.Evidence.{least-nearly}

pub none-yet : {X : Type 0} (P : X → Type 0) (xs : List X) → xs ≡ [] → All P xs
none-yet P xs e = subst (All P) (sym e) (λ k d l. absurd (omega arith))

pub one-more : {X : Type 0} (P : X → Type 0) (xs : List X) (x : X) → All P xs → P x → All P (xs ++ x ∷ [])
one-more {X = X} P xs x a p = All-from P (xs ++ x ∷ []) (λ y l. at y (Listed-append_cases y xs (x ∷ []) l))
  where
    at : (y : X) → Listed y xs ⊎ Listed y (x ∷ []) → P y
    at y (inl l) = All-listed P y xs a l
    at y (inr (inl e)) = subst P (sym e) p
    at y (inr (inr l)) = absurd l

-- what the length says of a list
pub none_left : (n : ℕ) (xs : List ℕ) → n ≡ length xs → eqb n 0 ≡ true → xs ≡ []
none_left n [] e f = refl
none_left n (x ∷ xs) e f = let i : n ≡ 0 = eqb-true n 0 f in absurd (omega arith)

pub some_left : (n : ℕ) (xs : List ℕ) → n ≡ length xs → eqb n 0 ≡ false → xs ≡ [] → ⊥
some_left n xs e f i = let z : length xs ≡ 0 = ap length i in true≢false (sym (eq-eqb n 0 (omega arith)) ∙ f)

not_empty : {X : Type 0} (xs : List X) (x : X) → xs ++ x ∷ [] ≡ [] → ⊥
not_empty [] x e = cc
not_empty (y ∷ xs) x e = cc

-- candidates are what evidence leaves
pub candidates-of : (s : CodeTable) (t : Target) (ws xs : List ℕ) → xs ≡ least (length s.codes) ws t → All (IsCandidate s t) xs
candidates-of s t ws xs e = All-from (IsCandidate s t) xs (λ x l. let m = IsLeast-listed (length s.codes) ws t x (subst (Listed x) e l) in record { below = m.below; lacks = m.lacks })

module _ (s : CodeTable) (most : ℕ) (t : Target) where
  pub known-counted : (held : List NearKey) (k : NearKey) → All (IsCounted s most t) held → Contains held k → IsCounted s most t k
  known-counted held k a h = All-listed (IsCounted s most t) k held a (Listed-contained k held h)

  pub found-counted : (x k : ℕ) → Some k ≡ up_to most (removed_in s x t) → IsCounted s most t (record { columns = x; removed = k })
  found-counted x k e = let w = up_to-some most (removed_in s x t) k (sym e) in let i = w.0 in let l = w.1 in record { removed = i; few = omega arith }

  -- the same of a search that stands for this snapshot and this bound
  pub counted-in : (u : CodeTable) (m x k : ℕ) (found : Option ℕ) → u ≡ s → m ≡ most → IfSome found (λ n. IsCounted u m t (record { columns = x; removed = n })) → found ≡ Some k → IsCounted s most t (record { columns = x; removed = k })
  counted-in u m x k found e f h i =
      subst (λ (v : CodeTable). IsCounted v most t (record { columns = x; removed = k })) e
      (subst (λ (n : ℕ). IsCounted u n t (record { columns = x; removed = k })) f (subst (λ (o : Option ℕ). IfSome o (λ n. IsCounted u m t (record { columns = x; removed = n }))) i h))

  pub all-counted-in : (u : CodeTable) (m : ℕ) (held : List NearKey) → u ≡ s → m ≡ most → All (IsCounted u m t) held → All (IsCounted s most t) held
  all-counted-in u m held e f h = subst (λ (v : CodeTable). All (IsCounted v most t) held) e (subst (λ (n : ℕ). All (IsCounted u n t) held) f h)

  pub failing-in : (u : CodeTable) (m w : ℕ) → u ≡ s → m ≡ most → IsFailing u m t w → IsFailing s most t w
  failing-in u m w e f h = subst (λ (v : CodeTable). IsFailing v most t w) e (subst (λ (n : ℕ). IsFailing u n t w) f h)

  pub news-in : (u : CodeTable) (m : ℕ) (xs news : List ℕ) → u ≡ s → m ≡ most → All (IsNews u m t xs) news → All (IsNews s most t xs) news
  news-in u m xs news e f h = subst (λ (v : CodeTable). All (IsNews v most t xs) news) e (subst (λ (n : ℕ). All (IsNews u n t xs) news) f h)

  pub candidates-left : (u : CodeTable) (n : ℕ) (ws handed xs sent : List ℕ) → u ≡ s → n ≡ length u.codes → handed ≡ ws → xs ≡ least n handed t → sent ≡ xs → sent ≡ least (length s.codes) ws t
  candidates-left u n ws handed xs sent e f h i j = j ∙ i ∙ ap₂ (λ (k : ℕ) (vs : List ℕ). least k vs t) (f ∙ ap (λ (v : CodeTable). length v.codes) e) h

  -- what is known after the first candidates
  pub record Judged (xs : List ℕ) (k : ℕ) (held : List NearKey) (news : List ℕ) : Type 0 where
    pub right : All (IsCounted s most t) held
    pub fails : All (IsNews s most t xs) news
    pub whole : news ≡ [] → held ≡ counted s t (take k xs)

  pub judged-start : (xs : List ℕ) (held : List NearKey) (news : List ℕ) → held ≡ [] → news ≡ [] → Judged xs 0 held news
  judged-start xs held news e f = record { right = none-yet (IsCounted s most t) held e; fails = none-yet (IsNews s most t xs) news f; whole = λ g. e }

  module _ (xs : List ℕ) (k x : ℕ) (held : List NearKey) (news : List ℕ) (j : Judged xs k held news) (l : k < length xs) (is : x ≡ get_or xs k x) where
    here : Listed x xs
    here = subst (λ (y : ℕ). Listed y xs) (sym is) (Listed-get_or xs k x l)

    -- a candidate that news refute is passed over
    pub judged-skipped : (news ≡ [] → ⊥) → Judged xs (k + 1) held news
    judged-skipped some = record { right = j.right; fails = j.fails; whole = λ g. absurd (some g) }

    pub judged-held : (count : ℕ) (more : List NearKey) → IsCounted s most t (record { columns = x; removed = count }) → more ≡ held ++ record { columns = x; removed = count } ∷ [] → Judged xs (k + 1) more news
    judged-held count more c m = record {
      right = subst (All (IsCounted s most t)) (sym m) (one-more (IsCounted s most t) held (record { columns = x; removed = count }) j.right c);
      fails = j.fails;
      whole = λ g.
          m ∙ ap (λ (n : ℕ). held ++ record { columns = x; removed = n } ∷ []) c.removed ∙ ap (λ (hs : List NearKey). hs ++ record { columns = x; removed = removed_in s x t } ∷ []) (j.whole g)
          ∙ sym (snoc (take k xs) x) ∙ ap (counted s t) (sym (take_more xs k x l ∙ ap (λ (y : ℕ). take k xs ++ y ∷ []) (sym is)));
    }
      where
        snoc : (ys : List ℕ) (y : ℕ) → counted s t (ys ++ y ∷ []) ≡ counted s t ys ++ record { columns = y; removed = removed_in s y t } ∷ []
        snoc [] y = refl
        snoc (z ∷ ys) y = ap (λ (hs : List NearKey). record { columns = z; removed = removed_in s z t } ∷ hs) (snoc ys y)

    pub judged-news : (w : ℕ) (more : List ℕ) → IsFailing s most t w → IsSubset x w → more ≡ news ++ w ∷ [] → Judged xs (k + 1) held more
    judged-news w more f i m = record {
      right = j.right;
      fails = subst (All (IsNews s most t xs)) (sym m) (one-more (IsNews s most t xs) news w j.fails (record { candidate = x; listed = here; inside = i; failing = f }));
      whole = λ g. absurd (not_empty news w (sym m ∙ g));
    }

  pub judged-end : (xs : List ℕ) (k : ℕ) (held : List NearKey) (news : List ℕ) → Judged xs k held news → length xs ≤ k → news ≡ [] → held ≡ counted s t xs
  judged-end xs k held news j l e = j.whole e ∙ ap (counted s t) (take_all k xs l)

  -- the last round
  pub settled-end : (ws xs : List ℕ) (held : List NearKey) → All (IsFailing s most t) ws → xs ≡ least (length s.codes) ws t → All (IsCounted s most t) held → held ≡ counted s t xs
      → held ≡ counted s t (nearly_least (length s.codes) (λ x. removed_in s x t) most t)
  settled-end ws xs held fail e right h = h ∙ ap (counted s t) (e ∙ least-nearly s most t (length s.codes) ws fail (λ x l.
      let c = All-listed (IsCounted s most t) (record { columns = x; removed = removed_in s x t }) held right
      (subst (λ (hs : List NearKey). Listed {X = NearKey} (record { columns = x; removed = removed_in s x t }) hs) (sym h) (Listed-map (λ (x : ℕ). record { columns = x; removed = removed_in s x t }) x xs (subst (Listed x) (sym e) l))) in
      c.few))
