-- Rounds of candidates: what a round finds, that later rounds have fewer sets left, and that the last one has the keys.
use Rattle.std.proofs.Common.{inl, inr, ◌≡◌, ◌≢◌, ◌⊎◌, ℕ, suc, ◌+◌, ◌^◌, ◌<◌, ◌≤◌, Bool, true, false, cond, not, ◌&&◌, ◌||◌, eqb, refl, sym, ap, ◌∙◌, subst, arith, List, [], ◌∷◌, ◌++◌, length, get_or, take, Equal, Result, Ok, Err, is_ok, IfOk, Option, Some, None, option_map, find, unwrap_or}
use Rattle.std.specs.List.{All, filter, list_any, Contains, HoldsAt}
use Rattle.std.specs.List.Sorted.{IsSearchInRange}
use Rattle.std.proofs.lemmas.Bool.{and_parts, and_from, true≢false, false≢true, not-true, not_from_false, false_from_ne_true, or_left, cases_eq, eq-eqb, eqb-true, ne_eqb}
use Rattle.std.proofs.lemmas.Option.{same_Some, none-some}
use Rattle.std.proofs.lemmas.List.{take_more, take_all}
use Rattle.col_set.specs.declared.target.Target.TheVariants.{Col}
use Rattle.col_set.specs.ColSet.{IsSubset, has, without, minus, first, columns, subset, report_cmp, all_sets}
use Rattle.col_set.specs.Target.{has_target}
use Rattle.col_set.specs.Minimal.{is_minimal, IsMinimal}
use Rattle.col_set.specs.Members.{has-minus, has-without}
use Rattle.col_set.specs.Subsets.{IsSubset-trans, same_test, subset-true, true-subset, subset_below, has_within}
use Rattle.col_set.specs.Lists.{Listed, Listed-append_left, Listed-append_right, Listed-append_cases, Listed-filter, Listed-filter_parts, filter_same, list_any_at, list_any_which}
use Rattle.col_set.specs.AllSets.{Listed-all_sets, all_sets_below, report_cmp-same}
use Rattle.col_set.proofs.EachColumn.{first-Some, first-None, Listed-columns}
use Rattle.col_set.proofs.Minimal.{IsMinimal-from_test, test_from_IsMinimal, minimal_below}
use Rattle.col_set.proofs.Places.{Contains-listed, Listed-contained, Listed-get_or}
use Rattle.rel_base.specs.CodeTable.{CodeTable, code_at}
use Rattle.rel_base.specs.Shows.{code_agree, code_agree_sets, live_numbers, holds_in}
use Rattle.rel_base.specs.Validity.{determined}
use Rattle.rel_base.proofs.Shown.{Listed-code_sets}
use Rattle.rel_base.proofs.States.{All-listed, All-from}
use Rattle.rel_base.proofs.Valid.{determined-from}
use Rattle.stripped_partition.specs.AnyOrder.{AreGroupsBy}
use Rattle.stripped_partition.specs.Stripped.{stripped, agree_on}
use Rattle.stripped_partition.specs.SplitBy.{least, differ, is_split, split_pair, split_by}
use Rattle.stripped_partition.proofs.Agreeing.{code_agree-parts, agree_on-subset}
use Rattle.stripped_partition.proofs.Dependencies.{stripped-parts, together, split_by-none, none-split_by, held-split}
use Rattle.stripped_partition.proofs.Live.{live_within}
use Rattle.key_finder.specs.Keys.{told_apart, keys_within}
use Rattle.key_finder.specs.Rounds.{IsDisproof, IsNews, IsUnique, AreUnique, standing}
use Rattle.key_finder.proofs.Tells.{told_by, told_from, determines-stands}

-- ---- the first that passes a test
module _ {X : Type 0} where
  find_passes : (p : X → Bool) (xs : List X) (x : X) → find p xs ≡ Some x → Listed x xs × (p x ≡ true)
  find_passes p [] x e = absurd (none-some x e)
  find_passes p (y ∷ xs) x e = by (p y) refl e (λ g. find_passes p xs x g)
    where
      by : (b : Bool) → p y ≡ b → cond b (Some y) (find p xs) ≡ Some x → (find p xs ≡ Some x → Listed x xs × (p x ≡ true)) → Listed x (y ∷ xs) × (p x ≡ true)
      by true i g rest = let d = same_Some y x g in (inl (sym d), sym (ap p d) ∙ i)
      by false i g rest = let w = rest g in (inr w.0, w.1)

  some_passes : (p : X → Bool) (xs : List X) → list_any p xs ≡ true → (x : X) × (find p xs ≡ Some x)
  some_passes p [] e = absurd (false≢true e)
  some_passes p (y ∷ xs) e = by (p y) refl e (λ g. some_passes p xs g)
    where
      by : (b : Bool) → p y ≡ b → (b || list_any p xs) ≡ true → (list_any p xs ≡ true → (x : X) × (find p xs ≡ Some x)) → (x : X) × (cond b (Some y) (find p xs) ≡ Some x)
      by true i g rest = (y, refl)
      by false i g rest = rest g

-- ---- what a search by halves finds
pub found-held : (held : List ℕ) (set : ℕ) (found : Result ℕ ℕ) → is_ok found ≡ true → IsSearchInRange found (length held) → IfOk found (HoldsAt (λ y. report_cmp y set ≡ Equal) held) → Contains held set
found-held held set (Ok k) e b h = (k, b, report_cmp-same (get_or held k set) set (h set))
found-held held set (Err k) e b h = absurd (false≢true e)

-- what the length says of a list
pub none_left : (n : ℕ) (xs : List ℕ) → n ≡ length xs → eqb n 0 ≡ true → xs ≡ []
none_left n [] e f = refl
none_left n (x ∷ xs) e f = let i : n ≡ 0 = eqb-true n 0 f in absurd (omega arith)

pub some_left : (n : ℕ) (xs : List ℕ) → n ≡ length xs → eqb n 0 ≡ false → xs ≡ [] → ⊥
some_left n xs e f i = let z : length xs ≡ 0 = ap length i in true≢false (sym (eq-eqb n 0 (omega arith)) ∙ f)

-- ---- a pair that a column splits off
module _ (s : CodeTable) (x a : ℕ) where
  pub record Split (p : ℕ × ℕ) : Type 0 where
    pub first : Listed p.0 (live_numbers s)
    pub second : Listed p.1 (live_numbers s)
    pub inside : agree_on s x p.0 p.1 ≡ true
    pub differ : code_at s p.0 a ≡ code_at s p.1 a → ⊥

  Split-group : (g : List ℕ) → Listed g (stripped s x) → is_split s a g ≡ true → Split (split_pair s a g)
  Split-group g l e =
      let w = some_passes (differ s a (least g)) g e in
      let q = find_passes (differ s a (least g)) g w.0 w.1 in
      let two = (stripped-parts s x g l).two in
      let lead : Listed (least g) g = Listed-get_or g 0 0 (omega arith) in
      let same : unwrap_or (find (differ s a (least g)) g) (least g) ≡ w.0 = ap (λ (o : Option ℕ). unwrap_or o (least g)) w.1 in
      let v = together s x g (least g) w.0 l lead q.0 in
      subst (λ (j : ℕ). Split (least g, j)) (sym same) (record {
        first = v.0;
        second = v.1;
        inside = v.2;
        differ = λ i. true≢false (sym q.1 ∙ ap not (eq-eqb _ _ i));
      })

  pub Split-split_by : (groups : List (List ℕ)) (p : ℕ × ℕ) → AreGroupsBy s x groups → split_by s a groups ≡ Some p → Split p
  unfolding split_by
  Split-split_by groups p are e = by (find (is_split s a) groups) refl e
    where
      by : (o : Option (List ℕ)) → find (is_split s a) groups ≡ o → option_map (split_pair s a) o ≡ Some p → Split p
      by None i f = absurd (none-some p f)
      by (Some g) i f =
          let q = find_passes (is_split s a) groups g i in
          subst Split (same_Some (split_pair s a g) p f) (Split-group g (are.only g q.0) q.1)

  pub unsplit-holds : (groups : List (List ℕ)) → AreGroupsBy s x groups → a < length s.codes → split_by s a groups ≡ None → holds_in s x (Col a) ≡ true
  unsplit-holds groups are l e =
      held-split s x a l (none-split_by s x a (stripped s x) (λ g h i m. split_by-none s x a groups e g (are.kept g h) i m))

  pub Split-given : (p : ℕ × ℕ) → Split p → (p.0 < s.to) × (p.1 < s.to)
  Split-given p h = ((live_within s p.0 h.first).1, (live_within s p.1 h.second).1)

  pub Split-disproof : (columns : ℕ) (p : ℕ × ℕ) (w : ℕ) → has columns a ≡ true → Split p → w ≡ code_agree s p.0 p.1 → IsDisproof s columns x w
  unfolding code_agree_sets
  Split-disproof columns p w h q e = subst (IsDisproof s columns x) (sym e) (record {
    known = Listed-code_sets s (live_numbers s) p.0 p.1 q.first q.second (λ i. q.differ (ap (λ (k : ℕ). code_at s k a) i));
    inside = true-subset (agree_on-subset s x p.0 p.1 q.inside);
    lacks = false_from_ne_true _ (λ i. q.differ (code_agree-parts s p.0 p.1 a ((subset-true i).each a h)).1);
  })

-- ---- the disproofs of one candidate
pub record Seeking (s : CodeTable) (columns x left : ℕ) (found : List ℕ) : Type 0 where
  pub each : All (IsDisproof s columns x) found
  pub within : columns < 2 ^ length s.codes
  pub rest : IsSubset left columns
  pub passed : found ≡ [] → (a : ℕ) → has columns a ≡ true → (has left a ≡ true) ⊎ (holds_in s x (Col a) ≡ true)

module _ (s : CodeTable) (columns x : ℕ) where
  trivially : (a : ℕ) → has x a ≡ true → holds_in s x (Col a) ≡ true
  unfolding holds_in has_target
  trivially a h = determined-from (code_agree_sets s) x (Col a) (λ w l i. i.each a h)

  pub seeking_start : (left : ℕ) (found : List ℕ) → columns < 2 ^ length s.codes → left ≡ minus columns x → found ≡ [] → Seeking s columns x left found
  seeking_start left found b e f = record {
    each = subst (All (IsDisproof s columns x)) (sym f) (λ k d l. absurd (omega arith));
    within = b;
    rest = record { each = λ k h. (and_parts (has columns k) (not (has x k)) (sym (has-minus columns x k) ∙ ap (λ (z : ℕ). has z k) (sym e) ∙ h)).0 };
    passed = λ none a h. by a h (has x a) refl;
  }
    where
      by : (a : ℕ) → has columns a ≡ true → (t : Bool) → has x a ≡ t → (has left a ≡ true) ⊎ (holds_in s x (Col a) ≡ true)
      by a h true i = inr (trivially a i)
      by a h false i = inl (ap (λ (z : ℕ). has z a) e ∙ has-minus columns x a ∙ and_from _ _ h (ap not i))

  module _ (left : ℕ) (found : List ℕ) (u : Seeking s columns x left found) where
    pub seeking_column : (column : ℕ) → Some column ≡ first left → column < length s.codes
    seeking_column column e = has_within columns (length s.codes) column u.within (u.rest.each column (first-Some left column e).had)

    pub seeking_smaller : (column rest : ℕ) → Some column ≡ first left → rest ≡ without left column → rest < left
    seeking_smaller column rest e r = subst (λ (z : ℕ). z < left) (sym r) (first-Some left column e).smaller

    module _ (column rest : ℕ) (e : Some column ≡ first left) (r : rest ≡ without left column) where
      fewer : IsSubset rest columns
      fewer = record { each = λ k h. u.rest.each k (and_parts (has left k) (not (eqb k column)) (sym (has-without left column k) ∙ ap (λ (z : ℕ). has z k) (sym r) ∙ h)).0 }

      pub seeking_none : (groups : List (List ℕ)) → AreGroupsBy s x groups → split_by s column groups ≡ None → Seeking s columns x rest found
      seeking_none groups are none = record { each = u.each; within = u.within; rest = fewer; passed = λ f a h. by a (u.passed f a h) (cases_eq a column) }
        where
          by : (a : ℕ) → (has left a ≡ true) ⊎ (holds_in s x (Col a) ≡ true) → (a ≡ column) ⊎ (a ≢ column) → (has rest a ≡ true) ⊎ (holds_in s x (Col a) ≡ true)
          by a h (inl i) = inr (subst (λ (b : ℕ). holds_in s x (Col b) ≡ true) (sym i) (unsplit-holds s x column groups are (seeking_column column e) none))
          by a (inl h) (inr ne) = inl (ap (λ (z : ℕ). has z a) r ∙ has-without left column a ∙ and_from _ _ h (ap not (ne_eqb a column ne)))
          by a (inr h) (inr ne) = inr h

      pub seeking_some : (groups : List (List ℕ)) (p : ℕ × ℕ) (w : ℕ) (more : List ℕ) → AreGroupsBy s x groups → split_by s column groups ≡ Some p → w ≡ code_agree s p.0 p.1 → more ≡ found ++ w ∷ [] → Seeking s columns x rest more
      seeking_some groups p w more are some is m = record {
        each = subst (All (IsDisproof s columns x)) (sym m) (All-from (IsDisproof s columns x) (found ++ w ∷ []) (λ v l. at v (Listed-append_cases v found (w ∷ []) l)));
        within = u.within;
        rest = fewer;
        passed = λ f. absurd (nonempty found (sym m ∙ f));
      }
        where
          one : IsDisproof s columns x w
          one = Split-disproof s x column columns p w (u.rest.each column (first-Some left column e).had) (Split-split_by s x column groups p are some) is

          at : (v : ℕ) → Listed v found ⊎ Listed v (w ∷ []) → IsDisproof s columns x v
          at v (inl l) = All-listed (IsDisproof s columns x) v found u.each l
          at v (inr (inl i)) = subst (IsDisproof s columns x) (sym i) one
          at v (inr (inr l)) = absurd l

          nonempty : (ys : List ℕ) → ys ++ w ∷ [] ≡ [] → ⊥
          nonempty [] i = cc
          nonempty (y ∷ ys) i = cc

    pub seeking_end : None ≡ first left → found ≡ [] → IsUnique s columns x
    unfolding holds_in
    seeking_end e f = determines-stands (code_agree_sets s) columns x (λ a h. by a (u.passed f a h))
      where
        by : (a : ℕ) → (has left a ≡ true) ⊎ (holds_in s x (Col a) ≡ true) → determined (code_agree_sets s) x (Col a) ≡ true
        by a (inl h) = absurd (subst (Listed a) (first-None left e) (Listed-columns left a h))
        by a (inr h) = h

-- ---- a round
-- what is known after the first candidates
pub record Judged (s : CodeTable) (columns : ℕ) (keys : List ℕ) (k : ℕ) (unique found : List ℕ) : Type 0 where
  pub held : AreUnique s columns unique
  pub news : All (IsNews s columns keys) found
  pub none : found ≡ [] → AreUnique s columns (take k keys)

module _ (s : CodeTable) (columns : ℕ) (keys : List ℕ) where
  pub judged_start : (unique news : List ℕ) → unique ≡ [] → news ≡ [] → Judged s columns keys 0 unique news
  judged_start unique news e f = record {
    held = subst (AreUnique s columns) (sym e) (λ k d l. absurd (omega arith));
    news = subst (All (IsNews s columns keys)) (sym f) (λ k d l. absurd (omega arith));
    none = λ g k d l. absurd (omega arith);
  }

  appended : (xs : List ℕ) (x : ℕ) → AreUnique s columns xs → IsUnique s columns x → AreUnique s columns (xs ++ x ∷ [])
  appended xs x a b = All-from (IsUnique s columns) (xs ++ x ∷ []) (λ v l. at v (Listed-append_cases v xs (x ∷ []) l))
    where
      at : (v : ℕ) → Listed v xs ⊎ Listed v (x ∷ []) → IsUnique s columns v
      at v (inl l) = All-listed (IsUnique s columns) v xs a l
      at v (inr (inl i)) = subst (IsUnique s columns) (sym i) b
      at v (inr (inr l)) = absurd l

  one_more : (k key : ℕ) → k < length keys → key ≡ get_or keys k key → AreUnique s columns (take k keys) → IsUnique s columns key → AreUnique s columns (take (k + 1) keys)
  one_more k key l is a b = subst (AreUnique s columns) (sym (take_more keys k key l ∙ ap (λ (y : ℕ). take k keys ++ y ∷ []) (sym is))) (appended (take k keys) key a b)

  module _ (k key : ℕ) (unique news : List ℕ) (j : Judged s columns keys k unique news) (l : k < length keys) (is : key ≡ get_or keys k key) where
    pub judged_unique : (more : List ℕ) → IsUnique s columns key → more ≡ unique ++ key ∷ [] → Judged s columns keys (k + 1) more news
    judged_unique more u m = record {
      held = subst (AreUnique s columns) (sym m) (appended unique key j.held u);
      news = j.news;
      none = λ g. one_more k key l is (j.none g) u;
    }

    pub judged_news : (found more : List ℕ) → All (IsDisproof s columns key) found → (found ≡ [] → ⊥) → more ≡ news ++ found → Judged s columns keys (k + 1) unique more
    judged_news found more f some m = record {
      held = j.held;
      news = subst (All (IsNews s columns keys)) (sym m) (All-from (IsNews s columns keys) (news ++ found) (λ w g. at w (Listed-append_cases w news found g)));
      none = λ g. absurd (some (tail_empty news found (sym m ∙ g)));
    }
      where
        here : Listed key keys
        here = subst (λ (x : ℕ). Listed x keys) (sym is) (Listed-get_or keys k key l)

        at : (w : ℕ) → Listed w news ⊎ Listed w found → IsNews s columns keys w
        at w (inl g) = All-listed (IsNews s columns keys) w news j.news g
        at w (inr g) = record { candidate = key; listed = here; disproof = All-listed (IsDisproof s columns key) w found f g }

        tail_empty : (xs ys : List ℕ) → xs ++ ys ≡ [] → ys ≡ []
        tail_empty [] ys e = e
        tail_empty (x ∷ xs) ys e = cc

  pub judged_end : (k : ℕ) (unique news : List ℕ) → Judged s columns keys k unique news → length keys ≤ k → news ≡ [] → AreUnique s columns keys
  judged_end k unique news j l e = subst (AreUnique s columns) (take_all k keys l) (j.none e)

-- ---- from round to round
pub record Searching (s : CodeTable) (columns : ℕ) (agree_sets unique : List ℕ) : Type 0 where
  pub known : All (λ (w : ℕ). Listed w (code_agree_sets s)) agree_sets
  pub held : AreUnique s columns unique

pub searching_start : (s : CodeTable) (columns : ℕ) (agree_sets held : List ℕ) → agree_sets ≡ [] → held ≡ [] → Searching s columns agree_sets held
searching_start s columns agree_sets held e f = record {
  known = subst (All (λ (w : ℕ). Listed w (code_agree_sets s))) (sym e) (λ k d l. absurd (omega arith));
  held = subst (AreUnique s columns) (sym f) (λ k d l. absurd (omega arith));
}

pub searching_more : (s : CodeTable) (columns : ℕ) (agree_sets held keys news unique more : List ℕ) → Searching s columns agree_sets held → All (IsNews s columns keys) news → AreUnique s columns unique → more ≡ agree_sets ++ news → Searching s columns more unique
searching_more s columns agree_sets held keys news unique more h n u m = record {
  known = subst (All (λ (w : ℕ). Listed w (code_agree_sets s))) (sym m) (All-from (λ (w : ℕ). Listed w (code_agree_sets s)) (agree_sets ++ news) (λ w l. at w (Listed-append_cases w agree_sets news l)));
  held = u;
}
  where
    at : (w : ℕ) → Listed w agree_sets ⊎ Listed w news → Listed w (code_agree_sets s)
    at w (inl l) = All-listed (λ (w : ℕ). Listed w (code_agree_sets s)) w agree_sets h.known l
    at w (inr l) = (All-listed (IsNews s columns keys) w news n l).disproof.known

-- a test that passes less keeps fewer
module _ (p q : ℕ → Bool) (f : (y : ℕ) → q y ≡ true → p y ≡ true) where
  kept_no_more : (xs : List ℕ) → length (filter q xs) ≤ length (filter p xs)
  kept_no_more [] = omega arith
  kept_no_more (y ∷ xs) = at (p y) (q y) refl refl (kept_no_more xs)
    where
      at : (a b : Bool) → p y ≡ a → q y ≡ b → length (filter q xs) ≤ length (filter p xs) → length (cond b (y ∷ filter q xs) (filter q xs)) ≤ length (cond a (y ∷ filter p xs) (filter p xs))
      at true true g h l = omega arith
      at true false g h l = omega arith
      at false true g h l = absurd (true≢false (sym (f y h) ∙ g))
      at false false g h l = l

  filter_fewer : (x : ℕ) (xs : List ℕ) → Listed x xs → p x ≡ true → q x ≡ false → length (filter q xs) < length (filter p xs)
  filter_fewer x [] h i j = absurd h
  filter_fewer x (y ∷ xs) (inl e) i j = at (p y) (q y) (sym (ap p e) ∙ i) (sym (ap q e) ∙ j) (kept_no_more xs)
    where
      at : (a b : Bool) → a ≡ true → b ≡ false → length (filter q xs) ≤ length (filter p xs) → length (cond b (y ∷ filter q xs) (filter q xs)) < length (cond a (y ∷ filter p xs) (filter p xs))
      at true false g h l = omega arith
      at true true g h l = absurd (true≢false h)
      at false b g h l = absurd (true≢false (sym g))
  filter_fewer x (y ∷ xs) (inr h) i j = at (p y) (q y) refl refl (filter_fewer x xs h i j)
    where
      at : (a b : Bool) → p y ≡ a → q y ≡ b → length (filter q xs) < length (filter p xs) → length (cond b (y ∷ filter q xs) (filter q xs)) < length (cond a (y ∷ filter p xs) (filter p xs))
      at true true g h l = omega arith
      at true false g h l = omega arith
      at false true g h l = absurd (true≢false (sym (f y h) ∙ g))
      at false false g h l = l

-- more agree sets tell no less apart
told-more : (s x : ℕ) (vs ws : List ℕ) → ((w : ℕ) → Listed w vs → Listed w ws) → told_apart vs s x ≡ true → told_apart ws s x ≡ true
told-more s x vs ws f e = let w = told_by vs s x e in told_from ws s x w.0 (f w.0 w.1) w.2 w.3

stands-fewer : (s x : ℕ) (vs ws : List ℕ) → ((w : ℕ) → Listed w vs → Listed w ws) → told_apart ws s x ≡ false → told_apart vs s x ≡ false
stands-fewer s x vs ws f e = false_from_ne_true _ (λ h. true≢false (sym (told-more s x vs ws f h) ∙ e))

key-parts : (n s x : ℕ) (ws : List ℕ) → Listed x (keys_within n ws s) → (x < 2 ^ n) × IsSubset x s × IsMinimal (λ y. not (told_apart ws s y)) x
unfolding keys_within
key-parts n s x ws l =
    let w = Listed-filter_parts (λ x. subset x s && is_minimal n (λ y. not (told_apart ws s y)) x) x (all_sets n) l in
    let q = and_parts (subset x s) (is_minimal n (λ y. not (told_apart ws s y)) x) w.1 in
    let b = all_sets_below n x w.0 in
    (b, subset-true q.0, IsMinimal-from_test n (λ y. not (told_apart ws s y)) x b q.1)

key-from : (n s x : ℕ) (ws : List ℕ) → x < 2 ^ n → IsSubset x s → IsMinimal (λ y. not (told_apart ws s y)) x → Listed x (keys_within n ws s)
unfolding keys_within
key-from n s x ws b i m = Listed-filter (λ x. subset x s && is_minimal n (λ y. not (told_apart ws s y)) x) x (all_sets n) (Listed-all_sets n x b) (and_from _ _ (true-subset i) (test_from_IsMinimal n (λ y. not (told_apart ws s y)) x m))

pub keys-inside : (n s : ℕ) (ws keys : List ℕ) → keys ≡ keys_within n ws s → All (λ (key : ℕ). IsSubset key s) keys
keys-inside n s ws keys e = All-from (λ (key : ℕ). IsSubset key s) keys (λ x l. (key-parts n s x ws (subst (Listed x) e l)).1)

-- news leave fewer sets
pub standing-less : (t : CodeTable) (n s : ℕ) (ws keys news more : List ℕ) → keys ≡ keys_within n ws s → All (IsNews t s keys) news → (news ≡ [] → ⊥) → more ≡ ws ++ news → standing n more s < standing n ws s
unfolding standing
standing-less t n s ws keys [] more e a some m = absurd (some refl)
standing-less t n s ws keys (w ∷ news) more e a some m =
    let new = a 0 w (omega arith) in
    let x = new.candidate in
    let k = key-parts n s x ws (subst (Listed x) e new.listed) in
    let told : told_apart more s x ≡ true = told_from more s x w (subst (Listed w) (sym m) (Listed-append_right w ws (w ∷ news) (inl refl))) new.disproof.inside new.disproof.lacks in
    filter_fewer (λ x. not (told_apart ws s x)) (λ x. not (told_apart more s x))
    (λ y h. not_from_false _ (stands-fewer s y ws more (λ v l. subst (Listed v) (sym m) (Listed-append_left v ws (w ∷ news) l)) (not-true _ h)))
    x (all_sets n) (Listed-all_sets n x k.0) k.2.passes (ap not told)

-- where all candidates are unique they are the keys
pub finished_keys : (t : CodeTable) (n s : ℕ) (ws keys : List ℕ) → s < 2 ^ n → keys ≡ keys_within n ws s → All (λ (w : ℕ). Listed w (code_agree_sets t)) ws → AreUnique t s keys → keys ≡ keys_within n (code_agree_sets t) s
unfolding keys_within
finished_keys t n s ws keys bound e a u = e ∙ filter_same _ _ (all_sets n) (λ x l. same_test _ _
    (λ h. let k = key-parts n s x ws (Listed-filter (λ x. subset x s && is_minimal n (λ y. not (told_apart ws s y)) x) x (all_sets n) l h) in
    (Listed-filter_parts (λ x. subset x s && is_minimal n (λ y. not (told_apart (code_agree_sets t) s y)) x) x (all_sets n) (key-from n s x (code_agree_sets t) k.0 k.1 (onto x k.0 k.1 k.2))).1)
    (λ h. let k = key-parts n s x (code_agree_sets t) (Listed-filter (λ x. subset x s && is_minimal n (λ y. not (told_apart (code_agree_sets t) s y)) x) x (all_sets n) l h) in
    (Listed-filter_parts (λ x. subset x s && is_minimal n (λ y. not (told_apart ws s y)) x) x (all_sets n) (key-from n s x ws k.0 k.1 (back x k.0 k.1 k.2))).1))
  where
    known : (w : ℕ) → Listed w ws → Listed w (code_agree_sets t)
    known w l = All-listed (λ (w : ℕ). Listed w (code_agree_sets t)) w ws a l

    unique : (x : ℕ) → x < 2 ^ n → IsSubset x s → IsMinimal (λ y. not (told_apart ws s y)) x → told_apart (code_agree_sets t) s x ≡ false
    unique x b i m = All-listed (IsUnique t s) x keys u (subst (Listed x) (sym e) (key-from n s x ws b i m))

    onto : (x : ℕ) → x < 2 ^ n → IsSubset x s → IsMinimal (λ y. not (told_apart ws s y)) x → IsMinimal (λ y. not (told_apart (code_agree_sets t) s y)) x
    onto x b i m = record {
      passes = not_from_false _ (unique x b i m);
      smallest = λ y j h. m.smallest y j (not_from_false _ (stands-fewer s y ws (code_agree_sets t) known (not-true _ h)));
    }

    back : (x : ℕ) → x < 2 ^ n → IsSubset x s → IsMinimal (λ y. not (told_apart (code_agree_sets t) s y)) x → IsMinimal (λ y. not (told_apart ws s y)) x
    back x b i m =
        let k = minimal_below (λ y. not (told_apart ws s y)) x (not_from_false _ (stands-fewer s x ws (code_agree_sets t) known (not-true _ m.passes))) in
        let e : k.set ≡ x = m.smallest k.set k.inside (not_from_false _ (unique k.set (subset_below n k.inside b) (IsSubset-trans k.inside i) k.minimal)) in
        subst (IsMinimal (λ y. not (told_apart ws s y))) e k.minimal
