-- The least sets from a chosen set on, by those with one more column and those without it.
use Rattle.std.proofs.Common.{inl, inr, ◌≡◌, ◌⊎◌, ℕ, ◌+◌, ◌-◌, ◌<◌, ◌≤◌, Bool, true, false, not, ◌&&◌, ◌||◌, eqb, refl, sym, ap, ap₂, ◌∙◌, subst, List, [], ◌∷◌, ◌++◌, if◌then◌else◌, cond, length, map, get_or, take, drop, arith}
use Rattle.std.specs.List.{filter, list_any}
use Rattle.std.proofs.lemmas.Bool.{true≢false, false≢true, and_parts, and_from, or_cases, or_left, or_right, not-true, not_from_false, false_from_ne_true, true_from_ne_false, eqb-true, eq-eqb, ne_eqb, cases_Bool}
use Rattle.std.proofs.lemmas.List.{append-nil, append_assoc, length-take-le, take-append-drop, drop-drop, drop_more, drop_all}
use Rattle.std.proofs.lemmas.List.Elements.{filter-append}
use Rattle.std.proofs.lemmas.Grind.{flat_map-append}
use Rattle.std.proofs.lemmas.List.Folds.{list_any-append}
use Rattle.col_set.specs.declared.target.Target.{Target}
use Rattle.col_set.specs.ColSet.{IsSubset, columns, has, with, without, union, inter, minus, subset}
use Rattle.col_set.specs.Target.{has_target}
use Rattle.col_set.specs.Evidence.{refuted}
use Rattle.col_set.proofs.EachColumn.{Listed-columns}
use Rattle.col_set.specs.Members.{has-with, has-without, has-union, has-inter, has-minus, has-empty, same_set}
use Rattle.col_set.specs.Subsets.{IsSubset-refl, IsSubset-trans, IsSubset-antisymm, subset-true, true-subset, same_test}
use Rattle.col_set.specs.Lists.{Listed, Listed-append_left, Listed-append_right, Listed-append_cases, Listed-filter, Listed-filter_parts, Listed-map, Listed-map_which, Listed-flat_map, list_any_at, list_any_which}
use Rattle.col_set.proofs.Places.{Listed-get_or}
use Rattle.least_sets.proofs.Splitting.{subset_minus, filter_next, no_shorter, changed_end}
use Rattle.least_sets.specs.Growth.{having, IsLeastAmong, ListsLeast}
use Rattle.least_sets.specs.Members.{HasMembers}
use Rattle.least_sets.specs.Branches.{covered, lacking, sees, join, IsRun, IsCut, IsOwned, IsUnowned, IsLeastFrom, IsBranch, HasBranched, HasEnded, pruned}

-- ---- sets that agree sets contain
pub covered_at : (ws : List ℕ) (x w : ℕ) → Listed w ws → IsSubset x w → covered ws x ≡ true
covered_at ws x w h s = list_any_at (λ w. subset x w) w ws h (true-subset s)

pub record Covers (ws : List ℕ) (x : ℕ) : Type 0 where
  pub set : ℕ
  pub listed : Listed set ws
  pub inside : IsSubset x set

covered_which : (ws : List ℕ) (x : ℕ) → covered ws x ≡ true → Covers ws x
covered_which ws x e = let w = list_any_which (λ w. subset x w) ws e in record { set = w.0; listed = w.1; inside = subset-true w.2 }

covered_inside : (ws : List ℕ) (y x : ℕ) → IsSubset y x → covered ws x ≡ true → covered ws y ≡ true
covered_inside ws y x s e = let w = covered_which ws x e in covered_at ws y w.set w.listed (IsSubset-trans s w.inside)

covered_from : (vs ws : List ℕ) (x : ℕ) → ((w : ℕ) → Listed w vs → Listed w ws) → covered vs x ≡ true → covered ws x ≡ true
covered_from vs ws x f e = let w = covered_which vs x e in covered_at ws x w.set (f w.set w.listed) w.inside

-- ---- columns
pub no_columns : (x : ℕ) → columns x ≡ [] → x ≡ 0
no_columns x e = same_set x 0 (λ k. false_from_ne_true _ (λ h. absurd (subst (Listed k) e (Listed-columns x k h))) ∙ sym (has-empty k))

without_lacks : (s d : ℕ) → has (without s d) d ≡ false
without_lacks s d = has-without s d d ∙ false_from_ne_true _ (λ h. true≢false (sym (and_parts (has s d) _ h).1 ∙ ap not (eq-eqb d d refl)))

pub without_inside : (s d : ℕ) → IsSubset (without s d) s
without_inside s d = record { each = λ k h. (and_parts (has s k) _ (sym (has-without s d k) ∙ h)).0 }

without_keeps : (s d k : ℕ) → has s k ≡ true → (k ≡ d → ⊥) → has (without s d) k ≡ true
without_keeps s d k h n = has-without s d k ∙ and_from _ _ h (ap not (ne_eqb k d n))

-- what lies inside a set and lacks the column lies inside the set without it
inside_without : (y x d : ℕ) → IsSubset y x → has y d ≡ false → IsSubset y (without x d)
inside_without y x d s e = record { each = λ k h. without_keeps x d k (s.each k h) (λ i. true≢false (sym h ∙ ap (has y) i ∙ e)) }

-- without the column in a set that has or lacks it
without_less : (s x d : ℕ) → IsSubset s x → IsSubset (without s d) (without x d)
without_less s x d i = inside_without (without s d) x d (IsSubset-trans (without_inside s d) i) (without_lacks s d)

with_inside : (s c x : ℕ) → IsSubset s x → has x c ≡ true → IsSubset (with s c) x
with_inside s c x i e = record { each = λ k h. elim (or_cases (has s k) (eqb k c) (sym (has-with s c k) ∙ h)) as (λ _. has x k ≡ true) [ inl g ↦ i.each k g | inr g ↦ ap (has x) (eqb-true k c g) ∙ e ] }

with_has : (s c : ℕ) → has (with s c) c ≡ true
with_has s c = has-with s c c ∙ or_right (has s c) _ (eq-eqb c c refl)

with_above : (s c : ℕ) → IsSubset s (with s c)
with_above s c = record { each = λ k h. has-with s c k ∙ or_left _ _ h }

union_left : (s t : ℕ) → IsSubset s (union s t)
union_left s t = record { each = λ k h. has-union s t k ∙ or_left _ _ h }

-- the whole range with a column chosen, and without it
range_with : (s free c x : ℕ) → IsSubset x (union s free) → IsSubset x (union (with s c) (without free c))
range_with s free c x i = record { each = λ k h. has-union (with s c) (without free c) k ∙ by k (or_cases (has s k) (has free k) (sym (has-union s free k) ∙ i.each k h)) (cases_Bool (eqb k c)) }
  where
    by : (k : ℕ) → (has s k ≡ true) ⊎ (has free k ≡ true) → (eqb k c ≡ true) ⊎ (eqb k c ≡ false) → (has (with s c) k || has (without free c) k) ≡ true
    by k (inl h) b = or_left _ _ (has-with s c k ∙ or_left _ _ h)
    by k (inr h) (inl b) = or_left _ _ (has-with s c k ∙ or_right (has s k) _ b)
    by k (inr h) (inr b) = or_right (has (with s c) k) _ (has-without free c k ∙ and_from _ _ h (ap not b))

range_back : (s free c x : ℕ) → has free c ≡ true → IsSubset x (union (with s c) (without free c)) → IsSubset x (union s free)
range_back s free c x e i = record { each = λ k h. has-union s free k ∙ by k (or_cases (has (with s c) k) _ (sym (has-union (with s c) (without free c) k) ∙ i.each k h)) }
  where
    by : (k : ℕ) → (has (with s c) k ≡ true) ⊎ (has (without free c) k ≡ true) → (has s k || has free k) ≡ true
    by k (inl h) = elim (or_cases (has s k) (eqb k c) (sym (has-with s c k) ∙ h)) as (λ _. (has s k || has free k) ≡ true) [ inl g ↦ or_left _ _ g | inr g ↦ or_right (has s k) _ (ap (has free) (eqb-true k c g) ∙ e) ]
    by k (inr h) = or_right (has s k) _ ((without_inside free c).each k h)

range_without : (s free c x : ℕ) → has x c ≡ false → IsSubset x (union s free) → IsSubset x (union s (without free c))
range_without s free c x e i = record { each = λ k h. has-union s (without free c) k ∙ by k h (or_cases (has s k) (has free k) (sym (has-union s free k) ∙ i.each k h)) }
  where
    by : (k : ℕ) → has x k ≡ true → (has s k ≡ true) ⊎ (has free k ≡ true) → (has s k || has (without free c) k) ≡ true
    by k g (inl h) = or_left _ _ h
    by k g (inr h) = or_right (has s k) _ (without_keeps free c k h (λ j. true≢false (sym g ∙ ap (has x) j ∙ e)))

range_less : (s free c x : ℕ) → IsSubset x (union s (without free c)) → IsSubset x (union s free)
range_less s free c x i = record { each = λ k h. has-union s free k ∙ by k (or_cases (has s k) _ (sym (has-union s (without free c) k) ∙ i.each k h)) }
  where
    by : (k : ℕ) → (has s k ≡ true) ⊎ (has (without free c) k ≡ true) → (has s k || has free k) ≡ true
    by k (inl h) = or_left _ _ h
    by k (inr h) = or_right (has s k) _ ((without_inside free c).each k h)

-- a set of one column lies inside those that have it
pub single_inside : (k w single : ℕ) → single ≡ with 0 k → subset single w ≡ has w k
single_inside k w single e = elim (cases_Bool (has w k)) as (λ _. subset single w ≡ has w k) [
  | inl h ↦ true-subset (subst (λ (v : ℕ). IsSubset v w) (sym e) (with_inside 0 k w (record { each = λ j g. absurd (false≢true (sym (has-empty j) ∙ g)) }) h)) ∙ sym h
  | inr h ↦ false_from_ne_true _ (λ g. true≢false (sym ((subset-true g).each k (ap (λ (v : ℕ). has v k) e ∙ with_has 0 k)) ∙ h)) ∙ sym h
]

-- ---- a branch
module _ (ws : List ℕ) (s free : ℕ) (pending own : List ℕ) (b : IsBranch ws s free pending own) where
  -- no agree set is pending: s is the one
  pub branch_done : {all : Bool} → pending ≡ [] → (old new : List ℕ) → new ≡ old ++ s ∷ [] → HasBranched all ws s free old new
  branch_done e old new made = record {
    each = λ x h. elim (Listed-append_cases x old (s ∷ []) (subst (Listed x) made h)) as (λ _. Listed x old ⊎ IsLeastFrom ws s free x) [ inl g ↦ inl g | inr g ↦ inr (it_is x g) ];
    kept = λ x h. subst (Listed x) (sym made) (Listed-append_left x old (s ∷ []) h);
    every = λ t x l. subst (Listed x) (sym made) (Listed-append_right x old (s ∷ []) (inl (sym (l.smallest s l.above stands))));
  }
    where
      stands : covered ws s ≡ false
      stands = false_from_ne_true _ (λ h. false≢true (sym (ap (λ vs. covered vs s) e) ∙ b.tells s (IsSubset-refl s) (union_left s free) h))

      smallest : (y : ℕ) → IsSubset y s → covered ws y ≡ false → y ≡ s
      smallest y i f = IsSubset-antisymm i (record { each = λ d h. true_from_ne_false _ (λ g. true≢false (sym (covered_inside ws y (without s d) (inside_without y s d i g) (b.minimal d h)) ∙ f)) })

      it_is : (x : ℕ) → Listed x (s ∷ []) → IsLeastFrom ws s free x
      it_is x (inl i) = subst (IsLeastFrom ws s free) (sym i) (record { above = IsSubset-refl s; within = union_left s free; stands = stands; smallest = smallest })
      it_is x (inr h) = absurd h

  -- an pending agree set has all free columns: there is none
  pub branch_dead : {all : Bool} → covered pending free ≡ true → (old : List ℕ) → HasBranched all ws s free old old
  branch_dead e old = record { each = λ x h. inl h; kept = λ x h. h; every = λ t x l. absurd (none x l) }
    where
      none : (x : ℕ) → IsLeastFrom ws s free x → ⊥
      none x l =
          let w = covered_which pending free e in
          true≢false (sym (covered_at ws x w.set (b.real w.set w.listed) (record {
            each = λ k h. elim (or_cases (has s k) (has free k) (sym (has-union s free k) ∙ l.within.each k h)) as (λ _. has w.set k ≡ true) [
              | inl g ↦ (b.holds w.set w.listed).each k g
              | inr g ↦ w.inside.each k g
            ];
          })) ∙ l.stands)

  -- ---- by a column
  module _ (c : ℕ) (choice : has free c ≡ true) where
    abbrev more : List ℕ
    more = having c own ++ lacking c pending

    fresh : has s c ≡ false
    fresh = false_from_ne_true _ (λ h. true≢false (sym choice ∙ b.apart c h))

    -- a least set with the column
    down : (x : ℕ) → IsLeastFrom ws (with s c) (without free c) x → IsLeastFrom ws s free x
    down x l = record { above = IsSubset-trans (with_above s c) l.above; within = range_back s free c x choice l.within; stands = l.stands; smallest = l.smallest }

    own_more : (x : ℕ) → IsLeastFrom ws (with s c) (without free c) x → (d : ℕ) → has (with s c) d ≡ true → covered more (without x d) ≡ true
    own_more x l d h = elim (cases_Bool (eqb d c)) as (λ _. covered more (without x d) ≡ true) [ inl e ↦ subst (λ (k : ℕ). covered more (without x k) ≡ true) (sym (eqb-true d c e)) at_c | inr e ↦ elsewhere e ]
      where
        in_x : has x c ≡ true
        in_x = l.above.each c (with_has s c)

        proper : covered ws (without x c) ≡ true
        proper = true_from_ne_false _ (λ f. true≢false (sym in_x ∙ ap (λ (v : ℕ). has v c) (sym (l.smallest (without x c) (without_inside x c) f)) ∙ without_lacks x c))

        at_c : covered more (without x c) ≡ true
        at_c =
            let t : covered pending (without x c) ≡ true = b.tells (without x c) (inside_without s x c (IsSubset-trans (with_above s c) l.above) fresh) (IsSubset-trans (without_inside x c) (down x l).within) proper in
            let w = covered_which pending (without x c) t in
            covered_at more (without x c) w.set (Listed-append_right w.set (having c own) (lacking c pending) (Listed-filter (λ w. not (has w c)) w.set pending w.listed (not_from_false _ (out w)))) w.inside
          where
            out : (w : Covers pending (without x c)) → has w.set c ≡ false
            out w = false_from_ne_true _ (λ i. true≢false (sym (covered_at ws x w.set (b.real w.set w.listed) (record {
              each = λ k j. elim (cases_Bool (eqb k c)) as (λ _. has w.set k ≡ true) [
                | inl q ↦ ap (has w.set) (eqb-true k c q) ∙ i
                | inr q ↦ w.inside.each k (has-without x c k ∙ and_from _ _ j (ap not q))
              ];
            })) ∙ l.stands))

        elsewhere : eqb d c ≡ false → covered more (without x d) ≡ true
        elsewhere e =
            let h' : has s d ≡ true = elim (or_cases (has s d) (eqb d c) (sym (has-with s c d) ∙ h)) as (λ _. has s d ≡ true) [ inl g ↦ g | inr g ↦ absurd (true≢false (sym g ∙ e)) ] in
            let w = covered_which own (without x d) (b.own_all x (down x l) d h') in
            covered_at more (without x d) w.set (Listed-append_left w.set (having c own) (lacking c pending) (Listed-filter (λ w. has w c) w.set own w.listed
            (w.inside.each c (without_keeps x d c in_x (λ i. true≢false (sym (eq-eqb d c (sym i)) ∙ e)))))) w.inside

    own_each : (w : ℕ) → Listed w more → Listed w ws
    own_each w h = elim (Listed-append_cases w (having c own) (lacking c pending) h) as (λ _. Listed w ws) [
      | inl g ↦ b.own_real w (Listed-filter_parts (λ w. has w c) w own g).0
      | inr g ↦ b.real w (Listed-filter_parts (λ w. not (has w c)) w pending g).0
    ]

    -- an own set has all columns chosen but the one that it lacks
    own_less : (w : ℕ) → Listed w more → (d : ℕ) → has (with s c) d ≡ true → has w d ≡ false → IsSubset (without (with s c) d) w
    own_less w h d i o = elim (Listed-append_cases w (having c own) (lacking c pending) h) as (λ _. IsSubset (without (with s c) d) w) [
      | inl g ↦ let q = Listed-filter_parts (λ w. has w c) w own g in before q.0 q.1
      | inr g ↦ let q = Listed-filter_parts (λ w. not (has w c)) w pending g in lately q.0 (not-true _ q.1)
    ]
      where
        split : (k : ℕ) → has (without (with s c) d) k ≡ true → ((has s k ≡ true) ⊎ (k ≡ c)) × (k ≡ d → ⊥)
        split k j =
            let q = and_parts (has (with s c) k) _ (sym (has-without (with s c) d k) ∙ j) in (
              elim (or_cases (has s k) (eqb k c) (sym (has-with s c k) ∙ q.0)) as (λ _. (has s k ≡ true) ⊎ (k ≡ c)) [ inl f ↦ inl f | inr f ↦ inr (eqb-true k c f) ],
              λ e. true≢false (sym (eq-eqb k d e) ∙ not-true _ q.1),
            )

        lately : Listed w pending → has w c ≡ false → IsSubset (without (with s c) d) w
        lately g e = record {
          each = λ k j. let q = split k j in elim q.0 as (λ _. has w k ≡ true) [
            | inl f ↦ (b.holds w g).each k f
            | inr f ↦ absurd (q.1 (f ∙ sym is_c))
          ];
        }
          where
            is_c : d ≡ c
            is_c = elim (or_cases (has s d) (eqb d c) (sym (has-with s c d) ∙ i)) as (λ _. d ≡ c) [ inl f ↦ absurd (true≢false (sym ((b.holds w g).each d f) ∙ o)) | inr f ↦ eqb-true d c f ]

        before : Listed w own → has w c ≡ true → IsSubset (without (with s c) d) w
        before g e = record {
          each = λ k j. let q = split k j in elim q.0 as (λ _. has w k ≡ true) [
            | inl f ↦ (b.own_one w g d old o).each k (without_keeps s d k f q.1)
            | inr f ↦ ap (has w) f ∙ e
          ];
        }
          where
            old : has s d ≡ true
            old = elim (or_cases (has s d) (eqb d c) (sym (has-with s c d) ∙ i)) as (λ _. has s d ≡ true) [ inl f ↦ f | inr f ↦ absurd (true≢false (sym e ∙ ap (has w) (sym (eqb-true d c f)) ∙ o)) ]

    -- the branch of the sets with the column
    pub branch_with : IsOwned more (with s c) → IsBranch ws (with s c) (without free c) (having c pending) more
    branch_with owned = record {
      apart = λ d h. elim (or_cases (has s d) (eqb d c) (sym (has-with s c d) ∙ h)) as (λ _. has (without free c) d ≡ false) [
        | inl g ↦ false_from_ne_true _ (λ f. true≢false (sym ((without_inside free c).each d f) ∙ b.apart d g))
        | inr g ↦ ap (has (without free c)) (eqb-true d c g) ∙ without_lacks free c
      ];
      real = λ w h. b.real w (Listed-filter_parts (λ w. has w c) w pending h).0;
      holds = λ w h. let q = Listed-filter_parts (λ w. has w c) w pending h in with_inside s c w (b.holds w q.0) q.1;
      tells = λ x a i e.
          let w = covered_which pending x (b.tells x (IsSubset-trans (with_above s c) a) (range_back s free c x choice i) e) in
          covered_at (having c pending) x w.set (Listed-filter (λ w. has w c) w.set pending w.listed (w.inside.each c (a.each c (with_has s c)))) w.inside;
      own_real = own_each;
      own_one = own_less;
      own_all = own_more;
      minimal = λ d h.
          let w = list_any_which (λ w. not (has w d)) more (owned.each d h) in
          covered_at ws (without (with s c) d) w.0 (own_each w.0 w.1) (own_less w.0 w.1 d h (not-true _ w.2));
    }

    -- where a chosen column has no own agree set, there is none with the column
    pub branch_cut : (d : ℕ) → has (with s c) d ≡ true → list_any (λ w. not (has w d)) more ≡ false → (x : ℕ) → IsLeastFrom ws (with s c) (without free c) x → ⊥
    branch_cut d h none x l =
        let w = covered_which more (without x d) (own_more x l d h) in
        true≢false (sym (list_any_at (λ w. not (has w d)) w.set more w.listed (not_from_false _ (lacks w))) ∙ none)
      where
        lacks : (w : Covers more (without x d)) → has w.set d ≡ false
        lacks w = false_from_ne_true _ (λ i. true≢false (sym (covered_at ws x w.set (own_each w.set w.listed) (record {
          each = λ k j. elim (cases_Bool (eqb k d)) as (λ _. has w.set k ≡ true) [
            | inl q ↦ ap (has w.set) (eqb-true k d q) ∙ i
            | inr q ↦ w.inside.each k (has-without x d k ∙ and_from _ _ j (ap not q))
          ];
        })) ∙ l.stands))

    -- the branch of the sets without the column
    pub branch_without : IsBranch ws s (without free c) (pruned c (without free c) pending) own
    branch_without = record {
      apart = λ d h. false_from_ne_true _ (λ f. true≢false (sym ((without_inside free c).each d f) ∙ b.apart d h));
      real = λ w h. b.real w (Listed-filter_parts (λ w. not (has w c && list_any (λ v. subset (inter w (without free c)) v) (lacking c pending))) w pending h).0;
      holds = λ w h. b.holds w (Listed-filter_parts (λ w. not (has w c && list_any (λ v. subset (inter w (without free c)) v) (lacking c pending))) w pending h).0;
      tells = λ x a i e. still x a i (covered_which pending x (b.tells x a (range_less s free c x i) e));
      own_real = b.own_real;
      own_one = b.own_one;
      own_all = λ x l. b.own_all x (record { above = l.above; within = range_less s free c x l.within; stands = l.stands; smallest = l.smallest });
      minimal = b.minimal;
    }
      where
        goes : ℕ → Bool
        goes w = has w c && list_any (λ v. subset (inter w (without free c)) v) (lacking c pending)

        stays : (v : ℕ) → has v c ≡ false → Listed v pending → Listed v (pruned c (without free c) pending)
        stays v e h = Listed-filter (λ w. not (has w c && list_any (λ v. subset (inter w (without free c)) v) (lacking c pending))) v pending h (ap (λ d. not (d && list_any (λ u. subset (inter v (without free c)) u) (lacking c pending))) e)

        still : (x : ℕ) → IsSubset s x → IsSubset x (union s (without free c)) → Covers pending x → covered (pruned c (without free c) pending) x ≡ true
        still x a i w = by (has w.set c && list_any (λ v. subset (inter w.set (without free c)) v) (lacking c pending)) refl
          where
            by : (d : Bool) → (has w.set c && list_any (λ v. subset (inter w.set (without free c)) v) (lacking c pending)) ≡ d → covered (pruned c (without free c) pending) x ≡ true
            by false e = covered_at (pruned c (without free c) pending) x w.set (Listed-filter (λ w. not (has w c && list_any (λ v. subset (inter w (without free c)) v) (lacking c pending))) w.set pending w.listed (ap not e)) w.inside
            by true e =
                let q = list_any_which (λ v. subset (inter w.set (without free c)) v) (lacking c pending) (and_parts (has w.set c) _ e).1 in
                let p = Listed-filter_parts (λ w. not (has w c)) q.0 pending q.1 in
                covered_at (pruned c (without free c) pending) x q.0 (stays q.0 (not-true _ p.1) p.0) (record {
                  each = λ k h. elim (or_cases (has s k) (has (without free c) k) (sym (has-union s (without free c) k) ∙ i.each k h)) as (λ _. has q.0 k ≡ true) [
                    | inl g ↦ (b.holds q.0 p.0).each k g
                    | inr g ↦ (subset-true q.2).each k (has-inter w.set (without free c) k ∙ and_from _ _ (w.inside.each k h) g)
                  ];
                })

    -- the same where no agree set is dropped
    pub branch_whole : IsBranch ws s (without free c) pending own
    branch_whole = record {
      apart = branch_without.apart;
      real = b.real;
      holds = b.holds;
      tells = λ x a i e. b.tells x a (range_less s free c x i) e;
      own_real = b.own_real;
      own_one = b.own_one;
      own_all = branch_without.own_all;
      minimal = b.minimal;
    }

    -- both together
    pub branch_both : {all : Bool} (old mid new : List ℕ) → HasBranched all ws (with s c) (without free c) old mid → HasBranched all ws s (without free c) mid new → HasBranched all ws s free old new
    branch_both old mid new f g = record {
      each = λ x h. elim (g.each x h) as (λ _. Listed x old ⊎ IsLeastFrom ws s free x) [
        | inl i ↦ elim (f.each x i) as (λ _. Listed x old ⊎ IsLeastFrom ws s free x) [ inl j ↦ inl j | inr j ↦ inr (down x j) ]
        | inr i ↦ inr (record { above = i.above; within = range_less s free c x i.within; stands = i.stands; smallest = i.smallest })
      ];
      kept = λ x h. g.kept x (f.kept x h);
      every = λ t x l. elim (cases_Bool (has x c)) as (λ _. Listed x new) [
        | inl e ↦ g.kept x (f.every t x (record { above = with_inside s c x l.above e; within = range_with s free c x l.within; stands = l.stands; smallest = l.smallest }))
        | inr e ↦ g.every t x (record { above = l.above; within = range_without s free c x e l.within; stands = l.stands; smallest = l.smallest })
      ];
    }

    -- the own agree sets of the chosen columns, of those that have the column, are own ones of the branch with the column, and one that
    -- lacks the column is there for the column itself
    pub owned_with : IsOwned (having c own) s → list_any (λ w. not (has w c)) pending ≡ true → IsOwned more (with s c)
    owned_with owned lacks = record {
      each = λ d h. list_any-append (λ w. not (has w d)) (having c own) (lacking c pending) ∙ elim (or_cases (has s d) (eqb d c) (sym (has-with s c d) ∙ h)) as (λ _. (list_any (λ w. not (has w d)) (having c own) || list_any (λ w. not (has w d)) (lacking c pending)) ≡ true) [
        | inl g ↦ or_left _ _ (owned.each d g)
        | inr g ↦ or_right (list_any (λ w. not (has w d)) (having c own)) _ (subst (λ (k : ℕ). list_any (λ w. not (has w k)) (lacking c pending) ≡ true) (sym (eqb-true d c g)) at_c)
      ];
    }
      where
        at_c : list_any (λ w. not (has w c)) (lacking c pending) ≡ true
        at_c = let w = list_any_which (λ w. not (has w c)) pending lacks in list_any_at (λ w. not (has w c)) w.0 (lacking c pending) (Listed-filter (λ w. not (has w c)) w.0 pending w.1 w.2) w.2

    pub branch_none : {all : Bool} → IsUnowned (having c own) s → (old : List ℕ) → HasBranched all ws (with s c) (without free c) old old
    branch_none u old = record { each = λ x i. inl i; kept = λ x i. i; every = λ t x l. absurd (branch_cut u.column ((with_above s c).each u.column u.chosen) none x l) }
      where
        held : list_any (λ w. not (has w u.column)) (lacking c pending) ≡ false
        held = false_from_ne_true _ (λ h. let w = list_any_which (λ w. not (has w u.column)) (lacking c pending) h in true≢false (sym ((b.holds w.0 (Listed-filter_parts (λ w. not (has w c)) w.0 pending w.1).0).each u.column u.chosen) ∙ not-true _ w.2))

        none : list_any (λ w. not (has w u.column)) more ≡ false
        none = list_any-append (λ w. not (has w u.column)) (having c own) (lacking c pending) ∙ ap (λ d. d || list_any (λ w. not (has w u.column)) (lacking c pending)) u.none ∙ held

-- the column is one that all pending agree sets lack: with it there is one least set
ended_next : {all : Bool} (ws : List ℕ) (s free : ℕ) (pending own : List ℕ) (b : IsBranch ws s free pending own) (c : ℕ) (choice : has free c ≡ true)
    → having c pending ≡ [] → list_any (λ w. not (has w c)) pending ≡ true → (old mid : List ℕ) → IsOwned (having c own) s → mid ≡ old ++ with s c ∷ [] → HasBranched all ws (with s c) (without free c) old mid
ended_next ws s free pending own b c choice e lacks old mid owned made =
    branch_done ws (with s c) (without free c) (having c pending) (having c own ++ lacking c pending) (branch_with ws s free pending own b c choice (owned_with ws s free pending own b c choice owned lacks)) e old mid made

-- ---- the whole
covered_refuted : (ws : List ℕ) (t : Target) (x : ℕ) → covered (filter (λ w. not (has_target w t)) ws) x ≡ refuted ws t x
unfolding refuted
covered_refuted [] t x = refl
covered_refuted (w ∷ ws) t x = by (has_target w t) (covered_refuted ws t x)
  where
    by : (b : Bool) → covered (filter (λ w. not (has_target w t)) ws) x ≡ list_any (λ w. subset x w && not (has_target w t)) ws
        → covered (if not b then w ∷ filter (λ w. not (has_target w t)) ws else filter (λ w. not (has_target w t)) ws) x ≡ ((subset x w && not b) || list_any (λ w. subset x w && not (has_target w t)) ws)
    by true e = e ∙ and_false (subset x w) _
      where
        and_false : (b c : Bool) → c ≡ ((b && not true) || c)
        and_false true c = refl
        and_false false c = refl
    by false e = λ i. and_true (subset x w) i || e i
      where
        and_true : (b : Bool) → b ≡ (b && not false)
        and_true true = refl
        and_true false = refl

-- nothing is chosen, and the pending agree sets are some in which all lie as far as the free columns go
pub branch_opening : (ws : List ℕ) (free : ℕ) → IsBranch ws 0 free ws []
branch_opening ws free = record {
  apart = λ d h. absurd (false≢true (sym (has-empty d) ∙ h));
  real = λ w h. h;
  holds = λ w h. record { each = λ k g. absurd (false≢true (sym (has-empty k) ∙ g)) };
  tells = λ x a i e. e;
  own_real = λ w h. absurd h;
  own_one = λ w h. absurd h;
  own_all = λ x l d h. absurd (false≢true (sym (has-empty d) ∙ h));
  minimal = λ d h. absurd (false≢true (sym (has-empty d) ∙ h));
}

-- ---- the outermost of agree sets
pub record OutermostSoFar (ws : List ℕ) (free : ℕ) (rest kept : List ℕ) : Type 0 where
  pub rest_real : (w : ℕ) → Listed w rest → Listed w ws
  pub real : (w : ℕ) → Listed w kept → Listed w ws
  pub all : (w : ℕ) → Listed w ws → Listed w rest ⊎ (list_any (λ v. subset (inter w free) v) kept ≡ true)

inter_inside : (w free : ℕ) → subset (inter w free) w ≡ true
inter_inside w free = true-subset (record { each = λ k h. (and_parts (has w k) _ (sym (has-inter w free k) ∙ h)).0 })

pub all_kept : (ws : List ℕ) (free w : ℕ) → Listed w ws → list_any (λ v. subset (inter w free) v) ws ≡ true
all_kept ws free w h = list_any_at (λ v. subset (inter w free) v) w ws h (inter_inside w free)

pub outermost_none : (ws : List ℕ) (free : ℕ) (rest kept : List ℕ) → HasMembers ws rest → kept ≡ [] → OutermostSoFar ws free rest kept
outermost_none ws free rest kept m e = record { rest_real = m.each; real = λ w h. absurd (subst (Listed w) e h); all = λ w h. inl (m.every w h) }

-- the last of the rest is kept or lies inside one that was
pub outermost_kept : (ws : List ℕ) (free : ℕ) (rest rest' kept kept' : List ℕ) (x : ℕ) → rest ≡ rest' ++ x ∷ [] → kept' ≡ kept ++ x ∷ [] → OutermostSoFar ws free rest kept → OutermostSoFar ws free rest' kept'
outermost_kept ws free rest rest' kept kept' x e f o = record {
  rest_real = λ w h. o.rest_real w (subst (Listed w) (sym e) (Listed-append_left w rest' (x ∷ []) h));
  real = λ w h. elim (Listed-append_cases w kept (x ∷ []) (subst (Listed w) f h)) as (λ _. Listed w ws) [ inl g ↦ o.real w g | inr g ↦ o.rest_real w (subst (Listed w) (sym e) (Listed-append_right w rest' (x ∷ []) g)) ];
  all = λ w h. elim (o.all w h) as (λ _. Listed w rest' ⊎ (list_any (λ v. subset (inter w free) v) kept' ≡ true)) [
    | inl g ↦ elim (Listed-append_cases w rest' (x ∷ []) (subst (Listed w) e g)) as (λ _. Listed w rest' ⊎ (list_any (λ v. subset (inter w free) v) kept' ≡ true)) [
      | inl i ↦ inl i
      | inr i ↦ inr (list_any_at (λ v. subset (inter w free) v) w kept' (subst (Listed w) (sym f) (Listed-append_right w kept (x ∷ []) i)) (inter_inside w free))
    ]
    | inr g ↦ inr (ap (list_any (λ v. subset (inter w free) v)) f ∙ list_any-append (λ v. subset (inter w free) v) kept (x ∷ []) ∙ or_left _ _ g)
  ];
}

pub outermost_left : (ws : List ℕ) (free : ℕ) (rest rest' kept : List ℕ) (x : ℕ) → rest ≡ rest' ++ x ∷ [] → list_any (λ v. subset (inter x free) v) kept ≡ true → OutermostSoFar ws free rest kept → OutermostSoFar ws free rest' kept
outermost_left ws free rest rest' kept x e f o = record {
  rest_real = λ w h. o.rest_real w (subst (Listed w) (sym e) (Listed-append_left w rest' (x ∷ []) h));
  real = o.real;
  all = λ w h. elim (o.all w h) as (λ _. Listed w rest' ⊎ (list_any (λ v. subset (inter w free) v) kept ≡ true)) [
    | inl g ↦ elim (Listed-append_cases w rest' (x ∷ []) (subst (Listed w) e g)) as (λ _. Listed w rest' ⊎ (list_any (λ v. subset (inter w free) v) kept ≡ true)) [
      | inl i ↦ inl i
      | inr i ↦ inr (same w i)
    ]
    | inr g ↦ inr g
  ];
}
  where
    same : (w : ℕ) → Listed w (x ∷ []) → list_any (λ v. subset (inter w free) v) kept ≡ true
    same w (inl i) = subst (λ (u : ℕ). list_any (λ v. subset (inter u free) v) kept ≡ true) (sym i) f
    same w (inr i) = absurd i

pub outermost_all : (ws : List ℕ) (free : ℕ) (rest kept : List ℕ) → rest ≡ [] → OutermostSoFar ws free rest kept → (w : ℕ) → Listed w ws → list_any (λ v. subset (inter w free) v) kept ≡ true
outermost_all ws free rest kept e o w h = elim (o.all w h) as (λ _. list_any (λ v. subset (inter w free) v) kept ≡ true) [ inl g ↦ absurd (subst (Listed w) e g) | inr g ↦ g ]

-- where the agree sets contain among the columns what those contain that lack the target
module _ (free : ℕ) (ws : List ℕ) (t : Target) (vs xs : List ℕ) (same : (x : ℕ) → IsSubset x free → covered vs x ≡ refuted ws t x) where
  low : (x : ℕ) → IsSubset x (union 0 free) → IsSubset x free
  low x i = record { each = λ k g. elim (or_cases (has 0 k) (has free k) (sym (has-union 0 free k) ∙ i.each k g)) as (λ _. has free k ≡ true) [ inl f ↦ absurd (false≢true (sym (has-empty k) ∙ f)) | inr f ↦ f ] }

  pub branched_each : {all : Bool} → HasBranched all vs 0 free [] xs → (x : ℕ) → Listed x xs → IsLeastAmong free ws t x
  branched_each h x l = elim (h.each x l) as (λ _. IsLeastAmong free ws t x) [
    | inl g ↦ absurd g
    | inr g ↦ let i = low x g.within in record { within = i; stands = sym (same x i) ∙ g.stands; smallest = λ y s r. g.smallest y s (same y (IsSubset-trans s i) ∙ r) }
  ]

  pub branched_least : HasBranched true vs 0 free [] xs → ListsLeast free ws t xs
  branched_least h = record {
    each = branched_each h;
    every = λ x l. h.every refl x (record {
      above = record { each = λ k g. absurd (false≢true (sym (has-empty k) ∙ g)) };
      within = record { each = λ k g. has-union 0 free k ∙ or_right (has 0 k) _ (l.within.each k g) };
      stands = same x l.within ∙ l.stands;
      smallest = λ y s r. l.smallest y s (sym (same y (IsSubset-trans s l.within)) ∙ r);
    });
  }

-- those kept contain among the columns what all contain
pub kept_cover : (free : ℕ) (ws kept : List ℕ) → ((w : ℕ) → Listed w kept → Listed w ws) → ((w : ℕ) → Listed w ws → list_any (λ v. subset (inter w free) v) kept ≡ true) → (x : ℕ) → IsSubset x free → covered kept x ≡ covered ws x
kept_cover free ws kept real all x i = same_test (covered kept x) (covered ws x) (covered_from kept ws x real) there
  where
    there : covered ws x ≡ true → covered kept x ≡ true
    there h =
        let w = covered_which ws x h in
        let v = list_any_which (λ v. subset (inter w.set free) v) kept (all w.set w.listed) in
        covered_at kept x v.0 v.1 (record { each = λ k g. (subset-true v.2).each k (has-inter w.set free k ∙ and_from _ _ (w.inside.each k g) (i.each k g)) })

-- what was kept and those from a place on contain among the columns what all contain
pub record CoversWithRest (free : ℕ) (ws : List ℕ) (place : ℕ) (kept : List ℕ) : Type 0 where
  pub same : (x : ℕ) → IsSubset x free → covered (kept ++ drop place ws) x ≡ covered ws x

pub with_rest-none : (free : ℕ) (ws kept : List ℕ) → kept ≡ [] → CoversWithRest free ws 0 kept
with_rest-none free ws kept e = record { same = λ x i. ap (λ (vs : List ℕ). covered (vs ++ ws) x) e }

pub with_rest-kept : (free : ℕ) (ws : List ℕ) (place : ℕ) (kept kept' : List ℕ) (w : ℕ) → place < length ws → w ≡ get_or ws place w → kept' ≡ kept ++ w ∷ [] → CoversWithRest free ws place kept → CoversWithRest free ws (place + 1) kept'
with_rest-kept free ws place kept kept' w l is e c = record {
  same = λ x i. ap (λ (vs : List ℕ). covered (vs ++ drop (place + 1) ws) x) e ∙ ap (λ (vs : List ℕ). covered vs x) (append_assoc kept (w ∷ []) (drop (place + 1) ws) ∙ ap (λ (vs : List ℕ). kept ++ vs) (sym (drop_more ws place w l ∙ ap (λ (u : ℕ). u ∷ drop (place + 1) ws) (sym is)))) ∙ c.same x i;
}

pub with_rest-left : (free : ℕ) (ws : List ℕ) (place end : ℕ) (kept : List ℕ) (w : ℕ) → place < length ws → place < end → w ≡ get_or ws place w → list_any (λ v. subset (inter w free) v) (drop end ws) ≡ true → CoversWithRest free ws place kept → CoversWithRest free ws (place + 1) kept
with_rest-left free ws place end kept w l further is h c = record { same = λ x i. same_test _ _ (there x i) (back x i) ∙ c.same x i }
  where
    split : drop place ws ≡ w ∷ drop (place + 1) ws
    split = drop_more ws place w l ∙ ap (λ (u : ℕ). u ∷ drop (place + 1) ws) (sym is)

    there : (x : ℕ) → IsSubset x free → covered (kept ++ drop (place + 1) ws) x ≡ true → covered (kept ++ drop place ws) x ≡ true
    there x i e =
        let u = covered_which (kept ++ drop (place + 1) ws) x e in
        covered_at (kept ++ drop place ws) x u.set (elim (Listed-append_cases u.set kept (drop (place + 1) ws) u.listed) as (λ _. Listed u.set (kept ++ drop place ws)) [
          | inl g ↦ Listed-append_left u.set kept (drop place ws) g
          | inr g ↦ Listed-append_right u.set kept (drop place ws) (subst (Listed u.set) (sym split) (inr g))
        ]) u.inside

    later : (v : ℕ) → Listed v (drop end ws) → Listed v (drop (place + 1) ws)
    later v h =
        let e : drop end ws ≡ drop (end - (place + 1)) (drop (place + 1) ws) = (let m : place + 1 + (end - (place + 1)) ≡ end = omega (arith, further) in ap (λ (k : ℕ). drop k ws) (sym m) ∙ sym (drop-drop (end - (place + 1)) (place + 1) ws)) in
        subst (Listed v) (take-append-drop (end - (place + 1)) (drop (place + 1) ws)) (Listed-append_right v (take (end - (place + 1)) (drop (place + 1) ws)) (drop (end - (place + 1)) (drop (place + 1) ws)) (subst (Listed v) e h))

    back : (x : ℕ) → IsSubset x free → covered (kept ++ drop place ws) x ≡ true → covered (kept ++ drop (place + 1) ws) x ≡ true
    back x i e =
        let u = covered_which (kept ++ drop place ws) x e in
        let v = list_any_which (λ v. subset (inter w free) v) (drop end ws) h in
        elim (Listed-append_cases u.set kept (drop place ws) u.listed) as (λ _. covered (kept ++ drop (place + 1) ws) x ≡ true) [
          | inl g ↦ covered_at (kept ++ drop (place + 1) ws) x u.set (Listed-append_left u.set kept (drop (place + 1) ws) g) u.inside
          | inr g ↦ elim (subst (Listed u.set) split g) as (λ _. covered (kept ++ drop (place + 1) ws) x ≡ true) [
            | inl m ↦ covered_at (kept ++ drop (place + 1) ws) x v.0 (Listed-append_right v.0 kept (drop (place + 1) ws) (later v.0 v.1)) (record {
              each = λ k f. (subset-true v.2).each k (has-inter w free k ∙ and_from _ _ (subst (λ (z : ℕ). has z k ≡ true) m (u.inside.each k f)) (i.each k f));
            })
            | inr m ↦ covered_at (kept ++ drop (place + 1) ws) x u.set (Listed-append_right u.set kept (drop (place + 1) ws) m) u.inside
          ]
        ]

pub with_rest-all : (free : ℕ) (ws kept : List ℕ) (place : ℕ) → length ws ≤ place → CoversWithRest free ws place kept → (x : ℕ) → IsSubset x free → covered kept x ≡ covered ws x
with_rest-all free ws kept place l c x i = ap (λ (vs : List ℕ). covered vs x) (sym (append-nil kept) ∙ ap (λ (vs : List ℕ). kept ++ vs) (sym (drop_all place ws l))) ∙ c.same x i

pub outermost_tell : (free : ℕ) (ws : List ℕ) (t : Target) (lacking kept : List ℕ) → lacking ≡ filter (λ w. not (has_target w t)) ws → ((w : ℕ) → Listed w kept → Listed w lacking) → ((w : ℕ) → Listed w lacking → list_any (λ v. subset (inter w free) v) kept ≡ true) → (x : ℕ) → IsSubset x free → covered kept x ≡ refuted ws t x
outermost_tell free ws t lacking kept e real all x i = kept_cover free lacking kept real all x i ∙ ap (λ us. covered us x) e ∙ covered_refuted ws t x

pub some_sets : (xs : List ℕ) → eqb (length xs) 0 ≡ false → 0 < length xs
some_sets [] e = absurd (true≢false e)
some_sets (x ∷ xs) e = omega arith

pub no_sets : (xs : List ℕ) → eqb (length xs) 0 ≡ true → xs ≡ []
no_sets [] e = refl
no_sets (x ∷ xs) e = absurd (let h = eqb-true (length (x ∷ xs)) 0 e in omega arith)

-- ---- the same under other names
pub branch_as : (ws : List ℕ) (s s' free free' : ℕ) (pending pending' own own' : List ℕ) → s' ≡ s → free' ≡ free → pending' ≡ pending → own' ≡ own → IsBranch ws s free pending own → IsBranch ws s' free' pending' own'
branch_as ws s s' free free' pending pending' own own' e f g h b =
    subst (λ (v : ℕ). IsBranch ws v free' pending' own') (sym e) (subst (λ (v : ℕ). IsBranch ws s v pending' own') (sym f)
    (subst (λ (vs : List ℕ). IsBranch ws s free vs own') (sym g) (subst (λ (vs : List ℕ). IsBranch ws s free pending vs) (sym h) b)))

pub branched_as : {all : Bool} (ws : List ℕ) (s s' free free' : ℕ) (old new new' : List ℕ) → s' ≡ s → free' ≡ free → new' ≡ new → HasBranched all ws s' free' old new → HasBranched all ws s free old new'
branched_as {all} ws s s' free free' old new new' e f g b =
    subst (λ (vs : List ℕ). HasBranched all ws s free old vs) (sym g) (subst (λ (v : ℕ). HasBranched all ws v free old new) e (subst (λ (v : ℕ). HasBranched all ws s' v old new) f b))

pub no_length : (xs : List ℕ) → length xs ≡ 0 → xs ≡ []
no_length [] e = refl
no_length (x ∷ xs) e = absurd (omega arith)

-- ---- the loops
pub lacking_more : (k : ℕ) (ws : List ℕ) (i w : ℕ) (old found : List ℕ) → i < length ws → w ≡ get_or ws i w → not (has w k) ≡ true → found ≡ old ++ lacking k (take i ws) → found ++ w ∷ [] ≡ old ++ lacking k (take (i + 1) ws)
lacking_more k ws i w old found l is h e =
    ap (λ (vs : List ℕ). vs ++ w ∷ []) e ∙ append_assoc old (lacking k (take i ws)) (w ∷ [])
    ∙ ap (λ (vs : List ℕ). old ++ vs) (sym (filter_next 0 ws i w l is (λ w. not (has w k)) ∙ ap (λ b. lacking k (take i ws) ++ cond b (w ∷ []) []) h))

pub lacking_same : (k : ℕ) (ws : List ℕ) (i w : ℕ) (old found : List ℕ) → i < length ws → w ≡ get_or ws i w → not (has w k) ≡ false → found ≡ old ++ lacking k (take i ws) → found ≡ old ++ lacking k (take (i + 1) ws)
lacking_same k ws i w old found l is h e =
    e ∙ ap (λ (vs : List ℕ). old ++ vs) (sym (filter_next 0 ws i w l is (λ w. not (has w k)) ∙ ap (λ b. lacking k (take i ws) ++ cond b (w ∷ []) []) h ∙ append-nil _))

-- ---- own agree sets in a list for each chosen column
in_join : (lists : List (List ℕ)) (vs : List ℕ) (w : ℕ) → Listed vs lists → Listed w vs → Listed w (join lists)
in_join lists vs w h g = Listed-flat_map (λ us. us) vs w lists h g

pub cut_owned : (s : ℕ) (lists : List (List ℕ)) → IsCut s lists → (k : ℕ) → ((vs : List ℕ) → Listed vs lists → sees vs k ≡ true) → IsOwned (having k (join lists)) s
cut_owned s lists c k seen = record {
  each = λ d h.
      let run = c.every d h in
      let w = list_any_which (λ w. has w k) run.0 (seen run.0 run.1) in
      list_any_at (λ w. not (has w d)) w.0 (having k (join lists)) (Listed-filter (λ w. has w k) w.0 (join lists) (in_join lists run.0 w.0 run.1 w.1) w.2) (not_from_false _ (run.2.lack w.0 w.1));
}

pub cut_unowned : (s : ℕ) (lists : List (List ℕ)) → IsCut s lists → (k : ℕ) → ((vs : List ℕ) × Listed vs lists × (sees vs k ≡ false)) → IsUnowned (having k (join lists)) s
cut_unowned s lists c k w =
    let run = c.each w.0 w.1 in record {
      column = run.0;
      chosen = run.1.chosen;
      none = false_from_ne_true _ (λ h.
          let v = list_any_which (λ v. not (has v run.0)) (having k (join lists)) h in
          let q = Listed-filter_parts (λ v. has v k) v.0 (join lists) v.1 in
          true≢false (sym (list_any_at (λ v. has v k) v.0 w.0 (run.1.all v.0 q.0 (not-true _ v.2)) q.1) ∙ w.2));
    }

-- the lists with a column more
join_having : (k : ℕ) (lists : List (List ℕ)) → join (map (having k) lists) ≡ having k (join lists)
join_having k [] = refl
join_having k (vs ∷ lists) = ap (λ (us : List ℕ). having k vs ++ us) (join_having k lists) ∙ sym (filter-append (λ w. has w k) vs (join lists))

pub join_with : (k : ℕ) (lists : List (List ℕ)) (ys : List ℕ) → join (map (having k) lists ++ ys ∷ []) ≡ having k (join lists) ++ ys
join_with k lists ys = flat_map-append (λ us. us) (map (having k) lists) (ys ∷ []) ∙ ap₂ (λ (us vs : List ℕ). us ++ vs) (join_having k lists) (append-nil ys)

pub cut_with : (ws : List ℕ) (s free : ℕ) (pending : List ℕ) (lists : List (List ℕ)) → IsBranch ws s free pending (join lists) → IsCut s lists → (c : ℕ) → has free c ≡ true → IsCut (with s c) (map (having c) lists ++ lacking c pending ∷ [])
cut_with ws s free pending lists b cut c choice = record {
  each = λ vs h. elim (Listed-append_cases vs (map (having c) lists) (lacking c pending ∷ []) h) as (λ _. (d : ℕ) × IsRun (with s c) (join now) vs d) [
    | inl g ↦
        let w = Listed-map_which (having c) vs lists g in
        let run = cut.each w.0 w.1 in
        (run.0, subst (λ (us : List ℕ). IsRun (with s c) (join now) us run.0) (sym w.2) (old run.0 w.0 run.1))
    | inr g ↦ (c, last vs g)
  ];
  every = λ d h. elim (or_cases (has s d) (eqb d c) (sym (has-with s c d) ∙ h)) as (λ _. (vs : List ℕ) × Listed vs now × IsRun (with s c) (join now) vs d) [
    | inl g ↦
        let run = cut.every d g in
        (having c run.0, Listed-append_left (having c run.0) (map (having c) lists) (lacking c pending ∷ []) (Listed-map (having c) run.0 lists run.1), old d run.0 run.2)
    | inr g ↦ (lacking c pending, Listed-append_right (lacking c pending) (map (having c) lists) (lacking c pending ∷ []) (inl refl), subst (λ (k : ℕ). IsRun (with s c) (join now) (lacking c pending) k) (sym (eqb-true d c g)) new)
  ];
}
  where
    now : List (List ℕ)
    now = map (having c) lists ++ lacking c pending ∷ []

    parts_of : (w : ℕ) → Listed w (join now) → Listed w (having c (join lists)) ⊎ Listed w (lacking c pending)
    parts_of w h = Listed-append_cases w (having c (join lists)) (lacking c pending) (subst (Listed w) (join_with c lists (lacking c pending)) h)

    old : (d : ℕ) (vs : List ℕ) → IsRun s (join lists) vs d → IsRun (with s c) (join now) (having c vs) d
    old d vs run = record {
      chosen = (with_above s c).each d run.chosen;
      lack = λ w h. run.lack w (Listed-filter_parts (λ v. has v c) w vs h).0;
      all = λ w h n. elim (parts_of w h) as (λ _. Listed w (having c vs)) [
        | inl g ↦ let q = Listed-filter_parts (λ v. has v c) w (join lists) g in Listed-filter (λ v. has v c) w vs (run.all w q.0 n) q.1
        | inr g ↦ absurd (true≢false (sym ((b.holds w (Listed-filter_parts (λ v. not (has v c)) w pending g).0).each d run.chosen) ∙ n))
      ];
    }

    new : IsRun (with s c) (join now) (lacking c pending) c
    new = record {
      chosen = with_has s c;
      lack = λ w h. not-true _ (Listed-filter_parts (λ v. not (has v c)) w pending h).1;
      all = λ w h n. elim (parts_of w h) as (λ _. Listed w (lacking c pending)) [
        | inl g ↦ absurd (true≢false (sym (Listed-filter_parts (λ v. has v c) w (join lists) g).1 ∙ n))
        | inr g ↦ g
      ];
    }

    last : (vs : List ℕ) → Listed vs (lacking c pending ∷ []) → IsRun (with s c) (join now) vs c
    last vs (inl e) = subst (λ (us : List ℕ). IsRun (with s c) (join now) us c) (sym e) new
    last vs (inr g) = absurd g

pub cut_opening : IsCut 0 []
cut_opening = record { each = λ vs h. absurd h; every = λ d h. absurd (false≢true (sym (has-empty d) ∙ h)) }

-- what one of the agree sets lacks of the free columns
pub record FewestSoFar (pending : List ℕ) (free fewest : ℕ) : Type 0 where
  pub set : ℕ
  pub listed : Listed set pending
  pub is : fewest ≡ minus free set

pub fewest_at : (pending : List ℕ) (free fewest i w : ℕ) → i < length pending → w ≡ get_or pending i w → fewest ≡ minus free w → FewestSoFar pending free fewest
fewest_at pending free fewest i w l is e = record { set = w; listed = subst (λ (v : ℕ). Listed v pending) (sym is) (Listed-get_or pending i w l); is = e }

module _ (pending : List ℕ) (free fewest : ℕ) (f : FewestSoFar pending free fewest) where
  pub fewest_low : IsSubset fewest free
  fewest_low = subst (λ (v : ℕ). IsSubset v free) (sym f.is) (record { each = λ k h. (and_parts (has free k) _ (sym (has-minus free f.set k) ∙ h)).0 })

  pub fewest_lacks : (k : ℕ) → has fewest k ≡ true → list_any (λ w. not (has w k)) pending ≡ true
  fewest_lacks k h = list_any_at (λ w. not (has w k)) f.set pending f.listed ((and_parts (has free k) _ (sym (has-minus free f.set k) ∙ ap (λ (v : ℕ). has v k) (sym f.is) ∙ h)).1)

  pub fewest_none : fewest ≡ 0 → covered pending free ≡ true
  fewest_none e = covered_at pending free f.set f.listed (subset-true (sym (subset_minus free f.set) ∙ eq-eqb (minus free f.set) 0 (sym f.is ∙ e)))

-- the free columns that none of the agree sets has
pub record LackedSoFar (pending : List ℕ) (free lacked : ℕ) : Type 0 where
  pub low : IsSubset lacked free
  pub none : (k : ℕ) → has lacked k ≡ true → having k pending ≡ []

pub lacked_first : (free : ℕ) → LackedSoFar [] free free
lacked_first free = record { low = IsSubset-refl free; none = λ k h. refl }

pub lacked_more : (pending : List ℕ) (free lacked i w new : ℕ) → i < length pending → w ≡ get_or pending i w → LackedSoFar (take i pending) free lacked → new ≡ minus lacked w → LackedSoFar (take (i + 1) pending) free new
lacked_more pending free lacked i w new l is s e = record {
  low = record { each = λ k h. s.low.each k (parts k h).0 };
  none = λ k h. filter_next 0 pending i w l is (λ w. has w k) ∙ ap (λ d. having k (take i pending) ++ cond d (w ∷ []) []) (not-true _ (parts k h).1) ∙ append-nil _ ∙ s.none k (parts k h).0;
}
  where
    parts : (k : ℕ) → has new k ≡ true → (has lacked k ≡ true) × (not (has w k) ≡ true)
    parts k h = and_parts (has lacked k) _ (sym (has-minus lacked w k) ∙ ap (λ (v : ℕ). has v k) (sym e) ∙ h)

-- ---- the ends
-- What is known while columns that all pending agree sets lack are gone through: those that are left are free still.
pub record EndsSoFar (s free lacked rest left : ℕ) (old mid : List ℕ) : Type 0 where
  pub open_ones : IsSubset rest left
  pub among : IsSubset rest lacked
  pub low : IsSubset left free
  pub gone : (k : ℕ) → has lacked k ≡ true → has rest k ≡ false → has left k ≡ false
  pub ended : (ws pending own : List ℕ) → IsBranch ws s free pending own → 0 < length pending → ((k : ℕ) → has lacked k ≡ true → having k pending ≡ []) → ((k : ℕ) → has lacked k ≡ true → IsOwned (having k own) s) → HasEnded ws s free left pending own old mid

pub ends_first : (s free lacked : ℕ) (old : List ℕ) → IsSubset lacked free → EndsSoFar s free lacked lacked free old old
ends_first s free lacked old i = record { open_ones = i; among = IsSubset-refl lacked; low = IsSubset-refl free; gone = λ k h n. absurd (true≢false (sym h ∙ n)); ended = λ ws pending own b l f g. record { branch = b; whole = λ all new h. h } }

-- where none of some agree sets has the column, one lacks it
one_lacks : (pending : List ℕ) (c : ℕ) → 0 < length pending → having c pending ≡ [] → list_any (λ w. not (has w c)) pending ≡ true
one_lacks [] c l e = absurd (omega arith)
one_lacks (w ∷ ws) c l e = or_left _ _ (by (has w c) e)
  where
    by : (d : Bool) → cond d (w ∷ having c ws) (having c ws) ≡ [] → not d ≡ true
    by true f = cc
    by false f = refl

pub ends_more : (s free lacked rest left : ℕ) (old mid : List ℕ) → EndsSoFar s free lacked rest left old mid → (c : ℕ) → has rest c ≡ true → (new : List ℕ) → new ≡ mid ++ with s c ∷ []
    → (rest' left' : ℕ) → rest' ≡ without rest c → left' ≡ without left c → EndsSoFar s free lacked rest' left' old new
ends_more s free lacked rest left old mid e c had new made rest' left' f g = subst (λ (v : ℕ). EndsSoFar s free lacked v left' old new) (sym f) (subst (λ (v : ℕ). EndsSoFar s free lacked (without rest c) v old new) (sym g) (record {
  open_ones = without_less rest left c e.open_ones;
  among = IsSubset-trans (without_inside rest c) e.among;
  low = IsSubset-trans (without_inside left c) e.low;
  gone = λ k h n. elim (cases_Bool (has rest k)) as (λ _. has (without left c) k ≡ false) [
    | inl i ↦ elim (cases_Bool (eqb k c)) as (λ _. has (without left c) k ≡ false) [
      | inl j ↦ ap (has (without left c)) (eqb-true k c j) ∙ without_lacks left c
      | inr j ↦ absurd (true≢false (sym (has-without rest c k ∙ and_from _ _ i (ap not j)) ∙ n))
    ]
    | inr i ↦ has-without left c k ∙ ap (λ b. b && not (eqb k c)) (e.gone k h i)
  ];
  ended = λ ws pending own b l none owned.
      let h = e.ended ws pending own b l none owned in
      let free_one : has left c ≡ true = e.open_ones.each c had in
      let none_has = none c (e.among.each c had) in
      record {
        branch = branch_whole ws s left pending own h.branch c free_one;
        whole = λ all last i. h.whole all last (branch_both ws s left pending own h.branch c free_one mid new last
            (ended_next ws s left pending own h.branch c free_one none_has (one_lacks pending c l none_has) mid new (owned c (e.among.each c had)) made) i);
      };
}))

-- ---- fewer free columns
-- Where a free column is one with which some chosen column keeps no agree set of its own, no least set from the chosen columns on has it.
pub narrowed : (ws : List ℕ) (s free few : ℕ) (pending own : List ℕ) → IsBranch ws s free pending own → IsSubset few free → ((k : ℕ) → has free k ≡ true → has few k ≡ false → IsUnowned (having k own) s) → (old : List ℕ) → HasEnded ws s free few pending own old old
narrowed ws s free few pending own b low unowned old = record {
  branch = record {
    apart = λ d h. false_from_ne_true _ (λ f. true≢false (sym (low.each d f) ∙ b.apart d h));
    real = b.real;
    holds = b.holds;
    tells = λ x a i e. b.tells x a (wider x i) e;
    own_real = b.own_real;
    own_one = b.own_one;
    own_all = λ x l. b.own_all x (up x l);
    minimal = b.minimal;
  };
  whole = λ all new h. record {
    each = λ x i. elim (h.each x i) as (λ _. Listed x old ⊎ IsLeastFrom ws s free x) [ inl j ↦ inl j | inr j ↦ inr (up x j) ];
    kept = h.kept;
    every = λ t x l. h.every t x (record { above = l.above; within = record { each = λ k g. has-union s few k ∙ within x l k g }; stands = l.stands; smallest = l.smallest });
  };
}
  where
    wider : (x : ℕ) → IsSubset x (union s few) → IsSubset x (union s free)
    wider x i = record { each = λ k h. has-union s free k ∙ elim (or_cases (has s k) (has few k) (sym (has-union s few k) ∙ i.each k h)) as (λ _. (has s k || has free k) ≡ true) [ inl g ↦ or_left _ _ g | inr g ↦ or_right (has s k) _ (low.each k g) ] }

    up : (x : ℕ) → IsLeastFrom ws s few x → IsLeastFrom ws s free x
    up x l = record { above = l.above; within = wider x l.within; stands = l.stands; smallest = l.smallest }

    -- a column that is not among the few
    out : (x : ℕ) → IsLeastFrom ws s free x → (k : ℕ) → has x k ≡ true → has free k ≡ true → has few k ≡ false → ⊥
    out x l k h f n =
        let u = unowned k f n in
        let w = covered_which own (without x u.column) (b.own_all x l u.column u.chosen) in
        let apart : k ≡ u.column → ⊥ = λ e. true≢false (sym f ∙ ap (has free) e ∙ b.apart u.column u.chosen) in
        true≢false (sym (list_any_at (λ w. not (has w u.column)) w.set (having k own) (Listed-filter (λ w. has w k) w.set own w.listed (w.inside.each k (without_keeps x u.column k h apart))) (not_from_false _ (lacks u.column w))) ∙ u.none)
      where
        lacks : (d : ℕ) (w : Covers own (without x d)) → has w.set d ≡ false
        lacks d w = false_from_ne_true _ (λ i. true≢false (sym (covered_at ws x w.set (b.own_real w.set w.listed) (record {
          each = λ j g. elim (cases_Bool (eqb j d)) as (λ _. has w.set j ≡ true) [
            | inl q ↦ ap (has w.set) (eqb-true j d q) ∙ i
            | inr q ↦ w.inside.each j (has-without x d j ∙ and_from _ _ g (ap not q))
          ];
        })) ∙ l.stands))

    within : (x : ℕ) → IsLeastFrom ws s free x → (k : ℕ) → has x k ≡ true → (has s k || has few k) ≡ true
    within x l k g = elim (or_cases (has s k) (has free k) (sym (has-union s free k) ∙ l.within.each k g)) as (λ _. (has s k || has few k) ≡ true) [
      | inl f ↦ or_left _ _ f
      | inr f ↦ or_right (has s k) _ (true_from_ne_false _ (λ n. out x l k g f n))
    ]

-- one after the other
pub ended_after : (ws : List ℕ) (s free few left : ℕ) (pending own old mid : List ℕ) → HasEnded ws s free few pending own old old → HasEnded ws s few left pending own old mid → HasEnded ws s free left pending own old mid
ended_after ws s free few left pending own old mid f g = record { branch = g.branch; whole = λ all new h. f.whole all new (g.whole all new h) }

-- ---- the branches of a frame, after its ends
pub branch_by : {all : Bool} (ws : List ℕ) (s free left : ℕ) (pending own old mid : List ℕ) (e : HasEnded ws s free left pending own old mid) (k : ℕ) → has left k ≡ true → (between new : List ℕ)
    → HasBranched all ws (with s k) (without left k) mid between → HasBranched all ws s (without left k) between new → HasBranched all ws s free old new
branch_by {all} ws s free left pending own old mid e k choice between new first second = e.whole all new (branch_both ws s left pending own e.branch k choice mid between new first second)

-- where the search ends at a bound, its ends are all that it adds
pub branch_last : {all : Bool} (ws : List ℕ) (s free left : ℕ) (pending own old mid : List ℕ) → HasEnded ws s free left pending own old mid → (all ≡ true → ⊥) → HasBranched all ws s free old mid
branch_last {all} ws s free left pending own old mid e bound = e.whole all mid (record { each = λ x h. inl h; kept = λ x h. h; every = λ t. absurd (bound t) })

-- ---- what is left of the pending agree sets
pub pruned_end : (from k free free' : ℕ) (old joined new : List ℕ) → from ≤ length old → joined ≡ old → free' ≡ free → (new ≡ joined) ⊎ (new ≡ take from joined ++ pruned k free' (drop from joined)) → (drop from new ≡ drop from old) ⊎ (drop from new ≡ pruned k free (drop from old))
pruned_end from k free free' old joined new le e f (inl g) = inl (ap (drop from) (g ∙ e))
pruned_end from k free free' old joined new le e f (inr g) = inr (changed_end from joined (pruned k free' (drop from joined)) new (subst (λ (vs : List ℕ). from ≤ length vs) (sym e) le) g ∙ ap₂ (λ (v : ℕ) (vs : List ℕ). pruned k v (drop from vs)) f e)

pub pruned_long : (from : ℕ) (old joined new ys : List ℕ) → from ≤ length old → joined ≡ old → (new ≡ joined) ⊎ (new ≡ take from joined ++ ys) → from ≤ length new
pruned_long from old joined new ys le e (inl g) = subst (λ (vs : List ℕ). from ≤ length vs) (sym (g ∙ e)) le
pruned_long from old joined new ys le e (inr g) = no_shorter (take from joined) ys new from g (sym (length-take-le from joined (subst (λ (vs : List ℕ). from ≤ length vs) (sym e) le)))

pub branch_on : (ws : List ℕ) (s free : ℕ) (pending own : List ℕ) (b : IsBranch ws s free pending own) (k : ℕ) → has free k ≡ true → (rest : List ℕ) → (rest ≡ pending) ⊎ (rest ≡ pruned k (without free k) pending) → IsBranch ws s (without free k) rest own
branch_on ws s free pending own b k choice rest (inl e) = subst (λ (vs : List ℕ). IsBranch ws s (without free k) vs own) (sym e) (branch_whole ws s free pending own b k choice)
branch_on ws s free pending own b k choice rest (inr e) = subst (λ (vs : List ℕ). IsBranch ws s (without free k) vs own) (sym e) (branch_without ws s free pending own b k choice)

-- what the ends leave, where the lists are known by other names
pub ended_as : (ws : List ℕ) (s free few left lacked : ℕ) (pending pending' : List ℕ) (lists lists' : List (List ℕ)) (old mid : List ℕ) → pending' ≡ pending → lists' ≡ lists → 0 < length pending' → IsSubset few free → IsSubset lacked few
    → ((k : ℕ) → has few k ≡ true → (vs : List ℕ) → Listed vs lists' → sees vs k ≡ true) → ((k : ℕ) → has free k ≡ true → has few k ≡ false → (vs : List ℕ) × Listed vs lists' × (sees vs k ≡ false)) → ((k : ℕ) → has lacked k ≡ true → having k pending' ≡ [])
    → IsCut s lists → IsBranch ws s free pending (join lists)
    → ((vs ps os : List ℕ) → IsBranch vs s few ps os → 0 < length ps → ((k : ℕ) → has lacked k ≡ true → having k ps ≡ []) → ((k : ℕ) → has lacked k ≡ true → IsOwned (having k os) s) → HasEnded vs s few left ps os old mid) → HasEnded ws s free left pending (join lists) old mid
ended_as ws s free few left lacked pending pending' lists lists' old mid e f l low among owned unowned none cut b ended =
    subst (λ (vs : List ℕ). HasEnded ws s free left vs (join lists) old mid) e (
    let b' = branch_as ws s s free free pending pending' (join lists) (join lists) refl refl e refl b in
    let n = narrowed ws s free few pending' (join lists) b' low (λ k h g. cut_unowned s lists cut k (subst (λ (ls : List (List ℕ)). (vs : List ℕ) × Listed vs ls × (sees vs k ≡ false)) f (unowned k h g))) old in
    ended_after ws s free few left pending' (join lists) old mid n (ended ws pending' (join lists) n.branch l none
    (λ k h. cut_owned s lists cut k (λ vs g. owned k (among.each k h) vs (subst (Listed vs) (sym f) g)))))
