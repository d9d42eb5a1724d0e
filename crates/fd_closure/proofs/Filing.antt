-- Blocks of left sides: one block more, and what is reached by all of them.
use Rattle.std.proofs.Common.{inl, inr, ◌≡◌, ◌⊎◌, ℕ, zero, suc, ◌+◌, ◌-◌, ◌<◌, ◌≤◌, ◌==◌, true, false, ◌&&◌, ◌||◌, Bool, eqb, refl, sym, ap, ◌∙◌, subst, arith, List, [], ◌∷◌, length, get_or, Option, Some, None, IfSome, Ordering, Less, Equal, Greater, if◌then◌else◌}
use Rattle.std.specs.List.{filter, find, slice_get}
use Rattle.std.specs.Option.{option_map}
use Rattle.std.specs.Ordering.{is_lt, ordering_reverse}
use Rattle.std.proofs.lemmas.Option.{none-some, get_or_from_slice_get}
use Rattle.std.proofs.lemmas.Bool.{true≢false, and_parts, and_from, or_cases, or_left, or_right, eqb-true, eq-eqb, cases_lt}
use Rattle.col_set.specs.ColSet.{IsSubset, has, union, minus, empty, subset, report_cmp}
use Rattle.col_set.specs.Members.{has-union, has-minus, has-empty, same_set}
use Rattle.col_set.specs.Columns.{report_total}
use Rattle.col_set.specs.AllSets.{report_cmp-same}
use Rattle.col_set.specs.Lists.{Listed, Listed-filter, Listed-append_left, Listed-append_right, list_any_at, list_any_which}
use Rattle.col_set.specs.Subsets.{same_test, subset-true, true-subset, IsSubset-trans}
use Rattle.col_set.proofs.Places.{Contains-listed, Listed-contained}
use Rattle.rel_base.specs.declared.dependency.Fd.{Fd}
use Rattle.set_tree.specs.Pairs.{IsInOrder as Ordered, value_at, inserted, inside, AreThose}
use Rattle.set_tree.specs.Walks.{joined}
use Rattle.set_tree.proofs.Listing.{find_some, find_none, less_not_same}
use Rattle.set_tree.proofs.Growing.{some-injective}
use Rattle.fd_closure.specs.declared.block.Block.{Block}
use Rattle.fd_closure.specs.Blocks.{with_side, with_sides, IsFiled, AreFiled, HaveCommon}
use Rattle.fd_closure.specs.Closure.{closure_of, has_right_inside, Tells}
use Rattle.fd_closure.proofs.Closing.{has-closure_of}

module _ {V : Type 0} where
  same_key : (ps : List (ℕ × V)) (p q : ℕ × V) → Ordered ps → Listed p ps → Listed q ps → p.0 ≡ q.0 → p ≡ q
  same_key [] p q o h g e = absurd h
  same_key (s ∷ ps) p q o (inl h) (inl g) e = h ∙ sym g
  same_key (s ∷ ps) p q o (inl h) (inr g) e = absurd (less_not_same s.0 q.0 (o.0 q g) (ap (λ (r : ℕ × V). r.0) (sym h) ∙ e))
  same_key (s ∷ ps) p q o (inr h) (inl g) e = absurd (less_not_same s.0 p.0 (o.0 p h) (ap (λ (r : ℕ × V). r.0) (sym g) ∙ sym e))
  same_key (s ∷ ps) p q o (inr h) (inr g) e = same_key ps p q o.1 h g e

  value_listed : (ps : List (ℕ × V)) (p : ℕ × V) (x : ℕ) → Ordered ps → Listed p ps → p.0 ≡ x → value_at ps x ≡ Some p.1
  value_listed ps p x o h e = by (find (λ q. q.0 == x) ps) refl
    where
      by : (f : Option (ℕ × V)) → find (λ q. q.0 == x) ps ≡ f → option_map (λ q. q.1) (find (λ q. q.0 == x) ps) ≡ Some p.1
      by None i = absurd (true≢false (sym (eq-eqb p.0 x e) ∙ find_none (λ q. q.0 == x) ps i p h))
      by (Some q) i =
          let w = find_some (λ q. q.0 == x) ps q i in
          ap (option_map (λ (q : ℕ × V). q.1)) i ∙ ap (λ (q : ℕ × V). Some q.1) (same_key ps q p o w.0 h (eqb-true q.0 x w.1 ∙ sym e))

  pair_has : (ps : List (ℕ × V)) (x : ℕ) (v : V) → Listed (x, v) (inserted ps x v)
  pair_has ps x v = Listed-append_right (x, v) (filter (λ p. is_lt (report_cmp p.0 x)) ps) ((x, v) ∷ filter (λ p. is_lt (report_cmp x p.0)) ps) (inl refl)

  pair_keeps : (ps : List (ℕ × V)) (x : ℕ) (v : V) (p : ℕ × V) → Listed p ps → (p.0 ≡ x → ⊥) → Listed p (inserted ps x v)
  pair_keeps ps x v p h other = by (report_cmp p.0 x) refl
    where
      by : (o : Ordering) → report_cmp p.0 x ≡ o → Listed p (inserted ps x v)
      by Less e = Listed-append_left p (filter (λ p. is_lt (report_cmp p.0 x)) ps) ((x, v) ∷ filter (λ p. is_lt (report_cmp x p.0)) ps) (Listed-filter (λ p. is_lt (report_cmp p.0 x)) p ps h (ap is_lt e))
      by Equal e = absurd (other (report_cmp-same p.0 x e))
      by Greater e = Listed-append_right p (filter (λ p. is_lt (report_cmp p.0 x)) ps) ((x, v) ∷ filter (λ p. is_lt (report_cmp x p.0)) ps)
          (inr (Listed-filter (λ p. is_lt (report_cmp x p.0)) p ps h (ap is_lt (report_total.antisymm x p.0 ∙ ap ordering_reverse e))))

-- ---- one block more
module _ (sides : List (ℕ × ℕ)) (blocks : List (ℕ × Block)) (common start end from : ℕ) (known : Option Block) (order : Ordered blocks) (is : known ≡ value_at blocks common) (own : from ≤ start) (before : IfSome known (λ b. from ≤ b.start)) where
  abbrev pub new : List (ℕ × Block)
  new = inserted blocks common (record { start = from; end = end })

  here : (k left : ℕ) → from ≤ k → k < end → IsSubset common left → IsFiled new k left
  here k left l m s = record {
    block = (common, record { start = from; end = end });
    listed = Contains-listed _ _ (pair_has blocks common (record { start = from; end = end }));
    inside = s;
    from = l;
    until = m;
  }

  starts : (b : Block) → known ≡ Some b → from ≤ b.start
  starts b e = subst (λ (o : Option Block). IfSome o (λ b. from ≤ b.start)) e before

  kept : (k left : ℕ) → k < end → IsFiled blocks k left → IsFiled new k left
  kept k left m f = by (eqb f.block.0 common) refl
    where
      by : (b : Bool) → eqb f.block.0 common ≡ b → IsFiled new k left
      by true e =
          let i = eqb-true f.block.0 common e in
          let s = starts f.block.1 (is ∙ value_listed blocks f.block common order (Listed-contained f.block blocks f.listed) i) in
          let l = f.from in
          here k left (omega (arith, s, l)) m (subst (λ (z : ℕ). IsSubset z left) i f.inside)
      by false e = record {
        block = f.block;
        listed = Contains-listed _ _ (pair_keeps blocks common (record { start = from; end = end }) f.block (Listed-contained f.block blocks f.listed) (λ i. true≢false (sym (eq-eqb f.block.0 common i) ∙ e)));
        inside = f.inside;
        from = f.from;
        until = f.until;
      }

  pub filed_more : AreFiled sides blocks start → HaveCommon sides common start end → AreFiled sides new end
  filed_more filed have k side m g = elim (cases_lt k start) as (λ _. IsFiled new k side.0) [
    | inl l ↦ kept k side.0 m (filed k side l g)
    | inr l ↦ here k side.0 (omega (arith, l, own)) m (have k side l m g)
  ]

-- ---- the columns that all of a block have
pub have_first : (sides : List (ℕ × ℕ)) (common start : ℕ) → ((side : ℕ × ℕ) → slice_get sides start ≡ Some side → IsSubset common side.0) → HaveCommon sides common start (start + 1)
have_first sides common start f k side l m e = let i : start ≡ k = omega (arith, l, m) in f side (ap (slice_get sides) i ∙ e)

pub have_more : (sides : List (ℕ × ℕ)) (common start end : ℕ) (d : ℕ × ℕ) → HaveCommon sides common start end → subset common (get_or sides end d).0 ≡ true → HaveCommon sides common start (end + 1)
have_more sides common start end d have s k side l m e = elim (cases_lt k end) as (λ _. IsSubset common side.0) [
  | inl g ↦ have k side l g e
  | inr g ↦ let i : k ≡ end = omega (arith, g, m) in
      subst (λ (p : ℕ × ℕ). IsSubset common p.0) (get_or_from_slice_get sides end side d (ap (slice_get sides) (sym i) ∙ e)) (subset-true s)
]

pub common_none : (x left : ℕ) → x ≡ empty → IsSubset x left
common_none x left e = record { each = λ k h. absurd (true≢false (sym h ∙ ap (λ (z : ℕ). has z k) e ∙ has-empty k)) }

pub minus_inside : (x y : ℕ) → IsSubset (minus x y) x
minus_inside x y = record { each = λ k h. (and_parts (has x k) _ (sym (has-minus x y k) ∙ h)).0 }

-- ---- places in a list
module _ {X : Type 0} where
  pub listed_at : (xs : List X) (k : ℕ) (x : X) → slice_get xs k ≡ Some x → Listed x xs
  listed_at [] k x e = absurd (none-some x e)
  listed_at (y ∷ xs) zero x e = inl (sym (some-injective y x e))
  listed_at (y ∷ xs) (suc k) x e = inr (listed_at xs k x e)

  pub place_of : (xs : List X) (x : X) → Listed x xs → (k : ℕ) × (k < length xs) × (slice_get xs k ≡ Some x)
  place_of [] x h = absurd h
  place_of (y ∷ xs) x (inl e) = (zero, omega arith, ap Some (sym e))
  place_of (y ∷ xs) x (inr h) = let w = place_of xs x h in let l = w.1 in (suc w.0, omega (arith, l), w.2)

-- ---- what is reached by a side, by those of a block, by all blocks
module _ (sides : List (ℕ × ℕ)) (x : ℕ) where
  pub side_some : (k reached : ℕ) (q : ℕ × ℕ) → slice_get sides k ≡ Some q → subset q.0 x ≡ true → with_side sides x k reached ≡ union reached q.1
  unfolding with_side
  side_some k reached q e s = ap (λ (o : Option (ℕ × ℕ)). elim o as (λ _. ℕ) [ None ↦ reached | Some side ↦ if subset side.0 x then union reached side.1 else reached ]) e ∙ ap (λ (b : Bool). if b then union reached q.1 else reached) s

  pub side_other : (k reached : ℕ) (q : ℕ × ℕ) → slice_get sides k ≡ Some q → subset q.0 x ≡ false → with_side sides x k reached ≡ reached
  unfolding with_side
  side_other k reached q e s = ap (λ (o : Option (ℕ × ℕ)). elim o as (λ _. ℕ) [ None ↦ reached | Some side ↦ if subset side.0 x then union reached side.1 else reached ]) e ∙ ap (λ (b : Bool). if b then union reached q.1 else reached) s

  pub side_none : (k reached : ℕ) → slice_get sides k ≡ None → with_side sides x k reached ≡ reached
  unfolding with_side
  side_none k reached e = ap (λ (o : Option (ℕ × ℕ)). elim o as (λ _. ℕ) [ None ↦ reached | Some side ↦ if subset side.0 x then union reached side.1 else reached ]) e

  right_at : (k c : ℕ) (q : ℕ × ℕ) → slice_get sides k ≡ Some q → subset q.0 x ≡ true → has q.1 c ≡ true → has_right_inside sides x c ≡ true
  unfolding has_right_inside
  right_at k c q e s h = list_any_at (λ p. subset p.0 x && has p.1 c) q sides (listed_at sides k q e) (and_from _ _ s h)

  -- nothing is reached but what was and what stands beside a left side inside x
  abbrev Only : ℕ → ℕ → Type 0
  Only reached now = (c : ℕ) → has now c ≡ true → (has reached c ≡ true) ⊎ (has_right_inside sides x c ≡ true)

  -- what was reached still is
  abbrev Keeps : ℕ → ℕ → Type 0
  Keeps reached now = (c : ℕ) → has reached c ≡ true → has now c ≡ true

  side_only : (k reached : ℕ) → Only reached (with_side sides x k reached)
  side_only k reached c h = by (slice_get sides k) refl
    where
      by : (o : Option (ℕ × ℕ)) → slice_get sides k ≡ o → (has reached c ≡ true) ⊎ (has_right_inside sides x c ≡ true)
      by None e = inl (ap (λ (z : ℕ). has z c) (sym (side_none k reached e)) ∙ h)
      by (Some q) e = cases (subset q.0 x) refl
        where
          cases : (b : Bool) → subset q.0 x ≡ b → (has reached c ≡ true) ⊎ (has_right_inside sides x c ≡ true)
          cases false s = inl (ap (λ (z : ℕ). has z c) (sym (side_other k reached q e s)) ∙ h)
          cases true s = elim (or_cases (has reached c) (has q.1 c) (sym (has-union reached q.1 c) ∙ ap (λ (z : ℕ). has z c) (sym (side_some k reached q e s)) ∙ h)) as (λ _. (has reached c ≡ true) ⊎ (has_right_inside sides x c ≡ true)) [
            | inl g ↦ inl g
            | inr g ↦ inr (right_at k c q e s g)
          ]

  side_keeps : (k reached : ℕ) → Keeps reached (with_side sides x k reached)
  side_keeps k reached c h = by (slice_get sides k) refl
    where
      by : (o : Option (ℕ × ℕ)) → slice_get sides k ≡ o → has (with_side sides x k reached) c ≡ true
      by None e = ap (λ (z : ℕ). has z c) (side_none k reached e) ∙ h
      by (Some q) e = cases (subset q.0 x) refl
        where
          cases : (b : Bool) → subset q.0 x ≡ b → has (with_side sides x k reached) c ≡ true
          cases false s = ap (λ (z : ℕ). has z c) (side_other k reached q e s) ∙ h
          cases true s = ap (λ (z : ℕ). has z c) (side_some k reached q e s) ∙ has-union reached q.1 c ∙ or_left _ _ h

  side_reaches : (k reached c : ℕ) (q : ℕ × ℕ) → slice_get sides k ≡ Some q → subset q.0 x ≡ true → has q.1 c ≡ true → has (with_side sides x k reached) c ≡ true
  side_reaches k reached c q e s h = ap (λ (z : ℕ). has z c) (side_some k reached q e s) ∙ has-union reached q.1 c ∙ or_right (has reached c) _ h

  sides_only : (start n reached : ℕ) → Only reached (with_sides sides x start n reached)
  unfolding with_sides
  sides_only start zero reached c h = inl h
  sides_only start (suc n) reached c h = elim (side_only (start + n) (with_sides sides x start n reached) c h) as (λ _. (has reached c ≡ true) ⊎ (has_right_inside sides x c ≡ true)) [
    | inl g ↦ sides_only start n reached c g
    | inr g ↦ inr g
  ]

  sides_keeps : (start n reached : ℕ) → Keeps reached (with_sides sides x start n reached)
  unfolding with_sides
  sides_keeps start zero reached c h = h
  sides_keeps start (suc n) reached c h = side_keeps (start + n) (with_sides sides x start n reached) c (sides_keeps start n reached c h)

  sides_reach : (start n reached k c : ℕ) (q : ℕ × ℕ) → start ≤ k → k < start + n → slice_get sides k ≡ Some q → subset q.0 x ≡ true → has q.1 c ≡ true → has (with_sides sides x start n reached) c ≡ true
  unfolding with_sides
  sides_reach start zero reached k c q l m e s h = absurd (omega (arith, l, m))
  sides_reach start (suc n) reached k c q l m e s h = elim (cases_lt k (start + n)) as (λ _. has (with_side sides x (start + n) (with_sides sides x start n reached)) c ≡ true) [
    | inl g ↦ side_keeps (start + n) (with_sides sides x start n reached) c (sides_reach start n reached k c q l g e s h)
    | inr g ↦ let i : k ≡ start + n = omega (arith, g, m) in side_reaches (start + n) (with_sides sides x start n reached) c q (ap (slice_get sides) (sym i) ∙ e) s h
  ]

  pub sides_none : (start n reached : ℕ) → n ≡ 0 → reached ≡ with_sides sides x start n reached
  unfolding with_sides
  sides_none start n reached e = ap (λ (m : ℕ). with_sides sides x start m reached) (sym e)

  -- one place more of a block
  pub sides_more : (start k reached : ℕ) → start ≤ k → with_sides sides x start (k + 1 - start) reached ≡ with_side sides x k (with_sides sides x start (k - start) reached)
  unfolding with_sides
  sides_more start k reached l =
      let e : k + 1 - start ≡ suc (k - start) = omega (arith, l) in
      let i : start + (k - start) ≡ k = omega (arith, l) in
      ap (λ (n : ℕ). with_sides sides x start n reached) e ∙ ap (λ (z : ℕ). with_side sides x z (with_sides sides x start (k - start) reached)) i

  abbrev pub block_step : ℕ → ℕ × Block → ℕ
  block_step reached p = with_sides sides x p.1.start (p.1.end - p.1.start) reached

  all_only : (reached : ℕ) (ps : List (ℕ × Block)) → Only reached (joined block_step reached ps)
  unfolding joined
  all_only reached [] c h = inl h
  all_only reached (p ∷ ps) c h = elim (all_only (block_step reached p) ps c h) as (λ _. (has reached c ≡ true) ⊎ (has_right_inside sides x c ≡ true)) [
    | inl g ↦ sides_only p.1.start (p.1.end - p.1.start) reached c g
    | inr g ↦ inr g
  ]

  all_keep : (reached : ℕ) (ps : List (ℕ × Block)) → Keeps reached (joined block_step reached ps)
  unfolding joined
  all_keep reached [] c h = h
  all_keep reached (p ∷ ps) c h = all_keep (block_step reached p) ps c (sides_keeps p.1.start (p.1.end - p.1.start) reached c h)

  all_reach : (reached : ℕ) (ps : List (ℕ × Block)) (p : ℕ × Block) (k c : ℕ) (q : ℕ × ℕ) → Listed p ps → p.1.start ≤ k → k < p.1.end → slice_get sides k ≡ Some q → subset q.0 x ≡ true → has q.1 c ≡ true → has (joined block_step reached ps) c ≡ true
  unfolding joined
  all_reach reached [] p k c q i l m e s h = absurd i
  all_reach reached (r ∷ ps) p k c q (inr i) l m e s h = all_reach (block_step reached r) ps p k c q i l m e s h
  all_reach reached (r ∷ ps) p k c q (inl i) l m e s h =
      let g : k < p.1.start + (p.1.end - p.1.start) = omega (arith, l, m) in
      all_keep (block_step reached r) ps c (subst (λ (z : ℕ × Block). has (block_step reached z) c ≡ true) i (sides_reach p.1.start (p.1.end - p.1.start) reached k c q l g e s h))

  pub joined_own : (ps : List (ℕ × Block)) → IsSubset x (joined block_step x ps)
  joined_own ps = record { each = λ c h. all_keep x ps c h }

  pub joined_told : (blocks ps : List (ℕ × Block)) (fds : List Fd) → AreFiled sides blocks (length sides) → AreThose (inside blocks x) ps → Tells fds sides → joined block_step x ps ≡ closure_of fds x
  unfolding has_right_inside
  joined_told blocks ps fds filed those t = same_set _ _ (λ c. same_test _ _ (there c) (back c) ∙ ap (λ (b : Bool). has x c || b) (t x c) ∙ sym (has-closure_of fds x c))
    where
      there : (c : ℕ) → has (joined block_step x ps) c ≡ true → (has x c || has_right_inside sides x c) ≡ true
      there c h = elim (all_only x ps c h) as (λ _. (has x c || has_right_inside sides x c) ≡ true) [
        | inl g ↦ or_left _ _ g
        | inr g ↦ or_right (has x c) _ g
      ]

      found : (c : ℕ) → has_right_inside sides x c ≡ true → has (joined block_step x ps) c ≡ true
      found c e =
          let w = list_any_which (λ p. subset p.0 x && has p.1 c) sides e in
          let both = and_parts (subset w.0.0 x) (has w.0.1 c) w.2 in
          let v = place_of sides w.0 w.1 in
          let f = filed v.0 w.0 v.1 v.2 in
          let s = IsSubset-trans f.inside (subset-true both.0) in
          let i = Listed-filter (λ p. subset p.0 x) f.block blocks (Listed-contained f.block blocks f.listed) (true-subset s) in
          all_reach x ps f.block v.0 c w.0 (Listed-contained f.block ps (those.every f.block (Contains-listed f.block (inside blocks x) i))) f.from f.until v.2 both.0 both.1

      back : (c : ℕ) → (has x c || has_right_inside sides x c) ≡ true → has (joined block_step x ps) c ≡ true
      back c e = elim (or_cases (has x c) (has_right_inside sides x c) e) as (λ _. has (joined block_step x ps) c ≡ true) [
        | inl g ↦ all_keep x ps c g
        | inr g ↦ found c g
      ]
