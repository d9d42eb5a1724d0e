-- The table of partners, group after group, and the pairs that it holds.
use Rattle.std.proofs.Common.{inl, inr, ◌≡◌, ◌≢◌, ◌⊎◌, ℕ, zero, suc, ◌+◌, ◌-◌, ◌<◌, ◌≤◌, Bool, not, eqb, refl, sym, ap, ◌∙◌, subst, arith, List, [], ◌∷◌, ◌++◌, length, get_or, map, take, drop, replicate, append-nil, Result, Ok, Err, IfOk}
use Rattle.std.specs.List.{filter, range_with_len, AllPairs, Contains}
use Rattle.std.proofs.lemmas.Bool.{true≢false, eq-eqb, ne_eqb, cases_lt, not_from_false, not-true}
use Rattle.std.proofs.lemmas.List.{get_or-replicate, get_or_default, map-append, take_all, drop_all}
use Rattle.std.proofs.lemmas.List.Kept.{AllPairs-cons}
use Rattle.col_set.specs.ColSet.{empty, with}
use Rattle.col_set.specs.Lists.{Listed, Listed-filter, Listed-filter_parts, Listed-map, Listed-map_which}
use Rattle.col_set.specs.AllSets.{Ascends, Ascends-range, Ascends_within}
use Rattle.col_set.proofs.Places.{Climbs, Contains-listed, Listed-contained, Listed-get_or}
use Rattle.rel_base.specs.CodeTable.{CodeTable}
use Rattle.rel_base.specs.Shows.{live_numbers}
use Rattle.rel_base.proofs.States.{All-from}
use Rattle.rel_base.proofs.Valid.{Climbs-filter}
use Rattle.stripped_partition.specs.Stripped.{stripped}
use Rattle.stripped_partition.proofs.Coding.{live_yes, live_not}
use Rattle.stripped_partition.proofs.Live.{live_within}
use Rattle.sampler.specs.Partners.{IsAhead, HasPut, partners_to, with_partners}
use Rattle.sampler.specs.Window.{IsPair, IsWindow}
use Rattle.sampler.proofs.Pairs.{group, of-groups, pair-group, pair-ahead, ahead-pair, one_partner}

-- ---- the list of a table's pairs
entry : List ℕ → ℕ → ℕ × ℕ
entry table i = (i, get_or table i 0)

pub put_more : (table : List ℕ) (pairs : List (ℕ × ℕ)) (n : ℕ) → 1 ≤ n → pairs ≡ partners_to table (n - 1) → get_or table n 0 ≢ 0 → pairs ++ (n, get_or table n 0) ∷ [] ≡ partners_to table (n + 1 - 1)
put_more table pairs n l e ne =
    let p : ℕ → Bool = λ i. not (eqb (get_or table i 0) 0) in
    ap (λ (xs : List (ℕ × ℕ)). xs ++ (n, get_or table n 0) ∷ []) e
    ∙ sym (map-append (λ i. (i, get_or table i 0)) (filter p (range_with_len 1 (n - 1))) (n ∷ []))
    ∙ ap (map (λ i. (i, get_or table i 0))) (live_yes p (filter p (range_with_len 1 (n - 1))) n l refl (not_from_false (eqb (get_or table n 0) 0) (ne_eqb (get_or table n 0) 0 ne)))

pub put_none : (table : List ℕ) (pairs : List (ℕ × ℕ)) (n : ℕ) → 1 ≤ n → pairs ≡ partners_to table (n - 1) → get_or table n 0 ≡ 0 → pairs ≡ partners_to table (n + 1 - 1)
put_none table pairs n l e is =
    let p : ℕ → Bool = λ i. not (eqb (get_or table i 0) 0) in
    e ∙ ap (map (λ i. (i, get_or table i 0))) (live_not p (filter p (range_with_len 1 (n - 1))) n l refl (ap not (eq-eqb (get_or table n 0) 0 is)))

-- a table that was lent and written whole
pub whole_table : (new items : List ℕ) (n : ℕ) → length new ≡ length items → n ≡ length items → take n (new ++ drop (length new) items) ≡ new
whole_table new items n e f =
    ap (λ (ys : List ℕ). take n (new ++ ys)) (drop_all (length new) items (omega arith)) ∙ ap (take n) (append-nil new) ∙ take_all n new (omega arith)

-- ---- ascending numbers
Ascends-Climbs : (a b : ℕ) (xs : List ℕ) → Ascends a b xs → Climbs xs
Ascends-Climbs a b [] r = tt
Ascends-Climbs a b (x ∷ xs) r = ((λ y h. let w = (Ascends_within (x + 1) b y xs r.2 h).0 in omega arith), Ascends-Climbs (x + 1) b xs r.2)

Listed-range : (n a k : ℕ) → a ≤ k → k < a + n → Listed k (range_with_len a n)
Listed-range zero a k l h = absurd (omega arith)
Listed-range (suc n) a k l h = elim (cases_lt a k) as (λ _. Listed k (range_with_len a (suc n))) [ inl m ↦ inr (Listed-range n (a + 1) k (omega arith) (omega arith)) | inr g ↦ inl (let e : k ≡ a = omega arith in e) ]

pub entries_ascend : (table : List ℕ) (xs : List ℕ) → Climbs xs → AllPairs (λ (p q : ℕ × ℕ). p.0 < q.0) (map (λ i. (i, get_or table i 0)) xs)
entries_ascend table [] c = λ i j d l h. absurd (omega arith)
entries_ascend table (x ∷ xs) c =
    AllPairs-cons (λ (p q : ℕ × ℕ). p.0 < q.0) (x, get_or table x 0) (map (λ i. (i, get_or table i 0)) xs)
    (All-from (λ (q : ℕ × ℕ). x < q.0) (map (λ i. (i, get_or table i 0)) xs) (λ q h. let w = Listed-map_which (λ i. (i, get_or table i 0)) q xs h in let m = c.0 w.0 w.1 in let e = ap (λ (r : ℕ × ℕ). r.0) w.2 in omega arith))
    (entries_ascend table xs c.1)

-- ---- group after group
-- the rows of the first groups have their partners, and other rows have none but their own
pub record Partnered (s : CodeTable) (c distance to : ℕ) (groups : List (List ℕ)) (table : List ℕ) : Type 0 where
  pub size : length table ≡ s.to
  pub only : (i : ℕ) → i < length table → get_or table i 0 ≢ 0 → IsPair s c distance i (get_or table i 0)
  pub each : (k place : ℕ) → k < to → place + distance < length (get_or groups k []) → get_or table (get_or (get_or groups k []) place 0) 0 ≢ 0

pub partnered_none : (s : CodeTable) (c distance : ℕ) (groups : List (List ℕ)) (table : List ℕ) → table ≡ replicate s.to 0 → length table ≡ s.to → Partnered s c distance 0 groups table
partnered_none s c distance groups table e size = record {
  size = size;
  only = λ i l ne. absurd (ne (ap (λ (xs : List ℕ). get_or xs i 0) e ∙ get_or-replicate s.to i 0 0 (omega arith)));
  each = λ k place l m. absurd (omega arith);
}

module _ (s : CodeTable) (c distance : ℕ) (within : c < length s.codes) (positive : 0 < distance) where
  -- what stands behind a row in a group of the partition is a row
  ahead-some : (g : List ℕ) (i j : ℕ) → Listed g (stripped s (with empty c)) → IsAhead distance g i j → j ≢ 0
  ahead-some g i j h a =
      let l = a.within in
      let of = of-groups s c within g j h (subst (λ n. Listed n g) a.second (Listed-get_or g (a.place + distance) 0 l)) in
      let w = (live_within s j of.live).0 in λ e. absurd (omega arith)

  ahead-is : (g : List ℕ) (i j : ℕ) → Listed g (stripped s (with empty c)) → IsAhead distance g i j → IsPair s c distance i j
  ahead-is g i j h a =
      let l = a.within in
      let of = of-groups s c within g i h (subst (λ n. Listed n g) a.first (Listed-get_or g a.place 0 (omega arith))) in
      ahead-pair s c within distance i j of.live positive (subst (λ (x : List ℕ). IsAhead distance x i j) of.own a)

  module _ (groups : List (List ℕ)) (is : groups ≡ stripped s (with empty c)) where
    group-listed : (k : ℕ) → k < length groups → Listed (get_or groups k []) (stripped s (with empty c))
    group-listed k l = subst (λ (gs : List (List ℕ)). Listed (get_or groups k []) gs) is (Listed-get_or groups k [] l)

    pub group_within : (k : ℕ) → k < length groups → (j d : ℕ) → j < length (get_or groups k []) → get_or (get_or groups k []) j d < s.to
    group_within k l j d m =
        let g = get_or groups k [] in let i = get_or g j d in
        (live_within s i (of-groups s c within g i (group-listed k l) (Listed-get_or g j d m)).live).1

    pub partnered_more : (k : ℕ) (old new : List ℕ) → k < length groups → HasPut distance (get_or groups k []) old new → Partnered s c distance k groups old → Partnered s c distance (k + 1) groups new
    partnered_more k old new l put p =
        let size = p.size in let same = put.size in
        record {
          size = same ∙ size;
          only = λ i m ne. by i m ne (put.only i m);
          each = λ n place m w. at n place m w (cases_lt n k);
        }
      where
        by : (i : ℕ) → i < length new → get_or new i 0 ≢ 0 → (get_or new i 0 ≡ get_or old i 0) ⊎ IsAhead distance (get_or groups k []) i (get_or new i 0) → IsPair s c distance i (get_or new i 0)
        by i m ne (inl e) = let same = put.size in subst (IsPair s c distance i) (sym e) (p.only i (omega arith) (λ z. ne (e ∙ z)))
        by i m ne (inr a) = ahead-is (get_or groups k []) i (get_or new i 0) (group-listed k l) a

        kept : (i : ℕ) → get_or old i 0 ≢ 0 → (get_or new i 0 ≡ get_or old i 0) ⊎ IsAhead distance (get_or groups k []) i (get_or new i 0) → get_or new i 0 ≢ 0
        kept i ne (inl e) = λ z. ne (sym e ∙ z)
        kept i ne (inr a) = ahead-some (get_or groups k []) i (get_or new i 0) (group-listed k l) a

        at : (n place : ℕ) → n < k + 1 → place + distance < length (get_or groups n []) → (n < k) ⊎ (k ≤ n) → get_or new (get_or (get_or groups n []) place 0) 0 ≢ 0
        at n place m w (inl h) =
            let g = get_or groups n [] in let i = get_or g place 0 in
            let of = of-groups s c within g i (group-listed n (omega arith)) (Listed-get_or g place 0 (omega arith)) in
            let up = (live_within s i of.live).1 in let size = p.size in let same = put.size in
            kept i (p.each n place h w) (put.only i (omega arith))
        at n place m w (inr h) = let e : n ≡ k = omega arith in
            let same : length (get_or groups n []) ≡ length (get_or groups k []) = ap (λ x. length (get_or groups x [])) e in
            let a = put.each place (omega arith) in
            subst (λ x. get_or new (get_or (get_or groups x []) place 0) 0 ≢ 0) (sym e) (ahead-some (get_or groups k []) _ _ (group-listed k l) a)

    -- with all groups the pairs of the table are those of the window
    pub partnered_window : (table : List ℕ) → Partnered s c distance (length groups) groups table → IsWindow s c distance (with_partners table)
    partnered_window table p = record {
      order = entries_ascend table _ (Climbs-filter (λ i. not (eqb (get_or table i 0) 0)) (range_with_len 1 (length table - 1)) (Ascends-Climbs 1 (1 + (length table - 1)) _ (Ascends-range (length table - 1) 1 (1 + (length table - 1)) refl)));
      each = λ i j. (there i j, back i j);
    }
      where
        there : (i j : ℕ) → Contains (with_partners table) (i, j) → IsPair s c distance i j
        there i j h =
            let w = Listed-map_which (λ i. (i, get_or table i 0)) (i, j) _ (Listed-contained (i, j) (with_partners table) h) in
            let v = Listed-filter_parts (λ i. not (eqb (get_or table i 0) 0)) w.0 (range_with_len 1 (length table - 1)) w.1 in
            let e : i ≡ w.0 = ap (λ (p : ℕ × ℕ). p.0) w.2 in
            let f : j ≡ get_or table w.0 0 = ap (λ (p : ℕ × ℕ). p.1) w.2 in
            let up = Ascends_within 1 (1 + (length table - 1)) w.0 (range_with_len 1 (length table - 1)) (Ascends-range (length table - 1) 1 (1 + (length table - 1)) refl) v.0 in
            let lo = up.0 in let hi = up.1 in
            let some : get_or table w.0 0 ≢ 0 = λ z. true≢false (sym (eq-eqb (get_or table w.0 0) 0 z) ∙ not-true (eqb (get_or table w.0 0) 0) v.1) in
            let q = p.only w.0 (omega arith) some in
            subst (λ n. IsPair s c distance n j) (sym e) (subst (IsPair s c distance w.0) (sym f) q)

        back : (i j : ℕ) → IsPair s c distance i j → Contains (with_partners table) (i, j)
        back i j q =
            let w = Contains-listed (group s c within i) groups (subst (λ (gs : List (List ℕ)). Listed (group s c within i) gs) (sym is) (pair-group s c within distance i j q)) in
            let a = pair-ahead s c within distance i j q in
            let g : get_or groups w.0 [] ≡ group s c within i = get_or_default groups w.0 [] (group s c within i) w.1 ∙ w.2 in
            let l = a.within in
            let up = live_within s i (Listed-contained i (live_numbers s) q.first) in
            let lo = up.0 in let hi = up.1 in let size = p.size in
            let first : get_or (get_or groups w.0 []) a.place 0 ≡ i = ap (λ (x : List ℕ). get_or x a.place 0) g ∙ a.first in
            let long : length (get_or groups w.0 []) ≡ length (group s c within i) = ap length g in
            let some : get_or table i 0 ≢ 0 = subst (λ n. get_or table n 0 ≢ 0) first (p.each w.0 a.place w.1 (omega arith)) in
            let e = one_partner s c within distance i (get_or table i 0) j (p.only i (omega arith) some) q in
            subst (λ n. Contains (with_partners table) (i, n)) e
            (Contains-listed (i, get_or table i 0) (with_partners table) (Listed-map (λ i. (i, get_or table i 0)) i _
            (Listed-filter (λ i. not (eqb (get_or table i 0) 0)) i (range_with_len 1 (length table - 1)) (Listed-range (length table - 1) 1 i (omega arith) (omega arith)) (not_from_false (eqb (get_or table i 0) 0) (ne_eqb (get_or table i 0) 0 some)))))

pub IfOk-map : {T E : Type 0} (r : Result T E) {P Q : T → Type 0} → ((x : T) → P x → Q x) → IfOk r P → IfOk r Q
IfOk-map (Ok x) f h = f x h
IfOk-map (Err e) f h = tt
