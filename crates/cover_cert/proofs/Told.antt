-- Which witnesses are needed: each target that an agree set lacks is lacked by one that is kept, around it.
use Rattle.std.proofs.Common.{inl, inr, ◌≡◌, ◌⊎◌, ℕ, ◌<◌, ◌≤◌, ◌^◌, Bool, true, false, not, ltb, refl, sym, ap, ◌∙◌, subst, arith, List, [], ◌∷◌, ◌++◌, length}
use Rattle.std.specs.List.{All, filter, list_any}
use Rattle.std.specs.Ordering.{is_lt}
use Rattle.std.proofs.lemmas.Bool.{and_parts, and_from, or_cases, not-true, true≢false, lt-ltb, cases_lt, cases_Bool}
use Rattle.col_set.specs.declared.target.Target.{Target}
use Rattle.col_set.specs.declared.target.Target.TheVariants.{Col, RowId}
use Rattle.col_set.specs.ColSet.{Columns, IsSubset, has, all, minus, union, subset, report_cmp}
use Rattle.col_set.specs.Subsets.{subset-true, true-subset, IsSubset-trans, IsSubset-refl}
use Rattle.col_set.specs.Members.{has-empty, has-all, has-union, has-minus, has_above}
use Rattle.col_set.specs.Evidence.{refuted, refutes}
use Rattle.col_set.specs.Lists.{Listed, Listed-append_left, Listed-append_right, Listed-append_cases, Listed-filter_parts, Listed-map, Listed-map_which, list_any_at, list_any_which}
use Rattle.col_set.specs.Target.{has_target}
use Rattle.col_set.proofs.Places.{Contains-listed, Listed-contained}
use Rattle.rel_base.proofs.States.{All-listed}
use Rattle.negative_cover.specs.declared.negative_cover.Witness.{Witness}
use Rattle.negative_cover.specs.Witnesses.{sets_of}
use Rattle.set_tree.specs.Pairs.{keys, inside, inserted, AreThose}
use Rattle.set_tree.specs.Walks.{joined}
use Rattle.cover_cert.specs.Evidence.{IsJoined, IsTold}

-- ---- sets that were joined
module _ {V : Type 0} where
  abbrev join : Columns → Columns × V → Columns
  join a p = union a p.0

  joined-has : (ps : List (Columns × V)) (a k : ℕ) → has (joined join a ps) k ≡ true → (has a k ≡ true) ⊎ ((p : Columns × V) × Listed p ps × (has p.0 k ≡ true))
  unfolding joined
  joined-has [] a k e = inl e
  joined-has (p ∷ ps) a k e = elim (joined-has ps (union a p.0) k e) [
    | inl h ↦ elim (or_cases (has a k) (has p.0 k) (sym (has-union a p.0 k) ∙ h)) [
      | inl own ↦ inl own
      | inr new ↦ inr (p, inl refl, new)
    ]
    | inr q ↦ inr (q.0, inr q.1, q.2)
  ]

  -- a pair of the tree that lies inside
  within : (tree : List (Columns × V)) (set : Columns) (p : Columns × V) → Listed p (inside tree set) → Listed p.0 (keys tree) × IsSubset p.0 set
  within tree set p l =
      let parts = Listed-filter_parts (λ (q : Columns × V). subset q.0 set) p tree l in
      (Listed-map (λ (q : Columns × V). q.0) p tree parts.0, subset-true parts.1)

  pub is-joined : (tree ps : List (Columns × V)) (set : Columns) → list_any (λ p. subset p.0 set) tree ≡ true → AreThose (inside tree set) ps → joined join 0 ps ≡ set → IsJoined (keys tree) set
  is-joined tree ps set some those whole =
      let one = list_any_which (λ (p : Columns × V). subset p.0 set) tree some in
      record {
        part = one.0.0;
        listed = Listed-map (λ (q : Columns × V). q.0) one.0 tree one.1;
        inside = subset-true one.2;
        each = λ k h. elim (joined-has ps 0 k (ap (λ (s : ℕ). has s k) whole ∙ h)) [
          | inl none ↦ absurd (true≢false (sym none ∙ has-empty k))
          | inr q ↦
              let it = within tree set q.0 (Listed-contained q.0 (inside tree set) (those.only q.0 (Contains-listed q.0 ps q.1))) in
              record { part = q.0.0; listed = it.0; inside = it.1; has_it = q.2 }
        ];
      }

  -- the keys after an insertion
  pub keys-inserted : (ps : List (Columns × V)) (x : Columns) (v : V) (c : Columns) → Listed c (keys (inserted ps x v)) → (c ≡ x) ⊎ Listed c (keys ps)
  keys-inserted ps x v c l =
      let which = Listed-map_which (λ (q : Columns × V). q.0) c (inserted ps x v) l in
      let before = filter (λ (p : Columns × V). is_lt (report_cmp p.0 x)) ps in
      let behind = filter (λ (p : Columns × V). is_lt (report_cmp x p.0)) ps in
      elim (Listed-append_cases which.0 before ((x, v) ∷ behind) which.1) [
        | inl b ↦ inr (subst (λ (z : ℕ). Listed z (keys ps)) (sym which.2) (Listed-map (λ (q : Columns × V). q.0) which.0 ps (Listed-filter_parts (λ (p : Columns × V). is_lt (report_cmp p.0 x)) which.0 ps b).0))
        | inr m ↦ elim m [
          | inl own ↦ inl (which.2 ∙ ap (λ (q : Columns × V). q.0) own)
          | inr a ↦ inr (subst (λ (z : ℕ). Listed z (keys ps)) (sym which.2) (Listed-map (λ (q : Columns × V). q.0) which.0 ps (Listed-filter_parts (λ (p : Columns × V). is_lt (report_cmp x p.0)) which.0 ps a).0))
        ]
      ]

-- ---- what is kept
-- each of these sets is what the agree set of a kept witness lacks
abbrev pub AreLacks : ℕ → List Witness → List Columns → Type 0
AreLacks n kept sets = (c : Columns) → Listed c sets → (v : Witness) × Listed v kept × (c ≡ minus (all n) v.agree)

-- a number that is not below another
pub not_below : (k n : ℕ) → ltb k n ≡ false → n ≤ k
not_below k n e = elim (cases_lt k n) [
  | inl l ↦ absurd (true≢false (sym (lt-ltb k n l) ∙ e))
  | inr l ↦ l
]

module _ (n : ℕ) where
  -- where what one lacks has all that another lacks, the other has all that the one has
  around : (x y : Columns) → x < 2 ^ n → IsSubset (minus (all n) y) (minus (all n) x) → IsSubset x y
  around x y below sub = record { each = λ k h. at k h (has y k) refl }
    where
      at : (k : ℕ) → has x k ≡ true → (b : Bool) → has y k ≡ b → has y k ≡ true
      at k h true e = e
      at k h false e = elim (cases_Bool (ltb k n)) [
        | inl less ↦
            let lacked : has (minus (all n) y) k ≡ true = has-minus (all n) y k ∙ and_from _ _ (has-all n k ∙ less) (ap not e) in
            let both = and_parts _ _ (sym (has-minus (all n) x k) ∙ sub.each k lacked) in
            absurd (true≢false (sym both.1 ∙ ap not h))
        | inr more ↦ absurd (true≢false (sym h ∙ has_above x n k below (not_below k n more)))
      ]

  lacks-column : (y k : ℕ) → has (minus (all n) y) k ≡ true → has y k ≡ false
  lacks-column y k e = not-true (has y k) ((and_parts _ _ (sym (has-minus (all n) y k) ∙ e)).1)

  -- a kept witness around an agree set that lacks all that a part has
  from-part : (kept : List Witness) (sets : List Columns) (x c : Columns) → x < 2 ^ n → AreLacks n kept sets → Listed c sets → IsSubset c (minus (all n) x)
      → (v : Witness) × Listed v kept × IsSubset x v.agree × (c ≡ minus (all n) v.agree)
  from-part kept sets x c below lacks l sub =
      let v = lacks c l in
      (v.0, v.1, around x v.0.agree below (subst (λ (z : ℕ). IsSubset z (minus (all n) x)) v.2 sub), v.2)

  pub told-joined : (kept : List Witness) (sets : List Columns) (x : Columns) → x < 2 ^ n → AreLacks n kept sets → ((v : Witness) → Listed v kept → v.agree < 2 ^ n) → IsJoined sets (minus (all n) x) → IsTold kept x
  unfolding has_target
  told-joined kept sets x below lacks small joins RowId e =
      let v = from-part kept sets x joins.part below lacks joins.listed joins.inside in
      record { witness = v.0; listed = v.1; around = v.2; lacks = refl }
  told-joined kept sets x below lacks small joins (Col a) e = elim (cases_Bool (ltb a n)) [
    | inl less ↦
        let in_it : has (minus (all n) x) a ≡ true = has-minus (all n) x a ∙ and_from _ _ (has-all n a ∙ less) (ap not e) in
        let part = joins.each a in_it in
        let v = from-part kept sets x part.part below lacks part.listed part.inside in
        record { witness = v.0; listed = v.1; around = v.2; lacks = lacks-column v.0.agree a (ap (λ (z : ℕ). has z a) (sym v.3) ∙ part.has_it) }
    | inr more ↦
        let v = from-part kept sets x joins.part below lacks joins.listed joins.inside in
        record { witness = v.0; listed = v.1; around = v.2; lacks = has_above v.0.agree n a (small v.0 v.1) (not_below a n more) }
  ]

told-itself : (kept : List Witness) (w : Witness) → Listed w kept → IsTold kept w.agree
told-itself kept w l t e = record { witness = w; listed = l; around = IsSubset-refl w.agree; lacks = e }

told-more : (kept : List Witness) (x : Columns) (w : Witness) → IsTold kept x → IsTold (kept ++ w ∷ []) x
told-more kept x w told t e = let o = told t e in record { witness = o.witness; listed = Listed-append_left o.witness kept (w ∷ []) o.listed; around = o.around; lacks = o.lacks }

-- ---- the loop
-- The witnesses that are left and those that are kept are among these, each other one is told, and these sets are what the kept ones lack.
pub record Sifted (n : ℕ) (ws rest kept : List Witness) (sets : List Columns) : Type 0 where
  pub left : (w : Witness) → Listed w rest → Listed w ws
  pub among : (w : Witness) → Listed w kept → Listed w ws
  pub lacks : AreLacks n kept sets
  pub told : All (λ w. w.agree < 2 ^ n) ws → (w : Witness) → Listed w ws → Listed w rest ⊎ IsTold kept w.agree

pub sifted-none : (n : ℕ) (ws rest kept : List Witness) (sets : List Columns) → ((w : Witness) → (Listed w rest → Listed w ws) × (Listed w ws → Listed w rest)) → kept ≡ [] → sets ≡ [] → Sifted n ws rest kept sets
sifted-none n ws rest kept sets same none empty = record {
  left = λ w l. (same w).0 l;
  among = λ w l. absurd (subst (λ (ks : List Witness). Listed w ks) none l);
  lacks = λ c l. absurd (subst (λ (cs : List Columns). Listed c cs) empty l);
  told = λ below w l. inl ((same w).1 l);
}

-- the last one that is left is looked at
module _ (n : ℕ) (ws rest left kept : List Witness) (sets : List Columns) (w : Witness) (is : rest ≡ left ++ w ∷ []) (so_far : Sifted n ws rest kept sets) where
  was-left : (v : Witness) → Listed v left → Listed v ws
  was-left v l = so_far.left v (subst (λ (vs : List Witness). Listed v vs) (sym is) (Listed-append_left v left (w ∷ []) l))

  its-own : Listed w ws
  its-own = so_far.left w (subst (λ (vs : List Witness). Listed w vs) (sym is) (Listed-append_right w left (w ∷ []) (inl refl)))

  now-left : (more : List Witness) → ((v : Witness) → IsTold kept v.agree → IsTold more v.agree) → (All (λ w. w.agree < 2 ^ n) ws → IsTold more w.agree)
      → All (λ w. w.agree < 2 ^ n) ws → (v : Witness) → Listed v ws → Listed v left ⊎ IsTold more v.agree
  now-left more grow own below v l = elim (so_far.told below v l) [
    | inl r ↦ elim (Listed-append_cases v left (w ∷ []) (subst (λ (vs : List Witness). Listed v vs) is r)) [
      | inl before ↦ inl before
      | inr last ↦ elim last [
        | inl same ↦ inr (subst (λ (z : Witness). IsTold more z.agree) (sym same) (own below))
        | inr none ↦ absurd none
      ]
    ]
    | inr t ↦ inr (grow v t)
  ]

  pub sifted-kept : (new_kept : List Witness) (new_sets : List Columns) → new_kept ≡ kept ++ w ∷ [] → ((c : Columns) → Listed c new_sets → (c ≡ minus (all n) w.agree) ⊎ Listed c sets) → Sifted n ws left new_kept new_sets
  sifted-kept new_kept new_sets grown keyed = subst (λ (ks : List Witness). Sifted n ws left ks new_sets) (sym grown) (record {
    left = was-left;
    among = λ v l. elim (Listed-append_cases v kept (w ∷ []) l) [
      | inl old ↦ so_far.among v old
      | inr new ↦ elim new [
        | inl same ↦ subst (λ (z : Witness). Listed z ws) (sym same) its-own
        | inr none ↦ absurd none
      ]
    ];
    lacks = λ c l. elim (keyed c l) [
      | inl own ↦ (w, Listed-append_right w kept (w ∷ []) (inl refl), own)
      | inr old ↦ let v = so_far.lacks c old in (v.0, Listed-append_left v.0 kept (w ∷ []) v.1, v.2)
    ];
    told = now-left (kept ++ w ∷ []) (λ v t. told-more kept v.agree w t) (λ below. told-itself (kept ++ w ∷ []) w (Listed-append_right w kept (w ∷ []) (inl refl)));
  })

  pub sifted-left : IsJoined sets (minus (all n) w.agree) → Sifted n ws left kept sets
  sifted-left joins = record {
    left = was-left;
    among = so_far.among;
    lacks = so_far.lacks;
    told = now-left kept (λ v t. t) (λ below. told-joined n kept sets w.agree (All-listed (λ (v : Witness). v.agree < 2 ^ n) w ws below its-own) so_far.lacks
        (λ v l. All-listed (λ (u : Witness). u.agree < 2 ^ n) v ws below (so_far.among v l)) joins);
  }

pub none_left : (ws : List Witness) → length ws ≡ 0 → ws ≡ []
none_left [] e = refl
none_left (w ∷ ws) e = absurd (omega arith)

-- what all refute, the kept ones refute
pub sifted-whole : (n : ℕ) (ws rest kept : List Witness) (sets : List Columns) → rest ≡ [] → Sifted n ws rest kept sets → All (λ w. w.agree < 2 ^ n) ws
    → (t : Target) (x : Columns) → refuted (sets_of ws) t x ≡ true → refuted (sets_of kept) t x ≡ true
unfolding refuted
sifted-whole n ws rest kept sets none so_far below t x e =
    let one = list_any_which (λ (w : ℕ). refutes w x t) (sets_of ws) e in
    let which = Listed-map_which (λ (w : Witness). w.agree) one.0 ws one.1 in
    let parts = and_parts _ _ (ap (λ (z : ℕ). refutes z x t) (sym which.2) ∙ one.2) in
    elim (so_far.told below which.0 which.1) [
      | inl left ↦ absurd (subst (λ (vs : List Witness). Listed which.0 vs) none left)
      | inr told ↦
          let v = told t (not-true _ parts.1) in
          list_any_at (λ (w : ℕ). refutes w x t) v.witness.agree (sets_of kept) (Listed-map (λ (w : Witness). w.agree) v.witness kept v.listed)
          (and_from _ _ (true-subset (IsSubset-trans (subset-true parts.0) v.around)) (ap not v.lacks))
    ]
