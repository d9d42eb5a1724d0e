-- What is made of some rows is a certificate of them.
use Rattle.std.proofs.Common.{inl, inr, ◌≡◌, ◌≢◌, ℕ, ◌<◌, ◌≤◌, ◌^◌, Bool, true, false, cond, ltb, refl, sym, ap, ap₂, ◌∙◌, subst, arith, List, [], ◌∷◌, length, map, Some}
use Rattle.std.specs.List.{All, flat_map}
use Rattle.std.proofs.lemmas.Nat.{pow_pos}
use Rattle.std.proofs.Math.Pow.{pow_mono}
use Rattle.std.proofs.lemmas.Bool.{true≢false, lt-ltb, ltb-true, cases_eq}
use Rattle.col_set.specs.declared.target.Target.{Target}
use Rattle.col_set.specs.declared.target.Target.TheVariants.{Col, RowId}
use Rattle.col_set.specs.ColSet.{Columns, all, upto}
use Rattle.col_set.specs.Members.{has-all}
use Rattle.col_set.specs.Subsets.{subset_below}
use Rattle.col_set.specs.Evidence.{refuted, least}
use Rattle.col_set.specs.Lists.{Listed, Listed-map, Listed-map_which}
use Rattle.col_set.proofs.Places.{Contains-listed, Listed-contained}
use Rattle.col_set.proofs.Whole.{least-same}
use Rattle.col_set.proofs.Least.{IsLeast-listed}
use Rattle.col_set.proofs.More.{refuted_more}
use Rattle.negative_cover.specs.declared.negative_cover.Witness.{Witness}
use Rattle.negative_cover.specs.Witnesses.{sets_of}
use Rattle.cover_steps.specs.Sound.{IsWitness}
use Rattle.rel_base.specs.RowState.{RowState, IsRowState, width, row}
use Rattle.rel_base.specs.Validity.{agree_of, Holds}
use Rattle.rel_base.specs.declared.dependency.Fd.{Fd}
use Rattle.rel_base.specs.Covers.{CoverLists, fds_to, covers, least_covers}
use Rattle.rel_base.specs.Laws.{AllHold}
use Rattle.rel_base.specs.Minimality.{MinFd, MinKey}
use Rattle.rel_base.proofs.Ordered.{covers-listed}
use Rattle.rel_base.proofs.States.{All-listed, All-from, live_positive, live_numbered}
use Rattle.rel_base.proofs.Agree.{agree-symm, agree-parts}
use Rattle.cover_cert.specs.Certificates.{rows_of, agree_sets_of}
use Rattle.cover_cert.specs.Form.{said}
use Rattle.cover_cert.specs.Laws.{NamesRows, IsCertificate, left_by, lines_of}
use Rattle.report_text.specs.Certificate.{certificate_text}
use Rattle.cover_cert.specs.Evidence.{ordered}
use Rattle.cover_cert.specs.Makes.{AreOf}
use Rattle.cover_cert.proofs.Told.{not_below}
use Rattle.cover_cert.proofs.Written.{row_pair, AreSmall, said-written}

all_below : (n : ℕ) → all n < 2 ^ n
unfolding all
all_below n = let l = pow_pos n in omega arith

agree_of-below : (r : RowState) (i j : ℕ) → agree_of r i j < 2 ^ width r
agree_of-below r i j = subset_below (width r) (record { each = λ k h. has-all (width r) k ∙ lt-ltb k (width r) (agree-parts r.nulls (width r) (row r i) (row r j) k h).0 }) (all_below (width r))

-- ---- the covers
module _ (r : RowState) (is : IsRowState r) where
  key-of : (x : Columns) → Listed x (covers r).keys → MinKey r x
  key-of x l = ((covers-listed r is).keys x).0 (Contains-listed x (covers r).keys l)

  fd-of : (f : Fd) → Listed f (covers r).fds → MinFd r f.left f.right
  fd-of f l = ((covers-listed r is).fds f).0 (Contains-listed f (covers r).fds l)

  covers-hold : AllHold r (covers r)
  covers-hold = record {
    keys = All-from (λ (x : ℕ). Holds r x RowId) (covers r).keys (λ x l. (key-of x l).determines);
    fds = All-from (λ (f : Fd). Holds r f.left (Col f.right)) (covers r).fds (λ f l. (fd-of f l).determines);
  }

-- evidence that refutes as much leaves the same
least-refuted : (n : ℕ) (kept ws : List Columns) (t : Target) → ((x : Columns) → refuted kept t x ≡ true → refuted ws t x ≡ true) → ((x : Columns) → refuted ws t x ≡ true → refuted kept t x ≡ true)
    → least n kept t ≡ least n ws t
least-refuted n kept ws t more whole = least-same n kept ws t (λ x b. more x) (λ x l. stands x (IsLeast-listed n kept t x l).stands)
  where
    stands : (x : Columns) → refuted kept t x ≡ false → refuted ws t x ≡ false
    stands x e = by (refuted ws t x) refl
      where
        by : (b : Bool) → refuted ws t x ≡ b → refuted ws t x ≡ false
        by true f = absurd (true≢false (sym (whole x f) ∙ e))
        by false f = f

covers-refuted : (n : ℕ) (kept ws : List Columns) → ((t : Target) (x : Columns) → refuted kept t x ≡ true → refuted ws t x ≡ true)
    → ((t : Target) (x : Columns) → refuted ws t x ≡ true → refuted kept t x ≡ true) → least_covers n kept ≡ least_covers n ws
unfolding least_covers
covers-refuted n kept ws more whole = λ i. record {
  keys = least-refuted n kept ws RowId (more RowId) (whole RowId) i;
  fds = flat_map (λ a. fds_to a (least-refuted n kept ws (Col a) (more (Col a)) (whole (Col a)) i)) (upto n);
}

-- ---- the pairs
agree-ordered : (r : RowState) (w : Witness) → w.agree ≡ agree_of r w.i w.j → agree_of r (ordered w).0 (ordered w).1 ≡ w.agree
agree-ordered r w e = by (ltb w.i w.j) refl
  where
    by : (b : Bool) → ltb w.i w.j ≡ b → agree_of r (cond {A = ℕ × ℕ} b (w.i, w.j) (w.j, w.i)).0 (cond {A = ℕ × ℕ} b (w.i, w.j) (w.j, w.i)).1 ≡ w.agree
    by true f = sym e
    by false f = agree-symm r.nulls (width r) (row r w.j) (row r w.i) ∙ sym e

names-ordered : (r : RowState) → IsRowState r → (w : Witness) → IsWitness r w → NamesRows r (row_pair (ordered w))
names-ordered r is w it = by (ltb w.i w.j) refl
  where
    by : (b : Bool) → ltb w.i w.j ≡ b → NamesRows r (row_pair (cond {A = ℕ × ℕ} b (w.i, w.j) (w.j, w.i)))
    by true e = record { positive = live_positive r w.i is (Listed-contained w.i r.live it.first); rising = ltb-true w.i w.j e; first = it.first; second = it.second }
    by false e = record { positive = live_positive r w.j is (Listed-contained w.j r.live it.second); rising = other (not_below w.i w.j e) it.different; first = it.second; second = it.first }
      where
        other : w.j ≤ w.i → w.i ≢ w.j → w.j < w.i
        other l ne = elim (cases_eq w.i w.j) [
          | inl same ↦ absurd (ne same)
          | inr apart ↦ omega arith
        ]

small-ordered : (r : RowState) → IsRowState r → (w : Witness) → IsWitness r w → ((ordered w).0 ≤ 4294967295) × ((ordered w).1 ≤ 4294967295)
small-ordered r is w it = by (ltb w.i w.j)
  where
    few : length r.given ≤ 1000000
    few = is.short

    first : w.i ≤ 4294967295
    first = let l = live_numbered r w.i is (Listed-contained w.i r.live it.first) in omega arith

    second : w.j ≤ 4294967295
    second = let l = live_numbered r w.j is (Listed-contained w.j r.live it.second) in omega arith

    by : (b : Bool) → ((cond {A = ℕ × ℕ} b (w.i, w.j) (w.j, w.i)).0 ≤ 4294967295) × ((cond {A = ℕ × ℕ} b (w.i, w.j) (w.j, w.i)).1 ≤ 4294967295)
    by true = (first, second)
    by false = (second, first)

-- ---- the certificate
module _ (columns rows : ℕ) (ws kept : List Witness) (found : CoverLists) (few : columns ≤ 128) (counted : rows ≤ 4294967295)
    (among : (w : Witness) → Listed w kept → Listed w ws)
    (whole : All (λ w. w.agree < 2 ^ columns) ws → (t : Target) (x : Columns) → refuted (sets_of ws) t x ≡ true → refuted (sets_of kept) t x ≡ true) where
  abbrev pairs : List (ℕ × ℕ)
  pairs = map ordered kept

  module _ (r : RowState) (of : AreOf r columns rows ws found) where
    witness : (w : Witness) → Listed w kept → IsWitness r w
    witness w l = All-listed (IsWitness r) w ws of.witnesses_of (among w l)

    narrow : All (λ w. w.agree < 2 ^ columns) ws
    narrow = All-from (λ (w : Witness). w.agree < 2 ^ columns) ws (λ w l.
        subst (λ (n : ℕ). w.agree < 2 ^ n) of.columns_of (subst (λ (z : ℕ). z < 2 ^ width r) (sym ((All-listed (IsWitness r) w ws of.witnesses_of l).agrees)) (agree_of-below r w.i w.j)))

    more : (t : Target) (x : Columns) → refuted (sets_of kept) t x ≡ true → refuted (sets_of ws) t x ≡ true
    more t x = refuted_more (sets_of kept) (sets_of ws) t x (λ z l.
        let one = Listed-map_which (λ (w : Witness). w.agree) z kept l in
        subst (λ (y : ℕ). Listed y (sets_of ws)) (sym one.2) (Listed-map (λ (w : Witness). w.agree) one.0 ws (among one.0 one.1)))

    sets-same : (ks : List Witness) → ((w : Witness) → Listed w ks → IsWitness r w) → agree_sets_of (rows_of r) (map row_pair (map ordered ks)) ≡ sets_of ks
    sets-same [] each = refl
    sets-same (w ∷ ks) each = ap₂ (λ (z : ℕ) (zs : List ℕ). z ∷ zs) (agree-ordered r w (each w (inl refl)).agrees) (sets-same ks (λ v l. each v (inr l)))

    left : left_by r (map row_pair pairs) ≡ covers r
    left = ap (least_covers (width r)) (sets-same kept witness) ∙ covers-refuted (width r) (sets_of kept) (sets_of ws) more (whole narrow) ∙ sym of.evidence

    below-all : (x : ℕ) → x < 2 ^ width r → x < 2 ^ 128
    below-all x l = let m : 2 ^ width r ≤ 2 ^ 128 = pow_mono of.state.narrow in omega arith

    small : AreSmall columns rows pairs found
    small = record {
      columns_small = omega arith;
      rows_small = counted;
      pairs_small = λ p l. let one = Listed-map_which ordered p kept l in subst (λ (q : ℕ × ℕ). (q.0 ≤ 4294967295) × (q.1 ≤ 4294967295)) (sym one.2) (small-ordered r of.state one.0 (witness one.0 one.1));
      keys_small = λ x l. below-all x (key-of r of.state x (subst (λ (c : CoverLists). Listed x c.keys) of.covers_of l)).below;
      fds_small = λ f l. let it = fd-of r of.state f (subst (λ (c : CoverLists). Listed f c.fds) of.covers_of l) in (below-all f.left it.below, let l = it.column in let m = of.state.narrow in omega arith);
    }

    lined : {c c' n n' : ℕ} {l l' : CoverLists} → c ≡ c' → n ≡ n' → l ≡ l'
        → map Some (lines_of (record { columns = c; rows = n }) (map row_pair pairs) l) ≡ map Some (lines_of (record { columns = c'; rows = n' }) (map row_pair pairs) l')
    lined e f g = λ i. map Some (lines_of (record { columns = e i; rows = f i }) (map row_pair pairs) (g i))

    pub certifies : (text : List ℕ) → text ≡ certificate_text columns rows pairs found → IsCertificate r text
    certifies text made = record {
      pairs = map row_pair pairs;
      named = All-from (NamesRows r) (map row_pair pairs) (λ p l.
          let one = Listed-map_which row_pair p pairs l in
          let two = Listed-map_which ordered one.0 kept one.1 in
          subst (NamesRows r) (sym (one.2 ∙ ap row_pair two.2)) (names-ordered r of.state two.0 (witness two.0 two.1)));
      text = ap said made ∙ said-written columns rows pairs found small
          ∙ lined (sym of.columns_of) (sym of.rows_of) (of.covers_of ∙ sym left);
      hold = subst (AllHold r) (sym left) (covers-hold r of.state);
    }
