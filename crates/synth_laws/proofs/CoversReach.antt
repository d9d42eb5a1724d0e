-- What the minimal dependencies of rows reach is what holds in the rows.
use Rattle.std.proofs.Common.{inl, inr, ◌≡◌, ◌⊎◌, ℕ, ◌<◌, ◌^◌, true, not, sym, ap, ◌∙◌, List}
use Rattle.std.specs.Prelude.{nat_le}
use Rattle.std.proofs.lemmas.Bool.{and_parts}
use Rattle.col_set.specs.declared.target.Target.TheVariants.{Col}
use Rattle.col_set.specs.ColSet.{Columns, IsSubset, has, size}
use Rattle.col_set.specs.Lists.{Listed, Listed-filter_parts}
use Rattle.col_set.specs.Subsets.{IsSubset-trans, subset_below, has_within}
use Rattle.col_set.proofs.Minimal.{IsMinimal-from_test}
use Rattle.col_set.proofs.Places.{Listed-contained}
use Rattle.rel_base.specs.declared.dependency.Fd.{Fd}
use Rattle.rel_base.specs.declared.dependency.Table.{Table}
use Rattle.rel_base.specs.RowState.{RowState, IsRowState, width}
use Rattle.rel_base.specs.Validity.{holds}
use Rattle.rel_base.specs.Minimality.{min_fd}
use Rattle.rel_base.specs.Covers.{covers}
use Rattle.rel_base.proofs.States.{live_climbs, All-listed, All-from}
use Rattle.rel_base.proofs.Valid.{Holds-tested, holds-true}
use Rattle.fd_closure.specs.Determined.{determined_columns, Determines}
use Rattle.fd_closure.specs.Closure.{closure_of}
use Rattle.fd_closure.proofs.Determined.{determined-holds, holds-determined}
use Rattle.fd_closure.proofs.Closing.{covers-minimal, closure-determined, minimal-holds}
use Rattle.fd_closure.proofs.Walking.{closure_of-closure}
use Rattle.synth_3nf.specs.Reached.{reached}
use Rattle.synth_3nf.specs.Shorter.{shorter}
use Rattle.synth_3nf.specs.Tables.{synthesis}
use Rattle.synth_3nf.proofs.Below.{synthesis-below}
use Rattle.synth_3nf.proofs.Reaching.{reached-is}
use Rattle.synth_laws.specs.ThirdNormal.{IsReachingKey, IsTableKey, IsPrimeFor, IsPrime, IsThirdNormalFor, IsThirdNormalForm, IsReduced, TablesAreThirdNormal, CoversAreReduced}
use Rattle.synth_laws.specs.Joined.{AreHeld, CoversAreHeld}
use Rattle.synth_laws.proofs.Reach.{reached-fewer}
use Rattle.synth_laws.proofs.Bernstein.{TablesAreThirdNormalFor-synthesis}

module _ (r : RowState) where
  reached-determined : (x : Columns) → x < 2 ^ width r → reached (covers r).fds x ≡ determined_columns r x
  reached-determined x b = sym (reached-is (covers r).fds x (closure_of (covers r).fds x) (closure_of-closure r x b)) ∙ closure-determined r x b

  reached-holds : (x : Columns) (a : ℕ) → x < 2 ^ width r → has (reached (covers r).fds x) a ≡ true → holds r x (Col a) ≡ true
  reached-holds x a b h = (determined-holds r x a (ap (λ (y : Columns). has y a) (sym (reached-determined x b)) ∙ h)).1

  holds-reached : (x : Columns) (a : ℕ) → x < 2 ^ width r → a < width r → holds r x (Col a) ≡ true → has (reached (covers r).fds x) a ≡ true
  holds-reached x a b l h = ap (λ (y : Columns). has y a) (reached-determined x b) ∙ holds-determined r x a l h

  -- ---- minimal dependencies
  minimal-smallest : (x a : ℕ) → x < 2 ^ width r → min_fd r x a ≡ true → (y : Columns) → IsSubset y x → holds r y (Col a) ≡ true → y ≡ x
  unfolding min_fd
  minimal-smallest x a b m y i h = (IsMinimal-from_test (width r) (λ y. holds r y (Col a)) x b (and_parts (not (has x a)) _ m).1).smallest y i h

  some-reduced : (fds : List Fd) → ((fd : Fd) → Listed fd fds → Listed fd (covers r).fds) → IsReduced fds
  some-reduced fds f = record {
    each = λ fd h y i e.
        let m = covers-minimal r fd (f fd (Listed-contained fd fds h)) in
        minimal-smallest fd.left fd.right m.below m.minimal y i (reached-holds y fd.right (subset_below (width r) i m.below) ((reached-fewer fds (covers r).fds y f).each fd.right e));
  }

  some-held : (fds : List Fd) → ((fd : Fd) → Listed fd fds → Listed fd (covers r).fds) → AreHeld r fds
  some-held fds f fd h =
      let m = covers-minimal r fd (f fd (Listed-contained fd fds h)) in
      record { left = m.below; right = m.column; holds = Holds-tested r fd.left (Col fd.right) (minimal-holds r fd.left fd.right m.below m.minimal).1 }

  shorter-listed : (most : ℕ) (fd : Fd) → Listed fd (shorter most (covers r).fds) → Listed fd (covers r).fds
  shorter-listed most fd h = (Listed-filter_parts (λ (fd : Fd). nat_le (size fd.left) most) fd (covers r).fds h).0

  pub CoversAreReduced-covers : CoversAreReduced r
  CoversAreReduced-covers = record {
    all = some-reduced (covers r).fds (λ fd h. h);
    chosen = λ most. some-reduced (shorter most (covers r).fds) (shorter-listed most);
  }

  pub CoversAreHeld-covers : CoversAreHeld r
  CoversAreHeld-covers = record {
    all = some-held (covers r).fds (λ fd h. h);
    chosen = λ most. some-held (shorter most (covers r).fds) (shorter-listed most);
  }

  -- ---- third normal form for the rows
  module _ (is : IsRowState r) (s : Columns) (bound : s < 2 ^ width r) where
    reaches-determines : (x : Columns) → x < 2 ^ width r → IsSubset s (reached (covers r).fds x) → Determines r x s
    reaches-determines x b i = record { each = λ a h. Holds-tested r x (Col a) (reached-holds x a b (i.each a h)) }

    determines-reaches : (x : Columns) → x < 2 ^ width r → Determines r x s → IsSubset s (reached (covers r).fds x)
    determines-reaches x b d = record { each = λ a h. holds-reached x a b (has_within s (width r) a bound h) (holds-true r x (Col a) (live_climbs r is) (d.each a h)) }

    key-in_rows : (k : Columns) → IsReachingKey (covers r).fds s k → IsTableKey r s k
    key-in_rows k key = record {
      inside = key.inside;
      determines = reaches-determines k (subset_below (width r) key.inside bound) key.reaches;
      smallest = λ y i d. key.smallest y i (determines-reaches y (subset_below (width r) (IsSubset-trans i key.inside) bound) d);
    }

    normal-in_rows : IsThirdNormalFor (covers r).fds s → IsThirdNormalForm r s
    normal-in_rows normal = record {
      each = λ x a i own lacks h.
          let b = subset_below (width r) i bound in
          by x a b (normal.each x a i own lacks (holds-reached x a b (has_within s (width r) a bound own) (holds-true r x (Col a) (live_climbs r is) h)));
    }
      where
        by : (x : Columns) (a : ℕ) → x < 2 ^ width r → IsSubset s (reached (covers r).fds x) ⊎ IsPrimeFor (covers r).fds s a → Determines r x s ⊎ IsPrime r s a
        by x a b (inl i) = inl (reaches-determines x b i)
        by x a b (inr p) = inr (record { key = p.key; minimal = key-in_rows p.key p.minimal; own = p.own })

  pub TablesAreThirdNormal-synthesis : IsRowState r → TablesAreThirdNormal r
  TablesAreThirdNormal-synthesis is t h =
      normal-in_rows is t.columns
      (All-listed (λ (u : Table). u.columns < 2 ^ width r) t (synthesis (width r) (covers r).fds)
      (synthesis-below (width r) (covers r).fds (All-from (λ (fd : Fd). fd.right < width r) (covers r).fds (λ fd l. (covers-minimal r fd l).column)))
      (Listed-contained t (synthesis (width r) (covers r).fds) h))
      (TablesAreThirdNormalFor-synthesis (width r) (covers r).fds CoversAreReduced-covers.all t h)
