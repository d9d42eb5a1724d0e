-- The tables of dependencies: their left sides in report order, with their right columns.
use Rattle.std.proofs.Common.{◌≡◌, ℕ, ◌+◌, ◌<◌, ◌≤◌, ◌^◌, Bool, true, false, cond, ◌&&◌, ◌||◌, eqb, refl, sym, ap, ◌∙◌, subst, List, [], ◌∷◌, ◌++◌, length, map, get_or, take, BTreeSet, is_eq}
use Rattle.std.specs.List.{All, filter, list_any}
use Rattle.std.specs.BTreeSet.{contains, IsOrdered}
use Rattle.std.proofs.lemmas.Bool.{and_parts, and_from, eqb-true, eq-eqb}
use Rattle.std.proofs.lemmas.List.{take_more, take_all}
use Rattle.col_set.specs.declared.col_set.TheConstants.{MOST_COLUMNS}
use Rattle.col_set.specs.ColSet.{Columns, has, all, with, subset, report_cmp, all_sets}
use Rattle.col_set.specs.Members.{has-union, has-with, same_set}
use Rattle.col_set.specs.Subsets.{same_test}
use Rattle.col_set.specs.Lists.{Listed, Listed-filter, Listed-filter_parts, Listed-map, Listed-map_which, list_any_at, list_any_which, Rises-filter}
use Rattle.col_set.specs.AllSets.{set_of-has, has-set_of, Listed-all_sets, Rises-all_sets, report_total, report_matches_eq}
use Rattle.col_set.proofs.Places.{same_rising}
use Rattle.plain_base.proofs.Steps.{Rises_strict}
use Rattle.rel_base.specs.declared.dependency.Fd.{Fd}
use Rattle.rel_base.specs.declared.dependency.Table.{Table}
use Rattle.rel_base.proofs.States.{All-listed}
use Rattle.fd_closure.specs.Keys.{shrunk}
use Rattle.fd_closure.specs.Under.{IsClosure, on_columns}
use Rattle.fd_closure.proofs.Walking.{columns-whole}
use Rattle.synth_3nf.specs.Reached.{reached}
use Rattle.synth_3nf.specs.Canonical.{canonical}
use Rattle.synth_3nf.specs.Tables.{left_sides, with_rights, tables_of_lefts, reaches_all, whole_key, with_key_table, outermost, synthesis}
use Rattle.synth_3nf.proofs.Reaching.{reached-is}
use Rattle.synth_3nf.proofs.Trials.{canonical-reached}

-- ---- left sides
-- whether a set is a left side
abbrev pub is_left : List Fd → Columns → Bool
is_left fds x = list_any (λ (fd : Fd). eqb fd.left x) fds

contains_listed : (s : BTreeSet ℕ) (q : ℕ) → Listed q s.keys → contains report_cmp s q ≡ true
contains_listed s q h = list_any_at (λ k. is_eq (report_cmp q k)) q s.keys h (sym (report_matches_eq q q) ∙ eq-eqb q q refl)

listed_contained : (s : BTreeSet ℕ) (q : ℕ) → contains report_cmp s q ≡ true → Listed q s.keys
listed_contained s q e = let w = list_any_which (λ k. is_eq (report_cmp q k)) s.keys e in
    subst (λ (z : ℕ). Listed z s.keys) (sym (eqb-true q w.0 (report_matches_eq q w.0 ∙ w.2))) w.1

list_any-last : {X : Type 0} (p : X → Bool) (xs : List X) (x : X) → list_any p (xs ++ x ∷ []) ≡ (list_any p xs || p x)
list_any-last p [] x = by (p x)
  where
    by : (b : Bool) → (b || false) ≡ (false || b)
    by true = refl
    by false = refl
list_any-last p (y ∷ xs) x = ap (λ (b : Bool). p y || b) (list_any-last p xs x) ∙ by (p y)
  where
    by : (b : Bool) → (b || (list_any p xs || p x)) ≡ ((b || list_any p xs) || p x)
    by true = refl
    by false = refl

-- one more left side among those of a set
pub is_left-more : (fds : List Fd) (k : ℕ) (fd : Fd) (q : Columns) (old new : Bool) → k < length fds → fd ≡ get_or fds k fd → old ≡ is_left (take k fds) q
    → new ≡ cond (is_eq (report_cmp fd.left q)) true old → new ≡ is_left (take (k + 1) fds) q
is_left-more fds k fd q old new l is e n =
    n ∙ ap (λ (t : Bool). cond t true old) (sym (report_matches_eq fd.left q)) ∙ by (eqb fd.left q) old (list_any (λ (f : Fd). eqb f.left q) (take k fds)) e
    ∙ sym (list_any-last (λ (f : Fd). eqb f.left q) (take k fds) fd) ∙ ap (λ (fs : List Fd). list_any (λ (f : Fd). eqb f.left q) fs) (sym (take_more fds k fd l ∙ ap (λ (f : Fd). take k fds ++ f ∷ []) (sym is)))
  where
    by : (t old r : Bool) → old ≡ r → cond t true old ≡ (r || t)
    by true old true e = refl
    by true old false e = refl
    by false old true e = e
    by false old false e = e

pub lefts-are : (s : BTreeSet ℕ) (fds : List Fd) (n : ℕ) → IsOrdered report_cmp s → ((q : ℕ) → contains report_cmp s q ≡ is_left fds q) → All (λ fd. fd.left < 2 ^ n) fds → s.keys ≡ left_sides n fds
unfolding left_sides
lefts-are s fds n o has within = same_rising report_total s.keys _ (Rises_strict report_cmp s.keys o) (Rises-filter report_cmp _ (all_sets n) (Rises-all_sets n))
    (λ x h.
    let e = sym (has x) ∙ contains_listed s x h in
    let w = list_any_which (λ (fd : Fd). eqb fd.left x) fds e in
    Listed-filter _ x (all_sets n) (Listed-all_sets n x (subst (λ (z : ℕ). z < 2 ^ n) (eqb-true _ _ w.2) (All-listed (λ (fd : Fd). fd.left < 2 ^ n) w.0 fds within w.1))) e)
    (λ x h. listed_contained s x (has x ∙ (Listed-filter_parts (λ x. list_any (λ (fd : Fd). eqb fd.left x) fds) x (all_sets n) h).1))

-- ---- right columns
-- whether a column is a right column of a left side
abbrev is_right : List Fd → Columns → ℕ → Bool
is_right fds x a = list_any (λ (fd : Fd). eqb fd.left x && eqb fd.right a) fds

pub has-with_rights : (fds : List Fd) (x a : ℕ) → has (with_rights fds x) a ≡ (has x a || is_right fds x a)
unfolding with_rights
has-with_rights fds x a = has-union x _ a ∙ ap (λ (b : Bool). has x a || b) (same_test _ _
    (λ e. let w = Listed-map_which (λ (fd : Fd). fd.right) a (filter (λ (fd : Fd). eqb fd.left x) fds) (set_of-has a _ e) in
    let v = Listed-filter_parts (λ (fd : Fd). eqb fd.left x) w.0 fds w.1 in
    list_any_at (λ (fd : Fd). eqb fd.left x && eqb fd.right a) w.0 fds v.0 (and_from _ _ v.1 (eq-eqb _ a (sym w.2))))
    (λ e. let w = list_any_which (λ (fd : Fd). eqb fd.left x && eqb fd.right a) fds e in
    let v = and_parts (eqb w.0.left x) (eqb w.0.right a) w.2 in
    has-set_of a _ (subst (λ (k : ℕ). Listed k (map (λ (fd : Fd). fd.right) (filter (λ (fd : Fd). eqb fd.left x) fds))) (eqb-true _ a v.1)
    (Listed-map (λ (fd : Fd). fd.right) w.0 _ (Listed-filter (λ (fd : Fd). eqb fd.left x) w.0 fds w.1 v.0)))))

pub rights-none : (x : Columns) → x ≡ with_rights [] x
rights-none x = same_set x (with_rights [] x) (λ a. by (has x a) ∙ sym (has-with_rights [] x a))
  where
    by : (b : Bool) → b ≡ (b || false)
    by true = refl
    by false = refl

module _ (fds : List Fd) (k : ℕ) (fd : Fd) (x now : Columns) (l : k < length fds) (is : fd ≡ get_or fds k fd) (w : now ≡ with_rights (take k fds) x) where
  more : take (k + 1) fds ≡ take k fds ++ fd ∷ []
  more = take_more fds k fd l ∙ ap (λ (f : Fd). take k fds ++ f ∷ []) (sym is)

  right-more : (a : ℕ) → is_right (take (k + 1) fds) x a ≡ (is_right (take k fds) x a || (eqb fd.left x && eqb fd.right a))
  right-more a = ap (list_any (λ (f : Fd). eqb f.left x && eqb f.right a)) more ∙ list_any-last (λ (f : Fd). eqb f.left x && eqb f.right a) (take k fds) fd

  pub rights-more : (next : Columns) → fd.left ≡ x → next ≡ with now fd.right → next ≡ with_rights (take (k + 1) fds) x
  rights-more next e g = same_set next (with_rights (take (k + 1) fds) x) (λ a.
      ap (λ (z : Columns). has z a) (g ∙ ap (λ (z : Columns). with z fd.right) w) ∙ has-with (with_rights (take k fds) x) fd.right a ∙ ap (λ (b : Bool). b || eqb a fd.right) (has-with_rights (take k fds) x a)
      ∙ by a (has x a) (is_right (take k fds) x a)
      ∙ ap (λ (b : Bool). has x a || (is_right (take k fds) x a || (b && eqb fd.right a))) (sym (eq-eqb fd.left x e))
      ∙ ap (λ (b : Bool). has x a || b) (sym (right-more a)) ∙ sym (has-with_rights (take (k + 1) fds) x a))
    where
      turned : (a : ℕ) → eqb a fd.right ≡ eqb fd.right a
      turned a = same_test _ _ (λ h. eq-eqb fd.right a (sym (eqb-true a fd.right h))) (λ h. eq-eqb a fd.right (sym (eqb-true fd.right a h)))

      by : (a : ℕ) (p q : Bool) → ((p || q) || eqb a fd.right) ≡ (p || (q || (true && eqb fd.right a)))
      by a true q = refl
      by a false true = refl
      by a false false = turned a

  pub rights-skip : (eqb fd.left x ≡ false) → now ≡ with_rights (take (k + 1) fds) x
  rights-skip e = w ∙ same_set (with_rights (take k fds) x) (with_rights (take (k + 1) fds) x) (λ a.
      has-with_rights (take k fds) x a ∙ by (has x a) (is_right (take k fds) x a)
      ∙ ap (λ (b : Bool). has x a || (is_right (take k fds) x a || (b && eqb fd.right a))) (sym e)
      ∙ ap (λ (b : Bool). has x a || b) (sym (right-more a)) ∙ sym (has-with_rights (take (k + 1) fds) x a))
    where
      by : (p q : Bool) → (p || q) ≡ (p || (q || false))
      by true q = refl
      by false true = refl
      by false false = refl

  pub rights-next : (next : Columns) → next ≡ cond (eqb fd.left x) (with now fd.right) now → next ≡ with_rights (take (k + 1) fds) x
  rights-next next e = by (eqb fd.left x) refl e
    where
      by : (b : Bool) → eqb fd.left x ≡ b → next ≡ cond b (with now fd.right) now → next ≡ with_rights (take (k + 1) fds) x
      by true i g = rights-more next (eqb-true fd.left x i) g
      by false i g = g ∙ rights-skip i

pub rights-all : (fds : List Fd) (k : ℕ) (x now : Columns) → length fds ≤ k → now ≡ with_rights (take k fds) x → now ≡ with_rights fds x
rights-all fds k x now l w = w ∙ ap (λ (fs : List Fd). with_rights fs x) (take_all k fds l)

-- ---- what is reached
pub reaches-found : (fds : List Fd) (n : ℕ) (x y whole : Columns) → All (λ fd. fd.right < MOST_COLUMNS) fds → IsClosure (on_columns fds) x y → whole ≡ all n → subset whole y ≡ reaches_all n fds x
reaches-found fds n x y whole narrow c e =
    ap (λ (z : Columns). subset z y) e ∙ ap (subset (all n)) (reached-is fds x y (subst (λ (fs : List Fd). IsClosure fs x y) (columns-whole fds narrow) c))

-- ---- by the kept dependencies instead of all
by_reach : ℕ → (Columns → Columns) → List Table → List Table
by_reach n r ts = cond (list_any (λ (t : Table). subset (all n) (r t.columns)) ts) ts (ts ++ record { columns = shrunk (λ x. subset (all n) (r x)) n (all n); key = shrunk (λ x. subset (all n) (r x)) n (all n) } ∷ [])

by_reach-is : (n : ℕ) (fds : List Fd) (ts : List Table) → by_reach n (reached fds) ts ≡ with_key_table n fds ts
unfolding by_reach with_key_table whole_key
by_reach-is n fds ts = refl

key_table-same : (n : ℕ) (fds : List Fd) (ts : List Table) → with_key_table n (canonical fds) ts ≡ with_key_table n fds ts
key_table-same n fds ts =
    let e : reached (canonical fds) ≡ reached fds = λ i x. canonical-reached fds x i in
    sym (by_reach-is n (canonical fds) ts) ∙ ap (λ (r : Columns → Columns). by_reach n r ts) e ∙ by_reach-is n fds ts

pub synthesis-found : (n : ℕ) (fds kept : List Fd) (ts : List Table) → kept ≡ canonical fds → ts ≡ outermost [] (with_key_table n kept (tables_of_lefts n kept)) → ts ≡ synthesis n fds
unfolding synthesis
synthesis-found n fds kept ts e t =
    t ∙ ap (λ (fs : List Fd). outermost [] (with_key_table n fs (tables_of_lefts n fs))) e ∙ ap (outermost []) (key_table-same n fds (tables_of_lefts n (canonical fds)))
