-- Which targets an agree set concerns, and what that tells of the candidates.
use Rattle.std.proofs.Common.{◌≡◌, ℕ, ◌<◌, ◌^◌, Bool, true, false, not, ◌&&◌, refl, sym, ap, ◌∙◌, subst, arith, List, [], ◌∷◌, ◌++◌, length}
use Rattle.std.proofs.lemmas.Bool.{true≢false, lt-ltb}
use Rattle.std.proofs.lemmas.Nat.{pow_pos}
use Rattle.col_set.specs.declared.target.Target.{Target}
use Rattle.col_set.specs.declared.target.Target.TheVariants.{Col, RowId}
use Rattle.col_set.specs.ColSet.{all}
use Rattle.col_set.specs.Members.{has-all}
use Rattle.col_set.specs.Target.{IsColumnTarget, has_target}
use Rattle.col_set.specs.Subsets.{subset_below}
use Rattle.col_set.specs.Evidence.{refuted, least}
use Rattle.rel_base.specs.RowState.{RowState, width, row}
use Rattle.rel_base.specs.Validity.{agree_of}
use Rattle.rel_base.proofs.Agree.{agree-parts}
use Rattle.negative_cover.specs.Witnesses.{sets_of}
use Rattle.candidate_cover.specs.Lists.{CandLists}
use Rattle.candidate_cover.specs.Cands.{cands_of, AreLeast}
use Rattle.std.proofs.lemmas.List.FromFn.{length-map-range_with_len}
use Rattle.rel_base.specs.CodeTable.{CodeTable}
use Rattle.cover_steps.specs.Core.{Core, refutes_some, renewed, renewed_list}
use Rattle.cover_steps.proofs.Kept.{cands_of-renewed}
use Rattle.cover_steps.proofs.Leaving.{told_one, unconcerned}
use Rattle.cover_steps.proofs.Renewing.{renewed_list-unconcerned}
use Rattle.cover_core.specs.Kept.{IsBook}
use Rattle.cover_steps.specs.Sound.{Sound}
use Rattle.cover_steps.proofs.Decided.{decide}
use Rattle.negative_cover.specs.declared.concerned.Concerned.{Concerned}
use Rattle.negative_cover.specs.Concerning.{concerns, AreConcerned, ConcernsNone}

-- ---- agree sets are of the columns that there are
all_below : (n : ℕ) → all n < 2 ^ n
unfolding all
all_below n = let l = pow_pos n in omega arith

pub agree_below : (r : RowState) (i j : ℕ) → agree_of r i j < 2 ^ width r
agree_below r i j = subset_below (width r) (record { each = λ k h. has-all (width r) k ∙ lt-ltb k (width r) (agree-parts r.nulls (width r) (row r i) (row r j) k h).0 }) (all_below (width r))

-- ---- whether there are any
shut_by : (h r : Bool) → (h ≡ false → r ≡ true) → (not h && not r) ≡ false
shut_by true r f = refl
shut_by false r f = ap not (f refl)

module _ (s : Core) (sound : Sound s) (z : ℕ) (below : z < 2 ^ width s.rows) (c : Concerned) (are : AreConcerned (width s.rows) (sets_of s.witnesses) z c) where
  pub none-known : ConcernsNone c → refutes_some s z ≡ false
  none-known none = ((decide s sound).known z below).1 (λ t l lacks. told_one (has_target z t) (refuted (sets_of s.witnesses) t z) lacks (sym (are.each t l) ∙ none t))

  known-none : refutes_some s z ≡ false → ConcernsNone c
  known-none known t = by (concerns c t) refl
    where
      within : concerns c t ≡ true → IsColumnTarget (width s.rows) t
      within = at t
        where
          at : (t : Target) → concerns c t ≡ true → IsColumnTarget (width s.rows) t
          at RowId e = tt
          at (Col a) e = are.within a e

      by : (b : Bool) → concerns c t ≡ b → b ≡ false
      by false e = refl
      by true e = absurd (true≢false (sym e ∙ are.each t (within e) ∙ shut_by (has_target z t) (refuted (sets_of s.witnesses) t z) (((decide s sound).known z below).0 known t (within e))))

  pub some-news : (ConcernsNone c → ⊥) → refutes_some s z ≡ true
  some-news some = by (refutes_some s z) refl
    where
      by : (b : Bool) → refutes_some s z ≡ b → b ≡ true
      by true e = refl
      by false e = absurd (some (known-none e))

-- the lists of other targets are as they were
pub same-unconcerned : (n : ℕ) (ws : List ℕ) (c new : CandLists) (z : ℕ) (concerned : Concerned) → AreLeast n ws c → new ≡ renewed n (ws ++ z ∷ []) c → AreConcerned n ws z concerned → (t : Target) → IsColumnTarget n t → concerns concerned t ≡ false → cands_of new t ≡ cands_of c t
same-unconcerned n ws c new z concerned least e are t l f =
    ap (λ (d : CandLists). cands_of d t) e ∙ cands_of-renewed n (ws ++ z ∷ []) c t l
    ∙ renewed_list-unconcerned n ws c t z (least.each t l) (unconcerned n ws c t z (least.each t l) (sym (are.each t l) ∙ f))

pub renewed-width : (n : ℕ) (ws : List ℕ) (c new : CandLists) → new ≡ renewed n ws c → length new.columns ≡ n
unfolding renewed
renewed-width n ws c new e = ap (λ (d : CandLists). length d.columns) e ∙ length-map-range_with_len (λ (a : ℕ). renewed_list n ws c (Col a)) 0 n

-- ---- a book
module _ (s now : Core) (table : CodeTable) (book : IsBook s table) (view : s ≡ now) (i j z n : ℕ) (c : Concerned) (is : z ≡ agree_of s.rows i j) (wide : n ≡ length s.candidates.columns) (are : AreConcerned n (sets_of s.witnesses) z c) where
  own : AreConcerned (width s.rows) (sets_of s.witnesses) (agree_of s.rows i j) c
  own = subst (λ (m : ℕ). AreConcerned m (sets_of s.witnesses) (agree_of s.rows i j) c) (wide ∙ book.sound.columns) (subst (λ (y : ℕ). AreConcerned n (sets_of s.witnesses) y c) is are)

  pub known-found : ConcernsNone c → refutes_some now (agree_of now.rows i j) ≡ false
  known-found none = subst (λ (m : Core). refutes_some m (agree_of m.rows i j) ≡ false) view (none-known s book.sound (agree_of s.rows i j) (agree_below s.rows i j) c own none)

  pub news-found : (ConcernsNone c → ⊥) → refutes_some now (agree_of now.rows i j) ≡ true
  news-found some = subst (λ (m : Core). refutes_some m (agree_of m.rows i j) ≡ true) view (some-news s book.sound (agree_of s.rows i j) (agree_below s.rows i j) c own some)
