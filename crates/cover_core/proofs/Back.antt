-- Cursors that go back to new candidates.
use Rattle.std.proofs.Common.{◌≡◌, ℕ, ◌<◌, ◌≤◌, Bool, true, false, if◌then◌else◌, refl, sym, ◌∙◌, arith, Option, Some, None}
use Rattle.std.specs.List.{find}
use Rattle.std.specs.Ordering.{is_lt}
use Rattle.std.proofs.lemmas.Bool.{true≢false}
use Rattle.col_set.specs.declared.target.Target.{Target}
use Rattle.col_set.specs.declared.target.Target.TheVariants.{Col, RowId}
use Rattle.col_set.specs.ColSet.{report_cmp}
use Rattle.col_set.specs.Target.{IsColumnTarget}
use Rattle.col_set.specs.Lists.{Listed}
use Rattle.candidate_cover.specs.declared.cand.Cand.{Cand}
use Rattle.candidate_cover.specs.Lists.{CandLists}
use Rattle.candidate_cover.specs.Cands.{width, cands_of, IsInOrder}
use Rattle.cover_steps.proofs.Lists.{find-None}
use Rattle.negative_cover.specs.declared.concerned.Concerned.{Concerned}
use Rattle.cover_core.specs.declared.cursor.Cursor.{Cursor}
use Rattle.negative_cover.specs.Concerning.{concerns}
use Rattle.cover_core.specs.Past.{rank, IsPast, IsPastBut}
use Rattle.cover_core.proofs.Cursors.{before_first}

-- what a search of one target answers, where it is made only if the target is concerned
pub if-none : {X : Type 0} (b : Bool) (o answer : Option X) → answer ≡ (if b then o else None) → answer ≡ None → b ≡ true → o ≡ None
if-none true o answer e f g = sym e ∙ f
if-none false o answer e f g = absurd (true≢false (sym g))

pub if-some : {X : Type 0} (b : Bool) (o answer : Option X) (x : X) → answer ≡ (if b then o else None) → answer ≡ Some x → o ≡ Some x
if-some true o answer x e f = sym e ∙ f
if-some {X} false o answer x e f = absurd (let g : Some x ≡ None = sym f ∙ e in cc)

-- of the row's identity and the first columns, none that is concerned has a candidate that passes
pub record NoneSoFar (p : Cand → Bool) (c : CandLists) (concerned : Concerned) (k : ℕ) : Type 0 where
  pub rows : concerns concerned RowId ≡ true → find p (cands_of c RowId) ≡ None
  pub columns : (j : ℕ) → j < k → concerns concerned (Col j) ≡ true → find p (cands_of c (Col j)) ≡ None

rank_within : (n a : ℕ) (t : Target) → IsColumnTarget n t → a < rank t → a < n
rank_within n a RowId l h = absurd (omega (arith, h))
rank_within n a (Col b) l h = let m : b < n = l in omega (arith, h)

module _ (p : Cand → Bool) (c : CandLists) (concerned : Concerned) (cursor : Cursor) (but : IsPastBut p c concerned cursor) where
  nothing : (k : ℕ) → NoneSoFar p c concerned k → (t : Target) (m : Cand) → rank t < rank cursor.target → rank t ≤ k → Listed m (cands_of c t) → p m ≡ false
  nothing k none t m l i h = by (concerns concerned t) refl
    where
      of : (t : Target) → rank t ≤ k → concerns concerned t ≡ true → find p (cands_of c t) ≡ None
      of RowId i e = none.rows e
      of (Col j) i e = none.columns j (omega (arith, i)) e

      by : (b : Bool) → concerns concerned t ≡ b → p m ≡ false
      by true e = find-None p (cands_of c t) m (of t i e) h
      by false e = but.earlier t m e l h

  pub back-row : (k : Cand) → IsInOrder (cands_of c RowId) → find p (cands_of c RowId) ≡ Some k → IsPast p c (record { target = RowId; left = k.left })
  back-row k o e = record { target = tt; earlier = λ t m l h. absurd (omega (arith, l)); before = before_first p (cands_of c RowId) k o e }

  pub back-column : (a : ℕ) → a < rank cursor.target → NoneSoFar p c concerned a → (k : Cand) → IsInOrder (cands_of c (Col a)) → find p (cands_of c (Col a)) ≡ Some k → IsPast p c (record { target = Col a; left = k.left })
  back-column a within none k o e = record {
    target = rank_within (width c) a cursor.target but.target within;
    earlier = λ t m l h. nothing a none t m (omega (arith, l, within)) (omega (arith, l)) h;
    before = before_first p (cands_of c (Col a)) k o e;
  }

  pub stays-back : (k : ℕ) → k ≡ rank cursor.target → NoneSoFar p c concerned k → IsPast p c cursor
  stays-back k same none = record {
    target = but.target;
    earlier = λ t m l h. nothing k none t m l (omega (arith, l, same)) h;
    before = λ m h l. by m h l (concerns concerned cursor.target) refl;
  }
    where
      of : (t : Target) → k ≡ rank t → concerns concerned t ≡ true → find p (cands_of c t) ≡ None
      of RowId i e = none.rows e
      of (Col j) i e = none.columns j (omega (arith, i)) e

      by : (m : Cand) → Listed m (cands_of c cursor.target) → is_lt (report_cmp m.left cursor.left) ≡ true → (b : Bool) → concerns concerned cursor.target ≡ b → p m ≡ false
      by m h l true e = find-None p (cands_of c cursor.target) m (of cursor.target same e) h
      by m h l false e = but.before m e h l
