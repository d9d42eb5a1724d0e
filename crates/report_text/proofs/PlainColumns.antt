-- A line that takes the columns of a set one after another.
use Rattle.std.proofs.Common.{◌≡◌, ℕ, ◌+◌, ◌*◌, ◌<◌, ◌≤◌, eqb, Bool, true, false, List, [], ◌∷◌, ◌++◌, length, length-append, Some, None, refl, sym, ap, ◌∙◌, subst, append_assoc, arith}
use Rattle.std.specs.Prelude.{decimal}
use Rattle.std.proofs.lemmas.Bool.{true≢false, eqb-true}
use Rattle.std.proofs.lemmas.List.{append-nil}
use Rattle.col_set.specs.ColSet.{has, without, columns, first}
use Rattle.col_set.specs.Members.{has-without}
use Rattle.col_set.specs.AllSets.{Ascends, Ascends_within}
use Rattle.col_set.specs.Lists.{Listed}
use Rattle.col_set.proofs.EachColumn.{Ascends-columns, Listed-columns, first-Some, first-None}
use Rattle.report_text.specs.Field.{columns_text, comma, space}
use Rattle.report_text.proofs.ColumnsText.{columns_tail, columns_text-none, columns_text-first}

-- what stands in the line where `rest` of the set is left
pub record HasColumns (before now : List ℕ) (set rest : ℕ) : Type 0 where
  pub text : now ++ columns_tail (columns rest) ≡ before ++ comma ∷ columns_text set
  pub most : length now ≤ length before + 512
  pub room : (k : ℕ) → has rest k ≡ true → length now ≤ length before + 4 * k
  pub seen : (k : ℕ) → has set k ≡ true → has rest k ≡ false → k < 128

-- the first column is the least
above : (set column k : ℕ) → Some column ≡ first set → has (without set column) k ≡ true → column < k
above set column k e h =
    let rises = subst (λ listed. Ascends 0 set listed) (first-Some set column e).columns_are (Ascends-columns set) in
    let within = (Ascends_within (column + 1) set k (columns (without set column)) rises.2 (Listed-columns (without set column) k h)).0 in
    omega arith

gone : (set column k : ℕ) → has set k ≡ true → has (without set column) k ≡ false → k ≡ column
gone set column k h out = by (eqb k column) refl
  where
    by : (b : Bool) → eqb k column ≡ b → k ≡ column
    by true e = eqb-true k column e
    by false e = absurd (true≢false (sym (has-without set column k ∙ rw (h, e) refl) ∙ out))

pub HasColumns-first : (before now : List ℕ) (set column rest : ℕ) → Some column ≡ first set → column < 128 → rest ≡ without set column
    → now ≡ before ++ comma ∷ decimal (column + 1) → length now ≤ length before + 4 → HasColumns before now set rest
HasColumns-first before now set column rest e small left written longer = record {
  text = rw written (append_assoc before (comma ∷ decimal (column + 1)) (columns_tail (columns rest)) ∙ ap (λ t. before ++ comma ∷ t) (columns_text-first set column rest (decimal (column + 1)) e left refl));
  most = omega arith;
  room = λ k h. let over = above set column k e (subst (λ (s : ℕ). has s k ≡ true) left h) in omega arith;
  seen = λ k h out. let same = gone set column k h (subst (λ (s : ℕ). has s k ≡ false) left out) in omega arith;
}

pub HasColumns-more : (before now new : List ℕ) (set rest column next : ℕ) → HasColumns before now set rest → Some column ≡ first rest → column < 128 → next ≡ without rest column
    → new ≡ now ++ space ∷ decimal (column + 1) → length new ≤ length now + 4 → HasColumns before new set next
HasColumns-more before now new set rest column next so_far e small left written longer =
    let here = first-Some rest column e in
    let room = so_far.room column here.had in record {
      text = rw (written, left) (append_assoc now (space ∷ decimal (column + 1)) (columns_tail (columns (without rest column))) ∙ rw here.columns_are at so_far.text);
      most = omega arith;
      room = λ k h. let over = above rest column k e (subst (λ (s : ℕ). has s k ≡ true) left h) in omega arith;
      seen = λ k h out. by k h (subst (λ (s : ℕ). has s k ≡ false) left out) (has rest k) refl;
    }
  where
    by : (k : ℕ) → has set k ≡ true → has (without rest column) k ≡ false → (b : Bool) → has rest k ≡ b → k < 128
    by k h out true in_rest = let same = gone rest column k in_rest out in omega arith
    by k h out false in_rest = so_far.seen k h in_rest

none-left : (set k : ℕ) → None ≡ first set → has set k ≡ false
none-left set k e = by (has set k) refl
  where
    by : (b : Bool) → has set k ≡ b → has set k ≡ false
    by false h = h
    by true h = absurd (subst (Listed k) (first-None set e) (Listed-columns set k h))

pub record Done (before now : List ℕ) (set : ℕ) : Type 0 where
  pub text : now ≡ before ++ comma ∷ columns_text set
  pub bound : length now ≤ length before + 512
  pub below : (k : ℕ) → has set k ≡ true → k < 128

pub HasColumns-none : (before now : List ℕ) (set : ℕ) → None ≡ first set → now ≡ before ++ comma ∷ [] → Done before now set
HasColumns-none before now set e written =
    let size = length-append before (comma ∷ []) in record {
      text = written ∙ ap (λ t. before ++ comma ∷ t) (sym (columns_text-none set e));
      bound = omega (arith, ap length written);
      below = λ k h. absurd (true≢false (sym h ∙ none-left set k e));
    }

pub HasColumns-all : (before now : List ℕ) (set rest : ℕ) → HasColumns before now set rest → None ≡ first rest → Done before now set
HasColumns-all before now set rest so_far e = record {
  text = sym (append-nil now) ∙ rw (first-None rest e) at so_far.text;
  bound = so_far.most;
  below = λ k h. so_far.seen k h (none-left rest k e);
}
