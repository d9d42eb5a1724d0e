-- Targets by codes.
use Rattle.std.proofs.Common.{inl, inr, ◌≡◌, ℕ, ◌<◌, ◌≤◌, ◌+◌, ◌-◌, ◌∙◌, false, eqb, refl, ap, arith, Option, Some, None, List, [], ◌∷◌, length, get_or, zero, suc}
use Rattle.std.proofs.lemmas.Bool.{eqb-true, eq-eqb}
use Rattle.col_set.specs.declared.target.Target.TheVariants.{Col, RowId}
use Rattle.col_set.specs.Lists.{Listed}
use Rattle.col_set.specs.Subsets.{same_test}
use Rattle.col_set.specs.Target.{has_target}
use Rattle.col_set.proofs.Places.{Climbs, Listed-get_or}
use Rattle.rel_base.specs.CodeTable.{CodeTable, code_at}
use Rattle.rel_base.specs.Shows.{code_agree}
use Rattle.validator.specs.Lists.{keys_of}
use Rattle.validator.specs.Walk.{key}
use Rattle.stripped_partition.proofs.Agreeing.{code_agree-parts, code_agree-from}

pub target-column : (s : CodeTable) (i j a : ℕ) → a < length s.codes → has_target (code_agree s i j) (Col a) ≡ eqb (code_at s i a) (code_at s j a)
unfolding has_target
target-column s i j a l = same_test _ _ (λ e. eq-eqb _ _ (code_agree-parts s i j a e).1) (λ e. code_agree-from s i j a l (eqb-true _ _ e))

pub target-row : (s : CodeTable) (i j : ℕ) → has_target (code_agree s i j) RowId ≡ false
unfolding has_target
target-row s i j = refl

-- a code that is read from the list of the further column
pub key_listed : (s : CodeTable) (by : Option ℕ) (row : ℕ) → get_or (keys_of s by) (row - 1) 0 ≡ key s by row
key_listed s None row = refl
key_listed s (Some b) row = refl

pub key_read : (s : CodeTable) (by : Option ℕ) (codes : List ℕ) (row code : ℕ) → codes ≡ keys_of s by → code ≡ get_or codes (row - 1) 0 → code ≡ key s by row
key_read s by codes row code is e = e ∙ ap (λ (xs : List ℕ). get_or xs (row - 1) 0) is ∙ key_listed s by row

-- the last of an ascending list is the greatest
at_last : (xs : List ℕ) (x n : ℕ) → Climbs xs → Listed x xs → length xs ≡ suc n → x ≤ get_or xs n 0
at_last [] x n c h l = absurd h
at_last (y ∷ xs) x zero c (inl e) l = let f : x ≡ y = e in omega arith
at_last (y ∷ xs) x (suc n) c (inl e) l = let m = c.0 (get_or xs n 0) (Listed-get_or xs n 0 (omega arith)) in let f : x ≡ y = e in omega arith
at_last (y ∷ []) x zero c (inr h) l = absurd h
at_last (y ∷ z ∷ xs) x zero c (inr h) l = absurd (omega arith)
at_last (y ∷ xs) x (suc n) c (inr h) l = at_last xs x n c.1 h (omega arith)

pub last_greatest : (xs : List ℕ) (x n : ℕ) → Climbs xs → Listed x xs → n + 1 ≡ length xs → x ≤ get_or xs n 0
last_greatest xs x n c h l = at_last xs x n c h (omega arith)
