-- What taking off byte order marks leaves.
use Rattle.std.proofs.Common.{◌≡◌, ◌∙◌, ap, refl, sym, ℕ, Bool, true, false, ◌&&◌, ◌==◌, List, [], ◌∷◌, take, drop, cond, nat_eq}
use Rattle.std.proofs.lemmas.Bool.{false≢true}
use Rattle.std.specs.Cmp.Lexicographic.{pointwise}
use Rattle.csv.specs.Reading.{is_bom, strip_bom}
use Rattle.csv_load.specs.Records.{without_marks}

abbrev pub mark : List ℕ
mark = 239 ∷ 187 ∷ 191 ∷ []

starts_with_mark : (a b c : ℕ) (rest : List ℕ) → pointwise nat_eq (take 3 (a ∷ b ∷ c ∷ rest)) mark ≡ is_bom a b c
starts_with_mark a b c rest = by (a == 239) (b == 187) (c == 191)
  where
    by : (x y z : Bool) → x && (y && (z && true)) ≡ (x && y) && z
    by true true true = refl
    by true true false = refl
    by true false z = refl
    by false y z = refl

pub without_marks-marked : (xs : List ℕ) → pointwise nat_eq (take 3 xs) mark ≡ true → without_marks xs ≡ without_marks (drop 3 xs)
unfolding without_marks
without_marks-marked [] e = cc
without_marks-marked (a ∷ []) e = absurd (false≢true (by (a == 239) e))
  where
    by : (x : Bool) → x && false ≡ true → false ≡ true
    by true e = e
    by false e = e
without_marks-marked (a ∷ b ∷ []) e = absurd (false≢true (by (a == 239) (b == 187) e))
  where
    by : (x y : Bool) → x && (y && false) ≡ true → false ≡ true
    by true true e = e
    by true false e = e
    by false y e = e
without_marks-marked (a ∷ b ∷ c ∷ rest) e =
    ap (λ t. cond t (without_marks rest) (a ∷ b ∷ c ∷ rest)) (sym (starts_with_mark a b c rest) ∙ e)

pub without_marks-plain : (xs : List ℕ) → pointwise nat_eq (take 3 xs) mark ≡ false → without_marks xs ≡ xs
unfolding without_marks
without_marks-plain [] e = refl
without_marks-plain (a ∷ []) e = refl
without_marks-plain (a ∷ b ∷ []) e = refl
without_marks-plain (a ∷ b ∷ c ∷ rest) e =
    ap (λ t. cond t (without_marks rest) (a ∷ b ∷ c ∷ rest)) (sym (starts_with_mark a b c rest) ∙ e)

-- no mark is left that `csv` would take off
pub strip_bom-without_marks : (xs : List ℕ) → strip_bom (without_marks xs) ≡ without_marks xs
unfolding without_marks strip_bom
strip_bom-without_marks [] = refl
strip_bom-without_marks (a ∷ []) = refl
strip_bom-without_marks (a ∷ b ∷ []) = refl
strip_bom-without_marks (a ∷ b ∷ c ∷ rest) = by (is_bom a b c) refl (strip_bom-without_marks rest)
  where
    by : (t : Bool) → is_bom a b c ≡ t → strip_bom (without_marks rest) ≡ without_marks rest
        → strip_bom (cond t (without_marks rest) (a ∷ b ∷ c ∷ rest)) ≡ cond t (without_marks rest) (a ∷ b ∷ c ∷ rest)
    by true e again = again
    by false e again = ap (λ t. cond t rest (a ∷ b ∷ c ∷ rest)) e
