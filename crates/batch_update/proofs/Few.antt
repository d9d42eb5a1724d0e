-- A text has at most as many records as bytes.
use Rattle.std.proofs.Common.{◌≡◌, ◌≤◌, ◌+◌, refl, arith, ℕ, zero, suc, Bool, true, false, cond, List, [], ◌∷◌, length, Option, Some, None}
use Rattle.csv.specs.Machine.{Read, ends_at_end, next_record}
use Rattle.csv.specs.Reading.{default_config, is_bom, records_from, records_next}
use Rattle.csv.specs.declared.parser.State.{State}
use Rattle.csv.specs.declared.parser.State.TheVariants as st
use Rattle.csv_load.specs.Records.{records_of, without_marks}
use Rattle.csv_load.proofs.Steps.{read_is, read_takes}

few_from : (n : ℕ) (s : State) (xs : List ℕ) → ends_at_end s ≡ false → length (records_from default_config n s xs) ≤ length xs
unfolding records_from
few_from zero s xs between = omega arith
few_from (suc n) s xs between = by (next_record default_config s [] [] xs) refl (few_from n)
  where
    by : (o : Option Read) → next_record default_config s [] [] xs ≡ o
        → ((t : State) (ys : List ℕ) → ends_at_end t ≡ false → length (records_from default_config n t ys) ≤ length ys)
        → length (records_next (records_from default_config n) o) ≤ length xs
    by None e more = omega arith
    by (Some p) e more =
        let taken = read_takes default_config s [] [] xs p between e in
        let read = read_is default_config s [] [] xs p e in
        omega (arith, taken, more p.1 p.2 read.between)

marks_take : (bytes : List ℕ) → length (without_marks bytes) ≤ length bytes
unfolding without_marks
marks_take [] = omega arith
marks_take (a ∷ []) = omega arith
marks_take (a ∷ b ∷ []) = omega arith
marks_take (a ∷ b ∷ c ∷ rest) = by (is_bom a b c) (marks_take rest)
  where
    by : (t : Bool) → length (without_marks rest) ≤ length rest → length (cond t (without_marks rest) (a ∷ b ∷ c ∷ rest)) ≤ length (a ∷ b ∷ c ∷ rest)
    by true e = omega (arith, e)
    by false e = omega arith

pub few_records : (bytes : List ℕ) → length (records_of bytes) ≤ length bytes
unfolding records_of
few_records bytes =
    let few = few_from (length (without_marks bytes) + 1) st.StartRecord (without_marks bytes) refl in
    let marks = marks_take bytes in
    omega (arith, few, marks)
