-- Places in one list of rows of answers, and how many lists there are.
use Rattle.std.proofs.Common.{◌≡◌, ◌+◌, ◌*◌, ◌<◌, ◌≤◌, ℕ, suc, arith, refl, List, [], ◌∷◌, length}
use Rattle.std.proofs.lemmas.Nat.{mul-add-lt, mul-le}
use Rattle.std.proofs.Math.Nat.{mul_comm, suc-mul}
use Rattle.std.specs.Borrow.{Bor}
use Rattle.rel_base.specs.Cells.{Cell}
use Rattle.inclusion_merge.specs.Sharing.{lists_of}

pub row_before : (c r n d : ℕ) → c < r → d < n → c * n + d < r * n
row_before c r n d l m = let h = mul-add-lt c n d r l m in let e = mul_comm n r in omega arith

pub row_behind : (c r n d : ℕ) → r < c → r * n + n ≤ c * n + d
row_behind c r n d l = let h = mul-le (suc r) n c n (omega arith) (omega arith) in let e = suc-mul r n in omega arith

pub row_within : (c columns n d : ℕ) → c < columns → d < n → c * n + d < columns * n
row_within c columns n d l m = row_before c columns n d l m

pub length-lists_of : (slices : List (Bor (List Cell))) → length (lists_of slices) ≡ length slices
length-lists_of [] = refl
length-lists_of (s ∷ slices) = let e = length-lists_of slices in omega arith
