-- Cells of no more bytes than the prefix has are equal where prefix and length are.
use Rattle.std.proofs.Common.{◌≡◌, ◌∙◌, ◌+◌, ◌-◌, ◌*◌, ◌^◌, ◌<◌, ◌≤◌, ℕ, zero, suc, arith, refl, sym, ap, ap₂, subst, List, [], ◌∷◌, fold, length, get_or, take}
use Rattle.std.proofs.lemmas.Nat.{pow-add}
use Rattle.std.proofs.Math.Pow.{pow_mono}
use Rattle.std.specs.Ordering.{nat_cmp}
use Rattle.std.specs.declared.cmp.Ordering.TheVariants.{Equal}
use Rattle.std.proofs.lemmas.Cmp.{ranked, tied_itself}
use Rattle.rel_base.specs.Cells.{Cell}
use Rattle.inclusion_merge.specs.Values.{IsPrefixed, value_cmp, with_byte}
use Rattle.inclusion_merge.specs.Order.{value_total}

-- below this a number has room for so many more bytes
abbrev room : ℕ → ℕ
room bytes = 2 ^ (128 - 8 * bytes)

room_less : (n : ℕ) → n + 1 ≤ 16 → room n ≡ room (n + 1) * 256
room_less n h =
    let e : 128 - 8 * n ≡ 128 - 8 * (n + 1) + 8 = omega arith in
    ap (λ (k : ℕ). 2 ^ k) e ∙ pow-add 2 (128 - 8 * (n + 1)) 8

with_byte-fits : (p b n : ℕ) → n + 1 ≤ 16 → p < room (n + 1) → b < 256 → (with_byte p b ≡ p * 256 + b) × (p * 256 + b < room n)
with_byte-fits p b n h small byte =
    let e = room_less n h in
    let below : p * 256 + b < room n = omega arith in
    let most : room n ≤ 2 ^ 128 = pow_mono (let k : 128 - 8 * n ≤ 128 = omega arith in k) in
    (with_byte-is p b (omega arith), below)
  where
    with_byte-is : (p b : ℕ) → p * 256 + b < 2 ^ 128 → with_byte p b ≡ p * 256 + b
    with_byte-is p b h = omega arith

same_bytes : (n : ℕ) (xs ys : List ℕ) (p q : ℕ) → n ≤ 16 → length xs ≡ n → length ys ≡ n → p < room n → q < room n → ((k : ℕ) → get_or xs k 0 < 256) → ((k : ℕ) → get_or ys k 0 < 256)
    → fold with_byte p xs ≡ fold with_byte q ys → (p ≡ q) × (xs ≡ ys)
same_bytes n [] [] p q h l m small small' bytes bytes' e = (e, refl)
same_bytes n [] (y ∷ ys) p q h l m small small' bytes bytes' e = absurd (omega arith)
same_bytes n (x ∷ xs) [] p q h l m small small' bytes bytes' e = absurd (omega arith)
same_bytes zero (x ∷ xs) (y ∷ ys) p q h l m small small' bytes bytes' e = absurd (omega arith)
same_bytes (suc n) (x ∷ xs) (y ∷ ys) p q h l m small small' bytes bytes' e =
    let s : suc n ≡ n + 1 = omega arith in
    let first : x < 256 = bytes 0 in
    let first' : y < 256 = bytes' 0 in
    let f = with_byte-fits p x n (omega arith) (rw s at small) first in
    let f' = with_byte-fits q y n (omega arith) (rw s at small') first' in
    let is = f.0 in
    let is' = f'.0 in
    let below = f.1 in
    let below' = f'.1 in
    let rest = same_bytes n xs ys (with_byte p x) (with_byte q y) (omega arith) (omega arith) (omega arith) (omega arith) (omega arith) (λ k. bytes (suc k)) (λ k. bytes' (suc k)) e in
    let same : p * 256 + x ≡ q * 256 + y = sym is ∙ rest.0 ∙ is' in
    let start : p ≡ q = omega arith in
    let byte : x ≡ y = omega arith in
    (start, ap₂ (λ (z : ℕ) (zs : List ℕ). z ∷ zs) byte rest.1)

take_whole : (n : ℕ) (xs : List ℕ) → length xs ≤ n → take n xs ≡ xs
take_whole zero [] h = refl
take_whole zero (x ∷ xs) h = absurd (omega arith)
take_whole (suc n) [] h = refl
take_whole (suc n) (x ∷ xs) h = ap (λ (ys : List ℕ). x ∷ ys) (take_whole n xs (omega arith))

pub same_short : (x y : Cell) (p q : ℕ) → IsPrefixed p x → IsPrefixed q y → p ≡ q → length x ≡ length y → length x ≤ 16 → x ≡ y
same_short x y p q h g same long short =
    let most : room 16 ≤ room (length x) = pow_mono (let k : 128 - 8 * 16 ≤ 128 - 8 * length x = omega arith in k) in
    let some : 0 < room (length x) = omega arith in
    let e : fold with_byte 0 x ≡ fold with_byte 0 y =
    sym (ap (λ (xs : List ℕ). fold with_byte 0 xs) (take_whole 16 x short)) ∙ sym h.prefix_is ∙ same ∙ g.prefix_is
    ∙ ap (λ (xs : List ℕ). fold with_byte 0 xs) (take_whole 16 y (omega arith)) in
    (same_bytes (length x) x y 0 0 short refl (sym long) some some h.bytes g.bytes e).1

pub same_number : (a b : ℕ) → nat_cmp a b ≡ Equal → a ≡ b
same_number a b e = ranked a b Equal (sym e)

-- what is equal is seen as equal
pub value_cmp-short : (x y : Cell) (p q : ℕ) (xs ys : Cell) → xs ≡ x → ys ≡ y → IsPrefixed p xs → IsPrefixed q ys → p ≡ q → length xs ≡ length ys → length xs ≤ 16 → Equal ≡ value_cmp x y
value_cmp-short x y p q xs ys is is' h g same long short =
    let e : x ≡ y = sym is ∙ same_short xs ys p q h g same long short ∙ is' in
    subst (λ (z : Cell). Equal ≡ value_cmp x z) e (sym (tied_itself value_total x))
