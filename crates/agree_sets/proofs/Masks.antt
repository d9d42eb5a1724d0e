-- Agreements, part after part.
use Rattle.std.proofs.Common.{◌≡◌, ◌+◌, ◌*◌, ◌^◌, ◌≤◌, ◌<◌, ℕ, zero, suc, List, [], ◌∷◌, ◌++◌, Bool, true, false, cond, length, take, eqb, ap, ◌∙◌, sym, subst, refl, arith, ◌%◌}
use native.Mathlib.Nat.{two-pow-succ, mul_assoc, mul_comm, pow-zero, mod-eq_of_lt}
use lib.Arith.{digits_lt}
use lib.Pow.{pow-add, pow_mono}
use lib.Lanes.{zip2, mask_l, chunk}
use lib.Seq.{take-add}
use lib.ListN.{get_or}
use mir.Val.{bool_byte}
use Rattle.std.proofs.lemmas.Simd.{mask_l-lt, length-zip2}
use Rattle.std.proofs.lemmas.List.{length-take-le}
use Rattle.agree_sets.specs.Agreement.{agreement_bits}

-- more bits go above those that are there
pub mask_l-append : (ms ns : List Bool) → mask_l (ms ++ ns) ≡ mask_l ms + 2 ^ length ms * mask_l ns
mask_l-append [] ns = omega (arith, pow-zero 2)
mask_l-append (m ∷ ms) ns = grind (arith, mask_l-append ms ns, two-pow-succ (length ms), mul_assoc 2 (2 ^ length ms) (mask_l ns))

pub zip2-append : (xs us ys vs : List ℕ) → length xs ≡ length ys → zip2 eqb (xs ++ us) (ys ++ vs) ≡ zip2 eqb xs ys ++ zip2 eqb us vs
zip2-append [] us [] vs e = refl
zip2-append [] us (y ∷ ys) vs e = absurd (omega arith)
zip2-append (x ∷ xs) us [] vs e = absurd (omega arith)
zip2-append (x ∷ xs) us (y ∷ ys) vs e = ap (λ l. eqb x y ∷ l) (zip2-append xs us ys vs (omega arith))

-- the agreement_bits of the first n + m places
pub agreement_bits-add : (n m : ℕ) (xs ys : List ℕ) → n ≤ length xs → n ≤ length ys
    → agreement_bits (take (n + m) xs) (take (n + m) ys) ≡ agreement_bits (take n xs) (take n ys) + 2 ^ n * agreement_bits (chunk n m xs) (chunk n m ys)
agreement_bits-add n m xs ys a b =
    let long = length-take-le n xs a in
    let long2 = length-take-le n ys b in
    (λ i. mask_l (zip2 eqb (take-add n m xs i) (take-add n m ys i)))
    ∙ ap mask_l (zip2-append (take n xs) (chunk n m xs) (take n ys) (chunk n m ys) (long ∙ sym long2))
    ∙ mask_l-append (zip2 eqb (take n xs) (take n ys)) (zip2 eqb (chunk n m xs) (chunk n m ys))
    ∙ ap (λ k. mask_l (zip2 eqb (take n xs) (take n ys)) + 2 ^ k * mask_l (zip2 eqb (chunk n m xs) (chunk n m ys))) (length-zip2 eqb (take n xs) (take n ys) (long ∙ sym long2) ∙ long)

pub agreement_bits-lt : (n : ℕ) (xs ys : List ℕ) → length xs ≡ n → length ys ≡ n → agreement_bits xs ys < 2 ^ n
agreement_bits-lt n xs ys a b =
    let e = length-zip2 eqb xs ys (a ∙ sym b) ∙ a in
    subst (λ k. agreement_bits xs ys < 2 ^ k) e (mask_l-lt (zip2 eqb xs ys))

-- bits above others fit in as many as hold both
above-fit : (most set at more width : ℕ) → set < 2 ^ at → more < 2 ^ width → at + width ≤ most → more * 2 ^ at + set < 2 ^ most
above-fit most set at more width a b room =
    let small : more * 2 ^ at + set < 2 ^ width * 2 ^ at = digits_lt b a in
    let e : 2 ^ (width + at) ≡ 2 ^ width * 2 ^ at = pow-add 2 width at in
    let mono : 2 ^ (width + at) ≤ 2 ^ most = pow_mono {i = width + at} {j = most} (omega arith) in
    omega (arith, small, e, mono)

pub above-fits : (set at more width : ℕ) → set < 2 ^ at → more < 2 ^ width → at + width ≤ 128 → more * 2 ^ at + set < 2 ^ 128
above-fits = above-fit 128

pub above-fits_word : (set at more width : ℕ) → set < 2 ^ at → more < 2 ^ width → at + width ≤ 64 → more * 2 ^ at + set < 2 ^ 64
above-fits_word = above-fit 64

-- a shift of such bits loses none
pub shift-exact : (set at more width : ℕ) → set < 2 ^ at → more < 2 ^ width → at + width ≤ 128 → more * 2 ^ at % 2 ^ 128 ≡ 2 ^ at * more
shift-exact set at more width a b room =
    let fits = above-fits set at more width a b room in
    mod-eq_of_lt (omega (arith, fits)) ∙ mul_comm more (2 ^ at)

pub shift-exact_word : (set at more width : ℕ) → set < 2 ^ at → more < 2 ^ width → at + width ≤ 64 → more * 2 ^ at % 2 ^ 64 ≡ 2 ^ at * more
shift-exact_word set at more width a b room =
    let fits = above-fits_word set at more width a b room in
    mod-eq_of_lt (omega (arith, fits)) ∙ mul_comm more (2 ^ at)

-- a set that is the agreement_bits of the first n places
pub set-lt : (n s : ℕ) (xs ys : List ℕ) → s ≡ agreement_bits (take n xs) (take n ys) → n ≤ length xs → n ≤ length ys → s < 2 ^ n
set-lt n s xs ys e a b =
    subst (λ k. k < 2 ^ n) (sym e) (agreement_bits-lt n (take n xs) (take n ys) (length-take-le n xs a) (length-take-le n ys b))

-- the agreement_bits of m places more
pub set-more : (n m k s more t : ℕ) (xs ys : List ℕ) → s ≡ agreement_bits (take n xs) (take n ys) → more ≡ agreement_bits (chunk n m xs) (chunk n m ys) → t ≡ s + 2 ^ n * more → k ≡ n + m
    → n ≤ length xs → n ≤ length ys → t ≡ agreement_bits (take k xs) (take k ys)
set-more n m k s more t xs ys e f g h a b =
    g ∙ (λ i. e i + 2 ^ n * f i) ∙ sym (agreement_bits-add n m xs ys a b) ∙ ap (λ j. agreement_bits (take j xs) (take j ys)) (sym h)

bit : (e : Bool) → bool_byte e ≡ cond e 1 0 + 2 * 0
bit true = omega arith
bit false = omega arith

-- one place more
pub agreement_bits-one : (k : ℕ) (xs ys : List ℕ) → k < length xs → k < length ys → bool_byte (eqb (get_or xs k 0) (get_or ys k 0)) ≡ agreement_bits (chunk k 1 xs) (chunk k 1 ys)
agreement_bits-one k [] ys a b = absurd (omega arith)
agreement_bits-one k (x ∷ xs) [] a b = absurd (omega arith)
agreement_bits-one zero (x ∷ xs) (y ∷ ys) a b = bit (eqb x y)
agreement_bits-one (suc k) (x ∷ xs) (y ∷ ys) a b = agreement_bits-one k xs ys (omega arith) (omega arith)
