-- Lists that are written place by place.
use Rattle.std.proofs.Common.{inl, inr, ◌≡◌, ◌⊎◌, ℕ, ◌+◌, ◌*◌, ◌-◌, ◌^◌, ◌%◌, ◌<◌, ◌≤◌, ◌++◌, cond, eqb, refl, sym, ap, ap₂, ◌∙◌, arith, List, length, get_or, set, take, drop, length-append}
use lib.Lanes.{chunk}
use Rattle.std.proofs.lemmas.Bool.{cases_eq, cases_lt}
use Rattle.std.proofs.lemmas.List.{get_or-set_same, get_or-set_other, get_or-take, get_or-drop, get_or_append_left, get_or-append_right}
use Rattle.std.proofs.lemmas.Simd.{length-chunk}
use Rattle.agree_sets.proofs.Masks.{above-fits, shift-exact}

pub written_more : (k x : ℕ) (xs : List ℕ) (f : ℕ → ℕ) → k < length xs → ((i : ℕ) → i < k → get_or xs i 0 ≡ f i) → x ≡ f k → (i : ℕ) → i < k + 1 → get_or (set xs k x) i 0 ≡ f i
written_more k x xs f within before is i l = at (cases_eq i k)
  where
    at : (i ≡ k) ⊎ (i ≡ k → ⊥) → get_or (set xs k x) i 0 ≡ f i
    at (inl e) = ap (λ (n : ℕ). get_or (set xs k x) n 0) e ∙ get_or-set_same xs k x 0 within ∙ is ∙ ap f (sym e)
    at (inr ne) = get_or-set_other xs k i x 0 ne ∙ before i (omega arith)

pub kept_more : (k x : ℕ) (xs old : List ℕ) → ((i : ℕ) → k ≤ i → get_or xs i 0 ≡ get_or old i 0) → (i : ℕ) → k + 1 ≤ i → get_or (set xs k x) i 0 ≡ get_or old i 0
kept_more k x xs old before i l = get_or-set_other xs k i x 0 (λ e. absurd (omega arith)) ∙ before i (omega arith)

-- a word above as many bits as a set has
pub word_fits : (set at more : ℕ) → set < 2 ^ at → more < 2 ^ 32 → at + 32 ≤ 128 → set + more * 2 ^ at % 2 ^ 128 < 2 ^ 128
word_fits set at more a b room =
    let fits = above-fits set at more 32 a b room in
    let exact = shift-exact set at more 32 a b room in
    let other : more * 2 ^ at ≡ 2 ^ at * more = grind arith in
    omega (arith, fits, exact, other)

pub word_exact : (set at more : ℕ) → set < 2 ^ at → more < 2 ^ 32 → at + 32 ≤ 128 → more * 2 ^ at % 2 ^ 128 ≡ 2 ^ at * more
word_exact set at more a b room = shift-exact set at more 32 a b room

-- bits that are added in two parts of a list, for places of two parts of the codes
pub joined : (start at code : ℕ) (word codes first second low high : List ℕ) → first ++ second ≡ chunk start (length word) codes → start + length word ≤ length codes → length low ≡ length first
    → ((k : ℕ) → k < length first → get_or low k 0 ≡ get_or (take (length first) word) k 0 + 2 ^ at * cond (eqb (get_or first k 0) code) 1 0)
    → ((k : ℕ) → k < length second → get_or high k 0 ≡ get_or (drop (length first) word) k 0 + 2 ^ at * cond (eqb (get_or second k 0) code) 1 0)
    → (k : ℕ) → k < length word → get_or (low ++ high) k 0 ≡ get_or word k 0 + 2 ^ at * cond (eqb (get_or codes (start + k) 0) code) 1 0
joined start at code word codes first second low high parts room same f g k l = by (cases_lt k (length first))
  where
    there : get_or (first ++ second) k 0 ≡ get_or codes (start + k) 0
    there = ap (λ (zs : List ℕ). get_or zs k 0) parts ∙ get_or-take (length word) (drop start codes) k 0 l ∙ get_or-drop start codes k 0

    long : length first + length second ≡ length word
    long = sym (length-append first second) ∙ ap length parts ∙ length-chunk start (length word) codes room

    sum : (x y : ℕ) → x ≡ get_or word k 0 → y ≡ get_or codes (start + k) 0 → x + 2 ^ at * cond (eqb y code) 1 0 ≡ get_or word k 0 + 2 ^ at * cond (eqb (get_or codes (start + k) 0) code) 1 0
    sum x y e h = ap₂ (λ (a b : ℕ). a + 2 ^ at * cond (eqb b code) 1 0) e h

    by : (k < length first) ⊎ (length first ≤ k) → get_or (low ++ high) k 0 ≡ get_or word k 0 + 2 ^ at * cond (eqb (get_or codes (start + k) 0) code) 1 0
    by (inl near) =
        let within : k < length low = omega arith in
        get_or_append_left low high 0 k within ∙ f k near
        ∙ sum (get_or (take (length first) word) k 0) (get_or first k 0) (get_or-take (length first) word k 0 near) (sym (get_or_append_left first second 0 k near) ∙ there)
    by (inr far) =
        let within : k - length first < length second = (let e = long in omega arith) in
        let place : length first + (k - length first) ≡ k = omega arith in
        get_or-append_right low high (length first) k 0 same far ∙ g (k - length first) within
        ∙ sum (get_or (drop (length first) word) (k - length first) 0) (get_or second (k - length first) 0)
        (get_or-drop (length first) word (k - length first) 0 ∙ ap (λ (i : ℕ). get_or word i 0) place)
        (sym (get_or-append_right first second (length first) k 0 refl far) ∙ there)
