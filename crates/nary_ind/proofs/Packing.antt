-- Keys as one number.
use Rattle.std.proofs.Common.{inl, inr, ◌≡◌, ℕ, ◌+◌, ◌*◌, ◌<◌, refl, sym, ap, ap₂, ◌∙◌, arith, List, [], ◌∷◌}
use Rattle.nary_ind.specs.Tables.{Coded, key_in, number_in}
use Rattle.nary_ind.specs.Keys.{AreKeyed, code_in, packed}

-- four numbers of 32 bits
record IsFour (ns : List ℕ) : Type 0 where
  pub a : ℕ
  pub b : ℕ
  pub c : ℕ
  pub d : ℕ
  pub is : ns ≡ a ∷ b ∷ c ∷ d ∷ []
  pub first : a < 4294967296
  pub second : b < 4294967296
  pub third : c < 4294967296
  pub fourth : d < 4294967296

module _ (h m k n : ℕ) where
  digit : m < 4294967296 → n < 4294967296 → h * 4294967296 + m ≡ k * 4294967296 + n → (h ≡ k) × (m ≡ n)
  digit l g e = (omega arith, omega arith)

fours-same : (xs ys : List ℕ) → IsFour xs → IsFour ys → packed xs ≡ packed ys → xs ≡ ys
fours-same xs ys x y e =
    let p : packed (x.a ∷ x.b ∷ x.c ∷ x.d ∷ []) ≡ packed (y.a ∷ y.b ∷ y.c ∷ y.d ∷ []) = sym (ap packed x.is) ∙ e ∙ ap packed y.is in
    let u = digit ((x.a * 4294967296 + x.b) * 4294967296 + x.c) x.d ((y.a * 4294967296 + y.b) * 4294967296 + y.c) y.d x.fourth y.fourth p in
    let v = digit (x.a * 4294967296 + x.b) x.c (y.a * 4294967296 + y.b) y.c x.third y.third u.0 in
    let w = digit x.a x.b y.a y.b x.second y.second v.0 in
    x.is ∙ ap₂ (λ (a b : ℕ). a ∷ b ∷ x.c ∷ x.d ∷ []) w.0 w.1 ∙ ap₂ (λ (c d : ℕ). y.a ∷ y.b ∷ c ∷ d ∷ []) v.1 u.1 ∙ sym y.is

module _ (t : Coded) (i : ℕ) (l : i < t.rows) where
  abbrev number : ℕ → ℕ
  number c = number_in t c i

  four-of : (cs : List ℕ) → AreKeyed t cs → IsFour (key_in t cs i)
  four-of [] k = record { a = 0; b = 0; c = 0; d = 0; is = refl; first = omega arith; second = omega arith; third = omega arith; fourth = omega arith }
  four-of (p ∷ []) k = record { a = number p; b = 0; c = 0; d = 0; is = refl; first = (k.numbered p (inl refl)).small i l; second = omega arith; third = omega arith; fourth = omega arith }
  four-of (p ∷ q ∷ []) k =
      record { a = number p; b = number q; c = 0; d = 0; is = refl; first = (k.numbered p (inl refl)).small i l; second = (k.numbered q (inr (inl refl))).small i l; third = omega arith; fourth = omega arith }
  four-of (p ∷ q ∷ r ∷ []) k = record {
    a = number p;
    b = number q;
    c = number r;
    d = 0;
    is = refl;
    first = (k.numbered p (inl refl)).small i l;
    second = (k.numbered q (inr (inl refl))).small i l;
    third = (k.numbered r (inr (inr (inl refl)))).small i l;
    fourth = omega arith;
  }
  four-of (p ∷ q ∷ r ∷ s ∷ []) k = record {
    a = number p;
    b = number q;
    c = number r;
    d = number s;
    is = refl;
    first = (k.numbered p (inl refl)).small i l;
    second = (k.numbered q (inr (inl refl))).small i l;
    third = (k.numbered r (inr (inr (inl refl)))).small i l;
    fourth = (k.numbered s (inr (inr (inr (inl refl))))).small i l;
  }
  four-of (p ∷ q ∷ r ∷ s ∷ u ∷ cs) k = absurd (let h = k.short in omega arith)

-- equal keys are keys of equal numbers
pub codes-keys : (t u : Coded) (cs ds : List ℕ) (i j : ℕ) → AreKeyed t cs → AreKeyed u ds → i < t.rows → j < u.rows → code_in t cs i ≡ code_in u ds j → key_in t cs i ≡ key_in u ds j
codes-keys t u cs ds i j k m l g e = fours-same _ _ (four-of t i l cs k) (four-of u j g ds m) e

-- the key of NULLs alone is 0
pub code-null : (t : Coded) (cs : List ℕ) (i : ℕ) → AreKeyed t cs → i < t.rows → code_in t cs i ≡ 0 → key_in t cs i ≡ 0 ∷ 0 ∷ 0 ∷ 0 ∷ []
code-null t cs i k l e =
    fours-same _ (0 ∷ 0 ∷ 0 ∷ 0 ∷ []) (four-of t i l cs k)
    (record { a = 0; b = 0; c = 0; d = 0; is = refl; first = omega arith; second = omega arith; third = omega arith; fourth = omega arith }) e
