-- The field at a place of a record.
use Rattle.std.proofs.Common.{◌≡◌, ℕ, zero, suc, ◌<◌, ◌∙◌, refl, sym, ap, arith, List, [], ◌∷◌, length, get_or, Option, Some, None, Bor}
use Rattle.std.specs.Option.{IsSome, option_map}
use Rattle.csv.specs.Records.{field_at}

field-is : (fs : List (List ℕ)) (i : ℕ) → i < length fs → field_at fs i ≡ Some (get_or fs i [])
unfolding field_at
field-is [] i h = absurd (omega arith)
field-is (f ∷ fs) zero h = refl
field-is (f ∷ fs) (suc i) h = field-is fs i (omega arith)

pub field-there : (r : Option (Bor (List ℕ))) (fs : List (List ℕ)) (i : ℕ) → i < length fs → option_map (λ s. s.now) r ≡ field_at fs i → IsSome r
field-there None fs i h e = let f = field-is fs i h in cc
field-there (Some x) fs i h e = refl

pub field-now : (r : Option (Bor (List ℕ))) (x : Bor (List ℕ)) (fs : List (List ℕ)) (i : ℕ) → r ≡ Some x → i < length fs → option_map (λ s. s.now) r ≡ field_at fs i → x.now ≡ get_or fs i []
field-now r x fs i is h e = same (sym (ap (option_map (λ s. s.now)) is) ∙ e ∙ field-is fs i h)
  where
    same : {a b : List ℕ} → Some a ≡ Some b → a ≡ b
    same e = cc
