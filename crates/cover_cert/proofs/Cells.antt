-- The field of a record at a place, empty where there is none.
use Rattle.std.proofs.Common.{◌≡◌, ℕ, zero, suc, ◌∙◌, refl, sym, ap, List, [], ◌∷◌, get_or, Option, Some, None, Bor}
use Rattle.std.specs.Option.{option_map}
use Rattle.std.proofs.lemmas.Option.{none-some}
use Rattle.csv.specs.Records.{field_at}

field_at-some : (fs : List (List ℕ)) (i : ℕ) (f : List ℕ) → Some f ≡ field_at fs i → f ≡ get_or fs i []
unfolding field_at
field_at-some [] i f e = absurd (none-some f (sym e))
field_at-some (g ∷ fs) zero f e = cc
field_at-some (g ∷ fs) (suc i) f e = field_at-some fs i f e

field_at-none : (fs : List (List ℕ)) (i : ℕ) → None ≡ field_at fs i → [] ≡ get_or fs i []
unfolding field_at
field_at-none [] i e = refl
field_at-none (g ∷ fs) zero e = absurd (none-some g e)
field_at-none (g ∷ fs) (suc i) e = field_at-none fs i e

pub cell-some : (r : Option (Bor (List ℕ))) (x : Bor (List ℕ)) (fs : List (List ℕ)) (i : ℕ) → r ≡ Some x → option_map (λ s. s.now) r ≡ field_at fs i → x.now ≡ get_or fs i []
cell-some r x fs i is e = field_at-some fs i x.now (sym (ap (option_map (λ s. s.now)) is) ∙ e)

pub cell-none : (r : Option (Bor (List ℕ))) (fs : List (List ℕ)) (i : ℕ) → r ≡ None → option_map (λ s. s.now) r ≡ field_at fs i → [] ≡ get_or fs i []
cell-none r fs i is e = field_at-none fs i (sym (ap (option_map (λ s. s.now)) is) ∙ e)
