-- Witnesses: two rows each, and the set of columns on which they agree.
use Rattle.std.specs.Prelude.{◌≡◌, ℕ, ◌==◌, Bool, true, false, not, ◌||◌, List, map}
use Rattle.std.specs.List.{Contains, filter, list_any}
use Rattle.col_set.specs.declared.target.Target.{Target}
use Rattle.col_set.specs.ColSet.{Columns, subset}
use Rattle.col_set.specs.Target.{has_target}
use Rattle.negative_cover.specs.declared.negative_cover.Witness.{Witness}

-- the agree sets of the witnesses, in order
abbrev pub sets_of : List Witness → List Columns
sets_of ws = map (λ w. w.agree) ws

-- whether the row is one of these
abbrev pub is_among : List ℕ → ℕ → Bool
is_among rows row = list_any (λ d. d == row) rows

-- whether one of its two rows is dead
abbrev pub has_dead : List ℕ → Witness → Bool
has_dead dead w = is_among dead w.i || is_among dead w.j

-- the witnesses of two live rows, and the others, in order
abbrev pub live_of : List ℕ → List Witness → List Witness
live_of dead ws = filter (λ w. not (has_dead dead w)) ws

abbrev pub dead_of : List ℕ → List Witness → List Witness
dead_of dead ws = filter (λ w. has_dead dead w) ws

-- The two rows are those of a witness of the list which agree on x and not on t.
pub record IsRefutation (ws : List Witness) (t : Target) (x : Columns) (i j : ℕ) : Type 0 where
  pub witness : Witness
  pub listed : Contains ws witness
  pub first : witness.i ≡ i
  pub second : witness.j ≡ j
  pub inside : subset x witness.agree ≡ true
  pub lacks : has_target witness.agree t ≡ false
