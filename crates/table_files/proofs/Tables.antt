-- Numbered tables and their keys.
use Rattle.std.proofs.Common.{◌≡◌, ◌==◌, ◌+◌, ◌<◌, ◌^◌, ℕ, suc, not, refl, sym, ap, ap₂, arith, List, [], ◌∷◌, ◌++◌, map}
use Rattle.std.specs.List.{All, enumerate_from, filter, flat_map}
use Rattle.col_set.specs.ColSet.{Columns}
use Rattle.rel_base.specs.declared.dependency.Table.{Table}
use Rattle.rel_base.specs.declared.nulls.Nulls.TheVariants.{Equal}
use Rattle.rel_base.specs.Covers.{covers, least_covers}
use Rattle.rel_base.specs.RowState.{IsRowState, RowState, width}
use Rattle.key_finder.proofs.Tells.{Evidence-tells}
use Rattle.key_finder.specs.Keys.{keys_within}
use Rattle.lossless_join.specs.Parts.{projection_keys}
use Rattle.table_files.specs.Keys.{all_keys, all_keys_within, alternates, alternates_within}

-- one list for each element
pub flat-one : {X : Type 0} (xs : List X) → flat_map (λ x. x ∷ []) xs ≡ xs
flat-one [] = refl
flat-one (x ∷ xs) = ap (λ ys. x ∷ ys) (flat-one xs)

-- what is made of each table's keys by agree sets that leave the covers is what is made of the keys
module _ (f : ℕ × Table → List Columns → List (ℕ × Columns)) (r : RowState) (ws : List Columns) (state : IsRowState r) (equal : r.nulls ≡ Equal) (leave : covers r ≡ least_covers (width r) ws) where
  same_from : (k : ℕ) (ts : List Table) → All (λ t. t.columns < 2 ^ width r) ts
      → flat_map (λ numbered. f numbered (keys_within (width r) ws numbered.1.columns)) (enumerate_from k ts) ≡ flat_map (λ numbered. f numbered (projection_keys r numbered.1.columns)) (enumerate_from k ts)
  same_from k [] below = refl
  same_from k (t ∷ ts) below =
      ap₂ (λ (xs ys : List (ℕ × Columns)). xs ++ ys)
      (ap (f (k, t)) (sym (Evidence-tells r ws t.columns state equal (below 0 t (omega arith)) leave)))
      (same_from (k + 1) ts (λ i d h. below (suc i) d (omega arith)))

pub all_same : (r : RowState) (ws : List Columns) (ts : List Table) → IsRowState r → r.nulls ≡ Equal → covers r ≡ least_covers (width r) ws → All (λ t. t.columns < 2 ^ width r) ts
    → all_keys_within (width r) ws ts ≡ all_keys r ts
all_same r ws ts state equal leave below = same_from (λ numbered keys. map (λ key. (numbered.0, key)) keys) r ws state equal leave 1 ts below

pub others_same : (r : RowState) (ws : List Columns) (ts : List Table) → IsRowState r → r.nulls ≡ Equal → covers r ≡ least_covers (width r) ws → All (λ t. t.columns < 2 ^ width r) ts
    → alternates_within (width r) ws ts ≡ alternates r ts
others_same r ws ts state equal leave below = same_from (λ numbered keys. map (λ key. (numbered.0, key)) (filter (λ key. not (key == numbered.1.key)) keys)) r ws state equal leave 1 ts below
