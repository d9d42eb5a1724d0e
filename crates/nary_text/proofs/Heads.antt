-- Lines that name relations, one after another.
use Rattle.std.proofs.Common.{◌≡◌, ℕ, zero, suc, ◌+◌, ◌<◌, ◌≤◌, refl, sym, ap, ap₂, ◌∙◌, arith, List, [], ◌∷◌, ◌++◌, length, get_or, take, append-nil}
use Rattle.std.specs.List.{flat_map, zip}
use Rattle.std.proofs.lemmas.List.{take_all}
use Rattle.std.proofs.lemmas.List.Concat.{flat_map-append}
use Rattle.rel_base.specs.RowState.{RowState}
use Rattle.nary_text.specs.Inclusions.{head_of, heads_text}

zip-more : {X Y : Type 0} (xs : List X) (ys : List Y) (i : ℕ) (d : X) (e : Y) → i < length xs → i < length ys
    → zip (take (i + 1) xs) (take (i + 1) ys) ≡ zip (take i xs) (take i ys) ++ (get_or xs i d, get_or ys i e) ∷ []
zip-more [] ys i d e h g = absurd (omega arith)
zip-more (x ∷ xs) [] i d e h g = absurd (omega arith)
zip-more (x ∷ xs) (y ∷ ys) zero d e h g = refl
zip-more {X} {Y} (x ∷ xs) (y ∷ ys) (suc i) d e h g =
    let s : suc i + 1 ≡ suc (i + 1) = omega arith in
    ap (λ (j : ℕ). zip (take j (x ∷ xs)) (take j (y ∷ ys))) s ∙ ap (λ (ps : List (X × Y)). (x, y) ∷ ps) (zip-more xs ys i d e (omega arith) (omega arith))

-- the lines of the first n relations
abbrev pub first_heads : ℕ → List (List ℕ) → List RowState → List ℕ
first_heads n files states = flat_map head_of (zip (take n files) (take n states))

module _ (files : List (List ℕ)) (states : List RowState) (n : ℕ) where
  pub heads-more : (file : List ℕ) (r : RowState) → n < length files → n < length states → file ≡ get_or files n file → r ≡ get_or states n r
      → first_heads (n + 1) files states ≡ first_heads n files states ++ head_of (file, r)
  heads-more file r h g at is =
      ap (flat_map head_of) (zip-more files states n file r h g) ∙ flat_map-append head_of (zip (take n files) (take n states)) ((get_or files n file, get_or states n r) ∷ [])
      ∙ ap (λ (text : List ℕ). first_heads n files states ++ text) (append-nil (head_of (get_or files n file, get_or states n r)) ∙ ap₂ (λ (f : List ℕ) (s : RowState). head_of (f, s)) (sym at) (sym is))

  pub heads-all : length files ≤ n → length states ≤ n → first_heads n files states ≡ heads_text files states
  unfolding heads_text
  heads-all h g = ap₂ (λ (fs : List (List ℕ)) (ss : List RowState). flat_map head_of (zip fs ss)) (take_all n files h) (take_all n states g)
