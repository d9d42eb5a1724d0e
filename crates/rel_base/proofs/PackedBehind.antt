-- Cells that stand packed, and those of another list behind them.
use Rattle.std.proofs.Common.{inl, inr, ◌≡◌, ◌⊎◌, ℕ, zero, suc, ◌+◌, ◌-◌, ◌^◌, ◌<◌, ◌≤◌, sym, ap, ap₂, ◌∙◌, arith, List, [], ◌∷◌, ◌++◌, length, map, take, drop, get_or}
use Rattle.std.proofs.Math.Seq.{drop-append_seam}
use Rattle.std.proofs.lemmas.Bool.{cases_lt}
use Rattle.std.proofs.lemmas.List.{length-append, length-map, drop-drop, ext_get_or, get_or-map, get_or_append_left, get_or-append-add}
use Rattle.rel_base.specs.Packed.{start_at, end_at, packed_cell, packed_cells, ArePacked}
use Rattle.rel_base.proofs.Packed.{inside, length-packed, packed-at}

-- the places where cells end, behind so many bytes
abbrev pub moved : ℕ → List ℕ → List ℕ
moved n ends = map (λ end. n + end) ends

module _ (bytes ends more later : List ℕ) (h : ArePacked bytes ends) (g : ArePacked more later) where
  abbrev all : List ℕ
  all = ends ++ moved (length bytes) later

  count : length all ≡ length ends + length later
  count = length-append ends (moved (length bytes) later) ∙ ap (λ (n : ℕ). length ends + n) (length-map later (λ end. length bytes + end))

  end-first : (k : ℕ) → k < length ends → end_at all k ≡ end_at ends k
  end-first k l = get_or_append_left ends (moved (length bytes) later) 0 k l

  start-first : (k : ℕ) → k ≤ length ends → start_at all k ≡ start_at ends k
  start-first k l = get_or_append_left (0 ∷ ends) (moved (length bytes) later) 0 k (omega arith)

  end-behind : (k : ℕ) → k < length later → end_at all (length ends + k) ≡ length bytes + end_at later k
  end-behind k l = get_or-append-add ends (moved (length bytes) later) k 0 ∙ get_or-map (λ end. length bytes + end) later k 0 0 l

  start-behind : (k : ℕ) → k ≤ length later → start_at all (length ends + k) ≡ length bytes + start_at later k
  start-behind zero l =
      let first = start-first (length ends) (omega arith) in
      let last = h.last in
      let e : length ends + 0 ≡ length ends = omega arith in
      ap (start_at all) e ∙ first ∙ last ∙ (let z : length bytes ≡ length bytes + 0 = omega arith in z)
  start-behind (suc k) l =
      let e : length ends + suc k ≡ suc (length ends + k) = omega arith in
      ap (start_at all) e ∙ end-behind k (omega arith)

  -- what is read behind the bytes
  bytes-behind : (a b : ℕ) → take ((length bytes + b) - (length bytes + a)) (drop (length bytes + a) (bytes ++ more)) ≡ take (b - a) (drop a more)
  bytes-behind a b =
      ap₂ (λ (n : ℕ) (xs : List ℕ). take n xs) (omega arith) (sym (drop-drop a (length bytes) (bytes ++ more)) ∙ ap (drop a) (drop-append_seam bytes more))

  cell-first : (k : ℕ) → k < length ends → packed_cell (bytes ++ more) all k ≡ packed_cell bytes ends k
  unfolding packed_cell
  cell-first k l =
      ap₂ (λ (a b : ℕ). take (b - a) (drop a (bytes ++ more))) (start-first k (omega arith)) (end-first k l)
      ∙ inside bytes more (start_at ends k) (end_at ends k) (h.ascending k l) (h.within k l)

  cell-behind : (k : ℕ) → k < length later → packed_cell (bytes ++ more) all (length ends + k) ≡ packed_cell more later k
  unfolding packed_cell
  cell-behind k l =
      ap₂ (λ (a b : ℕ). take (b - a) (drop a (bytes ++ more))) (start-behind k (omega arith)) (end-behind k l)
      ∙ bytes-behind (start_at later k) (end_at later k)

  cell-at : (k : ℕ) → k < length ends + length later → (k < length ends) ⊎ (length ends ≤ k)
      → packed_cell (bytes ++ more) all k ≡ get_or (packed_cells bytes ends ++ packed_cells more later) k []
  cell-at k m (inl l) =
      let n = length-packed bytes ends in
      cell-first k l ∙ sym (packed-at bytes ends k [] l) ∙ sym (get_or_append_left (packed_cells bytes ends) (packed_cells more later) [] k (omega arith))
  cell-at k m (inr l) =
      let n = length-packed bytes ends in
      let j : ℕ = k - length ends in
      let e : k ≡ length ends + j = omega arith in
      let i : length ends + j ≡ length (packed_cells bytes ends) + j = omega arith in
      let b : j < length later = omega arith in
      ap (packed_cell (bytes ++ more) all) e ∙ cell-behind j b ∙ sym (packed-at more later j [] b)
      ∙ sym (get_or-append-add (packed_cells bytes ends) (packed_cells more later) j [])
      ∙ ap (λ (p : ℕ). get_or (packed_cells bytes ends ++ packed_cells more later) p []) (sym (e ∙ i))

  pub packed-both : packed_cells (bytes ++ more) all ≡ packed_cells bytes ends ++ packed_cells more later
  packed-both =
      let n = length-packed (bytes ++ more) all in
      let p = length-packed bytes ends in
      let q = length-packed more later in
      let r = length-append (packed_cells bytes ends) (packed_cells more later) in
      let s = count in
      ext_get_or [] (packed_cells (bytes ++ more) all) (packed_cells bytes ends ++ packed_cells more later) (omega arith)
      (λ k l. packed-at (bytes ++ more) all k [] (omega arith) ∙ cell-at k (omega arith) (cases_lt k (length ends)))

  pub ArePacked-both : length bytes + length more < 2 ^ 32 → ArePacked (bytes ++ more) all
  ArePacked-both few =
      let long = length-append bytes more in record {
        ascending = λ k l. let s = count in rises k (omega arith) (cases_lt k (length ends));
        within = λ k l. let s = count in fits k (omega arith) (cases_lt k (length ends));
        last = ap (start_at all) count ∙ start-behind (length later) (omega arith) ∙ ap (λ (n : ℕ). length bytes + n) g.last ∙ sym long;
        few = omega arith;
      }
    where
      rises : (k : ℕ) → k < length ends + length later → (k < length ends) ⊎ (length ends ≤ k) → start_at all k ≤ end_at all k
      rises k m (inl l) = let a = start-first k (omega arith) in let b = end-first k l in let c = h.ascending k l in omega arith
      rises k m (inr l) =
          let j : ℕ = k - length ends in
          let e : length ends + j ≡ k = omega arith in
          let a = start-behind j (omega arith) in
          let b = end-behind j (omega arith) in
          let c = g.ascending j (omega arith) in
          rw (← e) (omega (arith, a, b, c))

      fits : (k : ℕ) → k < length ends + length later → (k < length ends) ⊎ (length ends ≤ k) → end_at all k ≤ length (bytes ++ more)
      fits k m (inl l) = let b = end-first k l in let c = h.within k l in let long = length-append bytes more in omega arith
      fits k m (inr l) =
          let j : ℕ = k - length ends in
          let e : length ends + j ≡ k = omega arith in
          let b = end-behind j (omega arith) in
          let c = g.within j (omega arith) in
          let long = length-append bytes more in
          rw (← e) (omega (arith, b, c, long))
