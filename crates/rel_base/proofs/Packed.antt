-- Cells that stand packed, and one more of them.
use Rattle.std.proofs.Common.{inl, inr, ◌≡◌, ◌⊎◌, ℕ, zero, suc, subst, ◌+◌, ◌-◌, ◌^◌, ◌<◌, ◌≤◌, refl, sym, ap, ap₂, ◌∙◌, arith, List, [], ◌∷◌, ◌++◌, length, take, drop, get_or}
use Rattle.std.proofs.Math.Seq.{drop-append_seam}
use Rattle.std.proofs.lemmas.Bool.{cases_lt}
use Rattle.std.proofs.lemmas.List.{length-append, length-drop, take-append-le, drop-append-le, take_all, ext_get_or, length_push, length-take-le, take-take, drop-take, get_or-take, get_or_append_left, get_or_push}
use Rattle.std.proofs.lemmas.List.FromFn.{length-map-range_with_len, get_or-map-range_with_len}
use Rattle.rel_base.specs.Cells.{Cell}
use Rattle.rel_base.specs.Packed.{start_at, end_at, packed_cell, packed_cells, ArePacked}

-- ---- the cells by their places
pub length-packed : (bytes ends : List ℕ) → length (packed_cells bytes ends) ≡ length ends
unfolding packed_cells
length-packed bytes ends = length-map-range_with_len (packed_cell bytes ends) 0 (length ends)

pub packed-at : (bytes ends : List ℕ) (k : ℕ) (d : Cell) → k < length ends → get_or (packed_cells bytes ends) k d ≡ packed_cell bytes ends k
unfolding packed_cells
packed-at bytes ends k d l = get_or-map-range_with_len (packed_cell bytes ends) 0 (length ends) k k d l (omega arith)

-- ---- no cells
pub packed-none : packed_cells [] [] ≡ []
unfolding packed_cells
packed-none = refl

pub ArePacked-none : ArePacked [] []
ArePacked-none = record {
  ascending = λ k l. absurd (omega arith);
  within = λ k l. absurd (omega arith);
  last = refl;
  few = omega arith;
}

-- ---- one cell more
-- what stands within the first of two lists
pub inside : (bytes more : List ℕ) (a b : ℕ) → a ≤ b → b ≤ length bytes → take (b - a) (drop a (bytes ++ more)) ≡ take (b - a) (drop a bytes)
inside bytes more a b l m =
    ap (take (b - a)) (drop-append-le a bytes more (omega arith))
    ∙ take-append-le (b - a) (drop a bytes) more (let d = length-drop a bytes in omega arith)

-- the second of two lists
behind : (bytes more : List ℕ) (a b : ℕ) → a ≡ length bytes → b ≡ length bytes + length more → take (b - a) (drop a (bytes ++ more)) ≡ more
behind bytes more a b l m =
    ap (λ (k : ℕ). take (b - a) (drop k (bytes ++ more))) l
    ∙ ap (take (b - a)) (drop-append_seam bytes more)
    ∙ take_all (b - a) more (omega arith)

module _ (bytes ends cell : List ℕ) (end : ℕ) (h : ArePacked bytes ends) (is : end ≡ length bytes + length cell) where
  start-same : (k : ℕ) → k ≤ length ends → start_at (ends ++ end ∷ []) k ≡ start_at ends k
  start-same k l = get_or_append_left (0 ∷ ends) (end ∷ []) 0 k (omega arith)

  end-same : (k : ℕ) → k < length ends → end_at (ends ++ end ∷ []) k ≡ end_at ends k
  end-same k l = get_or_append_left ends (end ∷ []) 0 k l

  end-last : (k : ℕ) → length ends ≡ k → end_at (ends ++ end ∷ []) k ≡ end
  end-last k e = get_or_push ends end 0 k e

  start-last : (k : ℕ) → length ends ≡ k → start_at (ends ++ end ∷ []) k ≡ length bytes
  start-last k e = start-same k (omega arith) ∙ ap (start_at ends) (sym e) ∙ h.last

  cell-at : (k : ℕ) → (k < length ends) ⊎ (length ends ≤ k) → k < length ends + 1 → packed_cell (bytes ++ cell) (ends ++ end ∷ []) k ≡ get_or (packed_cells bytes ends ++ cell ∷ []) k []
  unfolding packed_cell
  cell-at k (inl l) m =
      let n = length-packed bytes ends in
      ap₂ (λ (a b : ℕ). take (b - a) (drop a (bytes ++ cell))) (start-same k (omega arith)) (end-same k l)
      ∙ inside bytes cell (start_at ends k) (end_at ends k) (h.ascending k l) (h.within k l)
      ∙ sym (packed-at bytes ends k [] l)
      ∙ sym (get_or_append_left (packed_cells bytes ends) (cell ∷ []) [] k (omega arith))
  cell-at k (inr l) m =
      let e : length ends ≡ k = omega arith in
      behind bytes cell (start_at (ends ++ end ∷ []) k) (end_at (ends ++ end ∷ []) k) (start-last k e) (end-last k e ∙ is)
      ∙ sym (get_or_push (packed_cells bytes ends) cell [] k (length-packed bytes ends ∙ e))

  pub packed-more : packed_cells (bytes ++ cell) (ends ++ end ∷ []) ≡ packed_cells bytes ends ++ cell ∷ []
  packed-more =
      let n = length-packed bytes ends in
      let m = length-packed (bytes ++ cell) (ends ++ end ∷ []) in
      let p = length_push ends end in
      let q = length_push (packed_cells bytes ends) cell in
      ext_get_or [] (packed_cells (bytes ++ cell) (ends ++ end ∷ [])) (packed_cells bytes ends ++ cell ∷ []) (omega arith)
      (λ k l. packed-at (bytes ++ cell) (ends ++ end ∷ []) k [] (omega arith) ∙ cell-at k (cases_lt k (length ends)) (omega arith))

  pub ArePacked-more : length bytes + length cell < 2 ^ 32 → ArePacked (bytes ++ cell) (ends ++ end ∷ [])
  ArePacked-more few =
      let p = length_push ends end in
      let long = length-append bytes cell in record {
        ascending = λ k l. rises k (omega arith) (cases_lt k (length ends));
        within = λ k l. fits k (omega arith) (cases_lt k (length ends));
        last = start-end ∙ is ∙ sym long;
        few = omega arith;
      }
    where
      rises : (k : ℕ) → k < length ends + 1 → (k < length ends) ⊎ (length ends ≤ k) → start_at (ends ++ end ∷ []) k ≤ end_at (ends ++ end ∷ []) k
      rises k m (inl l) = let a = start-same k (omega arith) in let b = end-same k l in let c = h.ascending k l in omega arith
      rises k m (inr l) = let a = start-last k (omega arith) in let b = end-last k (omega arith) in omega arith

      fits : (k : ℕ) → k < length ends + 1 → (k < length ends) ⊎ (length ends ≤ k) → end_at (ends ++ end ∷ []) k ≤ length (bytes ++ cell)
      fits k m (inl l) = let b = end-same k l in let c = h.within k l in let long = length-append bytes cell in omega arith
      fits k m (inr l) = let b = end-last k (omega arith) in let long = length-append bytes cell in omega arith

      start-end : start_at (ends ++ end ∷ []) (length (ends ++ end ∷ [])) ≡ end
      start-end =
          let p = length_push ends end in
          ap (start_at (ends ++ end ∷ [])) p ∙ ap (λ (k : ℕ). get_or (0 ∷ (ends ++ end ∷ [])) k 0) (let s : length ends + 1 ≡ suc (length ends) = omega arith in s) ∙ end-last (length ends) refl

-- ---- a cell by its place
pub packed-read : (bytes ends : List ℕ) (k start end : ℕ) (bs : List ℕ) → k < length ends → bs ≡ bytes → start ≡ start_at ends k → end ≡ end_at ends k
    → take (end - start) (drop start bs) ≡ get_or (packed_cells bytes ends) k []
unfolding packed_cell
packed-read bytes ends k start end bs l e s t =
    ap (λ (xs : List ℕ). take (end - start) (drop start xs)) e
    ∙ ap₂ (λ (a b : ℕ). take (b - a) (drop a bytes)) s t
    ∙ sym (packed-at bytes ends k [] l)

-- ---- the first cells alone
module _ (bytes ends : List ℕ) (h : ArePacked bytes ends) where
  -- cells start one behind another
  climb : (k n : ℕ) → suc n ≤ length ends → (k ≤ n → start_at ends k ≤ start_at ends n) → (k < suc n) ⊎ (suc n ≤ k) → k ≤ suc n → start_at ends k ≤ start_at ends (suc n)
  climb k n m before (inl less) l =
      let a = before (omega arith) in
      let b = h.ascending n (omega arith) in
      omega arith
  climb k n m before (inr more) l = let e : suc n ≡ k = omega arith in subst (λ (i : ℕ). start_at ends k ≤ start_at ends i) (sym e) (omega arith)

  climbs : (k n : ℕ) → k ≤ n → n ≤ length ends → start_at ends k ≤ start_at ends n
  climbs k zero l m = let e : k ≡ 0 = omega arith in subst (λ (i : ℕ). start_at ends i ≤ start_at ends 0) (sym e) (omega arith)
  climbs k (suc n) l m = climb k n m (λ less. climbs k n less (omega arith)) (cases_lt k (suc n)) l

  module _ (n : ℕ) (m : n ≤ length ends) where
    pub size-within : start_at ends n ≤ length bytes
    size-within = let a = climbs n (length ends) m (omega arith) in let b = h.last in omega arith

    start-kept : (k : ℕ) → k ≤ n → start_at (take n ends) k ≡ start_at ends k
    start-kept k l = get_or-take (suc n) (0 ∷ ends) k 0 (omega arith)

    end-kept : (k : ℕ) → k < n → end_at (take n ends) k ≡ end_at ends k
    end-kept k l = get_or-take n ends k 0 l

    end-within : (k : ℕ) → k < n → end_at ends k ≤ start_at ends n
    end-within k l = climbs (suc k) n (omega arith) m

    bytes-kept : (a b s : ℕ) → a ≤ b → b ≤ s → take (b - a) (drop a (take s bytes)) ≡ take (b - a) (drop a bytes)
    bytes-kept a b s l k =
        ap (λ (i : ℕ). take (b - a) (drop a (take i bytes))) (let e : s ≡ a + (s - a) = omega arith in e)
        ∙ ap (take (b - a)) (drop-take a (s - a) bytes)
        ∙ take-take (b - a) (s - a) (drop a bytes) (omega arith)

    cell-kept : (k : ℕ) → k < n → packed_cell (take (start_at ends n) bytes) (take n ends) k ≡ packed_cell bytes ends k
    unfolding packed_cell
    cell-kept k l =
        ap₂ (λ (a b : ℕ). take (b - a) (drop a (take (start_at ends n) bytes))) (start-kept k (omega arith)) (end-kept k l)
        ∙ bytes-kept (start_at ends k) (end_at ends k) (start_at ends n) (h.ascending k (omega arith)) (end-within k l)

    pub packed-first : packed_cells (take (start_at ends n) bytes) (take n ends) ≡ take n (packed_cells bytes ends)
    packed-first =
        let p = length-packed (take (start_at ends n) bytes) (take n ends) in
        let q = length-packed bytes ends in
        let s = length-take-le n ends m in
        let t = length-take-le n (packed_cells bytes ends) (omega arith) in
        ext_get_or [] (packed_cells (take (start_at ends n) bytes) (take n ends)) (take n (packed_cells bytes ends)) (omega arith)
        (λ k l. packed-at (take (start_at ends n) bytes) (take n ends) k [] (omega arith) ∙ cell-kept k (omega arith)
        ∙ sym (get_or-take n (packed_cells bytes ends) k [] (omega arith) ∙ packed-at bytes ends k [] (omega arith)))

    pub ArePacked-first : ArePacked (take (start_at ends n) bytes) (take n ends)
    ArePacked-first =
        let s = length-take-le n ends m in
        let t = length-take-le (start_at ends n) bytes size-within in
        let few = h.few in
        let within = size-within in record {
          ascending = λ k l. let a = start-kept k (omega arith) in let b = end-kept k (omega arith) in let c = h.ascending k (omega arith) in omega arith;
          within = λ k l. let b = end-kept k (omega arith) in let c = end-within k (omega arith) in omega arith;
          last = ap (start_at (take n ends)) s ∙ start-kept n (omega arith) ∙ sym t;
          few = omega arith;
        }
