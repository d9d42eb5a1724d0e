use Rattle.std.proofs.Common.{◌≡◌, ◌<◌, ◌≤◌, ◌%◌, ◌^◌, ℕ, List, length, map, sum_by, vec_len, IsPermutation, sym, ap, ◌∙◌, subst, arith}
use Rattle.std.specs.List.{All}
use Rattle.std.specs.List.Sorted.{IsNonDecreasing}
use Rattle.std.proofs.lemmas.Result.{IfOk-weaker}
use Rattle.std.proofs.lemmas.List.Elements.{All-same}
use Rattle.col_set.specs.ColSet.{upto}
use Rattle.rel_base.proofs.States.{All-from}
use Rattle.stripped_partition.specs.Groups.{cut, IsCut, IsFlat}
use Rattle.stripped_partition.specs.Order.{IsInOrder, key_of, group_at}
use Rattle.stripped_partition.proofs.Cuts.{length-cut, few_ends}
use Rattle.stripped_partition.proofs.Flat.{flat-cut, flat-rise, group_positive, sum_groups}
use Rattle.stripped_partition.proofs.Ordering.{is_key, sum_sorted, sorted_order, sum_by-map}
use Rattle.stripped_partition.proofs.OrderLoops.{length-concat}
use Rattle.stripped_partition.proofs.order.in_order.Goals as goal
use Rattle.rel_base.specs.declared.limits.TheConstants.{MOST_ROWS}

-- the keys of all groups
all_keys : (rows ends keys : List ℕ) (n : ℕ) → n ≡ length ends → IsPermutation (map (key_of (cut 0 rows ends)) (upto n)) keys → IsPermutation (map (key_of (cut 0 rows ends)) (upto (length (cut 0 rows ends)))) keys
all_keys rows ends keys n e p = subst (λ (m : ℕ). IsPermutation (map (key_of (cut 0 rows ends)) (upto m)) keys) (e ∙ sym (length-cut 0 rows ends)) p

few : (rows ends : List ℕ) → IsCut rows ends → length (cut 0 rows ends) < 2 ^ 32
few rows ends is = let f = few_ends rows ends is in let s = is.short in let n = length-cut 0 rows ends in omega arith

places : (rows ends keys : List ℕ) (n : ℕ) → IsCut rows ends → n ≡ length ends → IsPermutation (map (key_of (cut 0 rows ends)) (upto n)) keys → All (λ (key : ℕ). key % 2 ^ 32 < n) keys
places rows ends keys n is e p = All-from (λ (key : ℕ). key % 2 ^ 32 < n) keys (λ key h.
    let k = is_key (cut 0 rows ends) (few rows ends is) keys (all_keys rows ends keys n e p) key h in
    let i = k.is in let w = k.within in let l = length-cut 0 rows ends in let f = few rows ends is in omega arith)

short : (rows ends keys : List ℕ) (n : ℕ) → IsCut rows ends → n ≡ length ends → IsPermutation (map (key_of (cut 0 rows ends)) (upto n)) keys → sum_by (λ key. length (group_at (cut 0 rows ends) key)) keys ≤ MOST_ROWS
short rows ends keys n is e p =
    let s = sum_sorted (cut 0 rows ends) (few rows ends is) keys (all_keys rows ends keys n e p) in
    let m = sum_groups rows ends is in omega arith

pub laid_out-requires-clause-places : goal.laid_out-requires-clause-places
laid_out-requires-clause-places c =
    let g = c.args.groups in
    All-same (λ (key : ℕ). key % 2 ^ 32 < vec_len g.ends) c.deref.result.now c.in_ok-keys.keys.items c.deref.ensures.value (places g.rows.items g.ends.items c.in_ok-keys.keys.items (vec_len g.ends) c.requires (omega (arith, g.ends.ok.0)) c.in_ok-keys.ensures.permutation)

pub laid_out-requires-clause-short : goal.laid_out-requires-clause-short
laid_out-requires-clause-short c =
    let g = c.args.groups in
    subst (λ (keys : List ℕ). sum_by (λ key. length (group_at (cut 0 g.rows.items g.ends.items) key)) keys ≤ MOST_ROWS) (sym c.deref.ensures.value) (short g.rows.items g.ends.items c.in_ok-keys.keys.items (vec_len g.ends) c.requires (omega (arith, g.ends.ok.0)) c.in_ok-keys.ensures.permutation)

-- the groups that the keys lay out
is_order : (rows ends keys : List ℕ) (n : ℕ) → IsCut rows ends → n ≡ length ends → IsPermutation (map (key_of (cut 0 rows ends)) (upto n)) keys → IsNonDecreasing keys → IsInOrder (cut 0 rows ends) (map (group_at (cut 0 rows ends)) keys)
is_order rows ends keys n is e p s = sorted_order (cut 0 rows ends) (few rows ends is) keys (all_keys rows ends keys n e p) s

is_cut : (rows ends keys new_rows new_ends : List ℕ) (n : ℕ) → IsCut rows ends → n ≡ length ends → IsPermutation (map (key_of (cut 0 rows ends)) (upto n)) keys → IsNonDecreasing keys
    → IsFlat new_rows new_ends (map (group_at (cut 0 rows ends)) keys) → IsCut new_rows new_ends
is_cut rows ends keys new_rows new_ends n is e p s f =
    let o = is_order rows ends keys n is e p s in
    let l : length new_rows ≡ sum_by (λ key. length (group_at (cut 0 rows ends) key)) keys = ap length f.laid ∙ length-concat (map (group_at (cut 0 rows ends)) keys) ∙ sum_by-map length (group_at (cut 0 rows ends)) keys in
    let m = short rows ends keys n is e p in
    flat-rise new_rows new_ends (map (group_at (cut 0 rows ends)) keys) f (λ g h. group_positive rows ends is g (o.only g h)) (omega arith)

pub returns-clause-cut : goal.returns-clause-cut
returns-clause-cut c =
    let g = c.args.groups in
    IfOk-weaker c.laid_out.result (λ laid. IsFlat laid.rows.items laid.ends.items (map (group_at (cut 0 g.rows.items g.ends.items)) c.deref.result.now)) (λ new. IsCut new.rows.items new.ends.items)
    (λ new f. is_cut g.rows.items g.ends.items c.in_ok-keys.keys.items new.rows.items new.ends.items (vec_len g.ends) c.requires (omega (arith, g.ends.ok.0)) c.in_ok-keys.ensures.permutation c.in_ok-keys.ensures.sorted
    (subst (λ (keys : List ℕ). IsFlat new.rows.items new.ends.items (map (group_at (cut 0 g.rows.items g.ends.items)) keys)) c.deref.ensures.value f)) c.laid_out.ensures

pub returns-clause-order : goal.returns-clause-order
returns-clause-order c =
    let g = c.args.groups in
    IfOk-weaker c.laid_out.result (λ laid. IsFlat laid.rows.items laid.ends.items (map (group_at (cut 0 g.rows.items g.ends.items)) c.deref.result.now)) (λ new. IsInOrder (cut 0 g.rows.items g.ends.items) (cut 0 new.rows.items new.ends.items))
    (λ new f. subst (λ (gs : List (List ℕ)). IsInOrder (cut 0 g.rows.items g.ends.items) gs)
    (sym (flat-cut new.rows.items new.ends.items _ (subst (λ (keys : List ℕ). IsFlat new.rows.items new.ends.items (map (group_at (cut 0 g.rows.items g.ends.items)) keys)) c.deref.ensures.value f)))
    (is_order g.rows.items g.ends.items c.in_ok-keys.keys.items (vec_len g.ends) c.requires (omega (arith, g.ends.ok.0)) c.in_ok-keys.ensures.permutation c.in_ok-keys.ensures.sorted)) c.laid_out.ensures
