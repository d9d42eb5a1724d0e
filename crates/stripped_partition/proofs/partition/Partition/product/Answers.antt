use Rattle.std.proofs.Common.{◌≡◌, ◌≤◌, ℕ, List, length, map, zip, slice_index_or, sym, ap, ap₂, ◌∙◌, subst, subst₂, arith}
use Rattle.std.specs.List.{flat_map}
use Rattle.std.proofs.lemmas.List.{length-map}
use Rattle.col_set.specs.ColSet.{union}
use Rattle.stripped_partition.specs.Groups.{cut, IsCut, IsFlat}
use Rattle.stripped_partition.specs.Codes.{IsTable}
use Rattle.stripped_partition.specs.Splits.{parts}
use Rattle.stripped_partition.proofs.Cuts.{length-cut, few_ends}
use Rattle.stripped_partition.proofs.Refining.{in_its_order, put_in_order, split_cut, multiplied, same_flat}
use Rattle.stripped_partition.proofs.partition.Partition.product.Goals as goal

-- the places that were gathered
gathered : (rows rows_read table table_read places : List ℕ) → rows_read ≡ rows → table_read ≡ table → places ≡ map (λ row. slice_index_or table_read row 4294967295) rows_read → places ≡ map (λ row. slice_index_or table row 4294967295) rows
gathered rows rows_read table table_read places r t e = e ∙ ap₂ (λ (ts rs : List ℕ). map (λ row. slice_index_or ts row 4294967295) rs) t r

as_many : (f : ℕ → ℕ) (rows codes : List ℕ) → codes ≡ map f rows → length codes ≡ length rows
as_many f rows codes e = ap length e ∙ length-map rows f

flat : (bound groups : ℕ) (rows ends places made_rows made_ends : List ℕ) → bound ≡ groups → IsFlat made_rows made_ends (flat_map (parts bound) (cut 0 (zip rows places) ends)) → IsFlat made_rows made_ends (flat_map (parts groups) (cut 0 (zip rows places) ends))
flat bound groups rows ends places made_rows made_ends e f = subst (λ (n : ℕ). IsFlat made_rows made_ends (flat_map (parts n) (cut 0 (zip rows places) ends))) e f

tabled : (rows rows_read ends ends_read table : List ℕ) → rows_read ≡ rows → ends_read ≡ ends → IsTable (cut 0 rows_read ends_read) table → IsTable (cut 0 rows ends) table
tabled rows rows_read ends ends_read table r e t = subst₂ (λ (rs es : List ℕ). IsTable (cut 0 rs es) table) r e t

few : (rows ends : List ℕ) → IsCut rows ends → length (cut 0 rows ends) ≤ 4294967295
few rows ends is = let n = length-cut 0 rows ends in let f = few_ends rows ends is in let s = is.short in omega arith

pub in_order-requires : goal.in_order-requires
in_order-requires c =
    let rows = c.self.inside.rows.items in let ends = c.self.inside.ends.items in
    let places = gathered rows c.deref-4.result.now c.in_ok-table.table.items c.deref-3.result.now c.in_ok-codes.codes.items c.deref-4.ensures.value c.deref-3.ensures.value c.in_ok-codes.ensures in
    split_cut c.len.result rows c.in_ok-codes.codes.items ends c.in_ok-groups.groups.rows.items c.in_ok-groups.groups.ends.items c.self.invariant
    (as_many (λ row. slice_index_or c.in_ok-table.table.items row 4294967295) rows c.in_ok-codes.codes.items places)
    (same_flat c.len.result rows c.deref-5.result.now ends c.deref-6.result.now c.in_ok-codes.codes.items c.deref-7.result.now c.in_ok-groups.groups.rows.items c.in_ok-groups.groups.ends.items
    c.deref-5.ensures.value c.deref-6.ensures.value c.deref-7.ensures.value c.in_ok-groups.ensures)

pub returns : goal.returns
returns c s x y e f =
    let rows = c.self.inside.rows.items in let ends = c.self.inside.ends.items in
    let theirs = cut 0 c.other.inside.rows.items c.other.inside.ends.items in
    let n : c.len.result ≡ length c.other.inside.ends.items = (let l = c.len.ensures in omega (arith, c.other.inside.ends.ok.0)) in
    put_in_order s (union x y) (cut 0 c.in_ok-groups.groups.rows.items c.in_ok-groups.groups.ends.items) (cut 0 c.in_ok-rows.field-0.rows.items c.in_ok-rows.field-0.ends.items)
    (multiplied s x rows ends c.self.invariant (in_its_order s x (cut 0 rows ends) (c.self.view_is ∙ e)) y 4294967295 c.in_ok-table.table.items theirs (c.other.view_is ∙ f)
    (few c.other.inside.rows.items c.other.inside.ends.items c.other.invariant)
    (tabled c.other.inside.rows.items c.deref.result.now c.other.inside.ends.items c.deref-2.result.now c.in_ok-table.table.items c.deref.ensures.value c.deref-2.ensures.value c.in_ok-table.ensures)
    c.in_ok-codes.codes.items c.in_ok-groups.groups.rows.items c.in_ok-groups.groups.ends.items
    (gathered rows c.deref-4.result.now c.in_ok-table.table.items c.deref-3.result.now c.in_ok-codes.codes.items c.deref-4.ensures.value c.deref-3.ensures.value c.in_ok-codes.ensures)
    (flat c.len.result (length theirs) rows ends c.in_ok-codes.codes.items c.in_ok-groups.groups.rows.items c.in_ok-groups.groups.ends.items (n ∙ sym (length-cut 0 c.other.inside.rows.items c.other.inside.ends.items))
    (same_flat c.len.result rows c.deref-5.result.now ends c.deref-6.result.now c.in_ok-codes.codes.items c.deref-7.result.now c.in_ok-groups.groups.rows.items c.in_ok-groups.groups.ends.items
    c.deref-5.ensures.value c.deref-6.ensures.value c.deref-7.ensures.value c.in_ok-groups.ensures)))
    c.in_ok-rows.ensures.order
