use Rattle.std.proofs.Common.{◌≡◌, ◌∙◌, ◌==◌, ◌++◌, ◌<◌, ◌^◌, ℕ, List, [], not, map, sym, ap, ap₂, subst, arith}
use Rattle.std.specs.List.{All, filter}
use Rattle.col_set.specs.ColSet.{Columns}
use Rattle.rel_base.specs.declared.dependency.Table.{Table}
use Rattle.key_finder.specs.Keys.{keys_within}
use Rattle.report_text.proofs.Numbered.{numbered-all, numbered-more}
use Rattle.table_files.specs.Keys.{numbered_keys_within, other_keys_within}
use Rattle.table_files.proofs.keys.keys_by.Goals as goal

pub loop-place-preserved : goal.loop-place-preserved
loop-place-preserved c =
    let table : Table = c.index-tables-place.result in
    let keys : (n : ℕ) → All (λ (t : Table). t.columns < 2 ^ n) c.args.tables.now → c.in_ok-keys.keys.items ≡ keys_within n c.args.agree_sets.now table.columns =
    λ n below. c.in_ok-keys.ensures n (subst (λ (t : Table). t.columns < 2 ^ n) (sym c.index-tables-place.is) (below c.loop-place.place table c.loop-place-test.true)) in
    let besides = λ (number : ℕ) (ks : List Columns). map (λ (other : Columns). (number, other)) (filter (λ other. not (other == table.key)) ks) in
    record {
      every = λ n below.
          numbered-more (numbered_keys_within n c.args.agree_sets.now) c.args.tables.now c.loop-place.place _ table [] c.loop-place.all.items c.extend_from_slice.new.self.items c.loop-place-test.true c.index-tables-place.is
          (c.in_ok-extend_from_slice.ensures.items
          ∙ ap (λ (xs : List (ℕ × Columns)). c.loop-place.all.items ++ xs)
          (c.as_slice-in-loop-place-2.ensures.value ∙ c.in_ok-every.ensures ∙ ap₂ (λ (number : ℕ) (ks : List Columns). map (λ (key : Columns). (number, key)) ks) c.in_ok-number.ensures (c.as_slice.ensures.value ∙ keys n below)))
          (c.loop-place.invariant.every n below);
      besides = λ n below.
          numbered-more (other_keys_within n c.args.agree_sets.now) c.args.tables.now c.loop-place.place _ table [] c.loop-place.others.items c.extend_from_slice-in-loop-place.new.self.items c.loop-place-test.true c.index-tables-place.is
          (c.in_ok-extend_from_slice-2.ensures.items
          ∙ ap (λ (xs : List (ℕ × Columns)). c.loop-place.others.items ++ xs)
          (c.as_slice-in-loop-place-3.ensures.value ∙ c.in_ok-besides.ensures ∙ ap₂ besides c.in_ok-number.ensures (c.as_slice-in-loop-place.ensures.value ∙ keys n below)))
          (c.loop-place.invariant.besides n below);
    }

pub returns-clause-all : goal.returns-clause-all
returns-clause-all c n below = numbered-all (numbered_keys_within n c.args.agree_sets.now) c.args.tables.now c.loop-place.place [] c.loop-place.all.items (omega arith) (c.loop-place.invariant.every n below)

pub returns-clause-others : goal.returns-clause-others
returns-clause-others c n below = numbered-all (other_keys_within n c.args.agree_sets.now) c.args.tables.now c.loop-place.place [] c.loop-place.others.items (omega arith) (c.loop-place.invariant.besides n below)
