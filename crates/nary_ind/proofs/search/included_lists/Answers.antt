use Rattle.std.proofs.Common.{◌≡◌, ◌∙◌, ◌+◌, ◌++◌, ℕ, List, ap, ap₂, arith, map, suc, sym, subst}
use Rattle.std.specs.List.{flat_map}
use Rattle.rel_base.specs.RowState.{RowState}
use Rattle.nary_ind.specs.declared.found.Group.{Group}
use Rattle.nary_ind.specs.declared.found.ListInd.{ListInd}
use Rattle.nary_ind.specs.ListInclusions.{list_inclusions, of_width}
use Rattle.nary_ind.specs.Levels.{grouped, groups, listed_of}
use Rattle.nary_ind.specs.Keys.{AreLists}
use Rattle.nary_ind.proofs.Levels.{groups-listed}
use Rattle.nary_ind.proofs.Widening.{widths-more, widths-none}
use Rattle.nary_ind.proofs.search.included_lists.Goals as goal

pub loop-columns-init : goal.loop-columns-init
loop-columns-init g c = record { lists = subst (λ (rs : List RowState). AreLists rs c.in_ok-lists.lists) c.in_ok-known.ensures c.in_ok-lists.ensures; level = c.in_ok-level.ensures ∙ ap (λ (rs : List RowState). groups rs 0) c.in_ok-known.ensures; found = c.new-found.ensures.items ∙ sym (widths-none c.args.relations.now) }

pub next_level-requires-clause-groups : goal.next_level-requires-clause-groups
next_level-requires-clause-groups g c = ap (map grouped) c.deref.ensures.value ∙ c.loop-columns.invariant.level ∙ sym (ap (λ (rs : List RowState). groups rs c.loop-columns.columns) c.in_ok-known.ensures)

pub next_level-requires-clause-lists : goal.next_level-requires-clause-lists
next_level-requires-clause-lists g c = subst (λ (rs : List RowState). AreLists rs c.loop-columns.lists) (sym c.in_ok-known.ensures) c.loop-columns.invariant.lists

pub loop-columns-preserved : goal.loop-columns-preserved
loop-columns-preserved g c =
    let e : suc c.loop-columns.columns ≡ c.loop-columns.columns + 1 = omega arith in
    record {
      lists = subst (λ (rs : List RowState). AreLists rs c.next_level.new.lists) c.in_ok-known.ensures c.in_ok-next.ensures.lists;
      level = c.in_ok-next.ensures.groups ∙ ap₂ groups c.in_ok-known.ensures e;
      found =
          c.in_ok-push_level.ensures
          ∙ ap₂ (λ (xs ys : List ListInd). xs ++ ys) c.loop-columns.invariant.found
          (ap (λ (gs : List Group). flat_map listed_of (map grouped gs)) c.deref-in-loop-columns.ensures.value ∙ ap (flat_map listed_of) c.in_ok-next.ensures.groups ∙ groups-listed c.in_ok-known.known (suc c.loop-columns.columns)
          ∙ ap (of_width (suc c.loop-columns.columns)) c.in_ok-known.ensures)
          ∙ sym (widths-more c.args.relations.now c.loop-columns.columns);
    }

pub returns : goal.returns
returns g c =
    let e : c.loop-columns.columns ≡ c.args.width = let f = c.loop-columns-test.false in let a = c.loop-columns.auto in omega arith in
    c.loop-columns.invariant.found ∙ ap (λ (w : ℕ). list_inclusions w c.args.relations.now) e
