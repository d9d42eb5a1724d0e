use Rattle.std.proofs.Common.{inl, inr, ◌≡◌, ◌∙◌, ◌++◌, ◌≤◌, List, ℕ, sym, ap, ap₂, subst, arith, length, rules}
use Rattle.std.specs.List.{flat_map}
use Rattle.std.proofs.lemmas.Bool.{cases_lt}
use Rattle.col_set.specs.declared.col_set.TheConstants.{MOST_COLUMNS}
use Rattle.col_set.specs.declared.target.Target.TheVariants.{Col, RowId}
use Rattle.col_set.specs.ColSet.{Columns, upto, report_cmp}
use Rattle.col_set.specs.Lists.{Rises}
use Rattle.col_set.proofs.Places.{AllPairs-rises}
use Rattle.rel_base.specs.declared.dependency.Fd.{Fd}
use Rattle.rel_base.specs.Covers.{fds_to, AreKeysInOrder, IsInOrder}
use Rattle.rel_base.proofs.Ordered.{fds-in_order}
use Rattle.candidate_cover.specs.Cands.{cands_of, lefts}
use Rattle.cover_steps.proofs.Upto.{flat_map-upto_more}
use Rattle.cover_steps.proofs.listed.listed.Goals as goal

pub loop-column-preserved : goal.loop-column-preserved
loop-column-preserved c = record {
  fds = c.in_ok-push_fds.ensures
      ∙ ap₂ (λ (old : List Fd) (sets : List Columns). old ++ fds_to c.loop-column.column sets) c.loop-column.invariant.fds c.lefts-in-loop-column.ensures.lefts
      ∙ sym (flat_map-upto_more (λ a. fds_to a (lefts (cands_of c.args.candidates.now (Col a)))) c.loop-column.column);
  order = λ a l. elim (cases_lt a c.loop-column.column) as (λ _. Rises report_cmp (lefts (cands_of c.args.candidates.now (Col a)))) [
    | inl g ↦ c.loop-column.invariant.order a g
    | inr g ↦ let e : c.loop-column.column ≡ a = omega arith in subst (λ (z : ℕ). Rises report_cmp (lefts (cands_of c.args.candidates.now (Col z)))) e c.lefts-in-loop-column.ensures.order
  ];
}

pub of-requires-clause-keys : goal.of-requires-clause-keys
of-requires-clause-keys c = let e : c.in_ok-keys.keys.items ≡ lefts (cands_of c.args.candidates.now RowId) = search rules in
    subst AreKeysInOrder (sym e) (AllPairs-rises report_cmp _ c.lefts.ensures.order)

pub of-requires-clause-fds : goal.of-requires-clause-fds
of-requires-clause-fds c =
    let narrow : c.loop-column.column ≤ MOST_COLUMNS = omega (arith, c.columns-column-end.ensures.bound) in
    subst IsInOrder (sym c.loop-column.invariant.fds) (fds-in_order (λ a. lefts (cands_of c.args.candidates.now (Col a))) c.loop-column.column narrow c.loop-column.invariant.order)

pub returns-clause-fds : goal.returns-clause-fds
returns-clause-fds c =
    let e : c.loop-column.column ≡ length c.args.candidates.now.columns = omega (arith, c.columns-column-end.ensures.width) in
    c.of.ensures.fds ∙ c.loop-column.invariant.fds ∙ ap (λ (n : ℕ). flat_map (λ a. fds_to a (lefts (cands_of c.args.candidates.now (Col a)))) (upto n)) e
