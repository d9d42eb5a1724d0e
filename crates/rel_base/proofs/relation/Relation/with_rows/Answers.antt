use Rattle.std.proofs.Common.{◌≡◌, ◌≤◌, ◌+◌, ◌∙◌, ◌++◌, sym, ap, ap₂, arith, ℕ, List, length}
use Rattle.rel_base.specs.Cells.{Cell, Row}
use Rattle.rel_base.specs.Joined.{AreJoined}
use Rattle.rel_base.specs.Relation.{Content, AreColumns, rows_across}
use Rattle.rel_base.specs.declared.limits.TheConstants.{MOST_ROWS}
use Rattle.rel_base.proofs.Across.{length-across}
use Rattle.rel_base.proofs.AcrossBoth.{AreColumns-both, across-both}
use Rattle.rel_base.proofs.relation.Relation.with_rows.Goals as goal

-- What is given of both relations, as they are kept: there is room for the rows of both.
module _ (own others : Content) (names more : Row) (columns later all : List (List Cell)) (n m : ℕ) (h : AreColumns names columns n) (g : AreColumns more later m)
    (is : record { names = names; rows = rows_across columns n } ≡ own) (was : record { names = more; rows = rows_across later m } ≡ others)
    (wide : length others.names ≡ length own.names) (joined : AreJoined columns later all) where
  same : length more ≡ length names
  same = ap (λ (r : Content). length r.names) was ∙ wide ∙ sym (ap (λ (r : Content). length r.names) is)

  kept : length own.rows + length others.rows ≤ MOST_ROWS → AreColumns names all (n + m)
  kept room =
      let r = ap (λ (r : Content). length r.rows) is in
      let s = ap (λ (r : Content). length r.rows) was in
      let x = length-across columns n in
      let y = length-across later m in
      AreColumns-both names more columns later all n m h g same joined.long joined.each (omega (arith, room, r, s, x, y))

  behind : rows_across all (n + m) ≡ own.rows ++ others.rows
  behind =
      across-both names more columns later all n m h g same joined.long joined.each
      ∙ ap₂ (λ (xs ys : List Row). xs ++ ys) (ap (λ (r : Content). r.rows) is) (ap (λ (r : Content). r.rows) was)

pub invariant_of-result : goal.invariant_of-result
invariant_of-result g c =
    kept c.args.self c.args.others c.self.inside.names c.others.inside.names c.self.inside.columns.items c.others.inside.columns.items c.in_ok-columns.columns.items c.self.inside.count c.others.inside.count
    c.self.invariant c.others.invariant c.self.view_is c.others.view_is c.requires.wide c.in_ok-columns.ensures c.requires.room

pub returns-clause-rows : goal.returns-clause-rows
returns-clause-rows g c =
    behind c.args.self c.args.others c.self.inside.names c.others.inside.names c.self.inside.columns.items c.others.inside.columns.items c.in_ok-columns.columns.items c.self.inside.count c.others.inside.count
    c.self.invariant c.others.invariant c.self.view_is c.others.view_is c.requires.wide c.in_ok-columns.ensures
