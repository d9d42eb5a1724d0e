use Rattle.std.proofs.Common.{◌≡◌, ◌∙◌, ℕ, ◌∷◌, length, Option, sym, ap, subst, arith}
use Rattle.std.specs.Iterator.{YieldsFirst}
use Rattle.col_set.specs.declared.col_set.ColumnIter.{ColumnIter}
use Rattle.col_set.specs.ColSet.{columns}
use Rattle.col_set.proofs.EachColumn.{first-Some, first-None}
use Rattle.col_set.proofs.col_set.ColumnIterIterator.next.Goals as goal

pub returns-in_err-column-clause-steps : goal.returns-in_err-column-clause-steps
returns-in_err-column-clause-steps c =
    let none = first-None c.args.self.now.rest c.in_err-column.ensures.value in
    subst (λ (r : Option ℕ). YieldsFirst (λ (s : ColumnIter). columns s.rest) c.args.self.now r c.args.self.now) (sym c.from_residual.ensures) (none, none)

pub returns-clause-steps : goal.returns-clause-steps
returns-clause-steps c =
    (first-Some c.args.self.now.rest c.in_ok-column.column c.in_ok-column.ensures.value).columns_are
    ∙ ap (λ (x : ℕ). c.in_ok-column.column ∷ columns x) (sym c.without-self.ensures)

pub returns-clause-goes : goal.returns-clause-goes
returns-clause-goes c =
    let step : columns c.args.self.now.rest ≡ c.in_ok-column.column ∷ columns c.without-self.result =
    (first-Some c.args.self.now.rest c.in_ok-column.column c.in_ok-column.ensures.value).columns_are
    ∙ ap (λ (x : ℕ). c.in_ok-column.column ∷ columns x) (sym c.without-self.ensures) in
    let longer : length (columns c.args.self.now.rest) ≡ length (c.in_ok-column.column ∷ columns c.without-self.result) = ap (length {A = ℕ}) step in
    record {
      on = λ f. (tt, tt, omega arith);
      keeps = tt;
      rests = λ f. tt;
    }
