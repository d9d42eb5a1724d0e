use Rattle.std.proofs.Common.{◌≡◌, ◌<◌, sym, refl, subst, arith, below_more}
use Rattle.std.specs.List.{find}
use Rattle.col_set.specs.declared.target.Target.TheVariants.{Col, RowId}
use Rattle.candidate_cover.specs.Cands.{cands_of}
use Rattle.negative_cover.specs.Concerning.{concerns}
use Rattle.cover_core.specs.Past.{rank, IsPast}
use Rattle.cover_core.proofs.Back.{if-none, if-some, back-row, back-column, stays-back}
use Rattle.cover_core.proofs.searching.move_back.Goals as goal

pub returns-in-Some : goal.returns-in-Some
returns-in-Some g c = λ p f but.
    back-row p c.args.candidates.now c.args.concerned.now c.args.cursor.now but c.in-Some.cand c.in-Some.ensures.order
    (if-some (concerns c.args.concerned.now RowId) (find p (cands_of c.args.candidates.now RowId)) c.first_concerned.result c.in-Some.cand (c.first_concerned.ensures.found p (λ k b h. f k b h.1)) c.in-Some.is)

pub loop-column-init : goal.loop-column-init
loop-column-init g c = (
  refl,
  λ p f. record {
    rows = λ e. if-none (concerns c.args.concerned.now RowId) (find p (cands_of c.args.candidates.now RowId)) c.first_concerned.result (c.first_concerned.ensures.found p (λ k b h. f k b h.1)) c.in_default.is e;
    columns = λ j l e. absurd (omega (arith, l));
  },
)

pub loop-column-preserved : goal.loop-column-preserved
loop-column-preserved g c = (
  c.loop-column.invariant.0,
  λ p f.
      let i = c.loop-column.invariant.1 p f in
      record {
        rows = i.rows;
        columns = below_more _ _ i.columns (if-none (concerns c.args.concerned.now (Col c.loop-column.column)) (find p (cands_of c.args.candidates.now (Col c.loop-column.column))) c.first_concerned-in-loop-column.result (c.first_concerned-in-loop-column.ensures.found p (λ k b h. f k b h.1)) c.in_default-first_concerned.is);
      },
)

pub returns-in-Some-first_concerned : goal.returns-in-Some-first_concerned
returns-in-Some-first_concerned g c = λ p f but.
    let within : c.loop-column.column < rank c.args.cursor.now.target = omega (arith, c.rank-column-end.ensures, c.loop-column-test.true) in
    back-column p c.args.candidates.now c.args.concerned.now c.args.cursor.now but c.loop-column.column within (c.loop-column.invariant.1 p f) c.in-Some-first_concerned.cand c.in-Some-first_concerned.ensures.order
    (if-some (concerns c.args.concerned.now (Col c.loop-column.column)) (find p (cands_of c.args.candidates.now (Col c.loop-column.column))) c.first_concerned-in-loop-column.result c.in-Some-first_concerned.cand (c.first_concerned-in-loop-column.ensures.found p (λ k b h. f k b h.1)) c.in-Some-first_concerned.is)

pub returns : goal.returns
returns g c = λ p f but.
    let same : c.loop-column.column ≡ rank c.args.cursor.now.target = omega (arith, c.rank-column-end.ensures, c.loop-column-test.false) in
    subst (IsPast p c.args.candidates.now) (sym c.loop-column.invariant.0) (stays-back p c.args.candidates.now c.args.concerned.now c.args.cursor.now but c.loop-column.column same (c.loop-column.invariant.1 p f))
