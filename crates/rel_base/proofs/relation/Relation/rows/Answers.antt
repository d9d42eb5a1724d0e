use Rattle.std.proofs.Common.{◌≡◌, ◌<◌, ◌+◌, ◌∙◌, ◌++◌, ◌∷◌, suc, sym, ap, ap₂, arith, ℕ, List, [], length, take, get_or}
use Rattle.std.proofs.Math.Seq.{take-suc}
use Rattle.std.proofs.lemmas.List.{take_all}
use Rattle.rel_base.specs.Cells.{Row}
use Rattle.rel_base.proofs.relation.Relation.rows.Goals as goal

-- one row more
more : (rows old new : List Row) (row : Row) (k : ℕ) → k < length rows → old ≡ take k rows → new ≡ old ++ row ∷ [] → row ≡ get_or rows k [] → new ≡ take (k + 1) rows
more rows old new row k l e f g =
    let s : suc k ≡ k + 1 = omega arith in
    f ∙ ap₂ (λ (xs : List Row) (x : Row). xs ++ x ∷ []) e g ∙ sym (take-suc rows k [] l) ∙ ap (λ (n : ℕ). take n rows) s

pub loop-place-preserved : goal.loop-place-preserved
loop-place-preserved c =
    let t = c.loop-place-test.true in
    let n = c.len-place-end.ensures.value in
    more c.args.self.now.rows c.loop-place.rows.items c.push.new.self.items c.in_ok-row.field-0 c.loop-place.place (omega (arith, t, n)) c.loop-place.invariant c.in_ok-push.ensures.items c.in_ok-row.ensures

pub returns : goal.returns
returns c =
    let f = c.loop-place-test.false in
    let n = c.len-place-end.ensures.value in
    c.loop-place.invariant ∙ take_all c.loop-place.place c.args.self.now.rows (omega (arith, f, n))
