use Rattle.std.proofs.Common.{◌≡◌, ◌<◌, ◌≤◌, ◌+◌, ◌∙◌, ◌++◌, ◌∷◌, ◌⊎◌, inl, inr, sym, ap, ap₂, refl, arith, ℕ, List, [], length, set, get_or}
use Rattle.std.proofs.lemmas.Bool.{cases_lt}
use Rattle.std.proofs.lemmas.List.{length-append, length-set, get_or-set_same, get_or-set_other, get_or_default}
use Rattle.std.proofs.lemmas.Iterator.Adapters.{YieldsList-from_vec}
use Rattle.std.proofs.lemmas.Iterator.Consumers.{YieldsList-end, YieldsList-turn}
use Rattle.rel_base.specs.Cells.{Cell}
use Rattle.rel_base.proofs.joining.joined.Goals as goal

pub loop-cells-init : goal.loop-cells-init
loop-cells-init c = record {
  place = refl;
  long = refl;
  behind = λ j l. absurd (omega arith);
  before = λ j l. refl;
}

-- the column that is taken stands at the place
taken : (place : ℕ) (columns yielded : List (List Cell)) (cells : List Cell) → place ≡ length yielded → length yielded < length columns → cells ≡ get_or columns (length yielded) cells → cells ≡ get_or columns place []
taken place columns yielded cells e l is = is ∙ get_or_default columns (length yielded) cells [] l ∙ ap (λ (j : ℕ). get_or columns j []) (sym e)

-- a column more has the other's cells behind its own
one_more : (columns old more : List (List Cell)) (place : ℕ) (cells new : List Cell) → length columns ≡ length old → place < length old
    → ((j : ℕ) → j < place → get_or columns j [] ≡ get_or old j [] ++ get_or more j []) → ((j : ℕ) → place ≤ j → get_or columns j [] ≡ get_or old j [])
    → cells ≡ get_or more place [] → new ≡ get_or columns place [] ++ cells
    → (j : ℕ) → j < place + 1 → (j < place) ⊎ (place ≤ j) → get_or (set columns place new) j [] ≡ get_or old j [] ++ get_or more j []
one_more columns old more place cells new long l behind before is made j m (inl f) = get_or-set_other columns place j new [] (omega arith) ∙ behind j f
one_more columns old more place cells new long l behind before is made j m (inr f) =
    let e : j ≡ place = omega arith in
    ap (λ (i : ℕ). get_or (set columns place new) i []) e ∙ get_or-set_same columns place new [] (omega (arith, l, long))
    ∙ made ∙ ap₂ (λ (xs ys : List Cell). xs ++ ys) (before place (omega arith)) is
    ∙ ap (λ (i : ℕ). get_or old i [] ++ get_or more i []) (sym e)

pub index_mut-requires : goal.index_mut-requires
index_mut-requires c =
    let from = c.into_iter-cells-iterator.ensures.into_iter_gives in
    let turn = YieldsList-turn (YieldsList-from_vec c.args.others.items from.0 (from.1 ∙ c.args.others.ok.0)) c.loop-cells.yielded c.loop-cells.cells-iterator c.loop-cells.yielded_by c.next.result c.next.new.self c.in-Some.cells c.in-Some.is c.next.ensures.steps in
    let l = turn.0 in
    let w = c.requires in
    let p = c.loop-cells.invariant.place in
    let q = c.loop-cells.invariant.long in
    let o = c.loop-cells.columns.ok.0 in
    omega (arith, l, w, p, q, o)

pub overflow_add-place : goal.overflow_add-place
overflow_add-place c =
    let from = c.into_iter-cells-iterator.ensures.into_iter_gives in
    let turn = YieldsList-turn (YieldsList-from_vec c.args.others.items from.0 (from.1 ∙ c.args.others.ok.0)) c.loop-cells.yielded c.loop-cells.cells-iterator c.loop-cells.yielded_by c.next.result c.next.new.self c.in-Some.cells c.in-Some.is c.next.ensures.steps in
    let l = turn.0 in
    let p = c.loop-cells.invariant.place in
    let o = c.args.others.ok in
    omega (arith, l, p, o)

pub loop-cells-preserved : goal.loop-cells-preserved
loop-cells-preserved c =
    let from = c.into_iter-cells-iterator.ensures.into_iter_gives in
    let turn = YieldsList-turn (YieldsList-from_vec c.args.others.items from.0 (from.1 ∙ c.args.others.ok.0)) c.loop-cells.yielded c.loop-cells.cells-iterator c.loop-cells.yielded_by c.next.result c.next.new.self c.in-Some.cells c.in-Some.is c.next.ensures.steps in
    let l = turn.0 in
    let w = c.requires in
    let p = c.loop-cells.invariant.place in
    let h = c.loop-cells.invariant in
    let q = h.long in
    record {
      place = omega (arith, p, length-append c.loop-cells.yielded (c.in-Some.cells ∷ []));
      long = length-set c.loop-cells.columns.items c.loop-cells.place c.append.new.self ∙ h.long;
      behind = λ j m. one_more c.loop-cells.columns.items c.args.columns.items c.args.others.items c.loop-cells.place c.in-Some.cells c.append.new.self h.long (omega (arith, l, w, p)) h.behind h.before
          (taken c.loop-cells.place c.args.others.items c.loop-cells.yielded c.in-Some.cells p l turn.1)
          (c.in_ok-append.ensures.appended ∙ ap (λ (xs : List Cell). xs ++ c.in-Some.cells) (c.index_mut.ensures.value
          ∙ get_or_default c.loop-cells.columns.items c.loop-cells.place c.index_mut.result.now [] (omega (arith, l, w, p, q))))
          j m (cases_lt j c.loop-cells.place);
      before = λ j m. get_or-set_other c.loop-cells.columns.items c.loop-cells.place j c.append.new.self [] (omega arith) ∙ h.before j (omega arith);
    }

pub returns : goal.returns
returns c =
    let from = c.into_iter-cells-iterator.ensures.into_iter_gives in
    let end = YieldsList-end (YieldsList-from_vec c.args.others.items from.0 (from.1 ∙ c.args.others.ok.0)) c.loop-cells.yielded c.loop-cells.cells-iterator c.loop-cells.yielded_by c.next.result c.next.new.self c.in-None.is c.next.ensures.steps in
    let w = c.requires in
    let p = c.loop-cells.invariant.place in
    let n = end.1 in
    record {
      long = c.loop-cells.invariant.long;
      each = λ j l. c.loop-cells.invariant.behind j (omega (arith, l, w, p, n));
    }
