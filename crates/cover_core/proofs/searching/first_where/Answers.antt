use Rattle.std.proofs.Common.{◌≡◌, ◌<◌, ◌∙◌, ◌-◌, ℕ, Bool, List, Option, refl, sym, ap, subst, arith, below_more}
use Rattle.std.specs.List.{find}
use Rattle.candidate_cover.specs.declared.cand.Cand.{Cand}
use Rattle.candidate_cover.specs.Cands.{width, from}
use Rattle.candidate_cover.proofs.Remarked.{from_empty}
use Rattle.cover_core.specs.Past.{IsPast}
use Rattle.cover_core.proofs.FirstFound.{find-none, find-column}
use Rattle.cover_core.proofs.Cursors.{found_here, none_earlier, none_up_to, first_of, past-here, past-column, past-none}
use Rattle.cover_core.proofs.searching.first_where.Goals as goal
use Rattle.cover_core.proofs.searching.first_where.Goals.{then-columns-gt0, else-columns-gt0}

-- what a search of a whole list answers
whole : (p : Cand → Bool) (cs : List Cand) (x : ℕ) (o : Option Cand) → x ≡ 0 → o ≡ find p (from x cs) → find p cs ≡ o
whole p cs x o e i = sym (i ∙ ap (find p) (ap (λ (x : ℕ). from x cs) e ∙ from_empty cs))

pub returns-in-Some-clause-found : goal.returns-in-Some-clause-found
returns-in-Some-clause-found g c = λ p f past.
    sym (first_of p c.args.candidates.now c.args.cursor.now.target c.in-Some.cand past.target (none_earlier p c.args.candidates.now c.args.cursor.now past)
    (sym (found_here p c.args.candidates.now c.args.cursor.now past) ∙ sym (c.first_from.ensures.found p (λ k b h. f k b h.1)) ∙ c.in-Some.is))

pub returns-in-Some-clause-past : goal.returns-in-Some-clause-past
returns-in-Some-clause-past g c = λ p f past.
    past-here p c.args.candidates.now c.args.cursor.now past c.in-Some.cand c.first_from.ensures.order
    (sym (found_here p c.args.candidates.now c.args.cursor.now past) ∙ sym (c.first_from.ensures.found p (λ k b h. f k b h.1)) ∙ c.in-Some.is)

pub loop-column-init : goal.loop-column-init
loop-column-init g c = (
  refl,
  λ p f past.
      let w = none_up_to p c.args.candidates.now c.args.cursor.now.target (none_earlier p c.args.candidates.now c.args.cursor.now past)
      (sym (found_here p c.args.candidates.now c.args.cursor.now past) ∙ sym (c.first_from.ensures.found p (λ k b h. f k b h.1)) ∙ c.in_default.is) in
      (w.0, λ j l. w.1 j (subst (λ (m : ℕ). j < m) c.rank-column.ensures l)),
)

pub loop-column-preserved : goal.loop-column-preserved
loop-column-preserved g c = (
  c.loop-column.invariant.0,
  λ p f past.
      let i = c.loop-column.invariant.1 p f past in
      (i.0, below_more _ _ i.1 (whole p _ c.empty.result _ c.empty.ensures (c.first_from-in-loop-column.ensures.found p (λ k b h. f k b h.1)) ∙ c.in_default-first_from.is)),
)

pub returns-in-Some-first_from-clause-found : goal.returns-in-Some-first_from-clause-found
returns-in-Some-first_from-clause-found g c = λ p f past.
    let i = c.loop-column.invariant.1 p f past in
    sym (find-column (width c.args.candidates.now) c.args.candidates.now p c.loop-column.column c.in-Some-first_from.cand i.0 i.1 (omega (arith, c.columns-columns.ensures.width))
    (whole p _ c.empty.result _ c.empty.ensures (c.first_from-in-loop-column.ensures.found p (λ k b h. f k b h.1)) ∙ c.in-Some-first_from.is))

pub returns-in-Some-first_from-clause-past : goal.returns-in-Some-first_from-clause-past
returns-in-Some-first_from-clause-past g c = λ p f past.
    let i = c.loop-column.invariant.1 p f past in
    past-column p c.args.candidates.now i.0 c.loop-column.column i.1 (omega (arith, c.columns-columns.ensures.width)) c.in-Some-first_from.cand c.first_from-in-loop-column.ensures.order
    (whole p _ c.empty.result _ c.empty.ensures (c.first_from-in-loop-column.ensures.found p (λ k b h. f k b h.1)) ∙ c.in-Some-first_from.is)

pub returns-clause-found : goal.returns-clause-found
returns-clause-found g c = λ p f past.
    let i = c.loop-column.invariant.1 p f past in
    sym (find-none (width c.args.candidates.now) c.args.candidates.now p i.0 (λ k l. i.1 k (omega (arith, c.columns-columns.ensures.width))))

pub returns-clause-past : goal.returns-clause-past
returns-clause-past g c = λ p f past.
    let i = c.loop-column.invariant.1 p f past in
    elim c.if-columns-gt0.branch [
      | then-columns-gt0 w ↦
          let positive = w.if-columns-gt0.true in
          subst (IsPast p c.args.candidates.now) (sym w.cursor-is)
          (past-none p c.args.candidates.now i.0 (c.columns-columns.result - 1) (λ j l. i.1 j (omega arith)) (omega (arith, c.columns-columns.ensures.width)) w.all.result (i.1 (c.columns-columns.result - 1) (omega arith)))
      | else-columns-gt0 w ↦ subst (IsPast p c.args.candidates.now) (sym (w.cursor-is ∙ c.loop-column.invariant.0)) past
    ]
