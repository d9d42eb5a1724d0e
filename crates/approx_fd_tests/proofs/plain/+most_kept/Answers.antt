use Rattle.std.proofs.Common.{◌∙◌, ◌++◌, ◌∷◌, [], ◌<◌, ℕ, Bool, List, ap, sym, arith}
use Rattle.rel_base.specs.Shows.{code_sets}
use Rattle.rel_base.specs.Validity.{determined}
use Rattle.approx_fd_tests.proofs.PlainSteps.{shorter, none-left, first-of, rest-of, more-given, kept-all, kept-none, kept-either}
use Rattle.approx_fd_tests.proofs.plain.+most_kept.Goals as goal

pub most_kept-requires : goal.most_kept-requires
most_kept-requires t c =
    let given : ℕ → Type 0 = λ row. row < c.args.snapshot.now.to in
    let row = first-of given c.in-Some.row.now c.in-Some.others.now c.args.rest.now c.in-Some.ensures.cases.0 c.requires.rest in
    let longer =
    c.as_slice.ensures.value ∙ c.in_ok-push-in-Some.ensures.items
    ∙ ap (λ (xs : List ℕ). xs ++ c.in-Some.row.now ∷ []) (c.in_ok-extend_from_slice-in-Some.ensures.items ∙ ap (λ (xs : List ℕ). xs ++ c.args.kept.now) c.new-longer.ensures.items) in (
      (let l = shorter c.in-Some.row.now c.in-Some.others.now c.args.rest.now c.in-Some.ensures.cases.0 in omega (arith, l, c.decreases)),
      (
        more-given c.args.snapshot.now c.args.kept.now c.as_slice.result.now c.in-Some.row.now c.requires.kept row longer,
        (
          rest-of given c.in-Some.row.now c.in-Some.others.now c.args.rest.now c.in-Some.ensures.cases.0 c.requires.rest,
          c.requires.target,
        ),
      ),
    )

pub most_kept-requires-in-Some : goal.most_kept-requires-in-Some
most_kept-requires-in-Some t c =
    let given : ℕ → Type 0 = λ row. row < c.args.snapshot.now.to in (
      (let l = shorter c.in-Some.row.now c.in-Some.others.now c.args.rest.now c.in-Some.ensures.cases.0 in omega (arith, l, c.decreases)),
      (c.requires.kept, (rest-of given c.in-Some.row.now c.in-Some.others.now c.args.rest.now c.in-Some.ensures.cases.0 c.requires.rest, c.requires.target)),
    )

pub returns-then-determine : goal.returns-then-determine
returns-then-determine t c = kept-all (λ rows. determined (code_sets c.args.snapshot.now rows) c.args.columns c.args.target) c.args.kept.now c.args.rest.now (none-left c.args.rest.now c.in-None.ensures.cases)
    (sym c.determine.ensures ∙ c.if-determine.true)

pub returns-else-determine : goal.returns-else-determine
returns-else-determine t c = kept-none (λ rows. determined (code_sets c.args.snapshot.now rows) c.args.columns c.args.target) c.args.kept.now c.args.rest.now (none-left c.args.rest.now c.in-None.ensures.cases)
    (sym c.determine.ensures ∙ c.if-determine.false)

pub returns-in_ok-without-in-Some : goal.returns-in_ok-without-in-Some
returns-in_ok-without-in-Some t c =
    kept-either (λ rows. determined (code_sets c.args.snapshot.now rows) c.args.columns c.args.target) c.args.kept.now c.as_slice.result.now c.in-Some.others.now c.args.rest.now c.in-Some.row.now
    c.in_ok-with-in-Some.with c.in_ok-without-in-Some.without c.max.result c.in-Some.ensures.cases.0
    (c.as_slice.ensures.value ∙ c.in_ok-push-in-Some.ensures.items
    ∙ ap (λ (xs : List ℕ). xs ++ c.in-Some.row.now ∷ []) (c.in_ok-extend_from_slice-in-Some.ensures.items ∙ ap (λ (xs : List ℕ). xs ++ c.args.kept.now) c.new-longer.ensures.items))
    c.in_ok-with-in-Some.ensures c.in_ok-without-in-Some.ensures c.max.ensures
