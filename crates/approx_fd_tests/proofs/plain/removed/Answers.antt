use Rattle.std.proofs.Common.{◌∙◌, ◌-◌, ℕ, List, [], ap}
use Rattle.rel_base.specs.Shows.{code_sets}
use Rattle.rel_base.specs.Validity.{determined}
use Rattle.approx_fd_tests.specs.Plain.{most_of}
use Rattle.approx_fd_tests.proofs.PlainSteps.{live-given, removed-least}
use Rattle.approx_fd_tests.proofs.plain.removed.Goals as goal

pub most_kept-requires-clause-rest : goal.most_kept-requires-clause-rest
most_kept-requires-clause-rest c = live-given c.args.snapshot.now c.as_slice.result.now (c.as_slice.ensures.value ∙ c.in_ok-live.ensures)

pub returns : goal.returns
returns c =
    c.saturating_sub.ensures ∙ ap (λ (n : ℕ). n - c.in_ok-most.most) (c.len.ensures ∙ c.in_ok-live.live.ok.0)
    ∙ removed-least c.args.snapshot.now c.args.columns c.args.target c.in_ok-live.live.items c.in_ok-most.most c.in_ok-live.ensures
    (c.in_ok-most.ensures ∙ ap (λ (rows : List ℕ). most_of (λ kept. determined (code_sets c.args.snapshot.now kept) c.args.columns c.args.target) [] rows) c.as_slice.ensures.value)
