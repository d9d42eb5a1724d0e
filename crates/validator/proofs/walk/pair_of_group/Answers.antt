use Rattle.std.proofs.Common.{◌<◌, ℕ}
use Rattle.std.specs.List.{All}
use Rattle.rel_base.proofs.States.{All-listed}
use Rattle.validator.proofs.Leads.{uniform_old}
use Rattle.validator.proofs.walk.pair_of_group.Goals as goal

pub returns-then-not-has_new-clause-pair : goal.returns-then-not-has_new-clause-pair
returns-then-not-has_new-clause-pair g c =
    let all : All (λ (row : ℕ). row < c.args.question.now.from) c.args.group.now = c.has_new.ensures c.if-not-has_new.true in
    uniform_old c.args.snapshot.now c.args.question.now.by c.args.question.now.target c.args.question.now.from c.args.group.now
    (λ j h. All-listed (λ (row : ℕ). row < c.args.question.now.from) j c.args.group.now all h)
