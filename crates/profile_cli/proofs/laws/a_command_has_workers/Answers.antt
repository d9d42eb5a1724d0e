use Rattle.std.proofs.Common.{ℕ, sym, subst}
use Rattle.cli_words.proofs.Workers.{workers-range}
use Rattle.task_base.specs.Task.{AreWorkers}
use Rattle.profile_cli.proofs.Commands.{workers_are}
use Rattle.profile_cli.proofs.laws.a_command_has_workers.Goals as goal

pub returns : goal.returns
returns c words request is =
    let range = workers-range words request is in
    subst (λ (n : ℕ). AreWorkers n) (sym (workers_are request)) (record { some = range.0; few = range.1 })
