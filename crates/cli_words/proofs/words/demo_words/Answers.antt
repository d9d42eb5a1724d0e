use Rattle.std.proofs.Common.{refl}
use Rattle.std.proofs.lemmas.Result.{IfOk-weaker}
use Rattle.clap.specs.Simple.{new_app, with_rule}
use Rattle.cli_words.specs.Words.{seed_rule, workers_rule}
use Rattle.std.specs.Prelude.{codes}
use Rattle.cli_words.proofs.TheApp.{with_arg}
use Rattle.cli_words.proofs.words.demo_words.Goals as goal

pub returns : goal.returns
returns c =
    let one = with_arg c.new.result c.workers_option.result c.in_ok-arg.field-0 (new_app (codes "demo")) workers_rule c.in_ok-arg.ensures c.new.ensures.app c.workers_option.ensures refl in
    IfOk-weaker c.arg-2.result _ _
    (λ m adds. with_arg c.in_ok-arg.field-0 c.seed_word.result m (with_rule (new_app (codes "demo")) workers_rule) seed_rule adds one c.seed_word.ensures refl)
    c.arg-2.ensures
