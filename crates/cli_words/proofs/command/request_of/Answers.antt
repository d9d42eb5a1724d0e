use Rattle.std.proofs.Common.{◌∙◌, sym}
use Rattle.std.proofs.lemmas.Result.{IfOk-weaker}
use Rattle.clap.specs.Walk.{rows_of}
use Rattle.clap.specs.Matches.{found_of}
use Rattle.clap.specs.Simple.{app_of}
use Rattle.cli_words.specs.Command.{texts}
use Rattle.cli_words.proofs.Parse.{command-named, command-none, is_free-app, is_simple-app}
use Rattle.cli_words.proofs.Workers.{workers-found}
use Rattle.cli_words.proofs.command.request_of.Goals as goal

pub returns-in-Some-clause-command : goal.returns-in-Some-clause-command
returns-in-Some-clause-command c =
    let a = app_of c.in_ok-depprof_words.field-0 in
    let is = c.in_ok-depprof_words.ensures in
    let named = command-named a (texts c.args.words.now) c.in-Ok.matches is (c.in-Ok.ensures.kinds (is_free-app a is)) (c.in-Ok.ensures.matches (is_simple-app a is)).1
    c.in-Some.name.now (rows_of (found_of c.in-Some.found.now)) (sym c.in-Some.ensures.name) (sym c.in-Some.ensures.rows) in
    IfOk-weaker c.named.result _ _ (λ found e. e ∙ named) c.named.ensures

pub returns-in-Some-clause-workers : goal.returns-in-Some-clause-workers
returns-in-Some-clause-workers c = IfOk-weaker c.named.result _ _ (workers-found (texts c.args.words.now)) (returns-in-Some-clause-command c)

pub returns : goal.returns
returns c =
    let a = app_of c.in_ok-depprof_words.field-0 in
    let is = c.in_ok-depprof_words.ensures in
    record {
      command = command-none a (texts c.args.words.now) c.in-Err.error.kind is (c.in-Err.ensures.kinds (is_free-app a is)) (λ e. c.in_default.not-OutOfMemory (c.kind.ensures ∙ e));
      workers = tt;
    }
