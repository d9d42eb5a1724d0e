use Rattle.std.proofs.Common.{◌≡◌, sym, subst, ℕ, List, Some}
use Rattle.std.specs.Prelude.{IfOk, IsSomeAnd}
use Rattle.rel_base.specs.declared.limits.Limits.{Limits}
use Rattle.rel_base.specs.declared.why.Why.{Why}
use Rattle.cli_words.specs.Command.{command, texts}
use Rattle.depprof.specs.Standard.{AtStandard}
use Rattle.profile_cli.specs.Ends.{IsWhole, OnSources}
use Rattle.profile_cli.specs.Outcomes.{IfRefused, OnDone}
use Rattle.profile_cli.specs.Output.{SomeOutput, refusal}
use Rattle.profile_cli.specs.Task.{task_of}
use Rattle.profile_cli.proofs.Ends.{IfRefused-map, OnDone-map}
use Rattle.depprof.proofs.program.ended.Goals as goal

pub returns-in-Ok-clause-done : goal.returns-in-Ok-clause-done
returns-in-Ok-clause-done g c =
    let H = g.H.Shelf in
    let I = g.I.Source in
    let O = g.O.Sink in
    let Whole : Limits → Type 0 = λ limits. IsSomeAnd (command (texts c.in-Ok.words.items)) (λ request. OnSources (task_of request) (H.content c.args.shelf.now) (I.left c.args.input.now) (λ files bytes.
    SomeOutput (texts c.in-Ok.words.items) limits files bytes (λ o. (o.status ≡ 0) × IsWhole o.written (H.content c.args.shelf.now) (H.content c.run.new.shelf) (O.held c.args.out.now) (O.held c.run.new.out)))) in
    subst (λ words. IfOk words (λ ws. OnDone c.run.result (AtStandard (λ limits. IsSomeAnd (command (texts ws.items)) (λ request. OnSources (task_of request) (H.content c.args.shelf.now) (I.left c.args.input.now) (λ files bytes.
    SomeOutput (texts ws.items) limits files bytes (λ o. (o.status ≡ 0) × IsWhole o.written (H.content c.args.shelf.now) (H.content c.run.new.shelf) (O.held c.args.out.now) (O.held c.run.new.out)))))))) (sym c.in-Ok.is)
    (OnDone-map c.run.result (Whole c.standard.result) (AtStandard Whole)
    (λ k. record { limits = c.standard.result; columns = c.standard.ensures.columns; rows = c.standard.ensures.rows; cell = c.standard.ensures.cell; bytes = c.standard.ensures.bytes; fact = k }) c.run.ensures.done)

pub returns-in-Ok-clause-refused : goal.returns-in-Ok-clause-refused
returns-in-Ok-clause-refused g c =
    let H = g.H.Shelf in
    let I = g.I.Source in
    let Refused : List ℕ → ℕ → Why → Limits → Type 0 = λ file rec why limits. IsSomeAnd (command (texts c.in-Ok.words.items)) (λ request. OnSources (task_of request) (H.content c.args.shelf.now) (I.left c.args.input.now)
    (λ files bytes. refusal (task_of request) limits files bytes ≡ Some (file, rec, why))) in
    subst (λ words. IfOk words (λ ws. IfRefused c.run.result (λ file rec why. AtStandard (λ limits. IsSomeAnd (command (texts ws.items)) (λ request. OnSources (task_of request) (H.content c.args.shelf.now) (I.left c.args.input.now)
    (λ files bytes. refusal (task_of request) limits files bytes ≡ Some (file, rec, why))))))) (sym c.in-Ok.is)
    (IfRefused-map c.run.result (λ file rec why. Refused file rec why c.standard.result) (λ file rec why. AtStandard (Refused file rec why))
    (λ file rec why k. record { limits = c.standard.result; columns = c.standard.ensures.columns; rows = c.standard.ensures.rows; cell = c.standard.ensures.cell; bytes = c.standard.ensures.bytes; fact = k }) c.run.ensures.refused)
