use Rattle.std.proofs.Common.{◌≡◌, ◌∙◌, ℕ, List, true, false, sym, subst}
use Rattle.std.specs.Prelude.{IfOk}
use Rattle.profile_cli.specs.Ends.{OnMade, OnRead}
use Rattle.profile_cli.specs.Task.{task_of}
use Rattle.task_base.proofs.Facts.{IfOk-map, SameFaults-refl}
use Rattle.profile_cli.proofs.Ends.{OnRead-loaded, OnRead-unread, Runs-from, no_files}
use Rattle.profile_cli.proofs.Commands.{writes_none}
use Rattle.profile_cli.proofs.answering.answer.Goals as goal

pub returns-then-not-reads_input-clause-runs : goal.returns-then-not-reads_input-clause-runs
returns-then-not-reads_input-clause-runs g c =
    let H = g.H.Shelf in
    let I = g.I.Source in
    let O = g.O.Sink in
    let task = task_of c.args.request.now in
    let limits = c.args.means.now.limits in
    let rs = c.args.found.relations.items in
    let ts = c.args.found.texts.items in
    let left = I.left c.args.input.now in
    let made = c.made_of-made.result in
    let unread : task.reads_input ≡ false = sym c.reads_input.ensures ∙ c.if-not-reads_input.true in
    Runs-from (O.held c.args.out.now) (O.held c.write_made.new.out) (O.faults c.args.out.now) (O.faults c.write_made.new.out) H.write_faults H.write_last c.args.shelf.now c.args.shelf.now c.write_made.new.shelf
    (SameFaults-refl H.write_faults H.write_last c.args.shelf.now) (OnMade made) (OnRead task limits rs ts left) (λ P Q f p. OnRead-unread task limits rs ts left made P Q unread c.made_of-made.ensures f p)
    (H.content c.args.shelf.now) (H.content c.write_made.new.shelf) c.write_made.result c.write_made.ensures.runs

pub returns-then-not-reads_input-clause-no_files : goal.returns-then-not-reads_input-clause-no_files
returns-then-not-reads_input-clause-no_files g c none =
    let H = g.H.Shelf in
    let O = g.O.Sink in
    no_files (H.content c.args.shelf.now) (H.content c.write_made.new.shelf) (O.held c.args.out.now) (O.held c.write_made.new.out) (O.faults c.args.out.now) (O.faults c.write_made.new.out)
    H.write_faults H.write_last c.args.shelf.now c.write_made.new.shelf c.made_of-made.result c.write_made.result
    (IfOk-map c.made_of-made.result (λ w may. writes_none c.args.request.now c.args.means.now.limits _ w none may) c.made_of-made.ensures) c.write_made.ensures.runs

pub returns-in-Loaded-clause-runs : goal.returns-in-Loaded-clause-runs
returns-in-Loaded-clause-runs g c =
    let H = g.H.Shelf in
    let I = g.I.Source in
    let O = g.O.Sink in
    let task = task_of c.args.request.now in
    let limits = c.args.means.now.limits in
    let rs = c.args.found.relations.items in
    let ts = c.args.found.texts.items in
    let left = I.left c.args.input.now in
    let bytes : List ℕ = c.in-Loaded.bytes.items in
    let made = c.made_of-made-in-Loaded.result in
    let reads : task.reads_input ≡ true = sym c.reads_input.ensures ∙ c.if-not-reads_input.false in
    let known : IfOk made (task.writes limits (record { relations = rs; texts = ts; input = bytes })) =
    subst (λ (bs : List ℕ). IfOk made (task.writes limits (record { relations = rs; texts = ts; input = bs }))) c.as_slice.ensures.value c.made_of-made-in-Loaded.ensures in
    Runs-from (O.held c.args.out.now) (O.held c.write_made-in-Loaded.new.out) (O.faults c.args.out.now) (O.faults c.write_made-in-Loaded.new.out) H.write_faults H.write_last c.args.shelf.now c.args.shelf.now c.write_made-in-Loaded.new.shelf
    (SameFaults-refl H.write_faults H.write_last c.args.shelf.now) (OnMade made) (OnRead task limits rs ts left) (λ P Q f p. OnRead-loaded task limits rs ts left made P Q reads bytes c.in-Loaded.ensures.loads known f p)
    (H.content c.args.shelf.now) (H.content c.write_made-in-Loaded.new.shelf) c.write_made-in-Loaded.result c.write_made-in-Loaded.ensures.runs

pub returns-in-Loaded-clause-no_files : goal.returns-in-Loaded-clause-no_files
returns-in-Loaded-clause-no_files g c none =
    let H = g.H.Shelf in
    let O = g.O.Sink in
    no_files (H.content c.args.shelf.now) (H.content c.write_made-in-Loaded.new.shelf) (O.held c.args.out.now) (O.held c.write_made-in-Loaded.new.out) (O.faults c.args.out.now) (O.faults c.write_made-in-Loaded.new.out)
    H.write_faults H.write_last c.args.shelf.now c.write_made-in-Loaded.new.shelf c.made_of-made-in-Loaded.result c.write_made-in-Loaded.result
    (IfOk-map c.made_of-made-in-Loaded.result (λ w may. writes_none c.args.request.now c.args.means.now.limits _ w none may) c.made_of-made-in-Loaded.ensures) c.write_made-in-Loaded.ensures.runs
