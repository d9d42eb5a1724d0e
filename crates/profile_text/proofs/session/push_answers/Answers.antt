use Rattle.std.proofs.Common.{◌++◌, ◌+◌, ℕ, List, drop, refl, ap, subst}
use Rattle.std.proofs.lemmas.List.{drop_all}
use Rattle.profile_text.specs.declared.session.Asked.{Asked}
use Rattle.profile_text.specs.declared.session.Asked.TheVariants.{Sound, Faulty}
use Rattle.profile_text.specs.Session.{answers}
use Rattle.profile_text.specs.Waiting.{waiting, AreTold}
use Rattle.profile_text.proofs.Waits.{IsTelling, from_place, next_reply, no_reply, telling-faulty, telling-none, telling-same, telling-sound}
use Rattle.profile_text.proofs.session.push_answers.Goals as goal
use Rattle.profile_text.proofs.session.push_answers.Goals.{in-Sound+in-Some+in_ok-live-in-Sound, in-Faulty+in_ok-push_refused_line-in-Faulty}

pub loop-one-init : goal.loop-one-init
loop-one-init c r batches t = record { r = r; batches = batches; told = t; text = λ name. refl }

pub unreachable-requires : goal.unreachable-requires
unreachable-requires c =
    let t = c.loop-one.invariant c.requires.0 c.requires.1 c.requires.2 in
    let rest : List Asked = drop (c.loop-one.one-index + 1) c.args.asked.now in
    no_reply t.r t.batches c.in-Sound.no c.in-Sound.first rest c.loop-one.left.now c.loop-one.live
    (subst (λ (these : List Asked). AreTold t.r t.batches these c.loop-one.left.now c.loop-one.live) (from_place c.args.asked.now c.loop-one.one-index (Sound 0 0) (Sound c.in-Sound.no c.in-Sound.first) c.loop-one-test.true c.in-Sound.is) t.told)
    c.in_default.ensures.cases

pub push_answer-requires : goal.push_answer-requires
push_answer-requires c =
    let t = c.loop-one.invariant c.requires.0 c.requires.1 c.requires.2 in
    let rest : List Asked = drop (c.loop-one.one-index + 1) c.args.asked.now in
    let n = next_reply t.r t.batches c.in-Sound.no c.in-Sound.first rest c.loop-one.left.now c.in-Some.reply.now c.in-Some.later.now c.loop-one.live
    (subst (λ (these : List Asked). AreTold t.r t.batches these c.loop-one.left.now c.loop-one.live) (from_place c.args.asked.now c.loop-one.one-index (Sound 0 0) (Sound c.in-Sound.no c.in-Sound.first) c.loop-one-test.true c.in-Sound.is) t.told)
    c.in-Some.ensures.cases.0 in
    (t.r, n.ops, n.reply_is)

pub loop-one-preserved : goal.loop-one-preserved
loop-one-preserved c r batches t =
    let whole : List ℕ → List ℕ = λ name. c.args.lines.now ++ answers name r (waiting c.args.asked.now batches) in
    let rest : List Asked = drop (c.loop-one.one-index + 1) c.args.asked.now in
    let so_far = c.loop-one.invariant r batches t in
    elim c.match-one.branch [
      | in-Sound+in-Some+in_ok-live-in-Sound w ↦
          telling-same rest w.in-Some.later.now c.match-one.left.now w.in_ok-live-in-Sound.live c.match-one.live w.push_answer.new.lines c.match-one.lines whole (ap (λ b. b.now) w.left-is) w.live-is w.lines-is
          (telling-sound w.in-Sound.no w.in-Sound.first rest c.loop-one.left.now w.in-Some.reply.now w.in-Some.later.now c.loop-one.live w.in_ok-live-in-Sound.live c.loop-one.lines w.push_answer.new.lines whole
          w.in-Some.ensures.cases.0 w.in_ok-live-in-Sound.ensures.text w.in_ok-live-in-Sound.ensures.live
          (subst (λ (these : List Asked). IsTelling these c.loop-one.left.now c.loop-one.live c.loop-one.lines whole) (from_place c.args.asked.now c.loop-one.one-index (Sound 0 0) (Sound w.in-Sound.no w.in-Sound.first) c.loop-one-test.true w.in-Sound.is) so_far))
      | in-Faulty+in_ok-push_refused_line-in-Faulty w ↦
          telling-same rest c.loop-one.left.now c.match-one.left.now c.loop-one.live c.match-one.live w.push_refused_line.new.self c.match-one.lines whole (ap (λ b. b.now) w.left-is) w.live-is w.lines-is
          (telling-faulty w.in-Faulty.no w.in-Faulty.rec w.in-Faulty.why rest c.loop-one.left.now c.loop-one.live c.loop-one.lines w.push_refused_line.new.self whole w.in_ok-push_refused_line-in-Faulty.ensures.ok
          (subst (λ (these : List Asked). IsTelling these c.loop-one.left.now c.loop-one.live c.loop-one.lines whole) (from_place c.args.asked.now c.loop-one.one-index (Sound 0 0) (Faulty w.in-Faulty.no w.in-Faulty.rec w.in-Faulty.why) c.loop-one-test.true w.in-Faulty.is) so_far))
    ]

pub returns : goal.returns
returns c r batches t name =
    telling-none (drop c.loop-one.one-index c.args.asked.now) c.loop-one.left.now c.loop-one.live c.loop-one.lines (λ name. c.args.lines.now ++ answers name r (waiting c.args.asked.now batches))
    (drop_all c.loop-one.one-index c.args.asked.now c.loop-one-test.false) (c.loop-one.invariant r batches t) name
