use Rattle.std.proofs.Common.{◌≡◌, ◌≤◌, ◌<◌, ◌-◌, ◌∙◌, ◌++◌, ℕ, List, map, length, take, drop, refl, sym, ap, subst, arith, rules}
use Rattle.std.proofs.lemmas.Result.{on_ok_weaker}
use Rattle.std.proofs.lemmas.List.{take_all, length-drop, length-append}
use Rattle.col_set.specs.Lists.{Listed}
use Rattle.col_set.proofs.Places.{Listed-get_or}
use Rattle.least_sets.specs.declared.frames.Run.{Run}
use Rattle.least_sets.specs.Growth.{having}
use Rattle.least_sets.specs.Branches.{lacking, parts, IsEntered}
use Rattle.least_sets.proofs.Splitting.{slice_rest}
use Rattle.least_sets.proofs.Runs.{entered_none, entered_more, entered_next}
use Rattle.least_sets.proofs.frames.Frames.enter.Goals as goal

pub loop-place-init : goal.loop-place-init
loop-place-init g c =
    let own = c.args.self.now.own.items in
    let runs = c.args.self.now.runs.items in
    let none : c.args.runs_from - c.args.runs_from ≡ 0 = omega arith in (
      omega arith,
      refl,
      subst (λ (n : ℕ). IsEntered own runs (map (having c.args.column) (parts own (take n (drop c.args.runs_from runs)))) own runs) (sym none) (entered_none own own runs runs refl refl c.requires.within),
    )

pub push_run-requires-clause-within : goal.push_run-requires-clause-within
push_run-requires-clause-within g c =
    let h = c.loop-place.invariant.2 in
    let i : c.loop-place.place < length c.args.self.now.runs.items = search rules in
    let l : c.loop-place.place < length c.loop-place.self.runs.items = omega (arith, i, ap length h.runs_is, length-append c.args.self.now.runs.items h.new) in
    h.within.each c.index-run.result.now (subst (λ (q : Run). Listed q c.loop-place.self.runs.items) (sym c.index-run.ensures) (Listed-get_or c.loop-place.self.runs.items c.loop-place.place c.index-run.result.now l))

pub loop-place-preserved : goal.loop-place-preserved
loop-place-preserved g c =
    let a = c.loop-place.invariant.0 in
    let l : c.loop-place.place < length c.args.self.now.runs.items = search rules in (
      omega (arith, a),
      c.loop-place.invariant.1,
      entered_next c.args.column c.args.self.now.own.items c.args.self.now.runs.items c.args.runs_from c.loop-place.place c.loop-place.self.own.items c.loop-place.self.runs.items c.index-run.result.now c.push_run.new.own.items c.push_run.new.runs.items
          (record { start = length c.loop-place.self.own.items; stop = length c.push_run.new.own.items }) c.requires.within a l c.index-run.ensures c.in_ok-push_run.ensures.own c.in_ok-push_run.ensures.runs refl refl c.loop-place.invariant.2,
    )

pub returns-clause-own : goal.returns-clause-own
returns-clause-own g c = on_ok_weaker c.push_having.result (λ _.
    let own = c.args.self.now.own.items in
    let runs = c.args.self.now.runs.items in
    let xs = c.args.self.now.pending.items in
    let rf = c.args.runs_from in
    let k = c.args.column in
    let l : length runs ≤ c.loop-place.place = search rules in
    let all : take (c.loop-place.place - rf) (drop rf runs) ≡ drop rf runs = take_all (c.loop-place.place - rf) (drop rf runs) (omega (arith, length-drop rf runs, l)) in
    let h : IsEntered own runs (map (having k) (parts own (drop rf runs))) c.loop-place.self.own.items c.loop-place.self.runs.items
    = subst (λ (rs : List Run). IsEntered own runs (map (having k) (parts own rs)) c.loop-place.self.own.items c.loop-place.self.runs.items) all c.loop-place.invariant.2 in
    entered_more own runs (map (having k) (parts own (drop rf runs))) c.loop-place.self.own.items c.loop-place.self.runs.items (lacking k (drop c.args.pending_from xs)) c.push_lacking.new.found.items c.push.new.self.items
    (record { start = c.len-start.result; stop = c.len-stop.result }) h
    (c.in_ok-push_lacking.ensures ∙ ap (λ (vs : List ℕ). c.loop-place.self.own.items ++ lacking k vs) (slice_rest c.deref.result.now xs c.args.pending_from (c.deref.ensures.value ∙ c.loop-place.invariant.1)))
    c.in_ok-push.ensures.items (c.len-start.ensures ∙ c.loop-place.self.own.ok.0) (c.len-stop.ensures ∙ c.push_lacking.new.found.ok.0)
    ) c.push_having.ensures
