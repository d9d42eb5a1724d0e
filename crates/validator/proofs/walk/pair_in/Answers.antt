use Rattle.std.proofs.Common.{◌≡◌, ◌≢◌, ◌<◌, ◌≤◌, ◌+◌, ◌-◌, ℕ, List, length, get_or, set, cond, leb, true, false, sym, ap, ◌∙◌, subst, subst₂, arith, Option, Vec, Global}
use Rattle.std.specs.List.{All}
use Rattle.std.proofs.lemmas.List.{get_or_read}
use Rattle.col_set.specs.declared.target.Target.{Target}
use Rattle.col_set.specs.Lists.{Listed}
use Rattle.col_set.specs.Target.{has_target}
use Rattle.col_set.proofs.Places.{Climbs-increasing}
use Rattle.rel_base.specs.CodeTable.{CodeTable}
use Rattle.rel_base.proofs.States.{All-listed}
use Rattle.rel_base.specs.Shows.{code_agree}
use Rattle.std.specs.List.Sorted.{IsStrictlyIncreasing}
use Rattle.validator.specs.Lists.{keys_of}
use Rattle.validator.specs.Walk.{key, IsApart, IsClearBut}
use Rattle.validator.proofs.Leads.{Walked, walked_new, walked_old, walked_apart, walked_clear, walked_few, newer}
use Rattle.validator.proofs.Targets.{key_read}
use Rattle.validator.proofs.walk.pair_in.Goals as goal
use Rattle.validator.proofs.walk.pair_in.Goals.{then-first-eq0, else-first-eq0+else-are_apart}

positive : (group : List ℕ) → All (λ (row : ℕ). 0 < row) group → (i : ℕ) → Listed i group → 0 < i
positive group all i h = All-listed (λ (row : ℕ). 0 < row) i group all h

-- the row at hand, its slot and what stands there
slot_is : (s : CodeTable) (by : Option ℕ) (group : List ℕ) (k row slot : ℕ) → row ≡ get_or group k 0 → slot ≡ key s by row → slot ≡ key s by (get_or group k 0)
slot_is s by group k row slot x e = e ∙ ap (key s by) x

above : (first slot : ℕ) (room : List ℕ) → first ≡ get_or room slot 0 → first ≢ 0 → 0 < get_or room slot 0
above first slot room e ne = omega arith

module _ (s : CodeTable) (by : Option ℕ) (t : Target) (from : ℕ) (group : List ℕ) (k : ℕ) (slots room : List ℕ) (steps start slot row first : ℕ)
    (l : k < length group) (p : Walked s by t from group k slots steps start) (kept : (c : ℕ) → get_or room c 0 ≡ get_or slots c 0)
    (x : row ≡ get_or group k 0) (keys : List ℕ) (are : keys ≡ keys_of s by) (read : slot ≡ get_or keys (row - 1) 0) (f : first ≡ get_or room slot 0) where
  at : slot ≡ key s by (get_or group k 0)
  at = slot_is s by group k row slot x (key_read s by keys row slot are read)

  apart : (other : ℕ) → IsStrictlyIncreasing group → first ≢ 0 → other ≡ first → has_target (code_agree s other row) t ≡ false → IsApart s by t group other row
  apart other up ne e d =
      subst₂ (λ (i j : ℕ). IsApart s by t group i j) (sym (e ∙ f)) (sym x)
      (walked_apart s by t from group k slots room steps start slot l p kept at (Climbs-increasing group up) (above first slot room f ne)
      (subst₂ (λ (i j : ℕ). has_target (code_agree s i j) t ≡ false) (e ∙ f) x d))

  clear : IsClearBut s by group room
  clear = walked_clear s by t from group k slots room steps start slot l p kept at

  few : (after : ℕ) → after ≤ steps + cond (leb from row) 1 0 → after ≤ start + newer from group
  few after n = walked_few s by t from group k slots room steps start slot l p kept at after (subst (λ (i : ℕ). after ≤ steps + cond (leb from i) 1 0) x n)

  new : All (λ (i : ℕ). 0 < i) group → slot < length room → first ≡ 0 → (after : List ℕ) (number ticks : ℕ) → number ≡ row → after ≡ set room slot number → ticks ≡ steps → Walked s by t from group (k + 1) after ticks start
  new pos m z after number ticks n e q =
      subst (λ (i : ℕ). Walked s by t from group (k + 1) after i start) (sym q)
      (walked_new s by t from group k slots room steps start slot l p kept at (positive group pos) m (sym f ∙ z) after (e ∙ ap (set room slot) (n ∙ x)))

  old : first ≢ 0 → (other after : ℕ) → other ≡ first → (from ≤ row → has_target (code_agree s other row) t ≡ true) → after ≤ steps + cond (leb from row) 1 0
      → (end : List ℕ) (ticks : ℕ) → end ≡ room → ticks ≡ after → Walked s by t from group (k + 1) end ticks start
  old ne other after e told n end ticks g q =
      subst₂ (λ (xs : List ℕ) (i : ℕ). Walked s by t from group (k + 1) xs i start) (sym g) (sym q)
      (walked_old s by t from group k slots room steps start slot l p kept at (above first slot room f ne)
      (subst₂ (λ (i j : ℕ). from ≤ j → has_target (code_agree s i j) t ≡ true) (e ∙ f) x told) after (subst (λ (i : ℕ). after ≤ steps + cond (leb from i) 1 0) x n))

pub returns-then-are_apart-clause-pair : goal.returns-then-are_apart-clause-pair
returns-then-are_apart-clause-pair g c =
    let m : c.code-slot.result < length c.reach.new.slots.items = (let r = c.in_ok-reach.ensures.room in omega (arith, c.reach.new.slots.ok.0)) in
    apart c.args.snapshot.now c.args.question.now.by c.args.question.now.target c.args.question.now.from c.args.group.now c.loop-row.row-index c.loop-row.slots.items c.reach.new.slots.items c.loop-row.steps c.args.steps.now
    c.code-slot.result c.row-item.result c.index-first.result.now c.loop-row-test.true c.loop-row.invariant c.reach.ensures.kept
    (get_or_read c.args.group.now c.loop-row.row-index c.row-item.result c.loop-row-test.true c.row-item.is 0) c.args.lists.now.keys c.requires.lists.keys c.code-slot.ensures
    (get_or_read c.reach.new.slots.items c.code-slot.result c.index-first.result.now m c.index-first.ensures 0)
    c.of-then-are_apart.result c.requires.rising c.if-first-eq0.false c.of-then-are_apart.ensures
    (subst (λ (i : ℕ). has_target (code_agree c.args.snapshot.now i c.row-item.result) c.args.question.now.target ≡ false) (c.of.ensures ∙ sym c.of-then-are_apart.ensures) (c.are_apart.ensures.apart c.args.snapshot.now c.requires.target c.requires.lists.targets c.if-are_apart.true))

pub returns-then-are_apart-clause-clear : goal.returns-then-are_apart-clause-clear
returns-then-are_apart-clause-clear g c =
    let m : c.code-slot.result < length c.reach.new.slots.items = (let r = c.in_ok-reach.ensures.room in omega (arith, c.reach.new.slots.ok.0)) in
    clear c.args.snapshot.now c.args.question.now.by c.args.question.now.target c.args.question.now.from c.args.group.now c.loop-row.row-index c.loop-row.slots.items c.reach.new.slots.items c.loop-row.steps c.args.steps.now
    c.code-slot.result c.row-item.result c.index-first.result.now c.loop-row-test.true c.loop-row.invariant c.reach.ensures.kept
    (get_or_read c.args.group.now c.loop-row.row-index c.row-item.result c.loop-row-test.true c.row-item.is 0) c.args.lists.now.keys c.requires.lists.keys c.code-slot.ensures
    (get_or_read c.reach.new.slots.items c.code-slot.result c.index-first.result.now m c.index-first.ensures 0)

pub returns-then-are_apart-clause-steps : goal.returns-then-are_apart-clause-steps
returns-then-are_apart-clause-steps g c =
    let m : c.code-slot.result < length c.reach.new.slots.items = (let r = c.in_ok-reach.ensures.room in omega (arith, c.reach.new.slots.ok.0)) in
    few c.args.snapshot.now c.args.question.now.by c.args.question.now.target c.args.question.now.from c.args.group.now c.loop-row.row-index c.loop-row.slots.items c.reach.new.slots.items c.loop-row.steps c.args.steps.now
    c.code-slot.result c.row-item.result c.index-first.result.now c.loop-row-test.true c.loop-row.invariant c.reach.ensures.kept
    (get_or_read c.args.group.now c.loop-row.row-index c.row-item.result c.loop-row-test.true c.row-item.is 0) c.args.lists.now.keys c.requires.lists.keys c.code-slot.ensures
    (get_or_read c.reach.new.slots.items c.code-slot.result c.index-first.result.now m c.index-first.ensures 0)
    c.are_apart.new.steps c.are_apart.ensures.steps

pub loop-row-preserved : goal.loop-row-preserved
loop-row-preserved g c =
    let m : c.code-slot.result < length c.reach.new.slots.items = (let r = c.in_ok-reach.ensures.room in omega (arith, c.reach.new.slots.ok.0)) in
    let x = get_or_read c.args.group.now c.loop-row.row-index c.row-item.result c.loop-row-test.true c.row-item.is 0 in
    let f = get_or_read c.reach.new.slots.items c.code-slot.result c.index-first.result.now m c.index-first.ensures 0 in
    elim c.if-first-eq0.branch [
      | then-first-eq0 w ↦
          new c.args.snapshot.now c.args.question.now.by c.args.question.now.target c.args.question.now.from c.args.group.now c.loop-row.row-index c.loop-row.slots.items c.reach.new.slots.items c.loop-row.steps c.args.steps.now
          c.code-slot.result c.row-item.result c.index-first.result.now c.loop-row-test.true c.loop-row.invariant c.reach.ensures.kept x c.args.lists.now.keys c.requires.lists.keys c.code-slot.ensures f
          c.requires.positive m w.if-first-eq0.true c.if-first-eq0.slots.items w.number.result c.if-first-eq0.steps w.number.ensures.value (ap (λ (v : Vec ℕ Global). v.items) w.slots-is) w.steps-is
      | else-first-eq0+else-are_apart w ↦
          old c.args.snapshot.now c.args.question.now.by c.args.question.now.target c.args.question.now.from c.args.group.now c.loop-row.row-index c.loop-row.slots.items c.reach.new.slots.items c.loop-row.steps c.args.steps.now
          c.code-slot.result c.row-item.result c.index-first.result.now c.loop-row-test.true c.loop-row.invariant c.reach.ensures.kept x c.args.lists.now.keys c.requires.lists.keys c.code-slot.ensures f
          w.if-first-eq0.false w.of.result w.are_apart.new.steps w.of.ensures (w.are_apart.ensures.alike c.args.snapshot.now c.requires.target c.requires.lists.targets w.if-are_apart.false) w.are_apart.ensures.steps
          c.if-first-eq0.slots.items c.if-first-eq0.steps (ap (λ (v : Vec ℕ Global). v.items) w.slots-is) w.steps-is
    ]
