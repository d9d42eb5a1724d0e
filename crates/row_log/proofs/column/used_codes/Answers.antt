use Rattle.std.proofs.Common.{rules, ◌≡◌, ◌∙◌, ◌++◌, ◌+◌, ◌<◌, ℕ, ap, ap₂, sym, subst, arith, true, false, replicate, length, get_or, set, List, Bool, Vec, Global, vec_len}
use Rattle.std.proofs.lemmas.List.{length-replicate, length-set, with_items_is}
use Rattle.rel_base.specs.LentCodes.{lent}
use Rattle.row_log.specs.Distinct.{AreUsed, unmarked}
use Rattle.row_log.proofs.Distinct.{AreUsed-none, AreUsed-all, AreUsed-more, AreUsed-skip, unmarked-none}
use Rattle.row_log.proofs.column.used_codes.Goals as goal
use Rattle.row_log.proofs.column.used_codes.Goals.{then-flag, else-flag}

pub loop-place-init : goal.loop-place-init
loop-place-init c =
    let none : c.in_ok-used.used.items ≡ replicate c.args.count false = search rules in
    (ap length none ∙ length-replicate c.args.count false, AreUsed-none c.args.flags.now (lent c.args.older ++ c.args.own.now) c.in_ok-used.used.items c.args.count none, unmarked-none c.in_ok-used.used.items c.args.count none)

pub returns-then-left-eq0-clause-used : goal.returns-then-left-eq0-clause-used
returns-then-left-eq0-clause-used c =
    let l = c.loop-place-test.true in
    let m = c.requires.long in
    let n = c.loop-place.invariant.0 in
    AreUsed-all c.args.flags.now (lent c.args.older ++ c.args.own.now) c.loop-place.place _ c.loop-place.used.items c.loop-place.invariant.1 (omega (arith, l, m))
    (λ i k. let w = c.requires.known i k in omega (arith, w, n)) (sym c.loop-place.invariant.2 ∙ c.if-left-eq0.true)

pub loop-place-preserved : goal.loop-place-preserved
loop-place-preserved c =
    let codes = lent c.args.older ++ c.args.own.now in
    let old = c.loop-place.used in
    let i = c.loop-place.place in
    let n = c.loop-place.invariant.0 in
    let l = c.loop-place-test.true in
    let m = c.requires.long in
    elim c.if-flag.branch [
      | then-flag w ↦
          let made : w.mark-left.new.used ≡ set old.items (get_or codes i 0) true = w.mark-left.ensures.used ∙ ap₂ (λ (us : List Bool) (k : ℕ). set us k true) w.deref_mut.ensures.value w.code_in.ensures in
          let same : length w.mark-left.new.used ≡ length old.items = ap length made ∙ length-set old.items (get_or codes i 0) true in
          let whole : length old.items ≡ vec_len old = sym old.ok.0 in
          let back : c.if-flag.used.items ≡ w.mark-left.new.used = ap (λ (v : Vec Bool Global). v.items) w.used-is ∙ with_items_is old w.mark-left.new.used (same ∙ whole) in
          let within : get_or codes i 0 < length old.items = let k = c.requires.known i (omega (arith, l, m)) in omega (arith, k, n) in (
            ap length back ∙ same ∙ n,
            subst (AreUsed c.args.flags.now codes (i + 1)) (sym (back ∙ made)) (AreUsed-more c.args.flags.now codes i old.items c.loop-place.invariant.1 within w.if-flag.true),
            w.left-is ∙ w.mark-left.ensures.left ∙ ap unmarked (sym back),
          )
      | else-flag w ↦ (
        ap (λ (v : Vec Bool Global). length v.items) w.used-is ∙ n,
        subst (λ (v : Vec Bool Global). AreUsed c.args.flags.now codes (i + 1) v.items) (sym w.used-is) (AreUsed-skip c.args.flags.now codes i old.items c.loop-place.invariant.1 w.if-flag.false),
        w.left-is ∙ c.loop-place.invariant.2 ∙ ap (λ (v : Vec Bool Global). unmarked v.items) (sym w.used-is),
      )
    ]
