use Rattle.std.proofs.Common.{◌≡◌, ◌≤◌, ◌+◌, ◌-◌, ◌∙◌, ◌++◌, ◌∷◌, [], ℕ, length, take, drop, sym, ap, subst, arith, rules}
use Rattle.col_set.specs.ColSet.{report_cmp}
use Rattle.col_set.specs.Lists.{Rises}
use Rattle.candidate_cover.specs.Marks.{fresh_mark}
use Rattle.candidate_cover.specs.Pairs.{pairs_of, AreEven, keys}
use Rattle.candidate_cover.specs.Place.{Stands, Lacks}
use Rattle.candidate_cover.proofs.Flat.{keys-pairs, length-pairs}
use Rattle.candidate_cover.proofs.Toggling.{Toggling, rest_keys, rest_rises, stands_fits, lacks_fits, toggling_stands, toggling_lacks, toggling_all}
use Rattle.candidate_cover.proofs.cand_list.Lists.toggled.Goals as goal
use Rattle.candidate_cover.proofs.cand_list.Lists.toggled.Goals.{in-Ok+in_ok-push_run-in-Ok, in-Err+in_ok-push_run-in-Err+in_ok-push-in-Err}

pub place_of-requires : goal.place_of-requires
place_of-requires c =
    let ps = pairs_of c.args.self.now.sets.items c.args.self.now.uptos.items c.args.self.now.helds.items in
    subst (Rises report_cmp) (sym (ap (λ xs. take (length xs - c.loop-x.rest) (drop c.loop-x.rest xs)) c.deref.ensures.value ∙ rest_keys ps c.args.self.now.sets.items c.loop-x.rest (keys-pairs c.args.self.now.sets.items c.args.self.now.uptos.items c.args.self.now.helds.items c.requires.even) c.loop-x.invariant.within))
    (rest_rises ps c.loop-x.rest c.requires.order)

pub loop-x-preserved : goal.loop-x-preserved
loop-x-preserved c =
    let ps = pairs_of c.args.self.now.sets.items c.args.self.now.uptos.items c.args.self.now.helds.items in
    let xs = c.args.self.now.sets.items in
    let r = c.loop-x.rest in
    let known : keys ps ≡ xs = keys-pairs c.args.self.now.sets.items c.args.self.now.uptos.items c.args.self.now.helds.items c.requires.even in
    let slice : take (length c.deref.result.now - r) (drop r c.deref.result.now) ≡ keys (drop r ps)
    = ap (λ ys. take (length ys - r) (drop r ys)) c.deref.ensures.value ∙ rest_keys ps xs r known c.loop-x.invariant.within in
    elim c.match-place_of.branch [
      | in-Ok+in_ok-push_run-in-Ok w ↦
          let k = w.in-Ok.run' in
          let s : Stands (keys (drop r ps)) c.x-item.result k = subst (λ ys. Stands ys c.x-item.result k) slice w.in-Ok.ensures in
          let run : r + k - r ≡ k = omega arith in
          record {
            within = subst (λ (n : ℕ). n ≤ length xs) (sym w.rest-is) (stands_fits ps xs r k c.x-item.result known c.loop-x.invariant.within s);
            even = subst (λ m. AreEven m.sets.items m.uptos.items m.helds.items) (sym w.made-is) w.in_ok-push_run-in-Ok.ensures.even;
            whole = subst (λ us. Toggling ps c.args.sets.now fresh_mark (c.loop-x.x-index + 1) us c.match-place_of.rest)
                (sym (ap (λ m. pairs_of m.sets.items m.uptos.items m.helds.items) w.made-is ∙ w.in_ok-push_run-in-Ok.ensures.pairs ∙ ap (λ (n : ℕ). pairs_of c.loop-x.made.sets.items c.loop-x.made.uptos.items c.loop-x.made.helds.items ++ take n (drop r ps)) run))
                (toggling_stands ps c.args.sets.now fresh_mark c.loop-x.x-index c.x-item.result c.loop-x-test.true c.x-item.is (pairs_of c.loop-x.made.sets.items c.loop-x.made.uptos.items c.loop-x.made.helds.items) r c.loop-x.invariant.whole k c.match-place_of.rest s w.rest-is);
          }
      | in-Err+in_ok-push_run-in-Err+in_ok-push-in-Err w ↦
          let k = w.in-Err.run' in
          let s : Lacks (keys (drop r ps)) c.x-item.result k = subst (λ ys. Lacks ys c.x-item.result k) slice w.in-Err.ensures in
          let run : r + k - r ≡ k = omega arith in
          record {
            within = subst (λ (n : ℕ). n ≤ length xs) (sym w.rest-is) (lacks_fits ps xs r k c.x-item.result known c.loop-x.invariant.within s);
            even = subst (λ m. AreEven m.sets.items m.uptos.items m.helds.items) (sym w.made-is) w.in_ok-push-in-Err.ensures.even;
            whole = subst (λ us. Toggling ps c.args.sets.now fresh_mark (c.loop-x.x-index + 1) us c.match-place_of.rest)
                (sym (ap (λ m. pairs_of m.sets.items m.uptos.items m.helds.items) w.made-is ∙ w.in_ok-push-in-Err.ensures.pairs
                ∙ ap (λ us. us ++ (c.x-item.result, w.fresh.result) ∷ []) (w.in_ok-push_run-in-Err.ensures.pairs ∙ ap (λ (n : ℕ). pairs_of c.loop-x.made.sets.items c.loop-x.made.uptos.items c.loop-x.made.helds.items ++ take n (drop r ps)) run)
                ∙ ap (λ m. (pairs_of c.loop-x.made.sets.items c.loop-x.made.uptos.items c.loop-x.made.helds.items ++ take k (drop r ps)) ++ (c.x-item.result, m) ∷ []) w.fresh.ensures))
                (toggling_lacks ps c.args.sets.now fresh_mark c.loop-x.x-index c.x-item.result c.loop-x-test.true c.x-item.is (pairs_of c.loop-x.made.sets.items c.loop-x.made.uptos.items c.loop-x.made.helds.items) r c.loop-x.invariant.whole k c.match-place_of.rest s w.rest-is);
          }
    ]

pub returns-clause-pairs : goal.returns-clause-pairs
returns-clause-pairs c =
    let ps = pairs_of c.args.self.now.sets.items c.args.self.now.uptos.items c.args.self.now.helds.items in
    let count : length c.args.self.now.sets.items ≡ c.len-2.result = search rules in
    c.in_ok-push_run.ensures.pairs
    ∙ toggling_all ps c.args.sets.now fresh_mark c.loop-x.x-index (pairs_of c.loop-x.made.sets.items c.loop-x.made.uptos.items c.loop-x.made.helds.items) c.loop-x.rest c.len-2.result c.loop-x-test.false
    (length-pairs c.args.self.now.sets.items c.args.self.now.uptos.items c.args.self.now.helds.items c.requires.even ∙ count) (subst (λ (n : ℕ). c.loop-x.rest ≤ n) count c.loop-x.invariant.within) c.loop-x.invariant.whole
