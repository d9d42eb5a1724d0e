use Rattle.std.proofs.Common.{◌≡◌, ◌∙◌, ◌-◌, ◌++◌, ◌∷◌, [], ◌≤◌, not, true, ℕ, List, map, length, drop, take, refl, sym, ap, ap₂, subst, arith}
use Rattle.std.specs.List.{list_any}
use Rattle.std.specs.Option.{is_none}
use Rattle.std.proofs.lemmas.Bool.{true≢false}
use Rattle.std.proofs.lemmas.Result.{on_ok_weaker}
use Rattle.col_set.specs.ColSet.{IsSubset, has, with, without}
use Rattle.col_set.specs.Lists.{Listed}
use Rattle.col_set.specs.Subsets.{IsSubset-le, IsSubset-trans}
use Rattle.col_set.proofs.EachColumn.{without-lt}
use Rattle.least_sets.specs.declared.frames.Run.{Run}
use Rattle.least_sets.specs.Growth.{having}
use Rattle.least_sets.specs.Branches.{lacking, covered, parts, join, AreWithin, IsCut, IsOwned, HasBranched, HasEnded}
use Rattle.least_sets.proofs.Splitting.{slice_rest, no_shorter, new_end, old_front}
use Rattle.least_sets.proofs.Branches.{branch_done, branch_dead, branch_with, owned_with, cut_owned, cut_with, join_with, branch_on, branch_by, branch_last, branch_as, branched_as, ended_as, pruned_end, pruned_long, no_sets, some_sets}
use Rattle.least_sets.proofs.Runs.{runs_rest, within_rest, entered_long, entered_lists, entered_own, entered_runs}
use Rattle.least_sets.proofs.branching.+branch.Goals as goal

pub returns-then-is_empty-clause-found : goal.returns-then-is_empty-clause-found
returns-then-is_empty-clause-found g d c = λ ws cut b.
    let pending : List ℕ = drop c.args.pending_from c.args.frames.now.pending.items in
    let none : pending ≡ [] = sym (slice_rest c.deref.result.now c.args.frames.now.pending.items c.args.pending_from c.deref.ensures.value) ∙ no_sets _ (sym c.is_empty.ensures ∙ c.if-is_empty.true) in
    branch_done ws c.args.chosen c.args.free pending (join (parts c.args.frames.now.own.items (drop c.args.runs_from c.args.frames.now.runs.items))) b none c.args.found.now.items c.push.new.self.items c.in_ok-push.ensures.items

pub owned_columns-owned-requires : goal.owned_columns-owned-requires
owned_columns-owned-requires g d c =
    subst (λ (vs : List ℕ). AreWithin vs (take (length c.deref-2.result.now - c.args.runs_from) (drop c.args.runs_from c.deref-2.result.now))) (sym c.as_slice.ensures.value)
    (subst (AreWithin c.args.frames.now.own.items) (sym (runs_rest c.args.frames.now.runs.items c.deref-2.result.now c.args.runs_from c.deref-2.ensures.value)) (within_rest c.args.frames.now.own.items c.args.frames.now.runs.items c.args.runs_from c.requires.within))

pub push_past_sole-requires-clause-within : goal.push_past_sole-requires-clause-within
push_past_sole-requires-clause-within g d c =
    subst (λ (vs : List ℕ). AreWithin vs (take (length c.deref-in-Some-sole_having.result.now - c.args.runs_from) (drop c.args.runs_from c.deref-in-Some-sole_having.result.now))) (sym c.as_slice-own.ensures.value)
    (subst (AreWithin c.args.frames.now.own.items) (sym (runs_rest c.args.frames.now.runs.items c.deref-in-Some-sole_having.result.now c.args.runs_from c.deref-in-Some-sole_having.ensures.value)) (within_rest c.args.frames.now.own.items c.args.frames.now.runs.items c.args.runs_from c.requires.within))

pub branch-frames-requires : goal.branch-frames-requires
branch-frames-requires g d c κs w =
    let low : IsSubset c.in_ok-left.left c.args.free = IsSubset-trans c.in_ok-left.ensures.low c.owned_columns-owned.ensures.low in
    let a = without-lt c.in_ok-left.left c.in-Some.column (c.fewest_lacked.ensures.low.each c.in-Some.column c.in-Some.ensures.some) in
    let e = c.without-rest.ensures in
    let l = IsSubset-le {x = c.in_ok-left.left} {y = c.args.free} low in (
      omega (arith, a, e, l),
      (
        w,
        (
          pruned_long c.args.pending_from c.args.frames.now.pending.items c.args.frames.now.pending.items c.prune.new.self.pending.items _ c.requires.pending_from refl c.in_ok-prune-in-Some.ensures.pending,
          (
            subst (λ (rs : List Run). c.args.runs_from ≤ length rs) (sym c.in_ok-prune-in-Some.ensures.runs) c.requires.runs_from,
            subst (λ (vs : List ℕ). AreWithin vs c.prune.new.self.runs.items) (sym c.in_ok-prune-in-Some.ensures.own)
                (subst (AreWithin c.args.frames.now.own.items) (sym c.in_ok-prune-in-Some.ensures.runs) c.requires.within),
          ),
        ),
      ),
    )

pub branch-frames-requires-in-Some : goal.branch-frames-requires-in-Some
branch-frames-requires-in-Some g d c κs w =
    let low : IsSubset c.in_ok-left.left c.args.free = IsSubset-trans c.in_ok-left.ensures.low c.owned_columns-owned.ensures.low in
    let a = without-lt c.in_ok-left.left c.in-Some.column (c.fewest_lacked.ensures.low.each c.in-Some.column c.in-Some.ensures.some) in
    let e = c.without-rest.ensures in
    let l = IsSubset-le {x = c.in_ok-left.left} {y = c.args.free} low in
    let h = c.in_ok-enter-in-Some.ensures.own in (
      omega (arith, a, e, l),
      (
        w,
        (
          no_shorter c.args.frames.now.pending.items _ c.enter.new.self.pending.items c.len-pending_end.result c.in_ok-enter-in-Some.ensures.pending (c.len-pending_end.ensures ∙ c.args.frames.now.pending.ok.0),
          (
            entered_long c.args.frames.now.own.items c.args.frames.now.runs.items _ c.enter.new.self.own.items c.enter.new.self.runs.items h c.len-runs_end.result (c.len-runs_end.ensures ∙ c.args.frames.now.runs.ok.0),
            h.within,
          ),
        ),
      ),
    )

pub branch-frames-requires-in-Some-2 : goal.branch-frames-requires-in-Some-2
branch-frames-requires-in-Some-2 g d c κs w =
    let low : IsSubset c.in_ok-left.left c.args.free = IsSubset-trans c.in_ok-left.ensures.low c.owned_columns-owned.ensures.low in
    let a = without-lt c.in_ok-left.left c.in-Some.column (c.fewest_lacked.ensures.low.each c.in-Some.column c.in-Some.ensures.some) in
    let e = c.without-rest.ensures in
    let l = IsSubset-le {x = c.in_ok-left.left} {y = c.args.free} low in
    let h = c.in_ok-enter-in-Some.ensures.own in
    let same_pending : c.branch-frames-in-Some.new.frames.pending.items ≡ c.args.frames.now.pending.items
    = c.in_ok-branch-in-Some.ensures.pending ∙ old_front c.args.frames.now.pending.items _ c.enter.new.self.pending.items c.len-pending_end.result c.in_ok-enter-in-Some.ensures.pending (c.len-pending_end.ensures ∙ c.args.frames.now.pending.ok.0) in
    let same_own : c.truncate-in-Some.new.self.items ≡ c.args.frames.now.own.items
    = c.truncate-in-Some.ensures.items ∙ ap (take c.len-own_end.result) c.in_ok-branch-in-Some.ensures.own
    ∙ entered_own c.args.frames.now.own.items c.args.frames.now.runs.items _ c.enter.new.self.own.items c.enter.new.self.runs.items h c.len-own_end.result (c.len-own_end.ensures ∙ c.args.frames.now.own.ok.0) in
    let same_runs : c.truncate-in-Some-2.new.self.items ≡ c.args.frames.now.runs.items
    = c.truncate-in-Some-2.ensures.items ∙ ap (take c.len-runs_end.result) c.in_ok-branch-in-Some.ensures.runs
    ∙ entered_runs c.args.frames.now.own.items c.args.frames.now.runs.items _ c.enter.new.self.own.items c.enter.new.self.runs.items h c.len-runs_end.result (c.len-runs_end.ensures ∙ c.args.frames.now.runs.ok.0) in (
      omega (arith, a, e, l),
      (
        w,
        (
          pruned_long c.args.pending_from c.args.frames.now.pending.items c.branch-frames-in-Some.new.frames.pending.items c.prune-in-Some.new.self.pending.items _ c.requires.pending_from same_pending c.in_ok-prune-in-Some-2.ensures.pending,
          (
            subst (λ (rs : List Run). c.args.runs_from ≤ length rs) (sym (c.in_ok-prune-in-Some-2.ensures.runs ∙ same_runs)) c.requires.runs_from,
            subst (λ (vs : List ℕ). AreWithin vs c.prune-in-Some.new.self.runs.items) (sym (c.in_ok-prune-in-Some-2.ensures.own ∙ same_own))
                (subst (AreWithin c.args.frames.now.own.items) (sym (c.in_ok-prune-in-Some-2.ensures.runs ∙ same_runs)) c.requires.within),
          ),
        ),
      ),
    )

pub returns-then-is_last-clause-found : goal.returns-then-is_last-clause-found
returns-then-is_last-clause-found g d c = λ ws cut b.
    let pending : List ℕ = drop c.args.pending_from c.args.frames.now.pending.items in
    let lists : List (List ℕ) = parts c.args.frames.now.own.items (drop c.args.runs_from c.args.frames.now.runs.items) in
    let left = c.in_ok-left.left in
    let given = slice_rest c.deref.result.now c.args.frames.now.pending.items c.args.pending_from c.deref.ensures.value in
    let lists_given = ap₂ parts c.as_slice.ensures.value (runs_rest c.args.frames.now.runs.items c.deref-2.result.now c.args.runs_from c.deref-2.ensures.value) in
    let ended : HasEnded ws c.args.chosen c.args.free left pending (join lists) c.args.found.now.items c.push_ends.new.found.items
    = ended_as ws c.args.chosen c.args.free c.owned_columns-owned.result left c.lacked_by_all-lacked.result pending _ lists _ c.args.found.now.items c.push_ends.new.found.items given lists_given (some_sets _ (sym c.is_empty.ensures ∙ c.if-is_empty.false))
    c.owned_columns-owned.ensures.low c.lacked_by_all-lacked.ensures.low c.owned_columns-owned.ensures.owned c.owned_columns-owned.ensures.unowned c.lacked_by_all-lacked.ensures.none cut b c.in_ok-left.ensures.ended in
    branch_last ws c.args.chosen c.args.free left pending (join lists) c.args.found.now.items c.push_ends.new.found.items ended (λ t. true≢false (sym c.if-is_last.true ∙ c.is_last.ensures t))

pub returns-in-None-clause-found : goal.returns-in-None-clause-found
returns-in-None-clause-found g d c = λ ws cut b.
    let pending : List ℕ = drop c.args.pending_from c.args.frames.now.pending.items in
    let lists : List (List ℕ) = parts c.args.frames.now.own.items (drop c.args.runs_from c.args.frames.now.runs.items) in
    let left = c.in_ok-left.left in
    let given = slice_rest c.deref.result.now c.args.frames.now.pending.items c.args.pending_from c.deref.ensures.value in
    let lists_given = ap₂ parts c.as_slice.ensures.value (runs_rest c.args.frames.now.runs.items c.deref-2.result.now c.args.runs_from c.deref-2.ensures.value) in
    let ended : HasEnded ws c.args.chosen c.args.free left pending (join lists) c.args.found.now.items c.push_ends.new.found.items
    = ended_as ws c.args.chosen c.args.free c.owned_columns-owned.result left c.lacked_by_all-lacked.result pending _ lists _ c.args.found.now.items c.push_ends.new.found.items given lists_given (some_sets _ (sym c.is_empty.ensures ∙ c.if-is_empty.false))
    c.owned_columns-owned.ensures.low c.lacked_by_all-lacked.ensures.low c.owned_columns-owned.ensures.owned c.owned_columns-owned.ensures.unowned c.lacked_by_all-lacked.ensures.none cut b c.in_ok-left.ensures.ended in
    ended.whole (is_none c.args.most) c.push_ends.new.found.items (branch_dead ws c.args.chosen left pending (join lists) ended.branch
    (subst (λ (vs : List ℕ). covered vs left ≡ true) given (c.fewest_lacked.ensures.none (c.in-None.ensures.none refl))) c.push_ends.new.found.items)

pub returns-in-Some-sole_having-clause-found : goal.returns-in-Some-sole_having-clause-found
returns-in-Some-sole_having-clause-found g d c = on_ok_weaker c.branch-frames.result (λ second ws cut b.
    let s = c.args.chosen in
    let k = c.in-Some.column in
    let xs = c.args.frames.now.pending.items in
    let ys = c.args.frames.now.own.items in
    let rs = c.args.frames.now.runs.items in
    let pending : List ℕ = drop c.args.pending_from xs in
    let lists : List (List ℕ) = parts ys (drop c.args.runs_from rs) in
    let left = c.in_ok-left.left in
    let old = c.args.found.now.items in
    let mid = c.push_ends.new.found.items in
    let between = c.push_past_sole.new.found.items in
    let given = slice_rest c.deref.result.now xs c.args.pending_from c.deref.ensures.value in
    let lists_given = ap₂ parts c.as_slice.ensures.value (runs_rest rs c.deref-2.result.now c.args.runs_from c.deref-2.ensures.value) in
    let ended : HasEnded ws s c.args.free left pending (join lists) old mid
    = ended_as ws s c.args.free c.owned_columns-owned.result left c.lacked_by_all-lacked.result pending _ lists _ old mid given lists_given (some_sets _ (sym c.is_empty.ensures ∙ c.if-is_empty.false))
    c.owned_columns-owned.ensures.low c.lacked_by_all-lacked.ensures.low c.owned_columns-owned.ensures.owned c.owned_columns-owned.ensures.unowned c.lacked_by_all-lacked.ensures.none cut b c.in_ok-left.ensures.ended in
    let choice : has left k ≡ true = c.fewest_lacked.ensures.low.each k c.in-Some.ensures.some in
    let lacks : list_any (λ w. not (has w k)) pending ≡ true = subst (λ (vs : List ℕ). list_any (λ w. not (has w k)) vs ≡ true) given (c.fewest_lacked.ensures.lacks k c.in-Some.ensures.some) in
    let owned : IsOwned (having k (join lists)) s = cut_owned s lists cut k (λ vs g. c.owned_columns-owned.ensures.owned k (c.in_ok-left.ensures.low.each k choice) vs (subst (Listed vs) (sym lists_given) g)) in
    let inner = ap₂ (λ (ls : List (List ℕ)) (vs : List ℕ). map (having k) ls ++ lacking k vs ∷ [])
    (ap₂ parts c.as_slice-own.ensures.value (runs_rest rs c.deref-in-Some-sole_having.result.now c.args.runs_from c.deref-in-Some-sole_having.ensures.value)) given in
    let first : HasBranched (is_none c.args.most) ws (with s k) (without left k) mid between
    = branched_as ws (with s k) (with s k) (without left k) c.without-rest.result mid between between refl c.without-rest.ensures refl
    (c.in_ok-push_past_sole-in-Some.ensures (is_none c.args.most) ws (subst (IsCut (with s k)) (sym inner) (cut_with ws s left pending lists ended.branch cut k choice))
    (branch_as ws (with s k) (with s k) (without left k) c.without-rest.result (having k pending) (c.in-Some-sole_having.sole ∷ []) (having k (join lists) ++ lacking k pending) _ refl c.without-rest.ensures
    (sym c.in-Some-sole_having.ensures ∙ ap (having k) given)
    (ap join inner ∙ join_with k lists (lacking k pending))
    (branch_with ws s left pending (join lists) ended.branch k choice (owned_with ws s left pending (join lists) ended.branch k choice owned lacks)))) in
    let outer : parts c.prune.new.self.own.items (drop c.args.runs_from c.prune.new.self.runs.items) ≡ lists
    = ap₂ (λ (vs : List ℕ) (qs : List Run). parts vs (drop c.args.runs_from qs)) c.in_ok-prune-in-Some.ensures.own c.in_ok-prune-in-Some.ensures.runs in
    branch_by ws s c.args.free left pending (join lists) old mid ended k choice between c.branch-frames.new.found.items first
    (branched_as ws s s (without left k) c.without-rest.result between c.branch-frames.new.found.items c.branch-frames.new.found.items refl c.without-rest.ensures refl
    (second ws (subst (IsCut s) (sym outer) cut)
    (branch_as ws s s (without left k) c.without-rest.result (drop c.args.pending_from c.prune.new.self.pending.items) (drop c.args.pending_from c.prune.new.self.pending.items) (join lists) (join (parts c.prune.new.self.own.items (drop c.args.runs_from c.prune.new.self.runs.items)))
    refl c.without-rest.ensures refl (ap join outer)
    (branch_on ws s left pending (join lists) ended.branch k choice (drop c.args.pending_from c.prune.new.self.pending.items)
    (pruned_end c.args.pending_from k (without left k) c.without-rest.result xs xs c.prune.new.self.pending.items c.requires.pending_from refl c.without-rest.ensures c.in_ok-prune-in-Some.ensures.pending)))))
    ) c.branch-frames.ensures.found

pub returns-in_ok-prune-in-Some-2-clause-found : goal.returns-in_ok-prune-in-Some-2-clause-found
returns-in_ok-prune-in-Some-2-clause-found g d c = on_ok_weaker c.branch-frames-in-Some-2.result (λ second ws cut b.
    let s = c.args.chosen in
    let k = c.in-Some.column in
    let xs = c.args.frames.now.pending.items in
    let ys = c.args.frames.now.own.items in
    let rs = c.args.frames.now.runs.items in
    let pending : List ℕ = drop c.args.pending_from xs in
    let lists : List (List ℕ) = parts ys (drop c.args.runs_from rs) in
    let left = c.in_ok-left.left in
    let old = c.args.found.now.items in
    let mid = c.push_ends.new.found.items in
    let between = c.branch-frames-in-Some.new.found.items in
    let h = c.in_ok-enter-in-Some.ensures.own in
    let given = slice_rest c.deref.result.now xs c.args.pending_from c.deref.ensures.value in
    let lists_given = ap₂ parts c.as_slice.ensures.value (runs_rest rs c.deref-2.result.now c.args.runs_from c.deref-2.ensures.value) in
    let ended : HasEnded ws s c.args.free left pending (join lists) old mid
    = ended_as ws s c.args.free c.owned_columns-owned.result left c.lacked_by_all-lacked.result pending _ lists _ old mid given lists_given (some_sets _ (sym c.is_empty.ensures ∙ c.if-is_empty.false))
    c.owned_columns-owned.ensures.low c.lacked_by_all-lacked.ensures.low c.owned_columns-owned.ensures.owned c.owned_columns-owned.ensures.unowned c.lacked_by_all-lacked.ensures.none cut b c.in_ok-left.ensures.ended in
    let choice : has left k ≡ true = c.fewest_lacked.ensures.low.each k c.in-Some.ensures.some in
    let lacks : list_any (λ w. not (has w k)) pending ≡ true = subst (λ (vs : List ℕ). list_any (λ w. not (has w k)) vs ≡ true) given (c.fewest_lacked.ensures.lacks k c.in-Some.ensures.some) in
    let owned : IsOwned (having k (join lists)) s = cut_owned s lists cut k (λ vs g. c.owned_columns-owned.ensures.owned k (c.in_ok-left.ensures.low.each k choice) vs (subst (Listed vs) (sym lists_given) g)) in
    let same_pending : c.branch-frames-in-Some.new.frames.pending.items ≡ xs
    = c.in_ok-branch-in-Some.ensures.pending ∙ old_front xs _ c.enter.new.self.pending.items c.len-pending_end.result c.in_ok-enter-in-Some.ensures.pending (c.len-pending_end.ensures ∙ c.args.frames.now.pending.ok.0) in
    let same_own : c.truncate-in-Some.new.self.items ≡ ys
    = c.truncate-in-Some.ensures.items ∙ ap (take c.len-own_end.result) c.in_ok-branch-in-Some.ensures.own ∙ entered_own ys rs _ c.enter.new.self.own.items c.enter.new.self.runs.items h c.len-own_end.result (c.len-own_end.ensures ∙ c.args.frames.now.own.ok.0) in
    let same_runs : c.truncate-in-Some-2.new.self.items ≡ rs
    = c.truncate-in-Some-2.ensures.items ∙ ap (take c.len-runs_end.result) c.in_ok-branch-in-Some.ensures.runs ∙ entered_runs ys rs _ c.enter.new.self.own.items c.enter.new.self.runs.items h c.len-runs_end.result (c.len-runs_end.ensures ∙ c.args.frames.now.runs.ok.0) in
    let inner : parts c.enter.new.self.own.items (drop c.len-runs_end.result c.enter.new.self.runs.items) ≡ map (having k) lists ++ lacking k pending ∷ []
    = entered_lists ys rs _ c.enter.new.self.own.items c.enter.new.self.runs.items h c.len-runs_end.result (c.len-runs_end.ensures ∙ c.args.frames.now.runs.ok.0) in
    let first : HasBranched (is_none c.args.most) ws (with s k) (without left k) mid between
    = branched_as ws (with s k) c.with.result (without left k) c.without-rest.result mid between between c.with.ensures c.without-rest.ensures refl
    (c.in_ok-branch-in-Some.ensures.found ws
    (subst (λ (v : ℕ). IsCut v (parts c.enter.new.self.own.items (drop c.len-runs_end.result c.enter.new.self.runs.items))) (sym c.with.ensures) (subst (IsCut (with s k)) (sym inner) (cut_with ws s left pending lists ended.branch cut k choice)))
    (branch_as ws (with s k) c.with.result (without left k) c.without-rest.result (having k pending) (drop c.len-pending_end.result c.enter.new.self.pending.items)
    (having k (join lists) ++ lacking k pending) (join (parts c.enter.new.self.own.items (drop c.len-runs_end.result c.enter.new.self.runs.items))) c.with.ensures c.without-rest.ensures
    (new_end xs _ c.enter.new.self.pending.items c.len-pending_end.result c.in_ok-enter-in-Some.ensures.pending (c.len-pending_end.ensures ∙ c.args.frames.now.pending.ok.0))
    (ap join inner ∙ join_with k lists (lacking k pending))
    (branch_with ws s left pending (join lists) ended.branch k choice (owned_with ws s left pending (join lists) ended.branch k choice owned lacks)))) in
    let outer : parts c.prune-in-Some.new.self.own.items (drop c.args.runs_from c.prune-in-Some.new.self.runs.items) ≡ lists
    = ap₂ (λ (vs : List ℕ) (qs : List Run). parts vs (drop c.args.runs_from qs)) (c.in_ok-prune-in-Some-2.ensures.own ∙ same_own) (c.in_ok-prune-in-Some-2.ensures.runs ∙ same_runs) in
    branch_by ws s c.args.free left pending (join lists) old mid ended k choice between c.branch-frames-in-Some-2.new.found.items first
    (branched_as ws s s (without left k) c.without-rest.result between c.branch-frames-in-Some-2.new.found.items c.branch-frames-in-Some-2.new.found.items refl c.without-rest.ensures refl
    (second ws (subst (IsCut s) (sym outer) cut)
    (branch_as ws s s (without left k) c.without-rest.result (drop c.args.pending_from c.prune-in-Some.new.self.pending.items) (drop c.args.pending_from c.prune-in-Some.new.self.pending.items) (join lists) (join (parts c.prune-in-Some.new.self.own.items (drop c.args.runs_from c.prune-in-Some.new.self.runs.items)))
    refl c.without-rest.ensures refl (ap join outer)
    (branch_on ws s left pending (join lists) ended.branch k choice (drop c.args.pending_from c.prune-in-Some.new.self.pending.items)
    (pruned_end c.args.pending_from k (without left k) c.without-rest.result xs c.branch-frames-in-Some.new.frames.pending.items c.prune-in-Some.new.self.pending.items c.requires.pending_from same_pending c.without-rest.ensures c.in_ok-prune-in-Some-2.ensures.pending)))))
    ) c.branch-frames-in-Some-2.ensures.found
