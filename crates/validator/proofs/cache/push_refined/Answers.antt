use Rattle.std.proofs.Common.{◌≡◌, ◌<◌, ℕ, length, replicate, vec_len, sym, ap, ◌∙◌, subst, arith}
use Rattle.stripped_partition.specs.AnyOrder.{AreGroupsBy}
use Rattle.validator.proofs.KeptLists.{kept_of, kept_push, clear_zeros}
use Rattle.validator.proofs.cache.push_refined.Goals as goal

pub refine_unordered-requires-clause-of : goal.refine_unordered-requires-clause-of
refine_unordered-requires-clause-of c =
    let k : c.args.k < length c.args.kept.now.items = (let l = c.requires.place in omega (arith, c.args.kept.now.ok.0)) in
    record {
      columns = c.index-entry.result.now.columns;
      are = subst (AreGroupsBy c.args.snapshot.now c.index-entry.result.now.columns) (sym c.deref.ensures)
          (kept_of c.args.snapshot.now c.args.kept.now.items c.args.k c.index-entry.result.now c.requires.kept k c.index-entry.ensures);
    }

pub refine_unordered-requires-clause-clear : goal.refine_unordered-requires-clause-clear
refine_unordered-requires-clause-clear c =
    clear_zeros c.args.slots.now.items c.requires.clear ∙ ap (λ (n : ℕ). replicate n 0) (let e : length c.args.slots.now.items ≡ vec_len c.args.slots.now = omega (arith, c.args.slots.now.ok.0) in e)

pub returns-clause-kept : goal.returns-clause-kept
returns-clause-kept c =
    let finer = c.in_ok-partition.ensures.groups c.index-entry.result.now.columns (
    let k : c.args.k < length c.args.kept.now.items = (let l = c.requires.place in omega (arith, c.args.kept.now.ok.0)) in
    subst (AreGroupsBy c.args.snapshot.now c.index-entry.result.now.columns) (sym c.deref.ensures)
    (kept_of c.args.snapshot.now c.args.kept.now.items c.args.k c.index-entry.result.now c.requires.kept k c.index-entry.ensures)) in
    kept_push c.args.snapshot.now c.args.kept.now.items c.push.new.self.items c.in_ok-of.field-0 c.in_ok-push.ensures.items c.requires.kept
    (c.in_ok-of.ensures.kept c.args.snapshot.now (subst (λ (x : ℕ). AreGroupsBy c.args.snapshot.now x c.in_ok-partition.partition) (sym c.with-columns.ensures) finer))
