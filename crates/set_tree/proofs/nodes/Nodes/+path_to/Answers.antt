use Rattle.std.proofs.Common.{◌≡◌, ◌∙◌, true, refl, ap, subst, ℕ, suc, Some, None, arith, if◌then◌else◌, ◌==◌}
use Rattle.col_set.specs.ColSet.{with, has}
use Rattle.col_set.proofs.EachColumn.{first-Some}
use Rattle.set_tree.specs.Tree.{tip, look, but}
use Rattle.set_tree.proofs.Paths.{first_behind, first_whole, first_further, first_none, first_some, behind_lacks, on_both, on_refused}
use Rattle.set_tree.proofs.Growing.{tip_is_tree, spare_after, nothing_local, forgotten, local_then, added, look_on, look_end, tip_root, tip_kept, tip_ascends}
use Rattle.set_tree.proofs.nodes.Nodes.+path_to.Goals as goal

pub path_to-requires : goal.path_to-requires
path_to-requires g t c κs b = (
  (let l = (first-Some c.args.rest c.in-Some.below c.in-Some.ensures.value).smaller in let w = c.without.ensures in omega (arith, l, c.decreases, w)),
  (
    b,
    (
      c.requires.once,
      (
        c.in-Some.ensures.bound,
        (λ k h. first_behind c.args.rest c.in-Some.below c.in-Some.ensures.value k (subst (λ (z : ℕ). has z k ≡ true) c.without.ensures h)),
      ),
    ),
  ),
)

pub add-requires : goal.add-requires
add-requires g t c =
    let b = c.in_ok-child-in-Some.ensures.path (suc c.args.column) tip (tip_is_tree c.args.self.now.list.items c.args.self.now.unused.items (suc c.in-Some.below) c.requires.once) (let l = first_further c.args.column c.args.rest c.in-Some.below c.requires.behind c.in-Some.ensures.value in omega (arith, l)) in
    spare_after c.args.self.now.list.items c.path_to.new.self.list.items c.args.self.now.unused.items c.path_to.new.self.unused.items b.shape b.local c.requires.once

pub returns-in_ok-child-in-Some-clause-path : goal.returns-in_ok-child-in-Some-clause-path
returns-in_ok-child-in-Some-clause-path g t c =
    let b = c.in_ok-child-in-Some.ensures.path (suc c.args.column) tip (tip_is_tree c.args.self.now.list.items c.args.self.now.unused.items (suc c.in-Some.below) c.requires.once) (let l = first_further c.args.column c.args.rest c.in-Some.below c.requires.behind c.in-Some.ensures.value in omega (arith, l)) in
    on_both c.add.result
    (λ place here fewer from u tree above. added c.args.self.now.list.items c.path_to.new.self.list.items c.add.new.self.list.items c.args.self.now.unused.items c.path_to.new.self.unused.items c.add.new.self.unused.items
    c.args.column place from u c.args.next tree above c.requires.narrow None (Some c.in_ok-child-in-Some.child) b.shape (but u (with c.args.rest c.args.column) (Some c.args.value)) b.starts b.kept b.ascends b.local
    here fewer c.add.ensures.same
    (look_on place c.args.column c.args.rest (Some c.args.value) b.shape u (first_some c.args.rest c.in-Some.below c.in-Some.ensures.value) (behind_lacks c.args.column c.args.rest c.requires.behind)
    (λ y. b.same y ∙ ap (λ (x : ℕ). if y == x then Some c.args.value else look tip y) (ap (λ (x : ℕ). with x c.in-Some.below) c.without.ensures ∙ first_whole c.args.rest c.in-Some.below c.in-Some.ensures.value))
    tree.ascends))
    c.add.ensures.here c.add.ensures.fewer

pub returns-in_ok-child-in-Some-clause-refused : goal.returns-in_ok-child-in-Some-clause-refused
returns-in_ok-child-in-Some-clause-refused g t c =
    let b = c.in_ok-child-in-Some.ensures.path (suc c.args.column) tip (tip_is_tree c.args.self.now.list.items c.args.self.now.unused.items (suc c.in-Some.below) c.requires.once) (let l = first_further c.args.column c.args.rest c.in-Some.below c.requires.behind c.in-Some.ensures.value in omega (arith, l)) in
    on_refused c.add.result
    (λ fewer. local_then c.args.self.now.list.items c.path_to.new.self.list.items c.add.new.self.list.items c.args.self.now.unused.items c.path_to.new.self.unused.items c.add.new.self.unused.items tip tip tip
    (forgotten c.args.self.now.list.items c.path_to.new.self.list.items c.args.self.now.unused.items c.path_to.new.self.unused.items b.shape b.local)
    (nothing_local c.path_to.new.self.list.items c.add.new.self.list.items c.path_to.new.self.unused.items c.add.new.self.unused.items fewer c.add.ensures.same))
    c.add.ensures.refused

pub returns-in-None-clause-path : goal.returns-in-None-clause-path
returns-in-None-clause-path g t c =
    on_both c.add-in-None.result
    (λ place here fewer from u tree above. added c.args.self.now.list.items c.args.self.now.list.items c.add-in-None.new.self.list.items c.args.self.now.unused.items c.args.self.now.unused.items c.add-in-None.new.self.unused.items
    c.args.column place from u c.args.next tree above c.requires.narrow (Some c.args.value) None tip (but u (with c.args.rest c.args.column) (Some c.args.value)) (tip_root g.row.V.Denot) (tip_kept c.args.self.now.list.items) (tip_ascends g.row.V.Denot (suc c.args.column))
    (nothing_local c.args.self.now.list.items c.args.self.now.list.items c.args.self.now.unused.items c.args.self.now.unused.items (λ k. omega arith) (λ k z. refl))
    here fewer c.add-in-None.ensures.same
    (look_end place c.args.column c.args.value u c.args.rest (first_none c.args.rest c.in-None.ensures.value) tree.ascends))
    c.add-in-None.ensures.here c.add-in-None.ensures.fewer
