use Rattle.std.proofs.Common.{◌≡◌, ◌∙◌, true, sym, ap, subst, ℕ, suc, Some, arith}
use Rattle.col_set.specs.ColSet.{with, empty, has}
use Rattle.set_tree.specs.Tree.{Becomes, IsTree, Gives, but}
use Rattle.set_tree.proofs.Paths.{first_behind, first_whole, first_further, first_none, first_some, behind_lacks, behind_lacks_with, on_success, cmp_less, cmp_greater, cmp_same}
use Rattle.set_tree.proofs.Growing.{tip_tree, tree_from, placed, changed_below, changed_beside, changed_here, stands_within, stands_below, stands_beside, falls_below, falls_beside, stays_below, stays_beside}
use Rattle.set_tree.proofs.nodes.Nodes.+insert.Goals as goal

pub returns-in_default-clause-path : goal.returns-in_default-clause-path
returns-in_default-clause-path g t c = on_success c.path_to.result
    (λ place f from u tree above. f from u (tip_tree c.args.self.now.list.items c.args.self.now.unused.items from (suc c.args.column) u (subst (λ l. IsTree c.args.self.now.list.items c.args.self.now.unused.items l from u) c.in_default.is tree)) above)
    c.path_to.ensures.path

pub at-node-requires : goal.at-node-requires
at-node-requires g t c = stands_within c.args.self.now.list.items c.args.self.now.unused.items c.args.link c.args.column c.in-Some.place c.requires.stands c.in-Some.is

pub insert-requires : goal.insert-requires
insert-requires g t c κs b = (
  (let l = falls_below c.args.self.now.list.items c.args.self.now.unused.items c.args.link c.args.column c.in-Some.place c.at-node.result c.requires.stands c.in-Some.is c.at-node.ensures in omega (arith, l, c.decreases)),
  (
    b,
    (
      stands_below c.args.self.now.list.items c.args.self.now.unused.items c.args.link c.args.column c.in-Some.place c.at-node.result c.requires.stands c.in-Some.is c.at-node.ensures c.in-Some-first.below
          (let l = first_further c.args.column c.args.rest c.in-Some-first.below c.requires.behind c.in-Some-first.ensures.value in let e = cmp_same c.args.column c.at-node.result.column c.in-Equal.ensures in omega (arith, l, e)),
      (c.in-Some-first.ensures.bound, (λ k h. first_behind c.args.rest c.in-Some-first.below c.in-Some-first.ensures.value k (subst (λ (z : ℕ). has z k ≡ true) c.without.ensures h))),
    ),
  ),
)

pub set-requires : goal.set-requires
set-requires g t c = stays_below c.args.self.now.list.items c.args.self.now.unused.items c.args.link c.args.column c.in-Some.place c.at-node.result c.requires.stands c.in-Some.is c.at-node.ensures c.insert.new.self.list.items c.insert.new.self.unused.items c.in-Some-first.below (Some c.in_ok-child-in-Some-first.child) (with c.without.result c.in-Some-first.below) (Some c.args.value)
    (let l = first_further c.args.column c.args.rest c.in-Some-first.below c.requires.behind c.in-Some-first.ensures.value in let e = cmp_same c.args.column c.at-node.result.column c.in-Equal.ensures in omega (arith, l, e))
    c.in_ok-child-in-Some-first.ensures.path

pub set-requires-in-None : goal.set-requires-in-None
set-requires-in-None g t c = stands_within c.args.self.now.list.items c.args.self.now.unused.items c.args.link c.args.column c.in-Some.place c.requires.stands c.in-Some.is

pub insert-requires-in-Greater : goal.insert-requires-in-Greater
insert-requires-in-Greater g t c κs b = (
  (let l = falls_beside c.args.self.now.list.items c.args.self.now.unused.items c.args.link c.args.column c.in-Some.place c.at-node.result c.requires.stands c.in-Some.is c.at-node.ensures in omega (arith, l, c.decreases)),
  (b, (stands_beside c.args.self.now.list.items c.args.self.now.unused.items c.args.link c.args.column c.in-Some.place c.at-node.result c.requires.stands c.in-Some.is c.at-node.ensures (cmp_greater c.args.column c.at-node.result.column c.in-Greater.ensures), (c.requires.narrow, c.requires.behind))),
)

pub set-requires-in-Greater : goal.set-requires-in-Greater
set-requires-in-Greater g t c = stays_beside c.args.self.now.list.items c.args.self.now.unused.items c.args.link c.args.column c.in-Some.place c.at-node.result c.requires.stands c.in-Some.is c.at-node.ensures c.insert-in-Greater.new.self.list.items c.insert-in-Greater.new.self.unused.items c.args.column (Some c.in_ok-next-in-Greater.next) (with c.args.rest c.args.column) (Some c.args.value)
    (cmp_greater c.args.column c.at-node.result.column c.in-Greater.ensures) c.in_ok-next-in-Greater.ensures.path

pub returns-in-Less-clause-path : goal.returns-in-Less-clause-path
returns-in-Less-clause-path g t c = on_success c.path_to-in-Less.result
    (λ place f from u tree above. f from u (tree_from c.args.self.now.list.items c.args.self.now.unused.items from (suc c.args.column) c.in-Some.place c.at-node.result u c.at-node.ensures (let l = cmp_less c.args.column c.at-node.result.column c.in-Less.ensures in omega (arith, l)) (subst (λ l. IsTree c.args.self.now.list.items c.args.self.now.unused.items l from u) c.in-Some.is tree)) above)
    c.path_to-in-Less.ensures.path

pub returns-in_ok-child-in-Some-first-clause-path : goal.returns-in_ok-child-in-Some-first-clause-path
returns-in_ok-child-in-Some-first-clause-path g t c from u tree above =
    subst (λ (x : ℕ). Becomes c.args.self.now.list.items c.args.self.now.unused.items from u c.set.new.self.list.items c.set.new.self.unused.items (Some c.in-Some.place) (but u x (Some c.args.value)))
    (ap (with c.args.rest) (sym same))
    (changed_below c.args.self.now.list.items c.insert.new.self.list.items c.set.new.self.list.items c.args.self.now.unused.items c.insert.new.self.unused.items c.set.new.self.unused.items c.in-Some.place c.at-node.result c.at-node.ensures c.args.rest (Some c.args.value) (Some c.in-Some.place)
    c.in-Some-first.below (Some c.in_ok-child-in-Some-first.child) (let l = first_further c.args.column c.args.rest c.in-Some-first.below c.requires.behind c.in-Some-first.ensures.value in omega (arith, l, same))
    (first_some c.args.rest c.in-Some-first.below c.in-Some-first.ensures.value) (ap (has c.args.rest) (sym same) ∙ behind_lacks c.args.column c.args.rest c.requires.behind)
    (subst (λ (x : ℕ). Gives c.args.self.now.list.items c.args.self.now.unused.items c.at-node.result.child c.in-Some-first.below c.insert.new.self.list.items c.insert.new.self.unused.items (Some c.in_ok-child-in-Some-first.child) x (Some c.args.value))
    (ap (λ (x : ℕ). with x c.in-Some-first.below) c.without.ensures ∙ first_whole c.args.rest c.in-Some-first.below c.in-Some-first.ensures.value) c.in_ok-child-in-Some-first.ensures.path)
    (λ f l r below beside loose. placed c.insert.new.self.list.items c.set.new.self.list.items c.insert.new.self.unused.items c.set.new.self.unused.items c.in-Some.place f _ l r below beside loose c.set.ensures.here c.set.ensures.others c.set.ensures.length c.set.ensures.unused)
    from u (subst (λ l. IsTree c.args.self.now.list.items c.args.self.now.unused.items l from u) c.in-Some.is tree))
  where
    same : c.args.column ≡ c.at-node.result.column
    same = cmp_same c.args.column c.at-node.result.column c.in-Equal.ensures

pub returns-in-None-clause-path : goal.returns-in-None-clause-path
returns-in-None-clause-path g t c from u tree above =
    subst (λ (x : ℕ). Becomes c.args.self.now.list.items c.args.self.now.unused.items from u c.set-in-None.new.self.list.items c.set-in-None.new.self.unused.items (Some c.in-Some.place) (but u x (Some c.args.value)))
    (ap (with empty) (sym (cmp_same c.args.column c.at-node.result.column c.in-Equal.ensures)) ∙ ap (λ (x : ℕ). with x c.args.column) (sym (first_none c.args.rest c.in-None.ensures.value)))
    (changed_here c.args.self.now.list.items c.set-in-None.new.self.list.items c.args.self.now.unused.items c.set-in-None.new.self.unused.items c.in-Some.place c.at-node.result (Some c.args.value) (Some c.in-Some.place) c.at-node.ensures
    (λ f l r below beside loose. placed c.args.self.now.list.items c.set-in-None.new.self.list.items c.args.self.now.unused.items c.set-in-None.new.self.unused.items c.in-Some.place f _ l r below beside loose c.set-in-None.ensures.here c.set-in-None.ensures.others c.set-in-None.ensures.length c.set-in-None.ensures.unused)
    from u (subst (λ l. IsTree c.args.self.now.list.items c.args.self.now.unused.items l from u) c.in-Some.is tree))

pub returns-in_ok-next-in-Greater-clause-path : goal.returns-in_ok-next-in-Greater-clause-path
returns-in_ok-next-in-Greater-clause-path g t c from u tree above =
    changed_beside c.args.self.now.list.items c.insert-in-Greater.new.self.list.items c.set-in-Greater.new.self.list.items c.args.self.now.unused.items c.insert-in-Greater.new.self.unused.items c.set-in-Greater.new.self.unused.items c.in-Some.place c.at-node.result c.at-node.ensures (with c.args.rest c.args.column) (Some c.args.value) (Some c.in-Some.place)
    c.args.column (Some c.in_ok-next-in-Greater.next) (cmp_greater c.args.column c.at-node.result.column c.in-Greater.ensures)
    (behind_lacks_with c.args.column c.args.rest c.at-node.result.column c.requires.behind (cmp_greater c.args.column c.at-node.result.column c.in-Greater.ensures))
    c.in_ok-next-in-Greater.ensures.path
    (λ f l r below beside loose. placed c.insert-in-Greater.new.self.list.items c.set-in-Greater.new.self.list.items c.insert-in-Greater.new.self.unused.items c.set-in-Greater.new.self.unused.items c.in-Some.place f _ l r below beside loose c.set-in-Greater.ensures.here c.set-in-Greater.ensures.others c.set-in-Greater.ensures.length c.set-in-Greater.ensures.unused)
    from u (subst (λ l. IsTree c.args.self.now.list.items c.args.self.now.unused.items l from u) c.in-Some.is tree)
