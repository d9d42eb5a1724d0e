use Rattle.std.proofs.Common.{◌≡◌, ◌∙◌, true, sym, ap, subst, ℕ, suc, Some, None, arith}
use Rattle.col_set.specs.ColSet.{with, empty, has}
use Rattle.set_tree.specs.Tree.{Becomes, IsTree, Gives, but}
use Rattle.set_tree.proofs.Values.{look_low}
use Rattle.set_tree.proofs.Paths.{first_behind, first_whole, first_further, first_none, first_some, behind_lacks, behind_lacks_with, path_begins, cmp_less, cmp_greater, cmp_same}
use Rattle.set_tree.proofs.Growing.{tree_from, changed_below, changed_beside, changed_here, stands_within, stands_below, stands_beside, falls_below, falls_beside, stays_below, stays_beside, none_taken, none_at_tip}
use Rattle.set_tree.proofs.nodes.Nodes.+remove.Goals as goal

pub returns-in_default : goal.returns-in_default
returns-in_default g t c from u tree above =
    subst (λ l. Becomes c.args.self.now.list.items c.args.self.now.unused.items from u c.args.self.now.list.items c.args.self.now.unused.items l (but u (with c.args.rest c.args.column) None)) c.in_default.is
    (none_taken c.args.self.now.list.items c.args.self.now.unused.items c.args.link from (with c.args.rest c.args.column) u tree (none_at_tip c.args.self.now.list.items c.args.self.now.unused.items from (with c.args.rest c.args.column) u (subst (λ l. IsTree c.args.self.now.list.items c.args.self.now.unused.items l from u) c.in_default.is tree)))

pub at-node-requires : goal.at-node-requires
at-node-requires g t c = stands_within c.args.self.now.list.items c.args.self.now.unused.items c.args.link c.args.column c.in-Some.place c.requires.stands c.in-Some.is

pub remove-child-requires : goal.remove-child-requires
remove-child-requires g t c κs b = (
  (let l = falls_below c.args.self.now.list.items c.args.self.now.unused.items c.args.link c.args.column c.in-Some.place c.at-node.result c.requires.stands c.in-Some.is c.at-node.ensures in omega (arith, l, c.decreases)),
  (
    b,
    (
      stands_below c.args.self.now.list.items c.args.self.now.unused.items c.args.link c.args.column c.in-Some.place c.at-node.result c.requires.stands c.in-Some.is c.at-node.ensures c.in-Some-first.below
          (let l = first_further c.args.column c.args.rest c.in-Some-first.below c.requires.behind c.in-Some-first.ensures.value in let e = cmp_same c.args.column c.at-node.result.column c.in-Equal.ensures in omega (arith, l, e)),
      (c.in-Some-first.ensures.bound, (λ k h. first_behind c.args.rest c.in-Some-first.below c.in-Some-first.ensures.value k (subst (λ (z : ℕ). has z k ≡ true) c.without.ensures h))),
    ),
  ),
)

pub keep-requires : goal.keep-requires
keep-requires g t c = stays_below c.args.self.now.list.items c.args.self.now.unused.items c.args.link c.args.column c.in-Some.place c.at-node.result c.requires.stands c.in-Some.is c.at-node.ensures c.remove-child.new.self.list.items c.remove-child.new.self.unused.items c.in-Some-first.below c.remove-child.result (with c.without.result c.in-Some-first.below) None
    (let l = first_further c.args.column c.args.rest c.in-Some-first.below c.requires.behind c.in-Some-first.ensures.value in let e = cmp_same c.args.column c.at-node.result.column c.in-Equal.ensures in omega (arith, l, e))
    c.remove-child.ensures

pub keep-requires-in-None : goal.keep-requires-in-None
keep-requires-in-None g t c = stands_within c.args.self.now.list.items c.args.self.now.unused.items c.args.link c.args.column c.in-Some.place c.requires.stands c.in-Some.is

pub remove-next-requires : goal.remove-next-requires
remove-next-requires g t c κs b = (
  (let l = falls_beside c.args.self.now.list.items c.args.self.now.unused.items c.args.link c.args.column c.in-Some.place c.at-node.result c.requires.stands c.in-Some.is c.at-node.ensures in omega (arith, l, c.decreases)),
  (b, (stands_beside c.args.self.now.list.items c.args.self.now.unused.items c.args.link c.args.column c.in-Some.place c.at-node.result c.requires.stands c.in-Some.is c.at-node.ensures (cmp_greater c.args.column c.at-node.result.column c.in-Greater.ensures), (c.requires.narrow, c.requires.behind))),
)

pub keep-requires-in-Greater : goal.keep-requires-in-Greater
keep-requires-in-Greater g t c = stays_beside c.args.self.now.list.items c.args.self.now.unused.items c.args.link c.args.column c.in-Some.place c.at-node.result c.requires.stands c.in-Some.is c.at-node.ensures c.remove-next.new.self.list.items c.remove-next.new.self.unused.items c.args.column c.remove-next.result (with c.args.rest c.args.column) None
    (cmp_greater c.args.column c.at-node.result.column c.in-Greater.ensures) c.remove-next.ensures

pub returns-in-Less : goal.returns-in-Less
returns-in-Less g t c from u tree above = none_taken c.args.self.now.list.items c.args.self.now.unused.items (Some c.in-Some.place) from (with c.args.rest c.args.column) u (subst (λ l. IsTree c.args.self.now.list.items c.args.self.now.unused.items l from u) c.in-Some.is tree)
    (look_low u (suc c.args.column) (with c.args.rest c.args.column) c.args.column
    (tree_from c.args.self.now.list.items c.args.self.now.unused.items from (suc c.args.column) c.in-Some.place c.at-node.result u c.at-node.ensures (let l = cmp_less c.args.column c.at-node.result.column c.in-Less.ensures in omega (arith, l)) (subst (λ l. IsTree c.args.self.now.list.items c.args.self.now.unused.items l from u) c.in-Some.is tree)).ascends
    (path_begins c.args.column c.args.rest) (omega arith))

pub returns-in-Some-first : goal.returns-in-Some-first
returns-in-Some-first g t c from u tree above =
    subst (λ (x : ℕ). Becomes c.args.self.now.list.items c.args.self.now.unused.items from u c.keep.new.self.list.items c.keep.new.self.unused.items c.keep.result (but u x None))
    (ap (with c.args.rest) (sym same))
    (changed_below c.args.self.now.list.items c.remove-child.new.self.list.items c.keep.new.self.list.items c.args.self.now.unused.items c.remove-child.new.self.unused.items c.keep.new.self.unused.items c.in-Some.place c.at-node.result c.at-node.ensures c.args.rest None c.keep.result
    c.in-Some-first.below c.remove-child.result (let l = first_further c.args.column c.args.rest c.in-Some-first.below c.requires.behind c.in-Some-first.ensures.value in omega (arith, l, same))
    (first_some c.args.rest c.in-Some-first.below c.in-Some-first.ensures.value) (ap (has c.args.rest) (sym same) ∙ behind_lacks c.args.column c.args.rest c.requires.behind)
    (subst (λ (x : ℕ). Gives c.args.self.now.list.items c.args.self.now.unused.items c.at-node.result.child c.in-Some-first.below c.remove-child.new.self.list.items c.remove-child.new.self.unused.items c.remove-child.result x None)
    (ap (λ (x : ℕ). with x c.in-Some-first.below) c.without.ensures ∙ first_whole c.args.rest c.in-Some-first.below c.in-Some-first.ensures.value) c.remove-child.ensures)
    c.keep.ensures
    from u (subst (λ l. IsTree c.args.self.now.list.items c.args.self.now.unused.items l from u) c.in-Some.is tree))
  where
    same : c.args.column ≡ c.at-node.result.column
    same = cmp_same c.args.column c.at-node.result.column c.in-Equal.ensures

pub returns-in-None : goal.returns-in-None
returns-in-None g t c from u tree above =
    subst (λ (x : ℕ). Becomes c.args.self.now.list.items c.args.self.now.unused.items from u c.keep-in-None.new.self.list.items c.keep-in-None.new.self.unused.items c.keep-in-None.result (but u x None))
    (ap (with empty) (sym (cmp_same c.args.column c.at-node.result.column c.in-Equal.ensures)) ∙ ap (λ (x : ℕ). with x c.args.column) (sym (first_none c.args.rest c.in-None.ensures.value)))
    (changed_here c.args.self.now.list.items c.keep-in-None.new.self.list.items c.args.self.now.unused.items c.keep-in-None.new.self.unused.items c.in-Some.place c.at-node.result None c.keep-in-None.result c.at-node.ensures
    c.keep-in-None.ensures
    from u (subst (λ l. IsTree c.args.self.now.list.items c.args.self.now.unused.items l from u) c.in-Some.is tree))

pub returns-in-Greater : goal.returns-in-Greater
returns-in-Greater g t c from u tree above =
    changed_beside c.args.self.now.list.items c.remove-next.new.self.list.items c.keep-in-Greater.new.self.list.items c.args.self.now.unused.items c.remove-next.new.self.unused.items c.keep-in-Greater.new.self.unused.items c.in-Some.place c.at-node.result c.at-node.ensures (with c.args.rest c.args.column) None c.keep-in-Greater.result
    c.args.column c.remove-next.result (cmp_greater c.args.column c.at-node.result.column c.in-Greater.ensures)
    (behind_lacks_with c.args.column c.args.rest c.at-node.result.column c.requires.behind (cmp_greater c.args.column c.at-node.result.column c.in-Greater.ensures))
    c.remove-next.ensures
    c.keep-in-Greater.ensures
    from u (subst (λ l. IsTree c.args.self.now.list.items c.args.self.now.unused.items l from u) c.in-Some.is tree)
