use Rattle.std.proofs.Common.{◌≡◌, ◌∙◌, ◌++◌, sym, ap, subst, ℕ, arith}
use Rattle.col_set.specs.ColSet.{with}
use Rattle.set_tree.specs.Tree.{Shape}
use Rattle.set_tree.specs.Walks.{walk, entry}
use Rattle.set_tree.proofs.Reading.{opens, rooted_within, rooted_below, rooted_beside, column_narrow, below_falls, beside_falls, reads_nothing, walk_past, walk_here, walk_nothing, regroup}
use Rattle.std.proofs.lemmas.List.{append-nil}
use Rattle.set_tree.proofs.Paths.{on_done}
use Rattle.set_tree.proofs.nodes.Nodes.+push_inside.Goals as goal

pub returns-in_default : goal.returns-in_default
returns-in_default g t c from u tree = subst (λ (s : Shape g.row.V.Denot). c.args.found.now.items ≡ c.args.found.now.items ++ walk c.args.prefix s c.args.x) (sym (reads_nothing c.args.self.now.list.items c.args.link from u c.in_default.is tree))
    (sym (ap (λ ps. c.args.found.now.items ++ ps) (walk_nothing g.row.V.Denot c.args.prefix c.args.x) ∙ append-nil c.args.found.now.items))

pub at-node-requires : goal.at-node-requires
at-node-requires g t c = rooted_within c.args.self.now.list.items c.args.link c.in-Some.place c.requires c.in-Some.is

pub has-requires : goal.has-requires
has-requires g t c = column_narrow c.args.self.now.list.items c.args.link c.in-Some.place c.requires c.in-Some.is c.at-node.result c.at-node.ensures

pub push_inside-requires : goal.push_inside-requires
push_inside-requires g t c κs b = ((let l = beside_falls c.args.self.now.list.items c.args.link c.in-Some.place c.requires c.in-Some.is c.at-node.result c.at-node.ensures in omega (arith, l, c.decreases)), (b, rooted_beside c.args.self.now.list.items c.args.link c.in-Some.place c.requires c.in-Some.is c.at-node.result c.at-node.ensures))

pub returns-then-not-has : goal.returns-then-not-has
returns-then-not-has g t c = on_done c.push_inside.result (λ f from u tree.
    let o = opens c.args.self.now.list.items c.args.link c.in-Some.place c.requires c.in-Some.is c.at-node.result c.at-node.ensures from u tree in
    subst (λ (s : Shape g.row.V.Denot). c.push_inside.new.found.items ≡ c.args.found.now.items ++ walk c.args.prefix s c.args.x) (sym o.is)
    (f _ o.beside o.beside_tree ∙ ap (λ ps. c.args.found.now.items ++ ps) (sym (walk_past c.in-Some.place c.at-node.result.column c.at-node.result.value o.below o.beside c.args.x c.args.prefix (sym c.has.ensures ∙ c.if-not-has.true))))) c.push_inside.ensures

pub with-path-requires : goal.with-path-requires
with-path-requires g t c = column_narrow c.args.self.now.list.items c.args.link c.in-Some.place c.requires c.in-Some.is c.at-node.result c.at-node.ensures

pub push_inside-requires-2 : goal.push_inside-requires-2
push_inside-requires-2 g t c κs b = ((let l = below_falls c.args.self.now.list.items c.args.link c.in-Some.place c.requires c.in-Some.is c.at-node.result c.at-node.ensures in omega (arith, l, c.decreases)), (b, rooted_below c.args.self.now.list.items c.args.link c.in-Some.place c.requires c.in-Some.is c.at-node.result c.at-node.ensures))

pub push_inside-requires-3 : goal.push_inside-requires-3
push_inside-requires-3 g t c κs b = ((let l = beside_falls c.args.self.now.list.items c.args.link c.in-Some.place c.requires c.in-Some.is c.at-node.result c.at-node.ensures in omega (arith, l, c.decreases)), (b, rooted_beside c.args.self.now.list.items c.args.link c.in-Some.place c.requires c.in-Some.is c.at-node.result c.at-node.ensures))

pub returns : goal.returns
returns g t c = on_done c.push_inside-3.result (λ f from u tree.
    let o = opens c.args.self.now.list.items c.args.link c.in-Some.place c.requires c.in-Some.is c.at-node.result c.at-node.ensures from u tree in
    subst (λ (s : Shape g.row.V.Denot). c.push_inside-3.new.found.items ≡ c.args.found.now.items ++ walk c.args.prefix s c.args.x) (sym o.is)
    (f _ o.beside o.beside_tree
    ∙ ap (λ ps. ps ++ walk c.args.prefix o.beside c.args.x) (c.in_ok-push_inside.ensures _ o.below o.below_tree ∙ ap (λ ps. ps ++ walk c.with-path.result o.below c.args.x) c.in_ok-push_entry.ensures)
    ∙ ap (λ (p : ℕ). ((c.args.found.now.items ++ entry p c.at-node.result.value) ++ walk p o.below c.args.x) ++ walk c.args.prefix o.beside c.args.x) c.with-path.ensures
    ∙ regroup c.args.found.now.items (entry (with c.args.prefix c.at-node.result.column) c.at-node.result.value) (walk (with c.args.prefix c.at-node.result.column) o.below c.args.x) (walk c.args.prefix o.beside c.args.x)
    ∙ ap (λ ps. c.args.found.now.items ++ ps) (sym (walk_here c.in-Some.place c.at-node.result.column c.at-node.result.value o.below o.beside c.args.x c.args.prefix (sym c.has.ensures ∙ c.if-not-has.false))))) c.push_inside-3.ensures
