use Rattle.std.proofs.Common.{◌≡◌, ◌∙◌, ◌++◌, sym, ap, ap₂, subst, ℕ, arith}
use Rattle.col_set.specs.ColSet.{with}
use Rattle.set_tree.specs.Tree.{Shape}
use Rattle.set_tree.specs.Walks.{walk, joined, entry}
use Rattle.set_tree.proofs.Reading.{opens, rooted_within, rooted_below, rooted_beside, column_narrow, below_falls, beside_falls, reads_nothing, walk_past, walk_here, walk_nothing, joined-append, joined_none}
use Rattle.set_tree.proofs.nodes.Nodes.+fold_inside.Goals as goal

pub returns-in_default : goal.returns-in_default
returns-in_default g t c from u tree f h = subst (λ (s : Shape g.row.V.Denot). c.args.start ≡ joined f c.args.start (walk c.args.prefix s c.args.x)) (sym (reads_nothing c.args.self.now.list.items c.args.link from u c.in_default.is tree))
    (sym (ap (joined f c.args.start) (walk_nothing g.row.V.Denot c.args.prefix c.args.x) ∙ joined_none f c.args.start))

pub at-node-requires : goal.at-node-requires
at-node-requires g t c = rooted_within c.args.self.now.list.items c.args.link c.in-Some.place c.requires.tree c.in-Some.is

pub has-requires : goal.has-requires
has-requires g t c = column_narrow c.args.self.now.list.items c.args.link c.in-Some.place c.requires.tree c.in-Some.is c.at-node.result c.at-node.ensures

pub fold_inside-requires : goal.fold_inside-requires
fold_inside-requires g t c κs b = ((let l = beside_falls c.args.self.now.list.items c.args.link c.in-Some.place c.requires.tree c.in-Some.is c.at-node.result c.at-node.ensures in omega (arith, l, c.decreases)), (b.0, (b.1.0, (b.1.1, (rooted_beside c.args.self.now.list.items c.args.link c.in-Some.place c.requires.tree c.in-Some.is c.at-node.result c.at-node.ensures, c.requires.join)))))

pub returns-then-not-has : goal.returns-then-not-has
returns-then-not-has g t c from u tree f h =
    let o = opens c.args.self.now.list.items c.args.link c.in-Some.place c.requires.tree c.in-Some.is c.at-node.result c.at-node.ensures from u tree in
    subst (λ (s : Shape g.row.V.Denot). c.fold_inside.result ≡ joined f c.args.start (walk c.args.prefix s c.args.x)) (sym o.is)
    (c.fold_inside.ensures _ o.beside o.beside_tree f h ∙ ap (joined f c.args.start) (sym (walk_past c.in-Some.place c.at-node.result.column c.at-node.result.value o.below o.beside c.args.x c.args.prefix (sym c.has.ensures ∙ c.if-not-has.true))))

pub with-path-requires : goal.with-path-requires
with-path-requires g t c = column_narrow c.args.self.now.list.items c.args.link c.in-Some.place c.requires.tree c.in-Some.is c.at-node.result c.at-node.ensures

pub fold_inside-below-requires : goal.fold_inside-below-requires
fold_inside-below-requires g t c κs b = ((let l = below_falls c.args.self.now.list.items c.args.link c.in-Some.place c.requires.tree c.in-Some.is c.at-node.result c.at-node.ensures in omega (arith, l, c.decreases)), (b.0, (b.1.0, (b.1.1, (rooted_below c.args.self.now.list.items c.args.link c.in-Some.place c.requires.tree c.in-Some.is c.at-node.result c.at-node.ensures, c.requires.join)))))

pub fold_inside-requires-2 : goal.fold_inside-requires-2
fold_inside-requires-2 g t c κs b = ((let l = beside_falls c.args.self.now.list.items c.args.link c.in-Some.place c.requires.tree c.in-Some.is c.at-node.result c.at-node.ensures in omega (arith, l, c.decreases)), (b.0, (b.1.0, (b.1.1, (rooted_beside c.args.self.now.list.items c.args.link c.in-Some.place c.requires.tree c.in-Some.is c.at-node.result c.at-node.ensures, c.requires.join)))))

pub returns : goal.returns
returns g t c from u tree f h =
    let o = opens c.args.self.now.list.items c.args.link c.in-Some.place c.requires.tree c.in-Some.is c.at-node.result c.at-node.ensures from u tree in
    subst (λ (s : Shape g.row.V.Denot). c.fold_inside-2.result ≡ joined f c.args.start (walk c.args.prefix s c.args.x)) (sym o.is)
    (c.fold_inside-2.ensures _ o.beside o.beside_tree f h
    ∙ ap (λ a. joined f a (walk c.args.prefix o.beside c.args.x)) (c.fold_inside-below.ensures _ o.below o.below_tree f h
    ∙ ap₂ (λ a ps. joined f a ps) (c.join_entry-own.ensures f h ∙ ap (λ (p : ℕ). joined f c.args.start (entry p c.at-node.result.value)) c.with-path.ensures) (ap (λ (p : ℕ). walk p o.below c.args.x) c.with-path.ensures)
    ∙ sym (joined-append f c.args.start (entry (with c.args.prefix c.at-node.result.column) c.at-node.result.value) (walk (with c.args.prefix c.at-node.result.column) o.below c.args.x)))
    ∙ sym (joined-append f c.args.start (entry (with c.args.prefix c.at-node.result.column) c.at-node.result.value ++ walk (with c.args.prefix c.at-node.result.column) o.below c.args.x) (walk c.args.prefix o.beside c.args.x))
    ∙ ap (joined f c.args.start) (sym (walk_here c.in-Some.place c.at-node.result.column c.at-node.result.value o.below o.beside c.args.x c.args.prefix (sym c.has.ensures ∙ c.if-not-has.false))))
