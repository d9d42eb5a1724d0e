use Rattle.std.proofs.Common.{◌≡◌, ◌∙◌, sym, ap, subst, Some, None, arith}
use Rattle.set_tree.specs.Tree.{Shape, spot}
use Rattle.set_tree.proofs.Reading.{opens, rooted_within, rooted_below, rooted_beside, column_narrow, below_falls, beside_falls, reads_nothing, spot_past, spot_here, spot_below, spot_nothing}
use Rattle.std.proofs.lemmas.Bool.{eqb-true, eqb-false}
use Rattle.set_tree.proofs.nodes.Nodes.+find.Goals as goal

pub returns-in_default : goal.returns-in_default
returns-in_default g t c from u tree = subst (λ (s : Shape g.row.V.Denot). None ≡ spot s c.args.x) (sym (reads_nothing c.args.self.now.list.items c.args.link from u c.in_default.is tree)) (sym (spot_nothing g.row.V.Denot c.args.x))

pub at-node-requires : goal.at-node-requires
at-node-requires g t c = rooted_within c.args.self.now.list.items c.args.link c.in-Some.place c.requires c.in-Some.is

pub has-requires : goal.has-requires
has-requires g t c = column_narrow c.args.self.now.list.items c.args.link c.in-Some.place c.requires c.in-Some.is c.at-node.result c.at-node.ensures

pub find-requires : goal.find-requires
find-requires g t c κs b = ((let l = beside_falls c.args.self.now.list.items c.args.link c.in-Some.place c.requires c.in-Some.is c.at-node.result c.at-node.ensures in omega (arith, l, c.decreases)), (b, rooted_beside c.args.self.now.list.items c.args.link c.in-Some.place c.requires c.in-Some.is c.at-node.result c.at-node.ensures))

pub returns-then-not-has : goal.returns-then-not-has
returns-then-not-has g t c from u tree =
    let o = opens c.args.self.now.list.items c.args.link c.in-Some.place c.requires c.in-Some.is c.at-node.result c.at-node.ensures from u tree in
    subst (λ (s : Shape g.row.V.Denot). c.find.result ≡ spot s c.args.x) (sym o.is)
    (c.find.ensures _ o.beside o.beside_tree ∙ sym (spot_past c.in-Some.place c.at-node.result.column c.at-node.result.value o.below o.beside c.args.x (sym c.has.ensures ∙ c.if-not-has.true)))

pub without-rest-requires : goal.without-rest-requires
without-rest-requires g t c = column_narrow c.args.self.now.list.items c.args.link c.in-Some.place c.requires c.in-Some.is c.at-node.result c.at-node.ensures

pub returns-then-eq : goal.returns-then-eq
returns-then-eq g t c from u tree =
    let o = opens c.args.self.now.list.items c.args.link c.in-Some.place c.requires c.in-Some.is c.at-node.result c.at-node.ensures from u tree in
    subst (λ (s : Shape g.row.V.Denot). Some c.in-Some.place ≡ spot s c.args.x) (sym o.is)
    (sym (spot_here c.in-Some.place c.at-node.result.column c.at-node.result.value o.below o.beside c.args.x (sym c.has.ensures ∙ c.if-not-has.false) (sym c.without-rest.ensures ∙ eqb-true _ _ (sym c.eq.ensures ∙ c.if-eq.true) ∙ c.empty.ensures)))

pub find-requires-2 : goal.find-requires-2
find-requires-2 g t c κs b = ((let l = below_falls c.args.self.now.list.items c.args.link c.in-Some.place c.requires c.in-Some.is c.at-node.result c.at-node.ensures in omega (arith, l, c.decreases)), (b, rooted_below c.args.self.now.list.items c.args.link c.in-Some.place c.requires c.in-Some.is c.at-node.result c.at-node.ensures))

pub returns : goal.returns
returns g t c from u tree =
    let o = opens c.args.self.now.list.items c.args.link c.in-Some.place c.requires c.in-Some.is c.at-node.result c.at-node.ensures from u tree in
    subst (λ (s : Shape g.row.V.Denot). c.find-2.result ≡ spot s c.args.x) (sym o.is)
    (c.find-2.ensures _ o.below o.below_tree ∙ ap (spot o.below) c.without-rest.ensures ∙ sym (spot_below c.in-Some.place c.at-node.result.column c.at-node.result.value o.below o.beside c.args.x (sym c.has.ensures ∙ c.if-not-has.false) (λ e. eqb-false _ _ (sym c.eq.ensures ∙ c.if-eq.false) (c.without-rest.ensures ∙ e ∙ sym c.empty.ensures))))
