use Rattle.std.proofs.Common.{◌≡◌, ◌∙◌, ◌||◌, true, false, sym, ap₂, subst, Bool, arith}
use Rattle.std.specs.Option.{is_some}
use Rattle.set_tree.specs.Tree.{Shape}
use Rattle.set_tree.specs.Walks.{any_inside}
use Rattle.set_tree.proofs.Reading.{opens, rooted_within, rooted_below, rooted_beside, column_narrow, below_falls, beside_falls, reads_nothing, any_past, any_here, any_nothing}
use Rattle.std.proofs.lemmas.Bool.{or_left, or_right}
use Rattle.set_tree.proofs.nodes.Nodes.+any_inside.Goals as goal

pub returns-in_default : goal.returns-in_default
returns-in_default g t c from u tree = subst (λ (s : Shape g.row.V.Denot). false ≡ any_inside s c.args.x) (sym (reads_nothing c.args.self.now.list.items c.args.link from u c.in_default.is tree)) (sym (any_nothing g.row.V.Denot c.args.x))

pub at-node-requires : goal.at-node-requires
at-node-requires g t c = rooted_within c.args.self.now.list.items c.args.link c.in-Some.place c.requires c.in-Some.is

pub has-requires : goal.has-requires
has-requires g t c = column_narrow c.args.self.now.list.items c.args.link c.in-Some.place c.requires c.in-Some.is c.at-node.result c.at-node.ensures

pub any_inside-requires : goal.any_inside-requires
any_inside-requires g t c κs b = ((let l = beside_falls c.args.self.now.list.items c.args.link c.in-Some.place c.requires c.in-Some.is c.at-node.result c.at-node.ensures in omega (arith, l, c.decreases)), (b, rooted_beside c.args.self.now.list.items c.args.link c.in-Some.place c.requires c.in-Some.is c.at-node.result c.at-node.ensures))

pub returns-then-not-has : goal.returns-then-not-has
returns-then-not-has g t c from u tree =
    let o = opens c.args.self.now.list.items c.args.link c.in-Some.place c.requires c.in-Some.is c.at-node.result c.at-node.ensures from u tree in
    subst (λ (s : Shape g.row.V.Denot). c.any_inside.result ≡ any_inside s c.args.x) (sym o.is)
    (c.any_inside.ensures _ o.beside o.beside_tree ∙ sym (any_past c.in-Some.place c.at-node.result.column c.at-node.result.value o.below o.beside c.args.x (sym c.has.ensures ∙ c.if-not-has.true)))

pub returns-then-is_some : goal.returns-then-is_some
returns-then-is_some g t c from u tree =
    let o = opens c.args.self.now.list.items c.args.link c.in-Some.place c.requires c.in-Some.is c.at-node.result c.at-node.ensures from u tree in
    subst (λ (s : Shape g.row.V.Denot). true ≡ any_inside s c.args.x) (sym o.is)
    (sym (any_here c.in-Some.place c.at-node.result.column c.at-node.result.value o.below o.beside c.args.x (sym c.has.ensures ∙ c.if-not-has.false) ∙ or_left _ _ (or_left _ _ (sym c.is_some.ensures ∙ c.if-is_some.true))))

pub any_inside-requires-2 : goal.any_inside-requires-2
any_inside-requires-2 g t c κs b = ((let l = below_falls c.args.self.now.list.items c.args.link c.in-Some.place c.requires c.in-Some.is c.at-node.result c.at-node.ensures in omega (arith, l, c.decreases)), (b, rooted_below c.args.self.now.list.items c.args.link c.in-Some.place c.requires c.in-Some.is c.at-node.result c.at-node.ensures))

pub returns-then-any_inside : goal.returns-then-any_inside
returns-then-any_inside g t c from u tree =
    let o = opens c.args.self.now.list.items c.args.link c.in-Some.place c.requires c.in-Some.is c.at-node.result c.at-node.ensures from u tree in
    subst (λ (s : Shape g.row.V.Denot). true ≡ any_inside s c.args.x) (sym o.is)
    (sym (any_here c.in-Some.place c.at-node.result.column c.at-node.result.value o.below o.beside c.args.x (sym c.has.ensures ∙ c.if-not-has.false) ∙ or_left _ _ (or_right (is_some c.at-node.result.value) _ (sym (c.any_inside-2.ensures _ o.below o.below_tree) ∙ c.if-any_inside.true))))

pub any_inside-requires-3 : goal.any_inside-requires-3
any_inside-requires-3 g t c κs b = ((let l = beside_falls c.args.self.now.list.items c.args.link c.in-Some.place c.requires c.in-Some.is c.at-node.result c.at-node.ensures in omega (arith, l, c.decreases)), (b, rooted_beside c.args.self.now.list.items c.args.link c.in-Some.place c.requires c.in-Some.is c.at-node.result c.at-node.ensures))

pub returns : goal.returns
returns g t c from u tree =
    let o = opens c.args.self.now.list.items c.args.link c.in-Some.place c.requires c.in-Some.is c.at-node.result c.at-node.ensures from u tree in
    subst (λ (s : Shape g.row.V.Denot). c.any_inside-3.result ≡ any_inside s c.args.x) (sym o.is)
    (c.any_inside-3.ensures _ o.beside o.beside_tree
    ∙ sym (any_here c.in-Some.place c.at-node.result.column c.at-node.result.value o.below o.beside c.args.x (sym c.has.ensures ∙ c.if-not-has.false) ∙ ap₂ (λ (p q : Bool). (p || q) || any_inside o.beside c.args.x) (sym c.is_some.ensures ∙ c.if-is_some.false) (sym (c.any_inside-2.ensures _ o.below o.below_tree) ∙ c.if-any_inside.false)))
