use Rattle.std.proofs.Common.{◌≡◌, ◌∙◌, ◌==◌, sym, ap, subst, ℕ, true, Some, if◌then◌else◌, arith}
use Rattle.col_set.specs.ColSet.{with, has}
use Rattle.col_set.specs.declared.col_set.TheConstants.{MOST_COLUMNS}
use Rattle.set_tree.specs.Tree.{look, but, IsTree}
use Rattle.set_tree.specs.Pairs.{inserted}
use Rattle.set_tree.specs.Walks.{listed, values, read}
use Rattle.set_tree.proofs.Paths.{first_behind, first_whole, first_none, first_some, on_err_any}
use Rattle.set_tree.proofs.Listing.{listed_inserted}
use Rattle.set_tree.proofs.Whole.{becomes_tree, becomes_seen, values_but, values_top, values_narrow, still_tree, read_tree}
use Rattle.set_tree.proofs.set_tree.SetTree.insert.Goals as goal

pub insert-requires-clause-behind : goal.insert-requires-clause-behind
insert-requires-clause-behind g c k h = first_behind c.args.x c.in-Some.column c.in-Some.ensures.value k (subst (λ (z : ℕ). has z k ≡ true) c.without.ensures h)

pub invariant_of-self-in_err-first-in-Some : goal.invariant_of-self-in_err-first-in-Some
invariant_of-self-in_err-first-in-Some g c = subst (IsTree c.insert.new.self.list.items c.insert.new.self.unused.items c.self.inside.first 0) (sym (read_tree c.insert.new.self.list.items c.insert.new.self.unused.items c.self.inside.first (read MOST_COLUMNS c.self.inside.nodes.list.items c.self.inside.first) (still_tree c.reserve.new.self.list.items c.insert.new.self.list.items c.reserve.new.self.unused.items c.insert.new.self.unused.items c.self.inside.first (read MOST_COLUMNS c.self.inside.nodes.list.items c.self.inside.first) (subst (λ ns. IsTree ns c.reserve.new.self.unused.items c.self.inside.first 0 (read MOST_COLUMNS c.self.inside.nodes.list.items c.self.inside.first)) (sym c.in_ok-reserve-in-Some.ensures.list) (subst (λ us. IsTree c.self.inside.nodes.list.items us c.self.inside.first 0 (read MOST_COLUMNS c.self.inside.nodes.list.items c.self.inside.first)) (sym c.in_ok-reserve-in-Some.ensures.unused) c.self.invariant)) c.in_err-first-in-Some.ensures.refused))) (still_tree c.reserve.new.self.list.items c.insert.new.self.list.items c.reserve.new.self.unused.items c.insert.new.self.unused.items c.self.inside.first (read MOST_COLUMNS c.self.inside.nodes.list.items c.self.inside.first) (subst (λ ns. IsTree ns c.reserve.new.self.unused.items c.self.inside.first 0 (read MOST_COLUMNS c.self.inside.nodes.list.items c.self.inside.first)) (sym c.in_ok-reserve-in-Some.ensures.list) (subst (λ us. IsTree c.self.inside.nodes.list.items us c.self.inside.first 0 (read MOST_COLUMNS c.self.inside.nodes.list.items c.self.inside.first)) (sym c.in_ok-reserve-in-Some.ensures.unused) c.self.invariant)) c.in_err-first-in-Some.ensures.refused)

pub returns-in_err-first-in-Some-clause-refused : goal.returns-in_err-first-in-Some-clause-refused
returns-in_err-first-in-Some-clause-refused g c = on_err_any c.from_residual-in_err-first-in-Some.result (ap (λ s. listed (values c.self.inside.of_empty s)) (read_tree c.insert.new.self.list.items c.insert.new.self.unused.items c.self.inside.first (read MOST_COLUMNS c.self.inside.nodes.list.items c.self.inside.first) (still_tree c.reserve.new.self.list.items c.insert.new.self.list.items c.reserve.new.self.unused.items c.insert.new.self.unused.items c.self.inside.first (read MOST_COLUMNS c.self.inside.nodes.list.items c.self.inside.first) (subst (λ ns. IsTree ns c.reserve.new.self.unused.items c.self.inside.first 0 (read MOST_COLUMNS c.self.inside.nodes.list.items c.self.inside.first)) (sym c.in_ok-reserve-in-Some.ensures.list) (subst (λ us. IsTree c.self.inside.nodes.list.items us c.self.inside.first 0 (read MOST_COLUMNS c.self.inside.nodes.list.items c.self.inside.first)) (sym c.in_ok-reserve-in-Some.ensures.unused) c.self.invariant)) c.in_err-first-in-Some.ensures.refused)) ∙ c.self.view_is)

pub invariant_of-self-in-Some : goal.invariant_of-self-in-Some
invariant_of-self-in-Some g c = becomes_tree c.reserve.new.self.list.items c.insert.new.self.list.items c.reserve.new.self.unused.items c.insert.new.self.unused.items c.self.inside.first (Some c.in_ok-first-in-Some.first) (read MOST_COLUMNS c.self.inside.nodes.list.items c.self.inside.first) (but (read MOST_COLUMNS c.self.inside.nodes.list.items c.self.inside.first) (with c.without.result c.in-Some.column) (Some c.args.v)) (subst (λ ns. IsTree ns c.reserve.new.self.unused.items c.self.inside.first 0 (read MOST_COLUMNS c.self.inside.nodes.list.items c.self.inside.first)) (sym c.in_ok-reserve-in-Some.ensures.list) (subst (λ us. IsTree c.self.inside.nodes.list.items us c.self.inside.first 0 (read MOST_COLUMNS c.self.inside.nodes.list.items c.self.inside.first)) (sym c.in_ok-reserve-in-Some.ensures.unused) c.self.invariant)) (c.in_ok-first-in-Some.ensures.path 0 (read MOST_COLUMNS c.self.inside.nodes.list.items c.self.inside.first) (subst (λ ns. IsTree ns c.reserve.new.self.unused.items c.self.inside.first 0 (read MOST_COLUMNS c.self.inside.nodes.list.items c.self.inside.first)) (sym c.in_ok-reserve-in-Some.ensures.list) (subst (λ us. IsTree c.self.inside.nodes.list.items us c.self.inside.first 0 (read MOST_COLUMNS c.self.inside.nodes.list.items c.self.inside.first)) (sym c.in_ok-reserve-in-Some.ensures.unused) c.self.invariant)) (omega arith))

pub returns-in_ok-first-in-Some-clause-pairs : goal.returns-in_ok-first-in-Some-clause-pairs
returns-in_ok-first-in-Some-clause-pairs g c =
    listed_inserted (values c.self.inside.of_empty (read MOST_COLUMNS c.self.inside.nodes.list.items c.self.inside.first)) (values c.self.inside.of_empty (read MOST_COLUMNS c.insert.new.self.list.items (Some c.in_ok-first-in-Some.first))) c.args.x c.args.v (values_narrow c.self.inside.of_empty (read MOST_COLUMNS c.insert.new.self.list.items (Some c.in_ok-first-in-Some.first)) (becomes_tree c.reserve.new.self.list.items c.insert.new.self.list.items c.reserve.new.self.unused.items c.insert.new.self.unused.items c.self.inside.first (Some c.in_ok-first-in-Some.first) (read MOST_COLUMNS c.self.inside.nodes.list.items c.self.inside.first) (but (read MOST_COLUMNS c.self.inside.nodes.list.items c.self.inside.first) (with c.without.result c.in-Some.column) (Some c.args.v)) (subst (λ ns. IsTree ns c.reserve.new.self.unused.items c.self.inside.first 0 (read MOST_COLUMNS c.self.inside.nodes.list.items c.self.inside.first)) (sym c.in_ok-reserve-in-Some.ensures.list) (subst (λ us. IsTree c.self.inside.nodes.list.items us c.self.inside.first 0 (read MOST_COLUMNS c.self.inside.nodes.list.items c.self.inside.first)) (sym c.in_ok-reserve-in-Some.ensures.unused) c.self.invariant)) (c.in_ok-first-in-Some.ensures.path 0 (read MOST_COLUMNS c.self.inside.nodes.list.items c.self.inside.first) (subst (λ ns. IsTree ns c.reserve.new.self.unused.items c.self.inside.first 0 (read MOST_COLUMNS c.self.inside.nodes.list.items c.self.inside.first)) (sym c.in_ok-reserve-in-Some.ensures.list) (subst (λ us. IsTree c.self.inside.nodes.list.items us c.self.inside.first 0 (read MOST_COLUMNS c.self.inside.nodes.list.items c.self.inside.first)) (sym c.in_ok-reserve-in-Some.ensures.unused) c.self.invariant)) (omega arith))).ascends)
    (values_but c.self.inside.of_empty (read MOST_COLUMNS c.self.inside.nodes.list.items c.self.inside.first) (read MOST_COLUMNS c.insert.new.self.list.items (Some c.in_ok-first-in-Some.first)) c.args.x (Some c.args.v) (first_some c.args.x c.in-Some.column c.in-Some.ensures.value)
    (λ y. becomes_seen c.reserve.new.self.list.items c.insert.new.self.list.items c.reserve.new.self.unused.items c.insert.new.self.unused.items c.self.inside.first (Some c.in_ok-first-in-Some.first) (read MOST_COLUMNS c.self.inside.nodes.list.items c.self.inside.first) (but (read MOST_COLUMNS c.self.inside.nodes.list.items c.self.inside.first) (with c.without.result c.in-Some.column) (Some c.args.v)) (subst (λ ns. IsTree ns c.reserve.new.self.unused.items c.self.inside.first 0 (read MOST_COLUMNS c.self.inside.nodes.list.items c.self.inside.first)) (sym c.in_ok-reserve-in-Some.ensures.list) (subst (λ us. IsTree c.self.inside.nodes.list.items us c.self.inside.first 0 (read MOST_COLUMNS c.self.inside.nodes.list.items c.self.inside.first)) (sym c.in_ok-reserve-in-Some.ensures.unused) c.self.invariant)) (c.in_ok-first-in-Some.ensures.path 0 (read MOST_COLUMNS c.self.inside.nodes.list.items c.self.inside.first) (subst (λ ns. IsTree ns c.reserve.new.self.unused.items c.self.inside.first 0 (read MOST_COLUMNS c.self.inside.nodes.list.items c.self.inside.first)) (sym c.in_ok-reserve-in-Some.ensures.list) (subst (λ us. IsTree c.self.inside.nodes.list.items us c.self.inside.first 0 (read MOST_COLUMNS c.self.inside.nodes.list.items c.self.inside.first)) (sym c.in_ok-reserve-in-Some.ensures.unused) c.self.invariant)) (omega arith)) y ∙ ap (λ (z : ℕ). if y == z then Some c.args.v else look (read MOST_COLUMNS c.self.inside.nodes.list.items c.self.inside.first) y) (ap (λ (z : ℕ). with z c.in-Some.column) c.without.ensures ∙ first_whole c.args.x c.in-Some.column c.in-Some.ensures.value)))
    ∙ ap (λ ps. inserted ps c.args.x c.args.v) c.self.view_is

pub returns-in-None-clause-pairs : goal.returns-in-None-clause-pairs
returns-in-None-clause-pairs g c =
    listed_inserted (values c.self.inside.of_empty (read MOST_COLUMNS c.self.inside.nodes.list.items c.self.inside.first)) (values (Some c.args.v) (read MOST_COLUMNS c.self.inside.nodes.list.items c.self.inside.first)) c.args.x c.args.v (values_narrow (Some c.args.v) (read MOST_COLUMNS c.self.inside.nodes.list.items c.self.inside.first) c.self.invariant.ascends)
    (λ y. values_top c.self.inside.of_empty (Some c.args.v) (read MOST_COLUMNS c.self.inside.nodes.list.items c.self.inside.first) y ∙ ap (λ (z : ℕ). if y == z then Some c.args.v else values c.self.inside.of_empty (read MOST_COLUMNS c.self.inside.nodes.list.items c.self.inside.first) y) (sym (first_none c.args.x c.in-None.ensures.value)))
    ∙ ap (λ ps. inserted ps c.args.x c.args.v) c.self.view_is
