use Rattle.std.proofs.Common.{◌≡◌, ◌∙◌, ◌==◌, refl, sym, ap, subst, ℕ, true, false, Bool, Some, if◌then◌else◌}
use Rattle.std.specs.Option.{is_some}
use Rattle.std.proofs.lemmas.Bool.{eqb-true, eqb-false}
use Rattle.col_set.specs.declared.col_set.TheConstants.{MOST_COLUMNS}
use Rattle.set_tree.specs.Tree.{but, IsTree}
use Rattle.set_tree.specs.Pairs.{is_key, with_value}
use Rattle.set_tree.specs.Walks.{listed, values, read}
use Rattle.set_tree.proofs.Spots.{tree_reads}
use Rattle.set_tree.proofs.Listing.{is_key_listed, listed_replaced, listed_not_replaced}
use Rattle.set_tree.proofs.Whole.{becomes_tree, becomes_seen, values_but, values_top, values_here, values_path, values_narrow}
use Rattle.set_tree.proofs.set_tree.SetTree.set.Goals as goal

pub returns-then-is_none-clause-found : goal.returns-then-is_none-clause-found
returns-then-is_none-clause-found g c = sym (ap is_some (values_here c.self.inside.of_empty (read MOST_COLUMNS c.self.inside.nodes.list.items c.self.inside.first) c.args.x (eqb-true _ _ (sym c.eq.ensures ∙ c.if-eq.true) ∙ c.empty.ensures)) ∙ c.if-is_none.ensures) ∙ sym (is_key_listed (values c.self.inside.of_empty (read MOST_COLUMNS c.self.inside.nodes.list.items c.self.inside.first)) (values_narrow c.self.inside.of_empty (read MOST_COLUMNS c.self.inside.nodes.list.items c.self.inside.first) c.self.invariant.ascends) c.args.x) ∙ ap (λ ps. is_key ps c.args.x) c.self.view_is

pub returns-then-is_none-clause-pairs : goal.returns-then-is_none-clause-pairs
returns-then-is_none-clause-pairs g c = subst (λ ps. ps ≡ with_value ps c.args.x c.args.v) c.self.view_is (listed_not_replaced (values c.self.inside.of_empty (read MOST_COLUMNS c.self.inside.nodes.list.items c.self.inside.first)) c.args.x c.args.v (ap is_some (values_here c.self.inside.of_empty (read MOST_COLUMNS c.self.inside.nodes.list.items c.self.inside.first) c.args.x (eqb-true _ _ (sym c.eq.ensures ∙ c.if-eq.true) ∙ c.empty.ensures)) ∙ c.if-is_none.ensures))

pub returns-then-eq-clause-found : goal.returns-then-eq-clause-found
returns-then-eq-clause-found g c = sym (ap is_some (values_here c.self.inside.of_empty (read MOST_COLUMNS c.self.inside.nodes.list.items c.self.inside.first) c.args.x (eqb-true _ _ (sym c.eq.ensures ∙ c.if-eq.true) ∙ c.empty.ensures)) ∙ c.if-is_none.ensures) ∙ sym (is_key_listed (values c.self.inside.of_empty (read MOST_COLUMNS c.self.inside.nodes.list.items c.self.inside.first)) (values_narrow c.self.inside.of_empty (read MOST_COLUMNS c.self.inside.nodes.list.items c.self.inside.first) c.self.invariant.ascends) c.args.x) ∙ ap (λ ps. is_key ps c.args.x) c.self.view_is

pub returns-then-eq-clause-pairs : goal.returns-then-eq-clause-pairs
returns-then-eq-clause-pairs g c =
    listed_replaced (values c.self.inside.of_empty (read MOST_COLUMNS c.self.inside.nodes.list.items c.self.inside.first)) (values (Some c.args.v) (read MOST_COLUMNS c.self.inside.nodes.list.items c.self.inside.first)) c.args.x c.args.v (ap is_some (values_here c.self.inside.of_empty (read MOST_COLUMNS c.self.inside.nodes.list.items c.self.inside.first) c.args.x (eqb-true _ _ (sym c.eq.ensures ∙ c.if-eq.true) ∙ c.empty.ensures)) ∙ c.if-is_none.ensures)
    (λ y. values_top c.self.inside.of_empty (Some c.args.v) (read MOST_COLUMNS c.self.inside.nodes.list.items c.self.inside.first) y ∙ ap (λ (z : ℕ). if y == z then Some c.args.v else values c.self.inside.of_empty (read MOST_COLUMNS c.self.inside.nodes.list.items c.self.inside.first) y) (sym (eqb-true _ _ (sym c.eq.ensures ∙ c.if-eq.true) ∙ c.empty.ensures)))
    ∙ ap (λ ps. with_value ps c.args.x c.args.v) c.self.view_is

pub invariant_of-self-2 : goal.invariant_of-self-2
invariant_of-self-2 g c = by c.replace.result refl
  where
    by : (b : Bool) → c.replace.result ≡ b → IsTree c.replace.new.self.list.items c.replace.new.self.unused.items c.self.inside.first 0 (read MOST_COLUMNS c.replace.new.self.list.items c.self.inside.first)
    by true e = becomes_tree c.self.inside.nodes.list.items c.replace.new.self.list.items c.self.inside.nodes.unused.items c.replace.new.self.unused.items c.self.inside.first c.self.inside.first (read MOST_COLUMNS c.self.inside.nodes.list.items c.self.inside.first) (but (read MOST_COLUMNS c.self.inside.nodes.list.items c.self.inside.first) c.args.x (Some c.args.v)) c.self.invariant (c.replace.ensures.path e 0 (read MOST_COLUMNS c.self.inside.nodes.list.items c.self.inside.first) c.self.invariant)
    by false e = subst (λ n. IsTree n.list.items n.unused.items c.self.inside.first 0 (read MOST_COLUMNS n.list.items c.self.inside.first)) (sym (c.replace.ensures.refused e)) c.self.invariant

pub returns-clause-found : goal.returns-clause-found
returns-clause-found g c = c.replace.ensures.found 0 (read MOST_COLUMNS c.self.inside.nodes.list.items c.self.inside.first) (tree_reads c.self.inside.nodes.list.items c.self.inside.nodes.unused.items c.self.inside.first 0 (read MOST_COLUMNS c.self.inside.nodes.list.items c.self.inside.first) c.self.invariant) ∙ ap is_some (sym (values_path c.self.inside.of_empty (read MOST_COLUMNS c.self.inside.nodes.list.items c.self.inside.first) c.args.x (λ e. eqb-false _ _ (sym c.eq.ensures ∙ c.if-eq.false) (e ∙ sym c.empty.ensures)))) ∙ sym (is_key_listed (values c.self.inside.of_empty (read MOST_COLUMNS c.self.inside.nodes.list.items c.self.inside.first)) (values_narrow c.self.inside.of_empty (read MOST_COLUMNS c.self.inside.nodes.list.items c.self.inside.first) c.self.invariant.ascends) c.args.x) ∙ ap (λ ps. is_key ps c.args.x) c.self.view_is

pub returns-clause-pairs : goal.returns-clause-pairs
returns-clause-pairs g c = by c.replace.result refl
  where
    found : is_some (values c.self.inside.of_empty (read MOST_COLUMNS c.self.inside.nodes.list.items c.self.inside.first) c.args.x) ≡ c.replace.result
    found = ap is_some (values_path c.self.inside.of_empty (read MOST_COLUMNS c.self.inside.nodes.list.items c.self.inside.first) c.args.x (λ e. eqb-false _ _ (sym c.eq.ensures ∙ c.if-eq.false) (e ∙ sym c.empty.ensures))) ∙ sym (c.replace.ensures.found 0 (read MOST_COLUMNS c.self.inside.nodes.list.items c.self.inside.first) (tree_reads c.self.inside.nodes.list.items c.self.inside.nodes.unused.items c.self.inside.first 0 (read MOST_COLUMNS c.self.inside.nodes.list.items c.self.inside.first) c.self.invariant))

    by : (b : Bool) → c.replace.result ≡ b → listed (values c.self.inside.of_empty (read MOST_COLUMNS c.replace.new.self.list.items c.self.inside.first)) ≡ with_value c.args.self.now c.args.x c.args.v
    by true e = listed_replaced (values c.self.inside.of_empty (read MOST_COLUMNS c.self.inside.nodes.list.items c.self.inside.first)) (values c.self.inside.of_empty (read MOST_COLUMNS c.replace.new.self.list.items c.self.inside.first)) c.args.x c.args.v (found ∙ e) (values_but c.self.inside.of_empty (read MOST_COLUMNS c.self.inside.nodes.list.items c.self.inside.first) (read MOST_COLUMNS c.replace.new.self.list.items c.self.inside.first) c.args.x (Some c.args.v) (λ e. eqb-false _ _ (sym c.eq.ensures ∙ c.if-eq.false) (e ∙ sym c.empty.ensures)) (λ y. becomes_seen c.self.inside.nodes.list.items c.replace.new.self.list.items c.self.inside.nodes.unused.items c.replace.new.self.unused.items c.self.inside.first c.self.inside.first (read MOST_COLUMNS c.self.inside.nodes.list.items c.self.inside.first) (but (read MOST_COLUMNS c.self.inside.nodes.list.items c.self.inside.first) c.args.x (Some c.args.v)) c.self.invariant (c.replace.ensures.path e 0 (read MOST_COLUMNS c.self.inside.nodes.list.items c.self.inside.first) c.self.invariant) y))
        ∙ ap (λ ps. with_value ps c.args.x c.args.v) c.self.view_is
    by false e = ap (λ n. listed (values c.self.inside.of_empty (read MOST_COLUMNS n.list.items c.self.inside.first))) (c.replace.ensures.refused e) ∙ listed_not_replaced (values c.self.inside.of_empty (read MOST_COLUMNS c.self.inside.nodes.list.items c.self.inside.first)) c.args.x c.args.v (found ∙ e)
        ∙ ap (λ ps. with_value ps c.args.x c.args.v) c.self.view_is
