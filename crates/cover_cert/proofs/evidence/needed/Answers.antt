use Rattle.std.proofs.Common.{◌≡◌, ◌⊎◌, ◌∙◌, ℕ, List, sym, ap, subst, inl, inr}
use Rattle.col_set.specs.ColSet.{Columns, all, minus}
use Rattle.col_set.specs.Lists.{Listed}
use Rattle.set_tree.specs.Pairs.{keys}
use Rattle.cover_cert.specs.Evidence.{IsJoined}
use Rattle.cover_cert.proofs.Told.{sifted-none, sifted-kept, sifted-left, sifted-whole, keys-inserted, none_left}
use Rattle.cover_cert.proofs.evidence.needed.Goals as goal

pub loop-witness-init : goal.loop-witness-init
loop-witness-init c = sifted-none c.args.columns c.args.witnesses.now c.in_ok-rest.rest.items c.new-kept.result.items (keys c.new-lacking.result) c.in_ok-rest.ensures c.new-kept.ensures.items (ap keys c.new-lacking.ensures)

pub loop-witness-preserved-in-Continue-branch-3 : goal.loop-witness-preserved-in-Continue-branch-3
loop-witness-preserved-in-Continue-branch-3 c =
    let lacks : c.minus-lacks.result ≡ minus (all c.args.columns) c.in-Some.witness.agree = c.minus-lacks.ensures ∙ ap (λ (z : ℕ). minus z c.in-Some.witness.agree) c.all-all.ensures in
    sifted-kept c.args.columns c.args.witnesses.now c.loop-witness.rest.items c.pop.new.self.items c.loop-witness.kept.items (keys c.loop-witness.lacking) c.in-Some.witness c.in-Some.ensures.items c.loop-witness.invariant
    c.push.new.self.items (keys c.insert.new.self) c.in_ok-push.ensures.items
    (λ k l. keyed (keys c.loop-witness.lacking) c.minus-lacks.result (minus (all c.args.columns) c.in-Some.witness.agree) k (keys-inserted c.loop-witness.lacking c.minus-lacks.result tt k (subst (λ (ps : List (Columns × Unit {0})). Listed k (keys ps)) c.in_ok-insert.ensures.pairs l)) lacks)
  where
    keyed : (sets : List Columns) (x y k : Columns) → (k ≡ x) ⊎ Listed k sets → x ≡ y → (k ≡ y) ⊎ Listed k sets
    keyed sets x y k (inl e) f = inl (e ∙ f)
    keyed sets x y k (inr l) f = inr l

pub loop-witness-preserved : goal.loop-witness-preserved
loop-witness-preserved c =
    let lacks : c.minus-lacks.result ≡ minus (all c.args.columns) c.in-Some.witness.agree = c.minus-lacks.ensures ∙ ap (λ (z : ℕ). minus z c.in-Some.witness.agree) c.all-all.ensures in
    sifted-left c.args.columns c.args.witnesses.now c.loop-witness.rest.items c.pop.new.self.items c.loop-witness.kept.items (keys c.loop-witness.lacking) c.in-Some.witness c.in-Some.ensures.items c.loop-witness.invariant
    (subst (λ (z : ℕ). IsJoined (keys c.loop-witness.lacking) z) lacks (c.is_joined.ensures c.if-not-is_joined.false))

pub returns-clause-among : goal.returns-clause-among
returns-clause-among c = c.loop-witness.invariant.among

pub returns-clause-whole : goal.returns-clause-whole
returns-clause-whole c = sifted-whole c.args.columns c.args.witnesses.now c.loop-witness.rest.items c.loop-witness.kept.items (keys c.loop-witness.lacking)
    (none_left c.loop-witness.rest.items (sym c.loop-witness.rest.ok.0 ∙ c.in_default.ensures.cases.0)) c.loop-witness.invariant
