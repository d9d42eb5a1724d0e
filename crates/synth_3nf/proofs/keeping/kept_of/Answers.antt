use Rattle.std.proofs.Common.{◌≡◌, ◌<◌, ◌∙◌, ◌++◌, [], List, ◌∷◌, append_assoc, false, true, refl, sym, ap, subst}
use Rattle.std.specs.List.{All}
use Rattle.col_set.specs.declared.col_set.TheConstants.{MOST_COLUMNS}
use Rattle.rel_base.specs.declared.dependency.Fd.{Fd}
use Rattle.synth_3nf.specs.Reached.{follows}
use Rattle.synth_3nf.specs.Canonical.{tried}
use Rattle.synth_3nf.proofs.Rest.{first-of, rest-of, none-left, All-last, All-none}
use Rattle.synth_3nf.proofs.Ends.{ends}
use Rattle.synth_3nf.proofs.Trials.{tried-begin, tried-more, tried-end}
use Rattle.synth_3nf.proofs.keeping.kept_of.Goals as goal

pub loop-fd-init : goal.loop-fd-init
loop-fd-init c = record {
  kept = ap (λ (ks : List Fd). tried ks c.args.fds.now) c.new-kept.ensures.items ∙ tried-begin c.args.fds.now;
  narrow = All-none (λ (fd : Fd). fd.right < MOST_COLUMNS) c.new-kept.result.items c.new-kept.ensures.items;
  narrow_rest = c.requires.order.narrow;
  before = [];
  parts = refl;
}

pub follows-requires-clause-kept : goal.follows-requires-clause-kept
follows-requires-clause-kept c = subst (λ (fds : List Fd). All (λ (fd : Fd). fd.right < MOST_COLUMNS) fds) (sym c.as_slice.ensures.value) c.loop-fd.invariant.narrow

pub follows-requires-clause-told : goal.follows-requires-clause-told
follows-requires-clause-told c =
    let i = c.loop-fd.invariant in
    ends c.args.fds.now i.before c.in-Some.fd.now c.in-Some.later.now c.args.sides.now c.requires.order c.requires.told (ap (λ (fds : List Fd). i.before ++ fds) (sym c.in-Some.ensures.cases.0) ∙ i.parts)

pub follows-requires-clause-own : goal.follows-requires-clause-own
follows-requires-clause-own c = first-of (λ (fd : Fd). fd.right < MOST_COLUMNS) c.in-Some.fd.now c.in-Some.later.now c.loop-fd.rest.now c.in-Some.ensures.cases.0 c.loop-fd.invariant.narrow_rest

pub loop-fd-preserved-in_ok-push : goal.loop-fd-preserved-in_ok-push
loop-fd-preserved-in_ok-push c =
    let narrow = λ (fd : Fd). fd.right < MOST_COLUMNS in
    let f : follows (c.loop-fd.kept.items ++ c.in-Some.later.now) c.in-Some.fd.now ≡ false =
    ap (λ (ks : List Fd). follows (ks ++ c.in-Some.later.now) c.in-Some.fd.now) (sym c.as_slice.ensures.value) ∙ sym c.follows.ensures ∙ c.if-not-follows.true in
    record {
      kept = ap (λ (ks : List Fd). tried ks c.in-Some.later.now) c.in_ok-push.ensures.items
          ∙ tried-more c.loop-fd.kept.items c.loop-fd.rest.now c.in-Some.later.now c.in-Some.fd.now false c.in-Some.ensures.cases.0 f ∙ c.loop-fd.invariant.kept;
      narrow = subst (λ (fds : List Fd). All (λ (fd : Fd). fd.right < MOST_COLUMNS) fds) (sym c.in_ok-push.ensures.items)
          (All-last (λ (fd : Fd). fd.right < MOST_COLUMNS) c.loop-fd.kept.items c.in-Some.fd.now c.loop-fd.invariant.narrow
          (first-of (λ (fd : Fd). fd.right < MOST_COLUMNS) c.in-Some.fd.now c.in-Some.later.now c.loop-fd.rest.now c.in-Some.ensures.cases.0 c.loop-fd.invariant.narrow_rest));
      narrow_rest = rest-of (λ (fd : Fd). fd.right < MOST_COLUMNS) c.in-Some.fd.now c.in-Some.later.now c.loop-fd.rest.now c.in-Some.ensures.cases.0 c.loop-fd.invariant.narrow_rest;
      before = c.loop-fd.invariant.before ++ c.in-Some.fd.now ∷ [];
      parts = append_assoc c.loop-fd.invariant.before (c.in-Some.fd.now ∷ []) c.in-Some.later.now ∙ ap (λ (fds : List Fd). c.loop-fd.invariant.before ++ fds) (sym c.in-Some.ensures.cases.0) ∙ c.loop-fd.invariant.parts;
    }

pub loop-fd-preserved : goal.loop-fd-preserved
loop-fd-preserved c =
    let f : follows (c.loop-fd.kept.items ++ c.in-Some.later.now) c.in-Some.fd.now ≡ true =
    ap (λ (ks : List Fd). follows (ks ++ c.in-Some.later.now) c.in-Some.fd.now) (sym c.as_slice.ensures.value) ∙ sym c.follows.ensures ∙ c.if-not-follows.false in
    record {
      kept = tried-more c.loop-fd.kept.items c.loop-fd.rest.now c.in-Some.later.now c.in-Some.fd.now true c.in-Some.ensures.cases.0 f ∙ c.loop-fd.invariant.kept;
      narrow = c.loop-fd.invariant.narrow;
      narrow_rest = rest-of (λ (fd : Fd). fd.right < MOST_COLUMNS) c.in-Some.fd.now c.in-Some.later.now c.loop-fd.rest.now c.in-Some.ensures.cases.0 c.loop-fd.invariant.narrow_rest;
      before = c.loop-fd.invariant.before ++ c.in-Some.fd.now ∷ [];
      parts = append_assoc c.loop-fd.invariant.before (c.in-Some.fd.now ∷ []) c.in-Some.later.now ∙ ap (λ (fds : List Fd). c.loop-fd.invariant.before ++ fds) (sym c.in-Some.ensures.cases.0) ∙ c.loop-fd.invariant.parts;
    }

pub returns : goal.returns
returns c = sym (tried-end c.loop-fd.kept.items c.loop-fd.rest.now (none-left c.loop-fd.rest.now c.in_default.ensures.cases)) ∙ c.loop-fd.invariant.kept
