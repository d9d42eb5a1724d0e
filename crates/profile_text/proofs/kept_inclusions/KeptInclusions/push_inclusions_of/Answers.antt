use Rattle.std.proofs.Common.{◌∙◌, ◌∷◌, [], ℕ, Vec, Global, ap, sym, subst, append-nil}
use Rattle.col_set.specs.ColSet.{union, without}
use Rattle.rel_base.specs.Inclusion.{all_columns, included}
use Rattle.inclusion_merge.proofs.Pairing.{row_left, row_pushed}
use Rattle.profile_text.specs.Including.{IsIncludedIn}
use Rattle.profile_text.proofs.Including.{more_known, none_known}
use Rattle.profile_text.proofs.kept_inclusions.KeptInclusions.push_inclusions_of.Goals as goal
use Rattle.profile_text.proofs.kept_inclusions.KeptInclusions.push_inclusions_of.Goals.{then-is_included+in_ok-push, else-is_included}

pub loop-referenced-init : goal.loop-referenced-init
loop-referenced-init c = record {
  pairs = sym (append-nil _);
  known = none_known (all_columns (c.args.live.now ∷ [])) c.args.dependent c.empty-known.result c.empty-known.ensures;
}

pub loop-referenced-preserved : goal.loop-referenced-preserved
loop-referenced-preserved c =
    let columns = all_columns (c.args.live.now ∷ []) in
    let passes = λ (p : ℕ × ℕ). included columns p.0 p.1 in
    elim c.if-is_included.branch [
      | then-is_included+in_ok-push w ↦
          let found = sym c.is_included.ensures ∙ w.if-is_included.true in
          record {
            pairs = row_pushed passes c.args.dependent c.loop-referenced.referenced c.args.pairs.now.items c.loop-referenced.pairs.items c.if-is_included.pairs.items c.loop-referenced.invariant.pairs
                found (ap (λ (v : Vec (ℕ × ℕ) Global). v.items) w.pairs-is ∙ w.in_ok-push.ensures.items);
            known = more_known columns c.args.dependent c.loop-referenced.referenced c.loop-referenced.known w.set_at-further.result found c.loop-referenced.invariant.known
                (subst (λ (s : ℕ). IsIncludedIn columns c.loop-referenced.referenced s) (sym w.set_at-further.ensures) (c.requires.earlier.each c.loop-referenced.referenced)) c.if-is_included.known
                (w.known-is ∙ w.without-known.ensures ∙ ap (λ (s : ℕ). without s c.args.dependent) (w.union.ensures ∙ ap (λ (s : ℕ). union s w.set_at-further.result) w.with.ensures));
          }
      | else-is_included w ↦ record {
        pairs = row_left passes c.args.dependent c.loop-referenced.referenced c.args.pairs.now.items c.loop-referenced.pairs.items c.if-is_included.pairs.items c.loop-referenced.invariant.pairs
            (sym c.is_included.ensures ∙ w.if-is_included.false) (ap (λ (v : Vec (ℕ × ℕ) Global). v.items) w.pairs-is);
        known = subst (λ (s : ℕ). IsIncludedIn columns c.args.dependent s) (sym w.known-is) c.loop-referenced.invariant.known;
      }
    ]
