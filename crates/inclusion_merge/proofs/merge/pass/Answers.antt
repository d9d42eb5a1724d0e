use Rattle.std.proofs.Common.{◌∙◌, ◌<◌, ◌≤◌, arith, refl, sym, subst, length, ℕ}
use Rattle.inclusion_merge.specs.Candidates.{may}
use Rattle.inclusion_merge.specs.WideSet.{has_wide}
use Rattle.inclusion_merge.specs.Sharing.{AllEnded, IsLeastFirst, SharesLeast, lists_of}
use Rattle.inclusion_merge.proofs.Merging.{Merged-all, Merged-more, Merged-none, total, total_falls}
use Rattle.inclusion_merge.proofs.Spent.{Merged-spent, total_spent}
use Rattle.inclusion_merge.proofs.Places.{length-lists_of}
use Rattle.inclusion_merge.proofs.merge.pass.Goals as goal

pub loop-turns-init : goal.loop-turns-init
loop-turns-init c =
    let long = length-lists_of c.args.rests.now in
    record {
      columns = refl;
      parts = refl;
      merged = Merged-none (lists_of c.args.rests.now) (may c.args.kept.now) (λ k d l m. c.requires.all k d (omega arith) (omega arith));
    }

smaller : (a b d : ℕ) → a ≤ b → b < d → a < d
smaller a b d h g = omega arith

pub loop-turns-smaller : goal.loop-turns-smaller
loop-turns-smaller c =
    let long = length-lists_of c.loop-turns.rests in
    let long' = length-lists_of c.advance.new.rests in
    let long'' = length-lists_of c.drop_spent.new.rests in
    let found : SharesLeast (has_wide c.mark_least.new.shared) (lists_of c.loop-turns.rests) (length c.loop-turns.rests) = c.loop-turns-test.ensures in
    let fewer : total (lists_of c.advance.new.rests) < total (lists_of c.loop-turns.rests) =
    total_falls (lists_of c.loop-turns.rests) (lists_of c.advance.new.rests) (λ k. has_wide c.mark_least.new.shared k) found.value (omega arith)
    (subst (λ (n : ℕ). IsLeastFirst found.value (lists_of c.loop-turns.rests) n) (sym long) found.first)
    (λ k l. found.marked.done k (omega arith))
    (λ k l. c.advance.ensures.rests k (omega arith)) in
    let no_more : total (lists_of c.drop_spent.new.rests) ≤ total (lists_of c.advance.new.rests) =
    total_spent c.advance.new.kept (lists_of c.advance.new.rests) (lists_of c.drop_spent.new.rests) (omega arith) (λ k l. c.drop_spent.ensures k (omega arith)) in
    smaller (total (lists_of c.drop_spent.new.rests)) (total (lists_of c.advance.new.rests)) (total (lists_of c.loop-turns.rests)) no_more fewer

pub loop-turns-preserved : goal.loop-turns-preserved
loop-turns-preserved c =
    let first = length-lists_of c.args.rests.now in
    let long = length-lists_of c.loop-turns.rests in
    let long' = length-lists_of c.advance.new.rests in
    let long'' = length-lists_of c.drop_spent.new.rests in
    let columns = c.loop-turns.invariant.columns in
    let columns' = c.advance.ensures.columns in
    let wide = c.requires.columns in
    let found : SharesLeast (has_wide c.mark_least.new.shared) (lists_of c.loop-turns.rests) (length c.loop-turns.rests) = c.loop-turns-test.ensures in
    let merged =
    Merged-more (lists_of c.args.rests.now) (lists_of c.loop-turns.rests) (lists_of c.advance.new.rests) (may c.loop-turns.kept) (may c.advance.new.kept) found.value
    (λ k. has_wide c.mark_least.new.shared k) c.requires.rise c.loop-turns.invariant.merged
    (subst (λ (n : ℕ). IsLeastFirst found.value (lists_of c.loop-turns.rests) n) (sym long) found.first)
    (λ k l. found.marked.done k (omega arith))
    (omega arith)
    (λ k l. c.advance.ensures.rests k (omega arith))
    (λ k d l m. c.advance.ensures.kept k d (omega arith) (omega arith)) in
    record {
      columns = c.advance.ensures.columns ∙ columns;
      parts = c.advance.ensures.parts ∙ c.loop-turns.invariant.parts;
      merged =
          Merged-spent (lists_of c.args.rests.now) (lists_of c.advance.new.rests) (lists_of c.drop_spent.new.rests) c.advance.new.kept (omega arith) merged (omega arith)
          (λ k l. c.drop_spent.ensures k (omega arith));
    }

pub returns-clause-tells : goal.returns-clause-tells
returns-clause-tells c =
    Merged-all (lists_of c.args.rests.now) (lists_of c.loop-turns.rests) (may c.loop-turns.kept) c.loop-turns.invariant.merged
    (subst (λ (n : ℕ). AllEnded (lists_of c.loop-turns.rests) n) (sym (length-lists_of c.loop-turns.rests)) c.loop-turns-test.ensures)
