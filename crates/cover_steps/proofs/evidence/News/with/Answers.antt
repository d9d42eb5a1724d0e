use Rattle.std.proofs.Common.{◌≡◌, List, false, sym, subst, IsPermutation}
use Rattle.std.specs.List.{All}
use Rattle.std.proofs.lemmas.List.Sorted.{IsPermutation-sym}
use Rattle.least_sets.specs.Drafts.{is_news}
use Rattle.negative_cover.specs.declared.negative_cover.Witness.{Witness}
use Rattle.cover_steps.specs.Evidences.{IsEvidence}
use Rattle.cover_steps.specs.declared.evidence.News.{News}
use Rattle.cover_steps.proofs.Drafting.{IfOk-with}
use Rattle.cover_steps.proofs.Evidences.{All-permuted}
use Rattle.cover_steps.proofs.evidence.News.with.Goals as goal

module _ (P : Witness → Type 0) where
  turned : (xs ys zs vs : List Witness) → IsPermutation xs ys → IsPermutation ys zs → vs ≡ zs → All P xs → All P vs
  turned xs ys zs vs p q e a = subst (All P) (sym e) (All-permuted P ys zs q (All-permuted P xs ys p a))

  back : (xs ys zs vs : List Witness) → IsPermutation xs ys → IsPermutation ys zs → vs ≡ zs → All P vs → All P xs
  back xs ys zs vs p q e a = All-permuted P ys xs (IsPermutation-sym xs ys p) (All-permuted P zs ys (IsPermutation-sym ys zs q) (subst (All P) e a))

pub returns-clause-news : goal.returns-clause-news
returns-clause-news c = IfOk-with c.noted_each.result c.noted_each.ensures.news (λ new h r n ws a.
    h r n ws (turned (IsEvidence r) c.args.found.items c.sort_unstable.new.self.items c.reverse.new.self.items c.as_slice.result.now c.sort_unstable.ensures.permutation c.reverse.ensures.permutation c.as_slice.ensures.value a))

pub returns-clause-told : goal.returns-clause-told
returns-clause-told c = IfOk-with c.noted_each.result c.noted_each.ensures.told (λ (new : News) h.
    back (λ e. is_news new.draft.width new.draft.agree_sets e.agree ≡ false) c.args.found.items c.sort_unstable.new.self.items c.reverse.new.self.items c.as_slice.result.now c.sort_unstable.ensures.permutation c.reverse.ensures.permutation c.as_slice.ensures.value h)
