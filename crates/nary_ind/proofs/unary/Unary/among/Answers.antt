use Rattle.std.proofs.Common.{◌∙◌, ◌<◌, ◌^◌, ℕ, List, ap, arith, length}
use Rattle.rel_base.specs.Inclusion.{inclusions}
use Rattle.nary_ind.specs.Unary.{has_pair, is_in}
use Rattle.nary_ind.proofs.Starts.{inclusions_within, unary-from}
use Rattle.nary_ind.proofs.unary.Unary.among.Goals as goal

pub used_in-requires : goal.used_in-requires
used_in-requires g c =
    inclusions_within c.in_ok-all.all.cells.items c.len.result c.deref-2.result.now (c.len.ensures ∙ c.in_ok-all.all.cells.ok.0) (c.deref-2.ensures.value ∙ c.in_ok-found.ensures ∙ ap inclusions c.deref.ensures.value)

pub invariant_of-result : goal.invariant_of-result
invariant_of-result g c =
    let few : length c.in_ok-all.all.cells.items < 2 ^ 64 = let a = c.len.type_inv in let b = c.len.ensures in let o = c.in_ok-all.all.cells.ok.0 in omega arith in
    unary-from c.args.relations.now c.in_ok-all.all.starts.items c.in_ok-all.all.cells.items c.in_ok-found.found.items c.in_ok-pairs.pairs.keys c.in_ok-used.used.items c.in_ok-all.ensures few
    (c.in_ok-found.ensures ∙ ap inclusions c.deref.ensures.value)
    (λ k d. c.in_ok-pairs.ensures k d ∙ ap (λ (ps : List (ℕ × ℕ)). has_pair ps k d) c.deref-3.ensures.value)
    (c.in_ok-used.ensures.long ∙ c.len.ensures ∙ c.in_ok-all.all.cells.ok.0)
    (λ k. c.in_ok-used.ensures.used k ∙ ap (λ (ps : List (ℕ × ℕ)). is_in ps k) c.deref-2.ensures.value)
