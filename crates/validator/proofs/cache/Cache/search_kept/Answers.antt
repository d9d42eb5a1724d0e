use Rattle.std.proofs.Common.{◌≡◌, ◌<◌, ◌^◌, ℕ, List, length, get_or, true, Option, ap, ap₂, sym, ◌∙◌, subst, arith}
use Rattle.std.proofs.lemmas.List.{get_or_default}
use Rattle.col_set.specs.declared.target.Target.{Target}
use Rattle.col_set.specs.ColSet.{union, minus, subset}
use Rattle.rel_base.specs.CodeTable.{CodeTable}
use Rattle.rel_base.specs.Shows.{holds_in_below}
use Rattle.stripped_partition.specs.AnyOrder.{AreGroupsBy}
use Rattle.validator.specs.declared.cache.Kept.{Kept}
use Rattle.validator.specs.Verdicts.{AreFound}
use Rattle.validator.specs.Walk.{plus}
use Rattle.validator.proofs.Answered.{IfOk-both}
use Rattle.validator.proofs.KeptLists.{minus-below, union-minus, kept_of}
use Rattle.validator.proofs.cache.Cache.search_kept.Goals as goal

pub refine_kept-requires-clause-columns : goal.refine_kept-requires-clause-columns
refine_kept-requires-clause-columns g c =
    subst (λ (x : ℕ). x < 2 ^ length c.args.snapshot.now.codes) (sym c.minus-rest.ensures)
    (minus-below c.index.result.now.columns c.args.asked.now.left (length c.args.snapshot.now.codes) c.requires.asked.left)

-- the columns of the last partition and the further one are the left side
whole : (bases kept : List Kept) (b k : ℕ) (base last : Kept) (by : Option ℕ) (left rest : ℕ) → base ≡ get_or bases b base → last ≡ get_or kept k last → k < length kept
    → ((d : Kept) → subset (get_or bases b d).columns left ≡ true) → rest ≡ minus left base.columns → ((d : Kept) → plus (get_or kept k d).columns by ≡ union (get_or bases b d).columns rest) → plus last.columns by ≡ left
whole bases kept b k base last by left rest e f l sub r q =
    ap (λ (z : Kept). plus z.columns by) (f ∙ get_or_default kept k last base l) ∙ q base
    ∙ ap₂ (λ (z : Kept) (y : ℕ). union z.columns y) (sym e) r
    ∙ union-minus base.columns left (ap (λ (z : Kept). subset z.columns left) e ∙ sub base)

found : (s : CodeTable) (t : Target) (from left x : ℕ) (by : Option ℕ) (groups : List (List ℕ)) (v : List (ℕ × ℕ)) → plus x by ≡ left → AreGroupsBy s x groups → holds_in_below from s left t ≡ true
    → ((y : ℕ) → AreGroupsBy s y groups → holds_in_below from s (plus y by) t ≡ true → AreFound s (plus y by) t v) → AreFound s left t v
found s t from left x by groups v el of h f =
    subst (λ (y : ℕ). AreFound s y t v) el (f x of (ap (λ (y : ℕ). holds_in_below from s y t) el ∙ h))

pub pairs_in_groups-requires-clause-of : goal.pairs_in_groups-requires-clause-of
pairs_in_groups-requires-clause-of g c =
    let k : c.in_ok-k.k < length c.refine_kept.new.kept.items = (let l = c.in_ok-k.ensures.place in omega (arith, c.refine_kept.new.kept.ok.0)) in
    record {
      columns = c.index-2.result.now.columns;
      are = subst (AreGroupsBy c.args.snapshot.now c.index-2.result.now.columns) (sym c.deref.ensures) (kept_of c.args.snapshot.now c.refine_kept.new.kept.items c.in_ok-k.k c.index-2.result.now c.refine_kept.ensures.kept k c.index-2.ensures);
    }

pub returns-clause-answer : goal.returns-clause-answer
returns-clause-answer g c =
    let k : c.in_ok-k.k < length c.refine_kept.new.kept.items = (let l = c.in_ok-k.ensures.place in omega (arith, c.refine_kept.new.kept.ok.0)) in
    IfOk-both c.pairs_in_groups.result _ _ _ (λ v f few. record {
      few = few;
      found =
          found c.args.snapshot.now c.args.asked.now.target c.args.asked.now.from c.args.asked.now.left c.index-2.result.now.columns c.in_ok-k.by c.deref.result.now v.items
          (whole c.base.new.self.kept.items c.refine_kept.new.kept.items c.in_ok-base.base c.in_ok-k.k c.index.result.now c.index-2.result.now c.in_ok-k.by c.args.asked.now.left c.minus-rest.result c.index.ensures c.index-2.ensures k
          c.in_ok-base.ensures.within c.minus-rest.ensures c.in_ok-k.ensures.columns)
          (subst (AreGroupsBy c.args.snapshot.now c.index-2.result.now.columns) (sym c.deref.ensures) (kept_of c.args.snapshot.now c.refine_kept.new.kept.items c.in_ok-k.k c.index-2.result.now c.refine_kept.ensures.kept k c.index-2.ensures)) c.requires.asked.below f;
    }) c.pairs_in_groups.ensures.pairs c.pairs_in_groups.ensures.few
