use Rattle.std.proofs.Common.{◌≡◌, ◌∙◌, ◌+◌, ℕ, false, List, get_or, ap, arith, subst}
use Rattle.std.proofs.lemmas.List.{get_or_read}
use Rattle.rel_base.specs.RowState.{RowState}
use Rattle.nary_ind.specs.Unary.{IsUnary}
use Rattle.nary_ind.proofs.Starts.{position-at, starts-long, used-told}
use Rattle.nary_ind.proofs.unary.Unary.is_used.Goals as goal

pub index-requires : goal.index-requires
index-requires c =
    let b = c.self.inside in
    let u : IsUnary c.args.self.now b.starts.items b.pairs.keys b.used.items = subst (λ (rs : List RowState). IsUnary rs b.starts.items b.pairs.keys b.used.items) c.self.view_is c.self.invariant in
    let n = starts-long c.args.self.now b.starts.items b.pairs.keys b.used.items u in
    let o = b.starts.ok.0 in let l = c.requires.relation in omega arith

pub overflow_add-index : goal.overflow_add-index
overflow_add-index c =
    let b = c.self.inside in
    let u : IsUnary c.args.self.now b.starts.items b.pairs.keys b.used.items = subst (λ (rs : List RowState). IsUnary rs b.starts.items b.pairs.keys b.used.items) c.self.view_is c.self.invariant in
    let n = starts-long c.args.self.now b.starts.items b.pairs.keys b.used.items u in
    let l = c.requires.relation in
    let v : c.index.result.now ≡ get_or b.starts.items c.args.relation 0 = get_or_read b.starts.items c.args.relation c.index.result.now (omega arith) c.index.ensures 0 in
    let p = position-at c.args.self.now b.starts.items b.pairs.keys b.used.items u c.args.relation c.args.column c.requires.relation c.requires.column in
    let e = p.0 in let f = p.1 in let g = u.few in omega arith

pub index-requires-2 : goal.index-requires-2
index-requires-2 c =
    let b = c.self.inside in
    let u : IsUnary c.args.self.now b.starts.items b.pairs.keys b.used.items = subst (λ (rs : List RowState). IsUnary rs b.starts.items b.pairs.keys b.used.items) c.self.view_is c.self.invariant in
    let n = starts-long c.args.self.now b.starts.items b.pairs.keys b.used.items u in
    let l = c.requires.relation in
    let v : c.index.result.now ≡ get_or b.starts.items c.args.relation 0 = get_or_read b.starts.items c.args.relation c.index.result.now (omega arith) c.index.ensures 0 in
    let p = position-at c.args.self.now b.starts.items b.pairs.keys b.used.items u c.args.relation c.args.column c.requires.relation c.requires.column in
    let e = p.0 in let f = p.1 in let g = u.long in let o = b.used.ok.0 in omega arith

pub returns : goal.returns
returns c =
    let b = c.self.inside in
    let u : IsUnary c.args.self.now b.starts.items b.pairs.keys b.used.items = subst (λ (rs : List RowState). IsUnary rs b.starts.items b.pairs.keys b.used.items) c.self.view_is c.self.invariant in
    let n = starts-long c.args.self.now b.starts.items b.pairs.keys b.used.items u in
    let l = c.requires.relation in
    let v : c.index.result.now ≡ get_or b.starts.items c.args.relation 0 = get_or_read b.starts.items c.args.relation c.index.result.now (omega arith) c.index.ensures 0 in
    let p = position-at c.args.self.now b.starts.items b.pairs.keys b.used.items u c.args.relation c.args.column c.requires.relation c.requires.column in
    let e = p.0 in let f = p.1 in let g = u.long in
    get_or_read b.used.items (c.index.result.now + c.args.column) c.index-2.result.now (omega arith) c.index-2.ensures false
    ∙ ap (λ (k : ℕ). get_or b.used.items (k + c.args.column) false) v
    ∙ used-told c.args.self.now b.starts.items b.pairs.keys b.used.items u c.args.relation c.args.column c.requires.relation c.requires.column
