use Rattle.std.proofs.Common.{◌≡◌, ◌∙◌, ◌+◌, ℕ, List, get_or, ap, arith, subst}
use Rattle.std.proofs.lemmas.List.{get_or_read}
use Rattle.rel_base.specs.RowState.{RowState}
use Rattle.nary_ind.specs.Unary.{IsUnary}
use Rattle.nary_ind.proofs.Starts.{has-told, position-at, starts-long}
use Rattle.nary_ind.proofs.unary.Unary.has.Goals as goal

pub index-requires : goal.index-requires
index-requires c =
    let b = c.self.inside in
    let u : IsUnary c.args.self.now b.starts.items b.pairs.keys b.used.items = subst (λ (rs : List RowState). IsUnary rs b.starts.items b.pairs.keys b.used.items) c.self.view_is c.self.invariant in
    let n = starts-long c.args.self.now b.starts.items b.pairs.keys b.used.items u in
    let o = b.starts.ok.0 in let l = c.requires.dependent in omega arith

pub overflow_add-first : goal.overflow_add-first
overflow_add-first c =
    let b = c.self.inside in
    let u : IsUnary c.args.self.now b.starts.items b.pairs.keys b.used.items = subst (λ (rs : List RowState). IsUnary rs b.starts.items b.pairs.keys b.used.items) c.self.view_is c.self.invariant in
    let n = starts-long c.args.self.now b.starts.items b.pairs.keys b.used.items u in
    let l = c.requires.dependent in
    let v : c.index.result.now ≡ get_or b.starts.items c.args.dependent.0 0 = get_or_read b.starts.items c.args.dependent.0 c.index.result.now (omega arith) c.index.ensures 0 in
    let p = position-at c.args.self.now b.starts.items b.pairs.keys b.used.items u c.args.dependent.0 c.args.dependent.1 c.requires.dependent c.requires.column in
    let e = p.0 in let f = p.1 in let g = u.few in omega arith

pub index-requires-2 : goal.index-requires-2
index-requires-2 c =
    let b = c.self.inside in
    let u : IsUnary c.args.self.now b.starts.items b.pairs.keys b.used.items = subst (λ (rs : List RowState). IsUnary rs b.starts.items b.pairs.keys b.used.items) c.self.view_is c.self.invariant in
    let n = starts-long c.args.self.now b.starts.items b.pairs.keys b.used.items u in
    let o = b.starts.ok.0 in let l = c.requires.referenced in omega arith

pub overflow_add-second : goal.overflow_add-second
overflow_add-second c =
    let b = c.self.inside in
    let u : IsUnary c.args.self.now b.starts.items b.pairs.keys b.used.items = subst (λ (rs : List RowState). IsUnary rs b.starts.items b.pairs.keys b.used.items) c.self.view_is c.self.invariant in
    let n = starts-long c.args.self.now b.starts.items b.pairs.keys b.used.items u in
    let l = c.requires.referenced in
    let v : c.index-2.result.now ≡ get_or b.starts.items c.args.referenced.0 0 = get_or_read b.starts.items c.args.referenced.0 c.index-2.result.now (omega arith) c.index-2.ensures 0 in
    let p = position-at c.args.self.now b.starts.items b.pairs.keys b.used.items u c.args.referenced.0 c.args.referenced.1 c.requires.referenced c.requires.other in
    let e = p.0 in let f = p.1 in let g = u.few in omega arith

pub returns : goal.returns
returns c =
    let b = c.self.inside in
    let u : IsUnary c.args.self.now b.starts.items b.pairs.keys b.used.items = subst (λ (rs : List RowState). IsUnary rs b.starts.items b.pairs.keys b.used.items) c.self.view_is c.self.invariant in
    let n = starts-long c.args.self.now b.starts.items b.pairs.keys b.used.items u in
    let l = c.requires.dependent in
    let m = c.requires.referenced in
    let v : c.index.result.now ≡ get_or b.starts.items c.args.dependent.0 0 = get_or_read b.starts.items c.args.dependent.0 c.index.result.now (omega arith) c.index.ensures 0 in
    let w : c.index-2.result.now ≡ get_or b.starts.items c.args.referenced.0 0 = get_or_read b.starts.items c.args.referenced.0 c.index-2.result.now (omega arith) c.index-2.ensures 0 in
    c.has_pair.ensures
    ∙ has-told c.args.self.now b.starts.items b.pairs.keys b.used.items u c.args.dependent.0 c.args.dependent.1 c.args.referenced.0 c.args.referenced.1 (c.index.result.now + c.args.dependent.1) (c.index-2.result.now + c.args.referenced.1)
    c.requires.dependent c.requires.column c.requires.referenced c.requires.other (ap (λ (k : ℕ). k + c.args.dependent.1) v) (ap (λ (k : ℕ). k + c.args.referenced.1) w)
