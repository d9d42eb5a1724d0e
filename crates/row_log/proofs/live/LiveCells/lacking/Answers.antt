use Rattle.std.proofs.Common.{◌≡◌, ℕ, Option, None, Some, IfSome, sym, subst, arith}
use Rattle.std.proofs.lemmas.List.{get_or_read}
use Rattle.rel_base.specs.RowState.{RowState}
use Rattle.row_log.specs.Marked.{Marked}
use Rattle.row_log.specs.Live.{AreLiveColumns, HasMarked, IsLacking, marked_at, no_codes}
use Rattle.row_log.proofs.Marks.{included-lacking, included-none}
use Rattle.row_log.proofs.live.LiveCells.lacking.Goals as goal
use Rattle.row_log.proofs.live.LiveCells.lacking.Goals.{After-lacking}

are_live : (c : After-lacking) → AreLiveColumns c.args.self.now c.self.inside.columns.items
are_live c = subst (λ (r : RowState). AreLiveColumns r c.self.inside.columns.items) c.self.view_is c.self.invariant

first : (c : After-lacking) → c.index.result.now ≡ marked_at c.self.inside.columns.items c.args.dependent
first c =
    let long = (are_live c).long in
    let l = c.requires.dependent in
    get_or_read c.self.inside.columns.items c.args.dependent c.index.result.now (omega arith) c.index.ensures no_codes

second : (c : After-lacking) → c.index-2.result.now ≡ marked_at c.self.inside.columns.items c.args.referenced
second c =
    let long = (are_live c).long in
    let l = c.requires.referenced in
    get_or_read c.self.inside.columns.items c.args.referenced c.index-2.result.now (omega arith) c.index-2.ensures no_codes

if_some : (o : Option ℕ) (P Q : ℕ → Type 0) → ((k : ℕ) → P k → Q k) → IfSome o P → IfSome o Q
if_some None P Q f p = tt
if_some (Some k) P Q f p = f k p

pub returns-clause-some : goal.returns-clause-some
returns-clause-some c =
    if_some c.lacking.result (IsLacking c.index.result.now c.index-2.result.now) _ (λ code is.
    included-lacking c.args.self.now c.self.inside.columns.items (are_live c) c.args.dependent c.args.referenced c.requires.dependent c.requires.referenced c.requires.apart code
    (subst (λ (m : Marked). IsLacking m (marked_at c.self.inside.columns.items c.args.referenced) code) (first c) (subst (λ (m : Marked). IsLacking c.index.result.now m code) (second c) is)))
    c.lacking.ensures.some

pub returns-clause-none : goal.returns-clause-none
returns-clause-none c n =
    included-none c.args.self.now c.self.inside.columns.items (are_live c) c.args.dependent c.args.referenced c.requires.dependent c.requires.referenced c.requires.apart (λ a filled w.
    subst (λ (m : Marked). HasMarked m a) (second c) (c.lacking.ensures.none n a filled (subst (λ (m : Marked). HasMarked m a) (sym (first c)) w)))
