use Rattle.std.proofs.Common.{◌<◌, ◌≡◌, ◌∙◌, ℕ, List, length, true, sym, ap, subst}
use Rattle.std.proofs.lemmas.List.{length-map}
use Rattle.col_set.specs.declared.target.Target.{Target}
use Rattle.col_set.specs.declared.target.Target.TheVariants.{Col, RowId}
use Rattle.col_set.specs.ColSet.{all, minus}
use Rattle.col_set.specs.Evidence.{refuted}
use Rattle.least_sets.specs.Drafts.{Drafted, AreAdded, IsFiling, lists_behind}
use Rattle.least_sets.proofs.Filed.{filing_after}
use Rattle.least_sets.proofs.filing.Filing.filed.Goals as goal

wide : (c : goal.In_ok-push) → c.columns-columns.result ≡ length c.self.inside.having.items
wide c = c.columns-columns.ensures.width ∙ sym (ap (λ (d : Drafted). d.width) c.self.view_is)

same : (c : goal.In_ok-push) → c.self.inside.agree_sets.items ≡ c.args.self.agree_sets
same c = ap (λ (d : Drafted). d.agree_sets) c.self.view_is

pub invariant_of-self : goal.invariant_of-self
invariant_of-self c =
    let n : ℕ = length c.self.inside.having.items in
    let ws = c.self.inside.agree_sets.items in
    let told : (t : Target) → refuted c.args.self.agree_sets t c.args.z ≡ true → refuted ws t c.args.z ≡ true = λ t h. ap (λ (vs : List ℕ). refuted vs t c.args.z) (same c) ∙ h in
    let t : AreAdded n c.args.z c.minus-open.result (lists_behind c.self.inside.lacking.items) (lists_behind c.file.new.lists.items) = subst (λ (m : ℕ). AreAdded m c.args.z c.minus-open.result (lists_behind c.self.inside.lacking.items) (lists_behind c.file.new.lists.items)) (wide c) c.in_ok-file.ensures in
    let h : AreAdded n c.args.z c.args.z (lists_behind c.self.inside.having.items) (lists_behind c.file-2.new.lists.items) = subst (λ (m : ℕ). AreAdded m c.args.z c.args.z (lists_behind c.self.inside.having.items) (lists_behind c.file-2.new.lists.items)) (wide c) c.in_ok-file-2.ensures in
    let p : c.minus-open.result ≡ minus (minus (all n) c.args.z) c.args.known.columns =
    c.minus-open.ensures ∙ ap (λ (v : ℕ). minus v c.args.known.columns) (c.minus.ensures ∙ ap (λ (v : ℕ). minus v c.args.z) (c.all.ensures ∙ ap all (wide c))) in
    let many : n ≡ length c.file-2.new.lists.items = sym (length-map c.self.inside.having.items (λ v. v.items)) ∙ sym h.count ∙ length-map c.file-2.new.lists.items (λ v. v.items) in
    subst (λ (m : ℕ). IsFiling m c.push.new.self.items (lists_behind c.file-2.new.lists.items) c.push_unless.new.sets.items (lists_behind c.file.new.lists.items)) many
    (subst (λ (vs : List ℕ). IsFiling n vs (lists_behind c.file-2.new.lists.items) c.push_unless.new.sets.items (lists_behind c.file.new.lists.items)) (sym c.in_ok-push.ensures.items)
    (filing_after n ws c.args.z c.args.known.row_id c.args.known.columns (λ h. told RowId (c.requires.row_id h))
    (λ a l h. told (Col a) (c.requires.columns a (subst (λ (m : ℕ). a < m) (ap (λ (d : Drafted). d.width) c.self.view_is) l) h)) c.minus-open.result (lists_behind c.self.inside.having.items) (lists_behind c.file-2.new.lists.items) c.self.inside.row_id.items c.push_unless.new.sets.items
    (lists_behind c.self.inside.lacking.items) (lists_behind c.file.new.lists.items) p c.self.invariant c.in_ok-push_unless.ensures t h))
