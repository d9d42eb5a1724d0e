use Rattle.std.proofs.Common.{◌≡◌, ◌+◌, ◌∙◌, ℕ, List, [], length, get_or, sym, ap, subst, refl, arith}
use Rattle.col_set.specs.ColSet.{empty, with}
use Rattle.stripped_partition.specs.Stripped.{stripped}
use Rattle.sampler.specs.Partners.{HasPut}
use Rattle.sampler.specs.Window.{IsWindow}
use Rattle.sampler.proofs.Tables.{Partnered, partnered_more, partnered_window, group_within, whole_table, IfOk-map}
use Rattle.sampler.proofs.windows.window.Goals as goal

pub put_partners-requires : goal.put_partners-requires
put_partners-requires c = λ j d l.
    let s = c.args.snapshot.now in
    let groups = stripped s (with empty c.args.column) in
    let value = c.in_ok-partition.ensures.value in
    let is : c.group.result.now ≡ get_or groups c.loop-k.k [] = c.group.ensures ∙ ap (λ (gs : List (List ℕ)). get_or gs c.loop-k.k []) value in
    let many = ap length value in let count = c.group_count-k-end.ensures in let k = c.loop-k-test.true in
    let long = ap length is in
    let same = ap (λ (x : List ℕ). get_or x j d) is in
    let within = group_within s c.args.column c.args.distance c.requires.column c.requires.distance groups refl c.loop-k.k (omega arith) j d (omega arith) in
    let size = c.loop-k.invariant.size in let lent = ap length c.deref_mut.ensures.value in
    omega arith

pub loop-k-preserved : goal.loop-k-preserved
loop-k-preserved c =
    let s = c.args.snapshot.now in
    let groups = stripped s (with empty c.args.column) in
    let value = c.in_ok-partition.ensures.value in
    let is : c.group.result.now ≡ get_or groups c.loop-k.k [] = c.group.ensures ∙ ap (λ (gs : List (List ℕ)). get_or gs c.loop-k.k []) value in
    let many = ap length value in let count = c.group_count-k-end.ensures in let k = c.loop-k-test.true in
    let lent = c.deref_mut.ensures.value in let long = ap length lent in
    let put : HasPut c.args.distance (get_or groups c.loop-k.k []) c.loop-k.partners.items c.put_partners.new.partners =
    subst (λ (x : List ℕ). HasPut c.args.distance x c.loop-k.partners.items c.put_partners.new.partners) is
    (subst (λ (x : List ℕ). HasPut c.args.distance c.group.result.now x c.put_partners.new.partners) lent c.put_partners.ensures) in
    let size = put.size in let ok = c.loop-k.partners.ok.0 in
    subst (Partnered s c.args.column c.args.distance (c.loop-k.k + 1) groups) (sym (whole_table c.put_partners.new.partners c.loop-k.partners.items c.loop-k.partners.len (omega arith) (omega arith)))
    (partnered_more s c.args.column c.args.distance c.requires.column c.requires.distance groups refl c.loop-k.k c.loop-k.partners.items c.put_partners.new.partners (omega arith) put c.loop-k.invariant)

pub returns : goal.returns
returns c =
    let s = c.args.snapshot.now in
    let groups = stripped s (with empty c.args.column) in
    let many = ap length c.in_ok-partition.ensures.value in let count = c.group_count-k-end.ensures in
    let last = c.loop-k-test.false in let end = c.loop-k.auto.k-end in
    let to : c.loop-k.k ≡ length groups = omega arith in
    let whole = subst (λ (k : ℕ). Partnered s c.args.column c.args.distance k groups c.loop-k.partners.items) to c.loop-k.invariant in
    let table = subst (λ (x : List ℕ). Partnered s c.args.column c.args.distance (length groups) groups x) (sym c.deref.ensures.value) whole in
    let window = partnered_window s c.args.column c.args.distance c.requires.column c.requires.distance groups refl c.deref.result.now table in
    IfOk-map c.listed.result (λ pairs e. subst (IsWindow s c.args.column c.args.distance) (sym e) window) c.listed.ensures
