use Rattle.std.proofs.Common.{◌≡◌, ◌∙◌, ap, arith, subst, sym, true, List, length}
use Rattle.std.specs.Vec.{with_items}
use Rattle.std.proofs.lemmas.List.{length-replicate, with_items_is}
use Rattle.col_set.specs.ColSet.{Columns}
use Rattle.inclusion_merge.specs.WideSet.{has_wide}
use Rattle.inclusion_merge.proofs.questions.Questions.about.Goals as goal

pub insert_dependents-requires : goal.insert_dependents-requires
insert_dependents-requires c p h =
    let w = c.requires p h in
    let long : length c.deref_mut.result.now ≡ c.parts_for.result = ap (λ (parts : List Columns). length parts) (c.deref_mut.ensures.value ∙ c.in_ok-named.ensures) ∙ length-replicate _ _ in
    (omega arith, omega arith)

pub insert_referenced-requires : goal.insert_referenced-requires
insert_referenced-requires c p h =
    let w = c.requires p h in
    let long : length c.in_ok-named.named.items ≡ c.parts_for.result = ap (λ (parts : List Columns). length parts) c.in_ok-named.ensures ∙ length-replicate _ _ in
    (omega arith, omega arith)

pub returns-clause-asked : goal.returns-clause-asked
returns-clause-asked c =
    let first : length c.insert_dependents.new.named ≡ c.in_ok-named.named.len = omega arith in
    let second : length c.insert_referenced.new.named ≡ c.in_ok-named.named.len = omega arith in
    let before : c.deref_mut-2.result.now ≡ c.insert_dependents.new.named = c.deref_mut-2.ensures.value ∙ with_items_is c.in_ok-named.named c.insert_dependents.new.named first in
    let named : c.deref-2.result.now ≡ c.insert_referenced.new.named = c.deref-2.ensures.value ∙ with_items_is (with_items c.in_ok-named.named c.insert_dependents.new.named) c.insert_referenced.new.named second in
    record {
      count = c.in_ok-asked.ensures.count;
      dependent =
          λ p h.
          let kept = c.insert_referenced.ensures.grows p.0 (subst (λ (parts : List Columns). has_wide parts p.0 ≡ true) (sym before) (c.insert_dependents.ensures p h)) in
          c.in_ok-asked.ensures.each p.0 (c.requires p h).0 (subst (λ (parts : List Columns). has_wide parts p.0 ≡ true) (sym named) kept);
      referenced = λ p h. c.in_ok-asked.ensures.each p.1 (c.requires p h).1 (subst (λ (parts : List Columns). has_wide parts p.1 ≡ true) (sym named) (c.insert_referenced.ensures.has p h));
    }

pub returns-clause-values : goal.returns-clause-values
returns-clause-values c p h =
    let first : length c.insert_dependents.new.named ≡ c.in_ok-named.named.len = omega arith in
    let named : c.deref.result.now ≡ c.insert_dependents.new.named = c.deref.ensures.value ∙ with_items_is c.in_ok-named.named c.insert_dependents.new.named first in
    c.in_ok-values.ensures p.0 (c.requires p h).0 (subst (λ (parts : List Columns). has_wide parts p.0 ≡ true) (sym named) (c.insert_dependents.ensures p h))
