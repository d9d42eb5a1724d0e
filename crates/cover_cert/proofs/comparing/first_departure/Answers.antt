use Rattle.std.proofs.Common.{◌≡◌, ◌∙◌, ◌<◌, ◌++◌, ℕ, List, [], Vec, Global, refl, sym, ap, ap₂, subst, length, map, Bool, true, false, not, eqb}
use Rattle.std.specs.List.{All}
use Rattle.std.proofs.lemmas.Bool.{eqb-true, false≢true}
use Rattle.std.proofs.lemmas.List.{length-map, nil_from_length, take-append-drop}
use Rattle.std.proofs.lemmas.List.Elements.{All-drop, All-take}
use Rattle.col_set.specs.declared.target.Target.TheVariants.{Col}
use Rattle.col_set.specs.ColSet.{upto}
use Rattle.col_set.specs.Evidence.{least}
use Rattle.cover_cert.specs.Comparing.{claims_beside}
use Rattle.cover_cert.proofs.Gathered.{left-start, left-more, left-departs, left-too_many, left-none}
use Rattle.cover_cert.proofs.Lists.{beside-each, length-items, within-columns}
use Rattle.cover_cert.proofs.comparing.first_departure.Goals as goal
use Rattle.cover_cert.proofs.comparing.first_departure.Goals.{then-loop-so_far-test+else-not-is_empty, else-loop-so_far-test, then-so_far-via-then-so_far, then-so_far-via-else-so_far+then-so_far-claims}

pub loop-so_far-init : goal.loop-so_far-init
loop-so_far-init g c =
    let is : c.as_slice-rest.result.now ≡ upto c.args.columns = c.as_slice-rest.ensures.value ∙ c.in_ok-all.ensures in
    record {
      place = c.in_ok-so_far.ensures.place;
      within = within-columns c.args.columns c.as_slice-rest.result.now is;
      told = left-start c.args.columns c.args.agree_sets.now c.args.number c.args.claims.now (record { place = 0; departs = false }) c.in_ok-so_far.so_far c.as_slice-rest.result.now refl refl c.in_ok-so_far.ensures.told is;
    }

pub lefts_by-requires-clause-some : goal.lefts_by-requires-clause-some
lefts_by-requires-clause-some g c = λ _ _.
    subst (All (λ (a : ℕ). a < c.args.columns)) (sym c.split_at.ensures.front) (All-take (λ (a : ℕ). a < c.args.columns) c.min.result c.loop-so_far.rest.now c.loop-so_far.invariant.within)

pub past_lists-so_far-requires-clause-lists : goal.past_lists-so_far-requires-clause-lists
past_lists-so_far-requires-clause-lists g c =
    ap length c.as_slice.ensures.value ∙ sym (length-items c.in_ok-lists.lists.items) ∙ ap length c.in_ok-lists.ensures
    ∙ length-map c.split_at.result.0.now (λ a. least c.args.columns c.args.agree_sets.now (Col a))

pub loop-so_far-preserved : goal.loop-so_far-preserved
loop-so_far-preserved g c =
    let n = c.args.columns in let ws = c.args.agree_sets.now in let claims = c.args.claims.now in
    let some = c.split_at.result.0.now in let later = c.split_at.result.1.now in
    let items = map (λ (list : Vec ℕ Global). list.items) c.as_slice.result.now in
    let parts : some ++ later ≡ c.loop-so_far.rest.now = ap₂ (λ (xs ys : List ℕ). xs ++ ys) c.split_at.ensures.front c.split_at.ensures.back ∙ take-append-drop c.min.result c.loop-so_far.rest.now in
    let same = ap (map (λ (list : Vec ℕ Global). list.items)) c.as_slice.ensures.value ∙ c.in_ok-lists.ensures in
    record {
      place = c.past_lists-so_far.ensures.place;
      within = subst (All (λ (a : ℕ). a < n)) (sym c.split_at.ensures.back) (All-drop (λ (a : ℕ). a < n) c.min.result c.loop-so_far.rest.now c.loop-so_far.invariant.within);
      told = left-more n ws c.args.number claims c.loop-so_far.so_far c.past_lists-so_far.result c.loop-so_far.rest.now some later (claims_beside some items) c.loop-so_far.invariant.told parts
          (ap (claims_beside some) same ∙ beside-each n ws some) c.past_lists-so_far.ensures.told;
    }

empty_list : (xs : List ℕ) (b : Bool) → b ≡ eqb (length xs) 0 → b ≡ true → xs ≡ []
empty_list xs b e f = nil_from_length xs (eqb-true (length xs) 0 (sym e ∙ f))

pub returns-then-so_far : goal.returns-then-so_far
returns-then-so_far g c =
    let n = c.args.columns in let ws = c.args.agree_sets.now in let claims = c.args.claims.now in
    elim c.then-so_far.branch [
      | then-so_far-via-then-so_far w ↦ left-departs n ws c.args.number claims c.loop-so_far.so_far c.loop-so_far.rest.now c.loop-so_far.invariant.told w.if-so_far.true
      | then-so_far-via-else-so_far+then-so_far-claims w ↦
          elim c.loop-so_far-test.branch [
            | then-loop-so_far-test+else-not-is_empty v ↦
                left-too_many n ws c.args.number claims c.loop-so_far.so_far c.loop-so_far.rest.now c.loop-so_far.invariant.told (empty_list c.loop-so_far.rest.now v.is_empty.result v.is_empty.ensures v.if-not-is_empty.false)
                w.if-so_far.false w.if-so_far-claims.true
            | else-loop-so_far-test v ↦ absurd (false≢true (sym v.loop-so_far-test.false ∙ ap not w.if-so_far.false))
          ]
    ]

pub returns : goal.returns
returns g c =
    let n = c.args.columns in let ws = c.args.agree_sets.now in let claims = c.args.claims.now in
    elim c.loop-so_far-test.branch [
      | then-loop-so_far-test+else-not-is_empty v ↦
          left-none n ws c.args.number claims c.loop-so_far.so_far c.loop-so_far.rest.now c.loop-so_far.invariant.told (empty_list c.loop-so_far.rest.now v.is_empty.result v.is_empty.ensures v.if-not-is_empty.false)
          c.if-so_far.false c.if-so_far-claims.false
      | else-loop-so_far-test v ↦ absurd (false≢true (sym v.loop-so_far-test.false ∙ ap not c.if-so_far.false))
    ]
