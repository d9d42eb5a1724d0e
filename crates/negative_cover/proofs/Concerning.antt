-- Which targets an agree set concerns.
use Rattle.std.proofs.Common.{◌≡◌, ℕ, Bool, true, false, not, ◌&&◌, ◌||◌, if◌then◌else◌, refl, sym, ap, ◌∙◌, List, [], ◌∷◌, ◌++◌}
use Rattle.std.proofs.lemmas.Bool.{true≢false, false≢true, and_parts, lt-ltb, ltb-true}
use Rattle.col_set.specs.declared.target.Target.{Target}
use Rattle.col_set.specs.declared.target.Target.TheVariants.{Col, RowId}
use Rattle.col_set.specs.ColSet.{has, all, minus, inter, subset}
use Rattle.col_set.specs.Members.{has-empty, has-all, has-inter, has-minus, same_set}
use Rattle.col_set.specs.Target.{IsColumnTarget, has_target}
use Rattle.col_set.specs.Evidence.{refuted}
use Rattle.negative_cover.specs.declared.concerned.Concerned.{Concerned}
use Rattle.negative_cover.specs.declared.negative_cover.Witness.{Witness}
use Rattle.negative_cover.specs.Concerning.{concerns, is_open, AreConcerned, ConcernsNone}
use Rattle.negative_cover.specs.Witnesses.{sets_of}

-- ---- one agree set after another
and_true : (b : Bool) → b ≡ (b && true)
and_true true = refl
and_true false = refl

or_false : (b : Bool) → (b || false) ≡ b
or_false true = refl
or_false false = refl

or_assoc : (a b c : Bool) → (a || (b || c)) ≡ ((a || b) || c)
or_assoc true b c = refl
or_assoc false b c = refl

refuted-more : (ws : List ℕ) (w : ℕ) (t : Target) (z : ℕ) → refuted (ws ++ w ∷ []) t z ≡ (refuted ws t z || (subset z w && not (has_target w t)))
unfolding refuted
refuted-more [] w t z = or_false _
refuted-more (v ∷ ws) w t z = ap (λ b. (subset z v && not (has_target v t)) || b) (refuted-more ws w t z) ∙ or_assoc (subset z v && not (has_target v t)) _ _

lacks_row : (w : ℕ) → has_target w RowId ≡ false
unfolding has_target
lacks_row w = refl

target_column : (w a : ℕ) → has w a ≡ has_target w (Col a)
unfolding has_target
target_column w a = refl

none_refutes : (t : Target) (z : ℕ) → refuted [] t z ≡ false
unfolding refuted
none_refutes t z = refl

-- the targets that z lacks
pub lacking-none : (n z : ℕ) → AreConcerned n [] z (record { row_id = true; columns = minus (all n) z })
lacking-none n z = record { each = each; within = λ a h. ltb-true a n (sym (has-all n a) ∙ (and_parts _ _ (sym (has-minus (all n) z a) ∙ h)).0) }
  where
    opened : (h r : Bool) → r ≡ false → not h ≡ (not h && not r)
    opened true true e = refl
    opened true false e = refl
    opened false true e = absurd (true≢false e)
    opened false false e = refl

    each : (t : Target) → IsColumnTarget n t → concerns (record { row_id = true; columns = minus (all n) z }) t ≡ is_open [] z t
    each RowId l = ap not (sym (lacks_row z)) ∙ opened (has_target z RowId) (refuted [] RowId z) (none_refutes RowId z)
    each (Col a) l =
        has-minus (all n) z a ∙ ap (λ b. b && not (has z a)) (has-all n a ∙ lt-ltb a n l) ∙ ap not (target_column z a)
        ∙ opened (has_target z (Col a)) (refuted [] (Col a) z) (none_refutes (Col a) z)

-- after a further agree set
module _ (n : ℕ) (ws : List ℕ) (z w : ℕ) (c : Concerned) (are : AreConcerned n ws z c) where
  shut : (g r s h : Bool) → s ≡ true → h ≡ false → false ≡ (g && not (r || (s && not h)))
  shut g r false h e f = absurd (false≢true e)
  shut g r true true e f = absurd (true≢false f)
  shut true true true false e f = refl
  shut true false true false e f = refl
  shut false true true false e f = refl
  shut false false true false e f = refl

  inside : (h r s b : Bool) → s ≡ true → ((not h && not r) && b) ≡ (not h && not (r || (s && not b)))
  inside h r false b e = absurd (false≢true e)
  inside true r true b e = refl
  inside false true true b e = refl
  inside false false true true e = refl
  inside false false true false e = refl

  outside : (h r s b : Bool) → s ≡ false → (not h && not r) ≡ (not h && not (r || (s && not b)))
  outside h r true b e = absurd (true≢false e)
  outside true r false b e = refl
  outside false true false b e = refl
  outside false false false b e = refl

  more : (t : Target) → (not (has_target z t) && not (refuted ws t z || (subset z w && not (has_target w t)))) ≡ is_open (ws ++ w ∷ []) z t
  more t = ap (λ b. not (has_target z t) && not b) (sym (refuted-more ws w t z))

  pub told-more : AreConcerned n (ws ++ w ∷ []) z (if subset z w then record { row_id = false; columns = inter c.columns w } else c)
  told-more = by (subset z w) refl
    where
      each : subset z w ≡ true → (t : Target) → IsColumnTarget n t → concerns (record { row_id = false; columns = inter c.columns w }) t ≡ is_open (ws ++ w ∷ []) z t
      each e RowId l = shut (not (has_target z RowId)) (refuted ws RowId z) (subset z w) (has_target w RowId) e (lacks_row w) ∙ more RowId
      each e (Col a) l =
          has-inter c.columns w a ∙ ap (λ b. b && has w a) (are.each (Col a) l) ∙ ap (λ b. is_open ws z (Col a) && b) (target_column w a)
          ∙ inside (has_target z (Col a)) (refuted ws (Col a) z) (subset z w) (has_target w (Col a)) e ∙ more (Col a)

      by : (b : Bool) → subset z w ≡ b → AreConcerned n (ws ++ w ∷ []) z (if b then record { row_id = false; columns = inter c.columns w } else c)
      by true e = record { each = each e; within = λ a h. are.within a (and_parts _ _ (sym (has-inter c.columns w a) ∙ h)).0 }
      by false e = record { each = λ t l. are.each t l ∙ outside (has_target z t) (refuted ws t z) (subset z w) (has_target w t) e ∙ more t; within = are.within }

pub sets_of-one_more : (ws : List Witness) (w : Witness) → sets_of ws ++ w.agree ∷ [] ≡ sets_of (ws ++ w ∷ [])
sets_of-one_more [] w = refl
sets_of-one_more (v ∷ ws) w = ap (λ (zs : List ℕ). v.agree ∷ zs) (sets_of-one_more ws w)

-- ---- whether there are any
pub none-concerned : (c : Concerned) → c.row_id ≡ false → c.columns ≡ 0 → ConcernsNone c
none-concerned c e f RowId = e
none-concerned c e f (Col a) = ap (λ (x : ℕ). has x a) f ∙ has-empty a

pub none-columns : (c : Concerned) → ConcernsNone c → c.columns ≡ 0
none-columns c none = same_set c.columns 0 (λ k. none (Col k) ∙ sym (has-empty k))
