-- The rows that a batch ends, one operation after another.
use Rattle.std.proofs.Common.{◌≡◌, ℕ, ◌+◌, ◌<◌, refl, sym, ap, ◌∙◌, List, [], ◌∷◌, ◌++◌, length, get_or, take, Some, None}
use Rattle.std.proofs.lemmas.List.{append-nil, take_more}
use Rattle.rel_base.specs.declared.batch.Op.{Op}
use Rattle.rel_base.specs.declared.batch.Op.TheVariants.{Insert, Delete, Update}
use Rattle.negative_cover.specs.EndedRows.{ended, ended_row}

ended-append : (xs ys : List Op) → ended (xs ++ ys) ≡ ended xs ++ ended ys
ended-append [] ys = refl
ended-append (Insert new ∷ xs) ys = ended-append xs ys
ended-append (Delete n ∷ xs) ys = ap (λ (ns : List ℕ). n ∷ ns) (ended-append xs ys)
ended-append (Update n new ∷ xs) ys = ap (λ (ns : List ℕ). n ∷ ns) (ended-append xs ys)

pub ended-more_row : (ops : List Op) (k : ℕ) (op : Op) (n : ℕ) (rows : List ℕ) → k < length ops → op ≡ get_or ops k op → ended_row op ≡ Some n → rows ≡ ended (take k ops) → rows ++ n ∷ [] ≡ ended (take (k + 1) ops)
ended-more_row ops k op n rows l is e was = ap (λ (ns : List ℕ). ns ++ n ∷ []) was ∙ ap (λ (ns : List ℕ). ended (take k ops) ++ ns) (one op e) ∙ sym (ended-append (take k ops) (op ∷ []))
    ∙ ap ended (ap (λ (o : Op). take k ops ++ o ∷ []) is ∙ sym (take_more ops k op l))
  where
    one : (op : Op) → ended_row op ≡ Some n → n ∷ [] ≡ ended (op ∷ [])
    one (Insert new) e = absurd (cc)
    one (Delete m) e = let same : n ≡ m = cc in ap (λ (k : ℕ). k ∷ []) same
    one (Update m new) e = let same : n ≡ m = cc in ap (λ (k : ℕ). k ∷ []) same

pub ended-more_none : (ops : List Op) (k : ℕ) (op : Op) (rows : List ℕ) → k < length ops → op ≡ get_or ops k op → ended_row op ≡ None → rows ≡ ended (take k ops) → rows ≡ ended (take (k + 1) ops)
ended-more_none ops k op rows l is e was = was ∙ sym (append-nil (ended (take k ops))) ∙ ap (λ (ns : List ℕ). ended (take k ops) ++ ns) (one op e) ∙ sym (ended-append (take k ops) (op ∷ []))
    ∙ ap ended (ap (λ (o : Op). take k ops ++ o ∷ []) is ∙ sym (take_more ops k op l))
  where
    one : (op : Op) → ended_row op ≡ None → (let ns : List ℕ = [] in ns ≡ ended (op ∷ []))
    one (Insert new) e = refl
    one (Delete m) e = absurd (cc)
    one (Update m new) e = absurd (cc)
