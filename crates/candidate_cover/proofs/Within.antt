-- Where a set stands in a list that rises, by where it stands in a part of the list.
use Rattle.std.proofs.Common.{inl, inr, ◌≡◌, ℕ, zero, suc, ◌+◌, ◌-◌, ◌<◌, ◌≤◌, refl, sym, ap, ◌∙◌, subst, arith, List, [], ◌∷◌, length, get_or, take, drop, Less}
use Rattle.std.proofs.lemmas.List.{take-append-drop, length-take-le, length-drop, get_or-take, get_or-drop}
use Rattle.std.proofs.lemmas.Bool.{cases_lt}
use Rattle.col_set.specs.ColSet.{report_cmp}
use Rattle.col_set.specs.Lists.{Listed, Rises, Listed-append_left}
use Rattle.candidate_cover.specs.Place.{Parts, Stands, Lacks}

rises_from : (xs : List ℕ) (n : ℕ) → Rises report_cmp xs → Rises report_cmp (drop n xs)
rises_from xs zero o = o
rises_from [] (suc n) o = o
rises_from (x ∷ xs) (suc n) o = rises_from xs n o.1

rises_upto : (xs : List ℕ) (n : ℕ) → Rises report_cmp xs → Rises report_cmp (take n xs)
rises_upto xs zero o = tt
rises_upto [] (suc n) o = o
rises_upto (x ∷ xs) (suc n) o = (λ y h. o.0 y (subst (Listed y) (take-append-drop n xs) (Listed-append_left y (take n xs) (drop n xs) h)), rises_upto xs n o.1)

pub rises_within : (xs : List ℕ) (start n : ℕ) → Rises report_cmp xs → Rises report_cmp (take n (drop start xs))
rises_within xs start n o = rises_upto (drop start xs) n (rises_from xs start o)

module _ (xs : List ℕ) (x start end : ℕ) (up : start ≤ end) (fits : end ≤ length xs)
    (before : (k d : ℕ) → k < start → report_cmp (get_or xs k d) x ≡ Less)
    (after : (k d : ℕ) → end ≤ k → k < length xs → report_cmp x (get_or xs k d) ≡ Less) where
  abbrev middle : List ℕ
  middle = take (end - start) (drop start xs)

  long : length middle ≡ end - start
  long = length-take-le (end - start) (drop start xs) (let l = length-drop start xs in omega (arith, l, up, fits))

  at : (k d : ℕ) → k < end - start → get_or middle k d ≡ get_or xs (start + k) d
  at k d h = get_or-take (end - start) (drop start xs) k d h ∙ get_or-drop start xs k d

  -- a place of the list is one of the part
  behind : (k d : ℕ) → start ≤ k → k < end → get_or middle (k - start) d ≡ get_or xs k d
  behind k d h l = at (k - start) d (omega (arith, h, l)) ∙ ap (λ (n : ℕ). get_or xs n d) (let same : start + (k - start) ≡ k = omega (arith, h) in same)

  parts : (i j to : ℕ) → to ≡ start + j → i ≤ end - start → Parts middle x i j → Parts xs x (start + i) to
  parts i j to is le s = record {
    before = λ k d h l. elim (cases_lt k start) as (λ _. report_cmp (get_or xs k d) x ≡ Less) [
      | inl g ↦ before k d g
      | inr g ↦ ap (λ (y : ℕ). report_cmp y x) (sym (behind k d g (omega (arith, h, le, up)))) ∙ s.before (k - start) d (omega (arith, g, h)) (omega (arith, g, h, le, long))
    ];
    after = λ k d h l. elim (cases_lt k end) as (λ _. report_cmp x (get_or xs k d) ≡ Less) [
      | inl g ↦ ap (report_cmp x) (sym (behind k d (omega (arith, h, is)) g)) ∙ s.after (k - start) d (omega (arith, h, is)) (omega (arith, h, is, g, long))
      | inr g ↦ after k d g l
    ];
  }

  pub stands_within : (i : ℕ) → Stands middle x i → Stands xs x (start + i)
  stands_within i s =
      let l : i < end - start = subst (λ (n : ℕ). i < n) long s.within in
      record {
        within = omega (arith, l, fits);
        same = λ d. sym (at i d l) ∙ s.same d;
        parts = parts i (i + 1) (start + i + 1) (omega arith) (omega (arith, l)) s.parts;
      }

  pub lacks_within : (i : ℕ) → Lacks middle x i → Lacks xs x (start + i)
  lacks_within i s =
      let l : i ≤ end - start = subst (λ (n : ℕ). i ≤ n) long s.within in
      record { within = omega (arith, l, up, fits); parts = parts i i (start + i) refl l s.parts }
