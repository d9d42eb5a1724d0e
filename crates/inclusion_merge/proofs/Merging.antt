-- What a pass over lists of values keeps, from their least values upwards.
use Rattle.std.proofs.Common.{◌≡◌, ◌∙◌, ◌↔◌, ◌⊎◌, inl, inr, ◌<◌, ◌≤◌, ◌+◌, ◌&&◌, ℕ, zero, suc, arith, Bool, true, false, cond, refl, sym, ap, subst, List, [], ◌∷◌, ◌++◌, length, drop, append_assoc, append-nil, below_more, Some, None, Ordering, Less, Equal, Greater}
use Rattle.std.specs.Borrow.{Bor}
use Rattle.std.specs.Ordering.{is_gt, is_lt, ordering_reverse}
use Rattle.std.proofs.lemmas.Bool.{false≢true, and_parts, and_from}
use Rattle.std.proofs.lemmas.Cmp.{tied_itself, upto}
use Rattle.col_set.specs.Lists.{Listed, Listed-append_cases, Listed-append_left, Listed-append_right, Rises}
use Rattle.rel_base.specs.Cells.{Cell}
use Rattle.inclusion_merge.specs.Values.{value_cmp}
use Rattle.inclusion_merge.specs.Order.{value_total}
use Rattle.inclusion_merge.specs.Sharing.{AllEnded, AllRise, BeginsWith, IsFirstOf, IsLeastFirst, IsNotAbove, IsPart, TellsParts, list_at}

-- ---- the order
not_gt_itself : (x : Cell) → is_gt (value_cmp x x) ≡ false
not_gt_itself x = ap is_gt (tied_itself value_total x)

gt_turned : (o : Ordering) → is_gt (ordering_reverse o) ≡ is_lt o
gt_turned Less = refl
gt_turned Equal = refl
gt_turned Greater = refl

pub gt-lt : (x y : Cell) → value_cmp y x ≡ Less → is_gt (value_cmp x y) ≡ true
gt-lt x y e = ap is_gt (value_total.antisymm x y) ∙ gt_turned (value_cmp y x) ∙ ap is_lt e

-- ---- the least of the first values
pub not_above_less : (x y : Cell) (l : List Cell) → is_gt (value_cmp y x) ≡ false → IsNotAbove x l → IsNotAbove y l
not_above_less x y [] e h = tt
not_above_less x y (z ∷ zs) e h = upto value_total y x z e h

pub begins_not_above : (x : Cell) (l : List Cell) → BeginsWith x l → IsNotAbove x l
begins_not_above x [] h = absurd h
begins_not_above x (z ∷ zs) e = subst (λ (w : Cell). is_gt (value_cmp x w) ≡ false) (sym e) (not_gt_itself x)

pub ended_not_above : (x : Cell) (l : List Cell) → l ≡ [] → IsNotAbove x l
ended_not_above x l e = subst (λ (w : List Cell). IsNotAbove x w) (sym e) tt

pub first_ended : (l : List Cell) → IsFirstOf None l → l ≡ []
first_ended [] h = refl
first_ended (z ∷ zs) h = absurd h

pub first_begins : (x : Bor Cell) (l : List Cell) → IsFirstOf (Some x) l → BeginsWith x.now l
first_begins x [] h = h
first_begins x (z ∷ zs) h = h

module _ (lists : List (List Cell)) (i : ℕ) where
  pub first_least : (x : Bor Cell) → ((other : ℕ) → other < i → IsNotAbove x.now (list_at lists other)) → BeginsWith x.now (list_at lists i) → IsLeastFirst x.now lists (i + 1)
  first_least x below begins = record {
    place = i;
    within = omega arith;
    begins = begins;
    least = below_more (λ other. IsNotAbove x.now (list_at lists other)) i below (begins_not_above x.now (list_at lists i) begins);
  }

  pub still_least : (x : Bor Cell) → IsLeastFirst x.now lists i → IsNotAbove x.now (list_at lists i) → IsLeastFirst x.now lists (i + 1)
  still_least x h here =
      let within = h.within in
      record {
        place = h.place;
        within = omega arith;
        begins = h.begins;
        least = below_more (λ other. IsNotAbove x.now (list_at lists other)) i h.least here;
      }

-- ---- the lists that begin with the least value
Rises-append_right : (xs ys : List Cell) → Rises value_cmp (xs ++ ys) → Rises value_cmp ys
Rises-append_right [] ys r = r
Rises-append_right (x ∷ xs) ys r = Rises-append_right xs ys r.1

-- a list in order that has a value, and none below it, begins with it
listed_first : (m : Cell) (l : List Cell) → Rises value_cmp l → IsNotAbove m l → Listed m l → BeginsWith m l
listed_first m [] r h g = g
listed_first m (z ∷ zs) r h (inl e) = sym e
listed_first m (z ∷ zs) r h (inr g) = absurd (false≢true (sym h ∙ gt-lt m z (r.0 m g)))

begins_listed : (m : Cell) (l : List Cell) → BeginsWith m l → Listed m l
begins_listed m [] h = h
begins_listed m (z ∷ zs) e = inl (sym e)

begins_whole : (m : Cell) (l : List Cell) → BeginsWith m l → l ≡ m ∷ drop 1 l
begins_whole m [] h = absurd h
begins_whole m (z ∷ zs) e = ap (λ (w : Cell). w ∷ zs) e

-- no value stands twice in a list in order
not_behind : (m : Cell) (l : List Cell) → Rises value_cmp l → BeginsWith m l → Listed m (drop 1 l) → ⊥
not_behind m [] r h g = h
not_behind m (z ∷ zs) r e g =
    let less : value_cmp m m ≡ Less = subst (λ (w : Cell). value_cmp w m ≡ Less) e (r.0 m g) in
    let same = tied_itself value_total m in cc

listed_behind : (m a : Cell) (l : List Cell) → BeginsWith m l → (a ≡ m → ⊥) → Listed a l → Listed a (drop 1 l)
listed_behind m a [] h other g = g
listed_behind m a (z ∷ zs) e other (inl i) = absurd (other (i ∙ e))
listed_behind m a (z ∷ zs) e other (inr g) = g

drop_listed : (a : Cell) (l : List Cell) → Listed a (drop 1 l) → Listed a l
drop_listed a [] h = h
drop_listed a (z ∷ zs) h = inr h

-- ---- what is known in the midst of a pass
-- The values of a list that were passed, and what they tell of the lists that it may be a part of.
pub record Passed (lists : List (List Cell)) (rest : List Cell) (place : ℕ) (tells : ℕ → Bool) : Type 0 where
  pub passed : List Cell
  pub whole : list_at lists place ≡ passed ++ rest
  pub told : (other : ℕ) → other < length lists → (tells other ≡ true) ↔ IsPart passed (list_at lists other)

pub record Merged (lists rests : List (List Cell)) (has : ℕ → ℕ → Bool) : Type 0 where
  pub same : length rests ≡ length lists
  pub passed : (c : ℕ) → c < length lists → Passed lists (list_at rests c) c (has c)
  -- what is left of a list is left of each other list that has it and that the first may still be a part of
  pub left : (c d : ℕ) → c < length lists → d < length lists → (a : Cell) → has c d ≡ true → Listed a (list_at rests c) → Listed a (list_at lists d) → Listed a (list_at rests d)

pub Merged-none : (lists : List (List Cell)) (has : ℕ → ℕ → Bool) → ((c d : ℕ) → c < length lists → d < length lists → has c d ≡ true) → Merged lists lists has
Merged-none lists has all = record {
  same = refl;
  passed = λ c l. record { passed = []; whole = refl; told = λ d m. ((λ e a h. absurd h), (λ h. all c d l m)) };
  left = λ c d l m a e h g. g;
}

pub Merged-all : (lists rests : List (List Cell)) (has : ℕ → ℕ → Bool) → Merged lists rests has → AllEnded rests (length rests) → TellsParts lists has
Merged-all lists rests has m ended c d l k =
    let p = m.passed c l in
    let same = m.same in
    let none : list_at rests c ≡ [] = ended c (omega arith) in
    let whole : list_at lists c ≡ p.passed = p.whole ∙ ap (λ (rest : List Cell). p.passed ++ rest) none ∙ append-nil p.passed in
    let told = p.told d k in
    ((λ e. subst (λ (xs : List Cell). IsPart xs (list_at lists d)) (sym whole) (told.0 e)), (λ h. told.1 (subst (λ (xs : List Cell). IsPart xs (list_at lists d)) whole h)))

-- ---- one step of a pass
and-true : (b : Bool) → (b && true) ≡ b
and-true true = refl
and-true false = refl

module _ (lists rests rests' : List (List Cell)) (has has' : ℕ → ℕ → Bool) (value : Cell) (marked : ℕ → Bool) (rise : AllRise lists) (merged : Merged lists rests has) (least : IsLeastFirst value rests (length rests))
    (marks : (c : ℕ) → c < length rests → (marked c ≡ true) ↔ BeginsWith value (list_at rests c))
    (same : length rests' ≡ length rests)
    (moved : (c : ℕ) → c < length rests → list_at rests' c ≡ cond (marked c) (drop 1 (list_at rests c)) (list_at rests c))
    (kept : (c d : ℕ) → c < length lists → d < length lists → has' c d ≡ (has c d && cond (marked c) (marked d) true)) where
  within : (c : ℕ) → c < length lists → c < length rests
  within c l = let e = merged.same in omega arith

  rest_rises : (c : ℕ) → c < length lists → Rises value_cmp (list_at rests c)
  rest_rises c l =
      let p = merged.passed c l in
      Rises-append_right p.passed (list_at rests c) (subst (λ (xs : List Cell). Rises value_cmp xs) p.whole (rise c l))

  listed_whole : (c : ℕ) → c < length lists → (a : Cell) → Listed a (list_at rests c) → Listed a (list_at lists c)
  listed_whole c l a h =
      let p = merged.passed c l in
      subst (λ (xs : List Cell). Listed a xs) (sym p.whole) (Listed-append_right a p.passed (list_at rests c) h)

  still : (c d : ℕ) → c < length lists → d < length lists → has' c d ≡ true → has c d ≡ true
  still c d l m e = (and_parts (has c d) _ (sym (kept c d l m) ∙ e)).0

  marked_listed : (c : ℕ) → c < length lists → Listed value (list_at rests c) → marked c ≡ true
  marked_listed c l h = (marks c (within c l)).1 (listed_first value (list_at rests c) (rest_rises c l) (least.least c (within c l)) h)

  unmoved : (c : ℕ) → c < length lists → marked c ≡ false → Passed lists (list_at rests' c) c (has' c)
  unmoved c l e =
      let p = merged.passed c l in
      let rest : list_at rests' c ≡ list_at rests c = moved c (within c l) ∙ ap (λ b. cond b (drop 1 (list_at rests c)) (list_at rests c)) e in
      let tells : (d : ℕ) → d < length lists → has' c d ≡ has c d = λ d m. kept c d l m ∙ ap (λ b. has c d && cond b (marked d) true) e ∙ and-true (has c d) in
      record {
        passed = p.passed;
        whole = p.whole ∙ ap (λ (xs : List Cell). p.passed ++ xs) (sym rest);
        told = λ d m. ((λ h. (p.told d m).0 (sym (tells d m) ∙ h)), (λ h. tells d m ∙ (p.told d m).1 h));
      }

  passed_more : (c : ℕ) → c < length lists → marked c ≡ true → Passed lists (list_at rests' c) c (has' c)
  passed_more c l e =
      let p = merged.passed c l in
      let begins = (marks c (within c l)).0 e in
      let rest : list_at rests' c ≡ drop 1 (list_at rests c) = moved c (within c l) ∙ ap (λ b. cond b (drop 1 (list_at rests c)) (list_at rests c)) e in
      let tells : (d : ℕ) → d < length lists → has' c d ≡ (has c d && marked d) = λ d m. kept c d l m ∙ ap (λ b. has c d && cond b (marked d) true) e in
      record {
        passed = p.passed ++ value ∷ [];
        whole = p.whole ∙ ap (λ (xs : List Cell). p.passed ++ xs) (begins_whole value (list_at rests c) begins ∙ ap (λ (xs : List Cell). value ∷ xs) (sym rest))
            ∙ sym (append_assoc p.passed (value ∷ []) (list_at rests' c));
        told = λ d m. (
          (λ h. let w = and_parts (has c d) (marked d) (sym (tells d m) ∙ h) in part d m ((p.told d m).0 w.0) w.1),
          (λ h. tells d m ∙ and_from (has c d) (marked d) (old d m h) (new d m h)),
        );
      }
    where
      part : (d : ℕ) → d < length lists → IsPart (merged.passed c l).passed (list_at lists d) → marked d ≡ true → IsPart ((merged.passed c l).passed ++ value ∷ []) (list_at lists d)
      part d m h g a k = by (Listed-append_cases a (merged.passed c l).passed (value ∷ []) k)
        where
          by : Listed a (merged.passed c l).passed ⊎ Listed a (value ∷ []) → Listed a (list_at lists d)
          by (inl i) = h a i
          by (inr (inl i)) = subst (λ (x : Cell). Listed x (list_at lists d)) (sym i) (listed_whole d m value (begins_listed value (list_at rests d) ((marks d (within d m)).0 g)))
          by (inr (inr i)) = absurd i

      old : (d : ℕ) → d < length lists → IsPart ((merged.passed c l).passed ++ value ∷ []) (list_at lists d) → has c d ≡ true
      old d m h = ((merged.passed c l).told d m).1 (λ a i. h a (Listed-append_left a (merged.passed c l).passed (value ∷ []) i))

      new : (d : ℕ) → d < length lists → IsPart ((merged.passed c l).passed ++ value ∷ []) (list_at lists d) → marked d ≡ true
      new d m h =
          marked_listed d m
          (merged.left c d l m value (old d m h) (begins_listed value (list_at rests c) ((marks c (within c l)).0 e)) (h value (Listed-append_right value (merged.passed c l).passed (value ∷ []) (inl refl))))

  -- what is left afterwards was left before, and is not the value
  left_before : (c : ℕ) → c < length lists → (a : Cell) → Listed a (list_at rests' c) → Listed a (list_at rests c) × (a ≡ value → ⊥)
  left_before c l a h = go (marked c) refl (subst (λ (xs : List Cell). Listed a xs) (moved c (within c l)) h)
    where
      go : (b : Bool) → marked c ≡ b → Listed a (cond (marked c) (drop 1 (list_at rests c)) (list_at rests c)) → Listed a (list_at rests c) × (a ≡ value → ⊥)
      go true e g =
          let k : Listed a (drop 1 (list_at rests c)) = subst (λ b. Listed a (cond b (drop 1 (list_at rests c)) (list_at rests c))) e g in (
            drop_listed a (list_at rests c) k,
            (λ i. not_behind value (list_at rests c) (rest_rises c l) ((marks c (within c l)).0 e) (subst (λ (x : Cell). Listed x (drop 1 (list_at rests c))) i k)),
          )
      go false e g =
          let k : Listed a (list_at rests c) = subst (λ b. Listed a (cond b (drop 1 (list_at rests c)) (list_at rests c))) e g in
          (k, (λ i. false≢true (sym e ∙ marked_listed c l (subst (λ (x : Cell). Listed x (list_at rests c)) i k))))

  left_after : (d : ℕ) → d < length lists → (a : Cell) → (a ≡ value → ⊥) → Listed a (list_at rests d) → Listed a (list_at rests' d)
  left_after d m a other h = subst (λ (xs : List Cell). Listed a xs) (sym (moved d (within d m))) (go (marked d) refl)
    where
      go : (b : Bool) → marked d ≡ b → Listed a (cond b (drop 1 (list_at rests d)) (list_at rests d))
      go true e = listed_behind value a (list_at rests d) ((marks d (within d m)).0 e) other h
      go false e = h

  pub Merged-more : Merged lists rests' has'
  Merged-more = record {
    same = same ∙ merged.same;
    passed = λ c l. passed c l (marked c) refl;
    left = λ c d l m a e h g.
        let w = left_before c l a h in
        left_after d m a w.1 (merged.left c d l m a (still c d l m e) w.0 g);
  }
    where
      passed : (c : ℕ) → c < length lists → (b : Bool) → marked c ≡ b → Passed lists (list_at rests' c) c (has' c)
      passed c l true e = passed_more c l e
      passed c l false e = unmoved c l e

-- ---- how much is left
pub total : List (List Cell) → ℕ
total [] = 0
total (x ∷ xs) = length x + total xs

pub total_le : (xs ys : List (List Cell)) → length ys ≡ length xs → ((c : ℕ) → c < length xs → length (list_at ys c) ≤ length (list_at xs c)) → total ys ≤ total xs
unfolding total
total_le [] [] e h = omega arith
total_le [] (y ∷ ys) e h = absurd (omega arith)
total_le (x ∷ xs) [] e h = absurd (omega arith)
total_le (x ∷ xs) (y ∷ ys) e h =
    let first : length y ≤ length x = h 0 (omega arith) in
    let rest = total_le xs ys (omega arith) (λ c l. h (suc c) (omega arith)) in
    omega arith

pub total-lt : (xs ys : List (List Cell)) → length ys ≡ length xs → ((c : ℕ) → c < length xs → length (list_at ys c) ≤ length (list_at xs c)) → (p : ℕ) → p < length xs
    → length (list_at ys p) < length (list_at xs p) → total ys < total xs
unfolding total
total-lt [] ys e h p l less = absurd (omega arith)
total-lt (x ∷ xs) [] e h p l less = absurd (omega arith)
total-lt (x ∷ xs) (y ∷ ys) e h zero l less =
    let rest = total_le xs ys (omega arith) (λ c l. h (suc c) (omega arith)) in
    omega arith
total-lt (x ∷ xs) (y ∷ ys) e h (suc p) l less =
    let first : length y ≤ length x = h 0 (omega arith) in
    let rest = total-lt xs ys (omega arith) (λ c l. h (suc c) (omega arith)) p (omega arith) less in
    omega arith

shorter : (xs : List Cell) → length (drop 1 xs) ≤ length xs
shorter [] = omega arith
shorter (x ∷ xs) = omega arith

begins_longer : (value : Cell) (xs : List Cell) → BeginsWith value xs → length (drop 1 xs) < length xs
begins_longer value [] h = absurd h
begins_longer value (x ∷ xs) h = omega arith

pub total_falls : (rests rests' : List (List Cell)) (marked : ℕ → Bool) (value : Cell) → length rests' ≡ length rests → IsLeastFirst value rests (length rests)
    → ((c : ℕ) → c < length rests → (marked c ≡ true) ↔ BeginsWith value (list_at rests c))
    → ((c : ℕ) → c < length rests → list_at rests' c ≡ cond (marked c) (drop 1 (list_at rests c)) (list_at rests c)) → total rests' < total rests
total_falls rests rests' marked value same least marks moved =
    total-lt rests rests' same (λ c l. subst (λ (xs : List Cell). length xs ≤ length (list_at rests c)) (sym (moved c l)) (not_longer c (marked c))) least.place least.within first
  where
    not_longer : (c : ℕ) (b : Bool) → length (cond b (drop 1 (list_at rests c)) (list_at rests c)) ≤ length (list_at rests c)
    not_longer c true = shorter (list_at rests c)
    not_longer c false = omega arith

    p : ℕ
    p = least.place

    first : length (list_at rests' p) < length (list_at rests p)
    first =
        let is : marked p ≡ true = (marks p least.within).1 least.begins in
        let rest : list_at rests' p ≡ drop 1 (list_at rests p) = moved p least.within ∙ ap (λ b. cond b (drop 1 (list_at rests p)) (list_at rests p)) is in
        subst (λ (xs : List Cell). length xs < length (list_at rests p)) (sym rest) (begins_longer value (list_at rests p) least.begins)
