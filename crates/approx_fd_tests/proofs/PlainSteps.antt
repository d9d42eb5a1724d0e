-- The plain program's steps.
use Rattle.std.proofs.Common.{inl, inr, ◌≡◌, ◌⊎◌, ℕ, ◌+◌, ◌-◌, ◌<◌, ◌≤◌, ◌^◌, Bool, true, false, cond, not, ◌||◌, ◌&&◌, eqb, leb, max, refl, sym, ap, ap₂, ◌∙◌, subst, arith, List, [], ◌∷◌, ◌++◌, length, map, append_assoc, append-nil, le_antisymm}
use Rattle.std.specs.List.{All, filter, list_all, range_with_len}
use Rattle.std.proofs.lemmas.Bool.{and_parts, and_from, true≢false, not_from_false, false_from_ne_true, leb-true, le-leb, cases_lt}
use Rattle.std.proofs.lemmas.List.Elements.{filter-append, All-append, All-cons, All-nil}
use Rattle.plain_base.proofs.Folds.{range_more}
use Rattle.col_set.specs.declared.target.Target.{Target}
use Rattle.col_set.specs.ColSet.{subset, all_sets}
use Rattle.col_set.specs.Target.{has_target}
use Rattle.col_set.specs.Minimal.{is_minimal, proper_subset}
use Rattle.col_set.specs.Lists.{Listed, list_all_at, list_all_from}
use Rattle.col_set.specs.AllSets.{Listed-all_sets, all_sets_below}
use Rattle.rel_base.specs.CodeTable.{CodeTable, live_at}
use Rattle.rel_base.specs.Shows.{code_agree, code_sets, live_numbers}
use Rattle.rel_base.specs.Validity.{determined, pairs}
use Rattle.rel_base.proofs.States.{All-listed, All-from}
use Rattle.stripped_partition.specs.Removed.{greatest}
use Rattle.stripped_partition.proofs.Live.{live_within}
use Rattle.approx_fd.specs.Removal.{sublists, least_removed, removed_in}
use Rattle.approx_fd.specs.Approximate.{min_nearly}
use Rattle.approx_fd_tests.specs.Plain.{most_of}

-- ---- lists
map_app : {X Y : Type 0} (f : X → Y) (xs ys : List X) → map f (xs ++ ys) ≡ map f xs ++ map f ys
map_app f [] ys = refl
map_app {Y = Y} f (x ∷ xs) ys = ap (λ (zs : List Y). f x ∷ zs) (map_app f xs ys)

all_app : {X : Type 0} (p : X → Bool) (xs ys : List X) → list_all p (xs ++ ys) ≡ (list_all p xs && list_all p ys)
all_app p [] ys = refl
all_app p (x ∷ xs) ys = at (p x) (all_app p xs ys)
  where
    at : (b : Bool) → list_all p (xs ++ ys) ≡ (list_all p xs && list_all p ys) → (b && list_all p (xs ++ ys)) ≡ ((b && list_all p xs) && list_all p ys)
    at true e = e
    at false e = refl

all_map : {X Y : Type 0} (p : Y → Bool) (f : X → Y) (xs : List X) → list_all p (map f xs) ≡ list_all (λ x. p (f x)) xs
all_map p f [] = refl
all_map p f (x ∷ xs) = ap (λ b. p (f x) && b) (all_map p f xs)

pub first-of : (P : ℕ → Type 0) (x : ℕ) (xs whole : List ℕ) → whole ≡ x ∷ xs → All P whole → P x
first-of P x xs whole e a = All-listed P x whole a (subst (Listed x) (sym e) (inl refl))

pub rest-of : (P : ℕ → Type 0) (x : ℕ) (xs whole : List ℕ) → whole ≡ x ∷ xs → All P whole → All P xs
rest-of P x xs whole e a = All-from P xs (λ y h. All-listed P y whole a (subst (Listed y) (sym e) (inr h)))

pub shorter : (x : ℕ) (xs whole : List ℕ) → whole ≡ x ∷ xs → length xs < length whole
shorter x xs whole e = let l : length whole ≡ length (x ∷ xs) = ap length e in omega (arith, l)

pub none-left : (xs : List ℕ) → length xs ≡ 0 → xs ≡ []
none-left [] e = refl
none-left (x ∷ xs) e = absurd (omega arith)

-- a test of all, one after another
module _ (g : ℕ → Bool) (x : ℕ) (xs whole : List ℕ) (b : Bool) (e : whole ≡ x ∷ xs) (h : list_all g whole ≡ b) where
  opened : (g x && list_all g xs) ≡ b
  opened = sym (ap (list_all g) e) ∙ h

  pub all-more : g x ≡ true → list_all g xs ≡ b
  all-more t = sym (ap (λ c. c && list_all g xs) t) ∙ opened

  pub all-not : g x ≡ false → false ≡ b
  all-not t = sym (ap (λ c. c && list_all g xs) t) ∙ opened

pub all-none : (g : ℕ → Bool) (whole : List ℕ) (b : Bool) → whole ≡ [] → list_all g whole ≡ b → true ≡ b
all-none g whole b e h = sym (ap (list_all g) e) ∙ h

-- ---- whether columns determine a target
module _ (s : CodeTable) (x : ℕ) (t : Target) where
  abbrev pub goes : ℕ → ℕ → Bool
  goes row other = not (subset x (code_agree s row other)) || has_target (code_agree s row other) t

  pub determined-cons : (row : ℕ) (others : List ℕ) → determined (code_sets s (row ∷ others)) x t ≡ (list_all (goes row) others && determined (code_sets s others) x t)
  unfolding pairs
  determined-cons row others =
      ap (list_all (λ w. not (subset x w) || has_target w t)) (map_app (λ p. code_agree s p.0 p.1) (map (λ y. (row, y)) others) (pairs others))
      ∙ all_app (λ w. not (subset x w) || has_target w t) (map (λ p. code_agree s p.0 p.1) (map (λ y. (row, y)) others)) (map (λ p. code_agree s p.0 p.1) (pairs others))
      ∙ ap (λ b. b && determined (code_sets s others) x t)
      (all_map (λ w. not (subset x w) || has_target w t) (λ p. code_agree s p.0 p.1) (map (λ y. (row, y)) others)
      ∙ all_map (λ p. not (subset x (code_agree s p.0 p.1)) || has_target (code_agree s p.0 p.1) t) (λ y. (row, y)) others)

  pub determined-none : determined (code_sets s []) x t ≡ true
  unfolding pairs
  determined-none = refl

  module _ (row : ℕ) (others whole : List ℕ) (b : Bool) (e : whole ≡ row ∷ others) (h : determined (code_sets s whole) x t ≡ b) where
    begun-with : (list_all (goes row) others && determined (code_sets s others) x t) ≡ b
    begun-with = sym (determined-cons row others) ∙ sym (ap (λ (rows : List ℕ). determined (code_sets s rows) x t) e) ∙ h

    pub determined-more : list_all (goes row) others ≡ true → determined (code_sets s others) x t ≡ b
    determined-more g = sym (ap (λ c. c && determined (code_sets s others) x t) g) ∙ begun-with

    pub determined-not : list_all (goes row) others ≡ false → false ≡ b
    determined-not g = sym (ap (λ c. c && determined (code_sets s others) x t) g) ∙ begun-with

  pub determined-end : (whole : List ℕ) (b : Bool) → whole ≡ [] → determined (code_sets s whole) x t ≡ b → true ≡ b
  determined-end whole b e h = sym determined-none ∙ sym (ap (λ (rows : List ℕ). determined (code_sets s rows) x t) e) ∙ h

-- ---- the most rows that can be kept
module _ (passes : List ℕ → Bool) where
  G : List (List ℕ) → ℕ
  G xs = greatest (map length (filter passes xs))

  greatest-app : (xs ys : List ℕ) → greatest (xs ++ ys) ≡ max (greatest xs) (greatest ys)
  unfolding greatest
  greatest-app [] ys = omega arith
  greatest-app (x ∷ xs) ys = let e = greatest-app xs ys in omega arith

  G-app : (xs ys : List (List ℕ)) → G (xs ++ ys) ≡ max (G xs) (G ys)
  unfolding G
  G-app xs ys =
      ap (λ (zs : List (List ℕ)). greatest (map length zs)) (filter-append passes xs ys) ∙ ap greatest (map_app length (filter passes xs) (filter passes ys))
      ∙ greatest-app (map length (filter passes xs)) (map length (filter passes ys))

  begun : (kept : List ℕ) (row : ℕ) (xs : List (List ℕ)) → map (λ k. kept ++ k) (map (λ k. row ∷ k) xs) ≡ map (λ k. (kept ++ row ∷ []) ++ k) xs
  begun kept row [] = refl
  begun kept row (k ∷ xs) = ap₂ (λ (y : List ℕ) (ys : List (List ℕ)). y ∷ ys) (sym (append_assoc kept (row ∷ []) k)) (begun kept row xs)

  one : (kept z : List ℕ) → z ≡ kept → cond (passes kept) (length kept) 0 ≡ G (z ∷ [])
  unfolding G greatest
  one kept z e = subst (λ (y : List ℕ). cond (passes kept) (length kept) 0 ≡ greatest (map length (filter passes (y ∷ [])))) (sym e) (at (passes kept))
    where
      at : (b : Bool) → cond b (length kept) 0 ≡ greatest (map length (cond b (kept ∷ []) []))
      at true = omega arith
      at false = refl

  most-of : (kept rows : List ℕ) → most_of passes kept rows ≡ G (map (λ k. kept ++ k) (sublists rows))
  unfolding most_of sublists
  most-of kept [] = one kept (kept ++ []) (append-nil kept)
  most-of kept (row ∷ rows) =
      ap₂ max (most-of (kept ++ row ∷ []) rows ∙ ap G (sym (begun kept row (sublists rows)))) (most-of kept rows)
      ∙ sym (G-app (map (λ k. kept ++ k) (map (λ k. row ∷ k) (sublists rows))) (map (λ k. kept ++ k) (sublists rows)))
      ∙ ap G (sym (map_app (λ k. kept ++ k) (map (λ k. row ∷ k) (sublists rows)) (sublists rows)))

  same : (xs : List (List ℕ)) → map (λ k. [] ++ k) xs ≡ xs
  same [] = refl
  same (x ∷ xs) = ap (λ (ys : List (List ℕ)). x ∷ ys) (same xs)

  pub least-removed : (rows : List ℕ) → length rows - most_of passes [] rows ≡ least_removed passes rows
  unfolding least_removed G
  least-removed rows = ap (λ n. length rows - n) (most-of [] rows ∙ ap G (same (sublists rows)))

  none-more : (kept : List ℕ) → most_of passes kept [] ≡ cond (passes kept) (length kept) 0
  unfolding most_of
  none-more kept = refl

  one-more : (kept : List ℕ) (row : ℕ) (rows : List ℕ) → most_of passes kept (row ∷ rows) ≡ max (most_of passes (kept ++ row ∷ []) rows) (most_of passes kept rows)
  unfolding most_of
  one-more kept row rows = refl

  pub kept-all : (kept rest : List ℕ) → rest ≡ [] → passes kept ≡ true → length kept ≡ most_of passes kept rest
  kept-all kept rest e t = sym (ap (most_of passes kept) e ∙ none-more kept ∙ ap (λ b. cond b (length kept) 0) t)

  pub kept-none : (kept rest : List ℕ) → rest ≡ [] → passes kept ≡ false → 0 ≡ most_of passes kept rest
  kept-none kept rest e t = sym (ap (most_of passes kept) e ∙ none-more kept ∙ ap (λ b. cond b (length kept) 0) t)

  pub kept-either : (kept longer others rest : List ℕ) (row with without most : ℕ) → rest ≡ row ∷ others → longer ≡ kept ++ row ∷ [] → with ≡ most_of passes longer others → without ≡ most_of passes kept others
      → most ≡ max with without → most ≡ most_of passes kept rest
  kept-either kept longer others rest row with without most e m a b h =
      h ∙ ap₂ max (a ∙ ap (λ (k : List ℕ). most_of passes k others) m) b ∙ sym (one-more kept row others) ∙ sym (ap (most_of passes kept) e)

pub removed-least : (s : CodeTable) (x : ℕ) (t : Target) (live : List ℕ) (most : ℕ) → live ≡ live_numbers s → most ≡ most_of (λ rows. determined (code_sets s rows) x t) [] live → length live - most ≡ removed_in s x t
unfolding removed_in
removed-least s x t live most e m =
    ap (λ n. length live - n) m ∙ least-removed (λ rows. determined (code_sets s rows) x t) live ∙ ap (least_removed (λ rows. determined (code_sets s rows) x t)) e

-- ---- live rows
pub live-given : (s : CodeTable) (rows : List ℕ) → rows ≡ live_numbers s → All (λ row. row < s.to) rows
live-given s rows e = All-from (λ (row : ℕ). row < s.to) rows (λ i h. (live_within s i (subst (Listed i) e h)).1)

pub none-given : (s : CodeTable) (rows : List ℕ) → rows ≡ [] → All (λ row. row < s.to) rows
none-given s rows e = subst (All (λ row. row < s.to)) (sym e) (λ k d l. absurd (omega (arith, l)))

pub more-given : (s : CodeTable) (kept more : List ℕ) (row : ℕ) → All (λ row. row < s.to) kept → row < s.to → more ≡ kept ++ row ∷ [] → All (λ row. row < s.to) more
more-given s kept more row a l e = subst (All (λ row. row < s.to)) (sym e) (All-append (λ (row : ℕ). row < s.to) kept (row ∷ []) a (All-cons (λ (row : ℕ). row < s.to) row [] l (All-nil (λ (row : ℕ). row < s.to))))

module _ (s : CodeTable) where
  filtered-more : (n : ℕ) → filter (live_at s) (range_with_len 1 (n + 1)) ≡ filter (live_at s) (range_with_len 1 n) ++ filter (live_at s) ((n + 1) ∷ [])
  filtered-more n = ap (filter (live_at s)) (range_more n 1 ∙ ap (λ (i : ℕ). range_with_len 1 n ++ i ∷ []) (let e : 1 + n ≡ n + 1 = omega arith in e)) ∙ filter-append (live_at s) (range_with_len 1 n) ((n + 1) ∷ [])

  alone : (row : ℕ) (b : Bool) → live_at s row ≡ b → filter (live_at s) (row ∷ []) ≡ cond b (row ∷ []) []
  alone row b e = ap (λ c. cond c (row ∷ []) []) e

  pub live-end : (rows : List ℕ) (place last : ℕ) → rows ≡ filter (live_at s) (range_with_len 1 place) → place ≤ last - 1 → last - 1 ≤ place → last ≡ s.to → rows ≡ live_numbers s
  unfolding live_numbers
  live-end rows place last e l m t = e ∙ ap (λ (k : ℕ). filter (live_at s) (range_with_len 1 k)) (le_antisymm l m ∙ ap (λ (k : ℕ). k - 1) t)

  pub live-more : (n : ℕ) (rows more : List ℕ) → rows ≡ filter (live_at s) (range_with_len 1 n) → live_at s (n + 1) ≡ true → more ≡ rows ++ (n + 1) ∷ [] → more ≡ filter (live_at s) (range_with_len 1 (n + 1))
  live-more n rows more e l m = m ∙ ap₂ (λ (xs ys : List ℕ). xs ++ ys) e (sym (alone (n + 1) true l)) ∙ sym (filtered-more n)

  pub live-not : (n : ℕ) (rows : List ℕ) → rows ≡ filter (live_at s) (range_with_len 1 n) → live_at s (n + 1) ≡ false → rows ≡ filter (live_at s) (range_with_len 1 (n + 1))
  live-not n rows e l = sym (append-nil rows) ∙ ap₂ (λ (xs ys : List ℕ). xs ++ ys) e (sym (alone (n + 1) false l)) ∙ sym (filtered-more n)

-- ---- minimal
pub below-more : (f : ℕ → Bool) (b : ℕ) → ((y : ℕ) → y < b → f y ≡ false) → f b ≡ false → (y : ℕ) → y < b + 1 → f y ≡ false
below-more f b all here y l = at (cases_lt y b)
  where
    at : (y < b) ⊎ (b ≤ y) → f y ≡ false
    at (inl m) = all y m
    at (inr m) = let e : y ≡ b = omega arith in ap f e ∙ here

pub below-end : (y bits end m n : ℕ) → y ≡ bits → bits < end → end ≡ 2 ^ m → m ≡ n → y < 2 ^ n
below-end y bits end m n a l e f = let g : end ≡ 2 ^ n = e ∙ ap (λ (k : ℕ). 2 ^ k) f in omega (arith, a, l, g)

pub end-below : (bits end m n : ℕ) → end ≤ bits → end ≡ 2 ^ m → m ≡ n → 2 ^ n ≤ bits
end-below bits end m n l e f = let g : end ≡ 2 ^ n = e ∙ ap (λ (k : ℕ). 2 ^ k) f in omega (arith, l, g)

above-false : (k most : ℕ) → most < k → leb k most ≡ false
above-false k most l = false_from_ne_true _ (λ e. let m = leb-true k most e in absurd (omega arith))

module _ (n : ℕ) (count : ℕ → ℕ) (most : ℕ) (t : Target) (x : ℕ) where
  abbrev pub enough : ℕ → Bool
  enough y = proper_subset y x && leb (count y) most

  pub minimal-target : has_target x t ≡ true → false ≡ min_nearly n count most t x
  unfolding min_nearly
  minimal-target e = sym (ap (λ b. not b && is_minimal n (λ y. leb (count y) most) x) e)

  pub minimal-many : (k : ℕ) → k ≡ count x → most < k → false ≡ min_nearly n count most t x
  unfolding min_nearly is_minimal
  minimal-many k e l = sym (false_from_ne_true _ (λ f. true≢false (sym (and_parts _ _ (and_parts _ _ f).1).0 ∙ above-false (count x) most (subst (λ (c : ℕ). most < c) e l))))

  pub minimal-part : (y : ℕ) → y < 2 ^ n → enough y ≡ true → false ≡ min_nearly n count most t x
  unfolding min_nearly is_minimal
  minimal-part y l p = sym (false_from_ne_true _ (λ f.
      let each = (and_parts _ _ (and_parts _ _ f).1).1 in
      let h = list_all_at (λ y. not (proper_subset y x && leb (count y) most)) y (all_sets n) each (Listed-all_sets n y l) in
      true≢false (sym h ∙ ap not p)))

  pub minimal-all : (k bits : ℕ) → has_target x t ≡ false → k ≡ count x → k ≤ most → ((y : ℕ) → y < bits → enough y ≡ false) → 2 ^ n ≤ bits → true ≡ min_nearly n count most t x
  unfolding min_nearly is_minimal
  minimal-all k bits a e l f m = sym (and_from _ _ (not_from_false _ a) (and_from _ _ (le-leb _ _ (subst (λ (c : ℕ). c ≤ most) e l))
      (list_all_from (λ y. not (proper_subset y x && leb (count y) most)) (all_sets n) (λ y h. not_from_false _ (f y (let b = all_sets_below n y h in omega (arith, b, m)))))))
