-- The rows that stand out in groups, counted group by group.
use Rattle.std.proofs.Common.{inl, inr, ◌≡◌, ℕ, zero, suc, ◌+◌, ◌-◌, ◌<◌, ◌≤◌, max, Bool, true, false, cond, eqb, leb, refl, sym, ap, ap₂, ◌∙◌, subst, arith, List, [], ◌∷◌, ◌++◌, length, get_or, map, take, take_all, count_by, Some, None}
use Rattle.std.specs.List.{All, sum_by}
use Rattle.std.proofs.lemmas.Bool.{cases_lt, leb-true, le-leb}
use Rattle.std.proofs.lemmas.List.{get_or_default, get_or_past, length-map, take_more}
use Rattle.std.proofs.lemmas.List.Sums.{count_by-le-length, sum_by-take-le, sum_by-cons, length-filter}
use Rattle.col_set.specs.Lists.{Listed}
use Rattle.col_set.proofs.Places.{Listed-get_or}
use Rattle.rel_base.specs.CodeTable.{CodeTable, code_at}
use Rattle.rel_base.specs.Shows.{live_numbers}
use Rattle.rel_base.proofs.States.{All-from}
use Rattle.stripped_partition.specs.Stripped.{agree_on}
use Rattle.stripped_partition.specs.AnyOrder.{AreGroupsOf}
use Rattle.stripped_partition.specs.Removed.{greatest, largest_part, outside_largest, removed_of, up_to}
use Rattle.stripped_partition.proofs.Dependencies.{stripped-parts, together}
use Rattle.stripped_partition.proofs.Live.{live_within}

-- ---- greatest numbers
greatest-more : (xs : List ℕ) (x : ℕ) → greatest (xs ++ x ∷ []) ≡ max (greatest xs) x
unfolding greatest
greatest-more [] x = omega arith
greatest-more (y ∷ ys) x = let e = greatest-more ys x in omega arith

pub greatest-nil : 0 ≡ greatest []
unfolding greatest
greatest-nil = refl

greatest-le : (n : ℕ) (f : ℕ → ℕ) (xs : List ℕ) → ((x : ℕ) → f x ≤ n) → greatest (map f xs) ≤ n
unfolding greatest
greatest-le n f [] h = omega arith
greatest-le n f (x ∷ xs) h = let a = h x in let b = greatest-le n f xs h in omega arith

map-snoc : {X Y : Type 0} (f : X → Y) (xs : List X) (x : X) → map f (xs ++ x ∷ []) ≡ map f xs ++ f x ∷ []
map-snoc f [] x = refl
map-snoc f (y ∷ ys) x = ap (λ zs. f y ∷ zs) (map-snoc f ys x)

pub slots_more : (f : ℕ → ℕ) (codes : List ℕ) (i m : ℕ) → i < length codes → m ≡ greatest (map f (take i codes)) → max m (f (get_or codes i 0)) ≡ greatest (map f (take (i + 1) codes))
slots_more f codes i m l e =
    ap (λ (n : ℕ). max n (f (get_or codes i 0))) e
    ∙ sym (greatest-more (map f (take i codes)) (f (get_or codes i 0)))
    ∙ ap greatest (sym (map-snoc f (take i codes) (get_or codes i 0)) ∙ ap (map f) (sym (take_more codes i 0 l)))

-- ---- parts of a group
pub counted : (slots codes : List ℕ) (n : ℕ) → All (λ c. c < n) codes → n ≡ length slots → ((c : ℕ) → c < length slots → get_or slots c 0 ≡ count_by (λ d. eqb d c) codes)
    → greatest (map (λ c. get_or slots c 0) codes) ≡ largest_part codes
unfolding largest_part
counted slots codes n within e each = ap greatest (over codes within)
  where
    over : (xs : List ℕ) → All (λ c. c < n) xs → map (λ c. get_or slots c 0) xs ≡ map (λ c. count_by (λ d. eqb d c) codes) xs
    over [] w = refl
    over (x ∷ xs) w = let l = w 0 0 (omega arith) in ap₂ (λ (y : ℕ) ys. y ∷ ys) (each x (omega arith)) (over xs (λ k d h. w (suc k) d (omega arith)))

pub largest_part-le : (codes : List ℕ) → largest_part codes ≤ length codes
unfolding largest_part
largest_part-le codes = greatest-le (length codes) (λ c. count_by (λ d. eqb d c) codes) codes (λ c. count_by-le-length (λ d. eqb d c) codes)

below_or : (xs : List ℕ) (n i : ℕ) → 0 < n → All (λ c. c < n) xs → get_or xs i 0 < n
below_or xs n i some all = elim (cases_lt i (length xs)) as (λ _. get_or xs i 0 < n) [
  | inl l ↦ all i 0 l
  | inr g ↦ let e = get_or_past xs i 0 g in omega arith
]

pub codes_within : (s : CodeTable) (a n : ℕ) (group codes : List ℕ) → 0 < n → All (λ c. c < n) (get_or s.codes a []) → codes ≡ map (λ row. code_at s row a) group → All (λ c. c < n) codes
codes_within s a n group codes some all e = subst (All (λ c. c < n)) (sym e) (over group)
  where
    over : (rows : List ℕ) → All (λ c. c < n) (map (λ row. code_at s row a) rows)
    over [] k d l = absurd (omega arith)
    over (row ∷ rows) zero d l = below_or (get_or s.codes a []) n (row - 1) some all
    over (row ∷ rows) (suc k) d l = over rows k d (omega arith)

pub few_outside : (s : CodeTable) (a : ℕ) (group codes : List ℕ) (most : ℕ) → codes ≡ map (λ row. code_at s row a) group → most ≡ largest_part codes → most ≤ length group
few_outside s a group codes most e m =
    let l = largest_part-le codes in let n = ap length e ∙ length-map group (λ row. code_at s row a) in omega arith

pub outside_is : (s : CodeTable) (a : ℕ) (group codes : List ℕ) (most : ℕ) → codes ≡ map (λ row. code_at s row a) group → most ≡ largest_part codes → length group - most ≡ outside_largest s a group
unfolding outside_largest
outside_is s a group codes most e m = ap (λ (n : ℕ). length group - n) (m ∙ ap largest_part e)

-- ---- room
pub room_coded : (s : CodeTable) (most slots : ℕ) → ((k : ℕ) → k < length s.codes → All (λ c. c ≤ most) (get_or s.codes k [])) → slots ≡ most + 1 → All (λ codes. All (λ c. c < slots) codes) s.codes
room_coded s most slots each e k d l =
    subst (All (λ c. c < slots)) (sym (get_or_default s.codes k d [] l)) (λ j f m. let h = each k l j f m in omega arith)

-- ---- groups
pub record GroupFits (s : CodeTable) (group : List ℕ) : Type 0 where
  pub given : All (λ row. row < s.to) group
  pub few : length group ≤ length (live_numbers s)

pub group_fits : (s : CodeTable) (groups : List (List ℕ)) (k : ℕ) (group : List ℕ) → AreGroupsOf s groups → k < length groups → group ≡ get_or groups k [] → GroupFits s group
group_fits s groups k group of l e =
    let listed = of.are.only group (subst (λ (g : List ℕ). Listed g groups) (sym e) (Listed-get_or groups k [] l)) in
    let parts = stripped-parts s of.columns group listed in
    record {
      given = All-from (λ row. row < s.to) group (λ i h. (live_within s i (together s of.columns group i i listed h h).0).1);
      few =
          let a = length-filter (agree_on s of.columns parts.row) (live_numbers s) in
          let b = count_by-le-length (agree_on s of.columns parts.row) (live_numbers s) in
          let c = ap length parts.is in omega arith;
    }

pub removed-nil : (s : CodeTable) (a : ℕ) → 0 ≡ removed_of s a []
unfolding removed_of
removed-nil s a = refl

pub removed_more : (s : CodeTable) (a : ℕ) (groups : List (List ℕ)) (k : ℕ) (group : List ℕ) (before more : ℕ) → k < length groups → group ≡ get_or groups k [] → before ≡ removed_of s a (take k groups) → more ≡ outside_largest s a group
    → before + more ≡ removed_of s a (take (k + 1) groups)
unfolding removed_of
removed_more s a groups k group before more l e b m =
    ap₂ (λ (x y : ℕ). x + y) b (m ∙ ap (outside_largest s a) e) ∙ sym (snoc (take k groups) (get_or groups k [])) ∙ ap (sum_by (outside_largest s a)) (sym (take_more groups k [] l))
  where
    snoc : (gs : List (List ℕ)) (g : List ℕ) → sum_by (outside_largest s a) (gs ++ g ∷ []) ≡ sum_by (outside_largest s a) gs + outside_largest s a g
    snoc [] g = let x = sum_by-cons (outside_largest s a) g [] in omega arith
    snoc (h ∷ gs) g = let x = sum_by-cons (outside_largest s a) h (gs ++ g ∷ []) in let y = sum_by-cons (outside_largest s a) h gs in let r = snoc gs g in omega arith

pub beyond : (s : CodeTable) (a : ℕ) (groups : List (List ℕ)) (k most n : ℕ) → n ≡ removed_of s a (take k groups) → most < n → None ≡ up_to most (removed_of s a groups)
unfolding removed_of
beyond s a groups k most n e l = by (leb (sum_by (outside_largest s a) groups) most) refl
  where
    by : (b : Bool) → leb (sum_by (outside_largest s a) groups) most ≡ b → None ≡ cond b (Some (sum_by (outside_largest s a) groups)) None
    by true f = let p = leb-true _ _ f in let q = sum_by-take-le (outside_largest s a) groups k in absurd (omega arith)
    by false f = refl

pub within : (s : CodeTable) (a : ℕ) (groups : List (List ℕ)) (k most n : ℕ) → n ≡ removed_of s a (take k groups) → k ≡ length groups → n ≤ most → Some n ≡ up_to most (removed_of s a groups)
within s a groups k most n e whole l = ap Some all ∙ ap (λ b. cond b (Some (removed_of s a groups)) None) (sym (le-leb (removed_of s a groups) most (subst (λ (m : ℕ). m ≤ most) all l)))
  where
    all : n ≡ removed_of s a groups
    all = e ∙ ap (removed_of s a) (take_all k groups (omega arith))
