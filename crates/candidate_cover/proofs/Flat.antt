-- Three flat lists as one list of pairs.
use Rattle.std.proofs.Common.{◌≡◌, ℕ, zero, suc, ◌+◌, ◌-◌, ◌<◌, ◌≤◌, max, Bool, true, false, cond, refl, sym, ap, ap₂, ◌∙◌, subst, arith, List, [], ◌∷◌, ◌++◌, length, get_or, take, drop, set, map, replicate, Some, None, drop-cons, add-one}
use Rattle.std.proofs.lemmas.List.Elements.{filter-append}
use Rattle.std.proofs.lemmas.List.{append-nil, length-append, length-drop, length-replicate, length-set, length-map, get_or-map, map-append, take_more, take_all, drop_all, drop-map}
use Rattle.candidate_cover.specs.declared.cand.Mark.{Mark}
use Rattle.std.specs.List.{find, filter}
use Rattle.col_set.specs.ColSet.{report_cmp}
use Rattle.col_set.specs.Lists.{Rises}
use Rattle.candidate_cover.specs.declared.cand.Cand.{Cand}
use Rattle.candidate_cover.specs.Cands.{all_free, fresh, kept_or_fresh}
use Rattle.candidate_cover.specs.AllMarked.{all_marked}
use Rattle.candidate_cover.specs.Marks.{cand, cands}
use Rattle.candidate_cover.specs.Pairs.{pairs_of, AreEven, keys, IsInOrder, value_at, with_value}
use Rattle.candidate_cover.specs.Place.{Stands, Lacks}
use Rattle.candidate_cover.proofs.Places.{in_pairs, value_at-stands, with_value-stands}
use Rattle.candidate_cover.proofs.Toggling.{keys_order, Rises-keys}

pub none_even : (xs us : List ℕ) (hs : List Bool) → xs ≡ [] → us ≡ [] → hs ≡ [] → AreEven xs us hs
none_even xs us hs e f g = record { uptos = ap length f ∙ sym (ap length e); helds = ap length g ∙ sym (ap length e) }

pub length-pairs : (xs us : List ℕ) (hs : List Bool) → AreEven xs us hs → length (pairs_of xs us hs) ≡ length xs
length-pairs [] us hs e = refl
length-pairs (x ∷ xs) [] hs e = absurd (let h = e.uptos in omega arith)
length-pairs (x ∷ xs) (u ∷ us) [] e = absurd (let h = e.helds in omega arith)
length-pairs (x ∷ xs) (u ∷ us) (h ∷ hs) e = ap suc (length-pairs xs us hs (record { uptos = let f = e.uptos in omega arith; helds = let f = e.helds in omega arith }))

pub keys-pairs : (xs us : List ℕ) (hs : List Bool) → AreEven xs us hs → keys (pairs_of xs us hs) ≡ xs
keys-pairs [] us hs e = refl
keys-pairs (x ∷ xs) [] hs e = absurd (let h = e.uptos in omega arith)
keys-pairs (x ∷ xs) (u ∷ us) [] e = absurd (let h = e.helds in omega arith)
keys-pairs (x ∷ xs) (u ∷ us) (h ∷ hs) e = ap (λ (ys : List ℕ). x ∷ ys) (keys-pairs xs us hs (record { uptos = let f = e.uptos in omega arith; helds = let f = e.helds in omega arith }))

pub pairs-append : (xs us : List ℕ) (hs : List Bool) (ys vs : List ℕ) (gs : List Bool) → AreEven xs us hs → pairs_of (xs ++ ys) (us ++ vs) (hs ++ gs) ≡ pairs_of xs us hs ++ pairs_of ys vs gs
pairs-append [] [] [] ys vs gs e = refl
pairs-append [] (u ∷ us) hs ys vs gs e = absurd (let h = e.uptos in omega arith)
pairs-append [] [] (h ∷ hs) ys vs gs e = absurd (let h = e.helds in omega arith)
pairs-append (x ∷ xs) [] hs ys vs gs e = absurd (let h = e.uptos in omega arith)
pairs-append (x ∷ xs) (u ∷ us) [] ys vs gs e = absurd (let h = e.helds in omega arith)
pairs-append (x ∷ xs) (u ∷ us) (h ∷ hs) ys vs gs e =
    ap (λ (ps : List (ℕ × Mark)). (x, record { upto = u; held = h }) ∷ ps) (pairs-append xs us hs ys vs gs (record { uptos = let f = e.uptos in omega arith; helds = let f = e.helds in omega arith }))

pub even-append : (xs us : List ℕ) (hs : List Bool) (ys vs : List ℕ) (gs : List Bool) → AreEven xs us hs → AreEven ys vs gs → AreEven (xs ++ ys) (us ++ vs) (hs ++ gs)
even-append xs us hs ys vs gs e f = record {
  uptos = let a = e.uptos in let b = f.uptos in omega (arith, length-append us vs, length-append xs ys);
  helds = let a = e.helds in let b = f.helds in omega (arith, length-append hs gs, length-append xs ys);
}

pub pairs-take : (n : ℕ) (xs us : List ℕ) (hs : List Bool) → pairs_of (take n xs) (take n us) (take n hs) ≡ take n (pairs_of xs us hs)
pairs-take zero xs us hs = refl
pairs-take (suc n) [] us hs = refl
pairs-take (suc n) (x ∷ xs) [] hs = refl
pairs-take (suc n) (x ∷ xs) (u ∷ us) [] = refl
pairs-take (suc n) (x ∷ xs) (u ∷ us) (h ∷ hs) = ap (λ (ps : List (ℕ × Mark)). (x, record { upto = u; held = h }) ∷ ps) (pairs-take n xs us hs)

pub pairs-drop : (n : ℕ) (xs us : List ℕ) (hs : List Bool) → AreEven xs us hs → pairs_of (drop n xs) (drop n us) (drop n hs) ≡ drop n (pairs_of xs us hs)
pairs-drop zero xs us hs e = refl
pairs-drop (suc n) [] us hs e = refl
pairs-drop (suc n) (x ∷ xs) [] hs e = absurd (let h = e.uptos in omega arith)
pairs-drop (suc n) (x ∷ xs) (u ∷ us) [] e = absurd (let h = e.helds in omega arith)
pairs-drop (suc n) (x ∷ xs) (u ∷ us) (h ∷ hs) e = pairs-drop n xs us hs (record { uptos = let f = e.uptos in omega arith; helds = let f = e.helds in omega arith })

-- a run of each of the three
pub pairs-run : (xs us : List ℕ) (hs : List Bool) (i n : ℕ) → AreEven xs us hs → pairs_of (take n (drop i xs)) (take n (drop i us)) (take n (drop i hs)) ≡ take n (drop i (pairs_of xs us hs))
pairs-run xs us hs i n e = pairs-take n (drop i xs) (drop i us) (drop i hs) ∙ ap (take n) (pairs-drop i xs us hs e)

even-take : (n : ℕ) (xs us : List ℕ) (hs : List Bool) → AreEven xs us hs → AreEven (take n xs) (take n us) (take n hs)
even-take zero xs us hs e = record { uptos = refl; helds = refl }
even-take (suc n) [] [] [] e = record { uptos = refl; helds = refl }
even-take (suc n) [] (u ∷ us) hs e = absurd (let h = e.uptos in omega arith)
even-take (suc n) [] [] (h ∷ hs) e = absurd (let h = e.helds in omega arith)
even-take (suc n) (x ∷ xs) [] hs e = absurd (let h = e.uptos in omega arith)
even-take (suc n) (x ∷ xs) (u ∷ us) [] e = absurd (let h = e.helds in omega arith)
even-take (suc n) (x ∷ xs) (u ∷ us) (h ∷ hs) e =
    let r = even-take n xs us hs (record { uptos = let f = e.uptos in omega arith; helds = let f = e.helds in omega arith }) in
    record { uptos = ap suc r.uptos; helds = ap suc r.helds }

pub even-run : (xs us : List ℕ) (hs : List Bool) (i n : ℕ) → AreEven xs us hs → AreEven (take n (drop i xs)) (take n (drop i us)) (take n (drop i hs))
even-run xs us hs i n e = even-take n (drop i xs) (drop i us) (drop i hs) (record {
  uptos = let f = e.uptos in omega (arith, length-drop i us, length-drop i xs);
  helds = let f = e.helds in omega (arith, length-drop i hs, length-drop i xs);
})

pub pairs-get : (xs us : List ℕ) (hs : List Bool) (i : ℕ) (x u : ℕ) (h : Bool) (p : ℕ × Mark) → AreEven xs us hs → i < length xs
    → get_or (pairs_of xs us hs) i p ≡ (get_or xs i x, record { upto = get_or us i u; held = get_or hs i h })
pairs-get [] us hs i x u h p e l = absurd (omega arith)
pairs-get (y ∷ xs) [] hs i x u h p e l = absurd (let f = e.uptos in omega arith)
pairs-get (y ∷ xs) (v ∷ us) [] i x u h p e l = absurd (let f = e.helds in omega arith)
pairs-get (y ∷ xs) (v ∷ us) (g ∷ hs) zero x u h p e l = refl
pairs-get (y ∷ xs) (v ∷ us) (g ∷ hs) (suc i) x u h p e l = pairs-get xs us hs i x u h p (record { uptos = let f = e.uptos in omega arith; helds = let f = e.helds in omega arith }) (omega arith)

-- other marks at a place
pub pairs-set : (xs us : List ℕ) (hs : List Bool) (i u : ℕ) (h : Bool) (x : ℕ) → AreEven xs us hs → i < length xs → ((d : ℕ) → get_or xs i d ≡ x)
    → pairs_of xs (set us i u) (set hs i h) ≡ set (pairs_of xs us hs) i (x, record { upto = u; held = h })
pairs-set [] us hs i u h x e l is = absurd (omega arith)
pairs-set (y ∷ xs) [] hs i u h x e l is = absurd (let f = e.uptos in omega arith)
pairs-set (y ∷ xs) (v ∷ us) [] i u h x e l is = absurd (let f = e.helds in omega arith)
pairs-set (y ∷ xs) (v ∷ us) (g ∷ hs) zero u h x e l is = ap (λ (z : ℕ). (z, record { upto = u; held = h }) ∷ pairs_of xs us hs) (is y)
pairs-set (y ∷ xs) (v ∷ us) (g ∷ hs) (suc i) u h x e l is =
    ap (λ (ps : List (ℕ × Mark)). (y, record { upto = v; held = g }) ∷ ps) (pairs-set xs us hs i u h x (record { uptos = let f = e.uptos in omega arith; helds = let f = e.helds in omega arith }) (omega arith) is)

-- ---- lists that grow
same_three : (xs us xs' us' : List ℕ) (hs hs' : List Bool) → xs' ≡ xs → us' ≡ us → hs' ≡ hs → pairs_of xs' us' hs' ≡ pairs_of xs us hs
same_three xs us xs' us' hs hs' e f g = λ i. pairs_of (e i) (f i) (g i)

pub pushed : (xs us : List ℕ) (hs : List Bool) (xs' us' : List ℕ) (hs' : List Bool) (x : ℕ) (m : Mark) → AreEven xs us hs → xs' ≡ xs ++ x ∷ [] → us' ≡ us ++ m.upto ∷ [] → hs' ≡ hs ++ m.held ∷ []
    → pairs_of xs' us' hs' ≡ pairs_of xs us hs ++ (x, m) ∷ []
pushed xs us hs xs' us' hs' x m even e f g = same_three _ _ xs' us' _ hs' e f g ∙ pairs-append xs us hs (x ∷ []) (m.upto ∷ []) (m.held ∷ []) even

-- a run of other lists behind them
pub run_pushed : (xs us : List ℕ) (hs : List Bool) (ys vs : List ℕ) (gs : List Bool) (i n : ℕ) (xs' us' : List ℕ) (hs' : List Bool) → AreEven xs us hs → AreEven ys vs gs
    → xs' ≡ xs ++ take n (drop i ys) → us' ≡ us ++ take n (drop i vs) → hs' ≡ hs ++ take n (drop i gs) → pairs_of xs' us' hs' ≡ pairs_of xs us hs ++ take n (drop i (pairs_of ys vs gs))
run_pushed xs us hs ys vs gs i n xs' us' hs' even other e f g =
    same_three _ _ xs' us' _ hs' e f g ∙ pairs-append xs us hs (take n (drop i ys)) (take n (drop i vs)) (take n (drop i gs)) even ∙ ap (λ (ps : List (ℕ × Mark)). pairs_of xs us hs ++ ps) (pairs-run ys vs gs i n other)

-- the candidate at a place
pub cand_read : (xs us : List ℕ) (hs : List Bool) (i x u : ℕ) (h : Bool) → AreEven xs us hs → i < length xs → x ≡ get_or xs i x → u ≡ get_or us i u → h ≡ get_or hs i h → (d : Cand) → get_or (cands (pairs_of xs us hs)) i d ≡ record { left = x; upto = u; held = h }
cand_read xs us hs i x u h even l e f g d =
    get_or-map cand (pairs_of xs us hs) i (x, record { upto = u; held = h }) d (subst (λ (n : ℕ). i < n) (sym (length-pairs xs us hs even)) l)
    ∙ ap cand (pairs-get xs us hs i x u h (x, record { upto = u; held = h }) even l)
    ∙ (λ i. record { left = sym e i; upto = sym f i; held = sym g i })

-- nobody holds any
pub pairs-free : (xs us : List ℕ) (hs gs : List Bool) → gs ≡ map (λ h. false) hs → cands (pairs_of xs us gs) ≡ all_free (cands (pairs_of xs us hs))
pairs-free xs us hs gs e = ap (λ (fs : List Bool). cands (pairs_of xs us fs)) e ∙ by xs us hs
  where
    by : (xs us : List ℕ) (hs : List Bool) → cands (pairs_of xs us (map (λ h. false) hs)) ≡ all_free (cands (pairs_of xs us hs))
    by [] us hs = refl
    by (x ∷ xs) [] hs = refl
    by (x ∷ xs) (u ∷ us) [] = refl
    by (x ∷ xs) (u ∷ us) (h ∷ hs) = ap (λ (cs : List Cand). record { left = x; upto = u; held = false } ∷ cs) (by xs us hs)

pub even-free : (xs us : List ℕ) (hs gs : List Bool) → gs ≡ map (λ h. false) hs → AreEven xs us hs → AreEven xs us gs
even-free xs us hs gs e even = record { uptos = even.uptos; helds = ap length e ∙ length-map hs (λ h. false) ∙ even.helds }

-- all are known to hold up to there, and nobody holds any
pub pairs-marked : (xs us vs : List ℕ) (hs gs : List Bool) (to : ℕ) → gs ≡ map (λ h. false) hs → vs ≡ map (λ u. max u to) us → cands (pairs_of xs vs gs) ≡ all_marked to (cands (pairs_of xs us hs))
pairs-marked xs us vs hs gs to e f = (λ i. cands (pairs_of xs (f i) (e i))) ∙ by xs us hs
  where
    by : (xs us : List ℕ) (hs : List Bool) → cands (pairs_of xs (map (λ u. max u to) us) (map (λ h. false) hs)) ≡ all_marked to (cands (pairs_of xs us hs))
    by [] us hs = refl
    by (x ∷ xs) [] hs = refl
    by (x ∷ xs) (u ∷ us) [] = refl
    by (x ∷ xs) (u ∷ us) (h ∷ hs) = ap (λ (cs : List Cand). record { left = x; upto = max u to; held = false } ∷ cs) (by xs us hs)

pub even-marked : (xs us vs : List ℕ) (hs gs : List Bool) (to : ℕ) → gs ≡ map (λ h. false) hs → vs ≡ map (λ u. max u to) us → AreEven xs us hs → AreEven xs vs gs
even-marked xs us vs hs gs to e f even = record { uptos = ap length f ∙ length-map us (λ u. max u to) ∙ even.uptos; helds = ap length e ∙ length-map hs (λ h. false) ∙ even.helds }

-- the order is that of the left sides
pub flat_order : (xs us : List ℕ) (hs : List Bool) → AreEven xs us hs → Rises report_cmp xs → IsInOrder (pairs_of xs us hs)
flat_order xs us hs even r = keys_order (pairs_of xs us hs) (subst (Rises report_cmp) (sym (keys-pairs xs us hs even)) r)

pub flat_rises : (xs us : List ℕ) (hs : List Bool) → AreEven xs us hs → IsInOrder (pairs_of xs us hs) → Rises report_cmp xs
flat_rises xs us hs even o = subst (Rises report_cmp) (keys-pairs xs us hs even) (Rises-keys (pairs_of xs us hs) o)

-- ---- a place among the left sides
module _ (xs us : List ℕ) (hs : List Bool) (even : AreEven xs us hs) (x : ℕ) where
  pub stands_keys : (qs : List ℕ) (i : ℕ) → qs ≡ xs → Stands qs x i → Stands (keys (pairs_of xs us hs)) x i
  stands_keys qs i e s = subst (λ (ys : List ℕ). Stands ys x i) (e ∙ sym (keys-pairs xs us hs even)) s

  pub lacks_keys : (qs : List ℕ) (i : ℕ) → qs ≡ xs → Lacks qs x i → Lacks (keys (pairs_of xs us hs)) x i
  lacks_keys qs i e s = subst (λ (ys : List ℕ). Lacks ys x i) (e ∙ sym (keys-pairs xs us hs even)) s

  stands_within : (i : ℕ) → Stands (keys (pairs_of xs us hs)) x i → i < length xs
  stands_within i s = subst (λ (n : ℕ). i < n) (length-pairs xs us hs even) (in_pairs (pairs_of xs us hs) x i s)

  pub flat_value : (i u : ℕ) (h : Bool) → Stands (keys (pairs_of xs us hs)) x i → u ≡ get_or us i u → h ≡ get_or hs i h → Some (record { upto = u; held = h }) ≡ value_at (pairs_of xs us hs) x
  flat_value i u h s f g = sym (
      value_at-stands (pairs_of xs us hs) x i s (x, record { upto = u; held = h })
      ∙ ap (λ (p : ℕ × Mark). Some p.1) (pairs-get xs us hs i x u h (x, record { upto = u; held = h }) even (stands_within i s))
      ∙ (λ j. Some (record { upto = sym f j; held = sym g j })))

  pub flat_set : (i u : ℕ) (h : Bool) → Stands (keys (pairs_of xs us hs)) x i → pairs_of xs (set us i u) (set hs i h) ≡ with_value (pairs_of xs us hs) x (record { upto = u; held = h })
  flat_set i u h s =
      pairs-set xs us hs i u h x even (stands_within i s) (λ d. there.same d)
      ∙ sym (with_value-stands (pairs_of xs us hs) x i s (record { upto = u; held = h }))
    where
      there : Stands xs x i
      there = subst (λ (ys : List ℕ). Stands ys x i) (keys-pairs xs us hs even) s

pub even-set : (xs us : List ℕ) (hs : List Bool) (i u : ℕ) (h : Bool) → AreEven xs us hs → AreEven xs (set us i u) (set hs i h)
even-set xs us hs i u h e = record { uptos = length-set us i u ∙ e.uptos; helds = length-set hs i h ∙ e.helds }

-- ---- marks for left sides, one after another
pub record MarkedSoFar (cs : List Cand) (xs : List ℕ) (i : ℕ) (us : List ℕ) (hs : List Bool) : Type 0 where
  pub even : AreEven (take i xs) us hs
  pub made : cands (pairs_of (take i xs) us hs) ≡ map (kept_or_fresh cs) (take i xs)

pub marked_none : (cs : List Cand) (xs us : List ℕ) (hs : List Bool) → us ≡ [] → hs ≡ [] → MarkedSoFar cs xs 0 us hs
marked_none cs xs us hs e f = record { even = none_even [] us hs refl e f; made = refl }

pub marked_more : (cs : List Cand) (xs : List ℕ) (i : ℕ) (us us' : List ℕ) (hs hs' : List Bool) (x : ℕ) (m : Mark) → i < length xs → x ≡ get_or xs i x → cand (x, m) ≡ kept_or_fresh cs x
    → us' ≡ us ++ m.upto ∷ [] → hs' ≡ hs ++ m.held ∷ [] → MarkedSoFar cs xs i us hs → MarkedSoFar cs xs (i + 1) us' hs'
marked_more cs xs i us us' hs hs' x m l is c e f s = record {
  even = subst (λ (vs : List ℕ). AreEven (take (i + 1) xs) vs hs') (sym e) (subst (λ (gs : List Bool). AreEven (take (i + 1) xs) (us ++ m.upto ∷ []) gs) (sym f)
      (subst (λ (ys : List ℕ). AreEven ys (us ++ m.upto ∷ []) (hs ++ m.held ∷ [])) (sym next) (even-append (take i xs) us hs (x ∷ []) (m.upto ∷ []) (m.held ∷ []) s.even (record { uptos = refl; helds = refl }))));
  made = ap cands (pushed (take i xs) us hs (take (i + 1) xs) us' hs' x m s.even next e f) ∙ map-append cand (pairs_of (take i xs) us hs) ((x, m) ∷ [])
      ∙ ap₂ (λ (bs ds : List Cand). bs ++ ds) s.made (ap (λ (d : Cand). d ∷ []) c) ∙ sym (map-append (kept_or_fresh cs) (take i xs) (x ∷ [])) ∙ ap (map (kept_or_fresh cs)) (sym next);
}
  where
    next : take (i + 1) xs ≡ take i xs ++ x ∷ []
    next = take_more xs i x l ∙ ap (λ (y : ℕ). take i xs ++ y ∷ []) (sym is)

pub marked_all : (cs : List Cand) (xs : List ℕ) (i : ℕ) (us : List ℕ) (hs : List Bool) (ys : List ℕ) → length xs ≤ i → xs ≡ ys → MarkedSoFar cs xs i us hs → AreEven ys us hs × (cands (pairs_of ys us hs) ≡ map (kept_or_fresh cs) ys)
marked_all cs xs i us hs ys l e s = subst (λ (zs : List ℕ). AreEven zs us hs × (cands (pairs_of zs us hs) ≡ map (kept_or_fresh cs) zs)) (take_all i xs l ∙ e) (s.even, s.made)

-- ---- fresh marks alone
pub fresh_even : (xs us : List ℕ) (hs : List Bool) (n m : ℕ) → us ≡ replicate n 1 → hs ≡ replicate m false → n ≡ length xs → m ≡ length xs → AreEven xs us hs
fresh_even xs us hs n m e f g h = record { uptos = ap length e ∙ length-replicate n 1 ∙ g; helds = ap length f ∙ length-replicate m false ∙ h }

all_fresh_so_far : (xs : List ℕ) → cands (pairs_of xs (replicate (length xs) 1) (replicate (length xs) false)) ≡ map fresh xs
all_fresh_so_far [] = refl
all_fresh_so_far (x ∷ xs) = ap (λ (cs : List Cand). fresh x ∷ cs) (all_fresh_so_far xs)

pub all_fresh : (xs us : List ℕ) (hs : List Bool) (n m : ℕ) → us ≡ replicate n 1 → hs ≡ replicate m false → n ≡ length xs → m ≡ length xs → cands (pairs_of xs us hs) ≡ map fresh xs
all_fresh xs us hs n m e f g h =
    ap₂ (λ (vs : List ℕ) (gs : List Bool). cands (pairs_of xs vs gs)) (e ∙ ap (λ (k : ℕ). replicate k 1) g) (f ∙ ap (λ (k : ℕ). replicate k false) h) ∙ all_fresh_so_far xs

-- ---- a search from a place on
module _ (p : Cand → Bool) (cs : List Cand) (i : ℕ) (c : Cand) (l : i < length cs) (is : get_or cs i c ≡ c) where
  here : drop i cs ≡ c ∷ drop (i + 1) cs
  here = drop-cons cs i c l ∙ ap₂ (λ (d : Cand) (n : ℕ). d ∷ drop n cs) is (sym (add-one i))

  pub found_not_here : p c ≡ false → find p (drop i cs) ≡ find p (drop (i + 1) cs)
  found_not_here e = ap (find p) here ∙ ap (λ b. cond b (Some c) (find p (drop (i + 1) cs))) e

  pub found_here : p c ≡ true → find p (drop i cs) ≡ Some c
  found_here e = ap (find p) here ∙ ap (λ b. cond b (Some c) (find p (drop (i + 1) cs))) e

pub found_nowhere : (p : Cand → Bool) (cs : List Cand) (i : ℕ) → length cs ≤ i → find p (drop i cs) ≡ None
found_nowhere p cs i l = ap (find p) (drop_all i cs l)

pub length-flat_cands : (xs us : List ℕ) (hs : List Bool) → AreEven xs us hs → length (cands (pairs_of xs us hs)) ≡ length xs
length-flat_cands xs us hs e = length-map (pairs_of xs us hs) cand ∙ length-pairs xs us hs e

pub cands-drop : (n : ℕ) (ps : List (ℕ × Mark)) → drop n (cands ps) ≡ cands (drop n ps)
cands-drop n ps = drop-map cand n ps

-- the same three lists
pub same_flat : (xs us xs' us' : List ℕ) (hs hs' : List Bool) → xs' ≡ xs → us' ≡ us → hs' ≡ hs → pairs_of xs' us' hs' ≡ pairs_of xs us hs
same_flat xs us xs' us' hs hs' e f g = λ i. pairs_of (e i) (f i) (g i)

-- one more candidate is listed
pub listed_more : (cs ds : List Cand) (i : ℕ) (c : Cand) → i < length cs → ((d : Cand) → get_or cs i d ≡ c) → ds ≡ take i cs → ds ++ c ∷ [] ≡ take (i + 1) cs
listed_more cs ds i c l e f = ap₂ (λ (as' : List Cand) (d : Cand). as' ++ d ∷ []) f (sym (e c)) ∙ sym (take_more cs i c l)

-- a candidate stands at each place, with the left side that is there
pub flat_cand : (xs us : List ℕ) (hs : List Bool) (i x : ℕ) → AreEven xs us hs → i < length xs → x ≡ get_or xs i x → (c : Cand) × ((d : Cand) → get_or (cands (pairs_of xs us hs)) i d ≡ c) × (c.left ≡ x)
flat_cand xs us hs i x even l e = (
  cand (get_or xs i x, record { upto = get_or us i 0; held = get_or hs i false }),
  (λ d. get_or-map cand (pairs_of xs us hs) i (x, record { upto = 0; held = false }) d (subst (λ (n : ℕ). i < n) (sym (length-pairs xs us hs even)) l)
      ∙ ap cand (pairs-get xs us hs i x 0 false (x, record { upto = 0; held = false }) even l)),
  sym e,
)

-- the candidates that pass a test, with one more
pub passed_more : (p : Cand → Bool) (cs ds : List Cand) (i : ℕ) (c : Cand) → i < length cs → ((d : Cand) → get_or cs i d ≡ c) → ds ≡ filter p (take i cs) → p c ≡ true → ds ++ c ∷ [] ≡ filter p (take (i + 1) cs)
passed_more p cs ds i c l e f h =
    ap₂ (λ (as' : List Cand) (b : Bool). as' ++ cond b (c ∷ []) []) f (sym h) ∙ sym (filter-append p (take i cs) (c ∷ [])) ∙ ap (filter p) (ap (λ (d : Cand). take i cs ++ d ∷ []) (sym (e c)) ∙ sym (take_more cs i c l))

pub passed_same : (p : Cand → Bool) (cs ds : List Cand) (i : ℕ) (c : Cand) → i < length cs → ((d : Cand) → get_or cs i d ≡ c) → ds ≡ filter p (take i cs) → p c ≡ false → ds ≡ filter p (take (i + 1) cs)
passed_same p cs ds i c l e f h =
    f ∙ sym (append-nil (filter p (take i cs))) ∙ ap (λ (b : Bool). filter p (take i cs) ++ cond b (c ∷ []) []) (sym h) ∙ sym (filter-append p (take i cs) (c ∷ [])) ∙ ap (filter p) (ap (λ (d : Cand). take i cs ++ d ∷ []) (sym (e c)) ∙ sym (take_more cs i c l))

-- all of the lists behind none
pub copied_whole : (xs us : List ℕ) (hs : List Bool) (ys vs : List ℕ) (gs : List Bool) (count : ℕ) → AreEven xs us hs → length xs ≤ count → pairs_of ys vs gs ≡ []
    → pairs_of ys vs gs ++ take (count - 0) (drop 0 (pairs_of xs us hs)) ≡ pairs_of xs us hs
copied_whole xs us hs ys vs gs count even l e =
    ap (λ (ps : List (ℕ × Mark)). ps ++ take (count - 0) (pairs_of xs us hs)) e
    ∙ take_all (count - 0) (pairs_of xs us hs) (let f = length-pairs xs us hs even in omega arith)
