-- Left sides that change sides: which pairs a list has afterwards, and one pass that makes it by runs.
use Rattle.std.proofs.Common.{inl, inr, ◌≡◌, ◌⊎◌, ℕ, zero, suc, ◌+◌, ◌-◌, ◌<◌, ◌≤◌, Bool, true, false, eqb, refl, sym, ap, ap₂, ◌∙◌, subst, arith, List, [], ◌∷◌, ◌++◌, length, get_or, take, drop, if◌then◌else◌, append_assoc, add-one, Ordering, Less, Equal, Greater, drop-cons}
use Rattle.std.specs.List.{filter}
use Rattle.std.specs.Ordering.{is_lt, ordering_reverse}
use Rattle.std.proofs.lemmas.Bool.{true≢false, false_from_ne_true, eqb-true, eq-eqb}
use Rattle.std.proofs.lemmas.List.{drop-drop, drop_all, take_all, drop-map, length-drop, length-map}
use Rattle.col_set.specs.ColSet.{report_cmp}
use Rattle.col_set.specs.Columns.{report_total}
use Rattle.col_set.specs.Lists.{Listed, Rises, Rises-map, Rises-filter, Rises-append, Listed-map, Listed-map_which, Listed-append_left, Listed-append_right, Listed-append_cases, Listed-filter, Listed-filter_parts, list_any_at, list_any_which}
use Rattle.candidate_cover.specs.declared.cand.Mark.{Mark}
use Rattle.candidate_cover.specs.Pairs.{keys, IsInOrder, is_key, before, after, toggled}
use Rattle.candidate_cover.specs.Place.{Stands, Lacks}
use Rattle.candidate_cover.proofs.Places.{same_from_equal, apart_from_less, less_is, less_from, is_key-stands, is_key-lacks, before-stands, after-stands, before-lacks, after-lacks}

-- ---- keys
pub keys-listed : (ps : List (ℕ × Mark)) (p : ℕ × Mark) → Listed p ps → Listed p.0 (keys ps)
keys-listed ps p h = Listed-map (λ p. p.0) p ps h

pub listed-keys : (ps : List (ℕ × Mark)) (x : ℕ) → Listed x (keys ps) → (p : ℕ × Mark) × Listed p ps × (x ≡ p.0)
listed-keys ps x h = Listed-map_which (λ p. p.0) x ps h

pub Rises-keys : (ps : List (ℕ × Mark)) → IsInOrder ps → Rises report_cmp (keys ps)
Rises-keys ps o = Rises-map (λ p q. report_cmp p.0 q.0) report_cmp (λ p. p.0) ps o (λ p q h g e. e)

pub keys_order : (ps : List (ℕ × Mark)) → Rises report_cmp (keys ps) → IsInOrder ps
keys_order [] r = tt
keys_order (p ∷ ps) r = ((λ q h. r.0 q.0 (keys-listed ps q h)), keys_order ps r.1)

pub keys-filter : (f : ℕ → Bool) (ps : List (ℕ × Mark)) → keys (filter (λ p. f p.0) ps) ≡ filter f (keys ps)
keys-filter f [] = refl
keys-filter f (p ∷ ps) = by (f p.0) (keys-filter f ps)
  where
    by : (b : Bool) → keys (filter (λ p. f p.0) ps) ≡ filter f (keys ps) → keys (if b then p ∷ filter (λ p. f p.0) ps else filter (λ p. f p.0) ps) ≡ (if b then p.0 ∷ filter f (keys ps) else filter f (keys ps))
    by true e = ap (λ xs. p.0 ∷ xs) e
    by false e = e

pub is_key-listed : (ps : List (ℕ × Mark)) (p : ℕ × Mark) (x : ℕ) → Listed p ps → p.0 ≡ x → is_key ps x ≡ true
is_key-listed ps p x h e = list_any_at (λ p. eqb p.0 x) p ps h (eq-eqb p.0 x e)

pub no_key : (ps : List (ℕ × Mark)) (x : ℕ) → ((p : ℕ × Mark) → Listed p ps → p.0 ≡ x → ⊥) → is_key ps x ≡ false
no_key ps x f = false_from_ne_true _ (λ e. let w = list_any_which (λ p. eqb p.0 x) ps e in f w.0 w.1 (eqb-true w.0.0 x w.2))

pub key_which : (ps : List (ℕ × Mark)) (x : ℕ) → is_key ps x ≡ true → (p : ℕ × Mark) × Listed p ps × (p.0 ≡ x)
key_which ps x e = let w = list_any_which (λ p. eqb p.0 x) ps e in (w.0, w.1, eqb-true w.0.0 x w.2)

-- ---- which pairs there are afterwards
-- a new pair: one of the sets, which was no key, with these marks
pub record IsNew (ps : List (ℕ × Mark)) (xs : List ℕ) (v : Mark) (p : ℕ × Mark) : Type 0 where
  pub listed : Listed p.0 xs
  pub value : p.1 ≡ v
  pub absent : is_key ps p.0 ≡ false

-- an old pair: its key is none of the sets
pub record IsOld (ps : List (ℕ × Mark)) (xs : List ℕ) (p : ℕ × Mark) : Type 0 where
  pub listed : Listed p ps
  pub apart : Listed p.0 xs → ⊥

not_itself : (x : ℕ) → report_cmp x x ≡ Less → ⊥
not_itself x e = true≢false (sym (eq-eqb x x refl) ∙ apart_from_less x x e)

module _ (v : Mark) (x : ℕ) where
  abbrev here : List (ℕ × Mark) → List (ℕ × Mark)
  here ps = if is_key ps x then [] else (x, v) ∷ []

  before_parts : (ps : List (ℕ × Mark)) (p : ℕ × Mark) → Listed p (before x ps) → Listed p ps × (report_cmp p.0 x ≡ Less)
  before_parts ps p h = let w = Listed-filter_parts (λ p. is_lt (report_cmp p.0 x)) p ps h in (w.0, less_from _ w.1)

  after_parts : (ps : List (ℕ × Mark)) (p : ℕ × Mark) → Listed p (after x ps) → Listed p ps × (report_cmp x p.0 ≡ Less)
  after_parts ps p h = let w = Listed-filter_parts (λ p. is_lt (report_cmp x p.0)) p ps h in (w.0, less_from _ w.1)

  here_parts : (ps : List (ℕ × Mark)) (p : ℕ × Mark) → Listed p (here ps) → (is_key ps x ≡ false) × (p ≡ (x, v))
  here_parts ps p h = by (is_key ps x) refl h
    where
      by : (b : Bool) → is_key ps x ≡ b → Listed p (if b then [] else (x, v) ∷ []) → (is_key ps x ≡ false) × (p ≡ (x, v))
      by true e g = absurd g
      by false e (inl i) = (e, i)
      by false e (inr g) = absurd g

  -- a key that is not x stands before it or after it
  key-after : (ps : List (ℕ × Mark)) (y : ℕ) → report_cmp x y ≡ Less → is_key (after x ps) y ≡ is_key ps y
  key-after ps y l = by (is_key ps y) refl
    where
      by : (b : Bool) → is_key ps y ≡ b → is_key (after x ps) y ≡ b
      by true e = let w = key_which ps y e in
          is_key-listed (after x ps) w.0 y (Listed-filter (λ p. is_lt (report_cmp x p.0)) w.0 ps w.1 (less_is x w.0.0 (ap (report_cmp x) w.2 ∙ l))) w.2
      by false e = no_key (after x ps) y (λ p h i. true≢false (sym (is_key-listed ps p y (after_parts ps p h).0 i) ∙ e))

pub record IsToggled (ps : List (ℕ × Mark)) (xs : List ℕ) (v : Mark) (new : List (ℕ × Mark)) : Type 0 where
  pub order : IsInOrder new
  pub each : (p : ℕ × Mark) → Listed p new → IsOld ps xs p ⊎ IsNew ps xs v p
  pub old : (p : ℕ × Mark) → IsOld ps xs p → Listed p new
  pub added : (x : ℕ) → Listed x xs → is_key ps x ≡ false → Listed (x, v) new

module _ (ps : List (ℕ × Mark)) (x : ℕ) (xs : List ℕ) (v : Mark) (o : IsInOrder ps) (r : Rises report_cmp (x ∷ xs)) (t : IsToggled (after x ps) xs v (toggled (after x ps) xs v)) where
  abbrev rest : List (ℕ × Mark)
  rest = toggled (after x ps) xs v

  here_order : (b : Bool) → IsInOrder (if b then [] else (x, v) ∷ [])
  here_order true = tt
  here_order false = ((λ q h. absurd h), tt)

  behind : (q : ℕ × Mark) → Listed q rest → report_cmp x q.0 ≡ Less
  behind q h = elim (t.each q h) as (λ _. report_cmp x q.0 ≡ Less) [ inl i ↦ (after_parts v x ps q i.listed).1 | inr i ↦ r.0 q.0 i.listed ]

  front : (p q : ℕ × Mark) → Listed p (before x ps) → Listed q (here v x ps) ⊎ Listed q rest → report_cmp p.0 q.0 ≡ Less
  front p q h (inl g) = ap (λ (y : ℕ × Mark). report_cmp p.0 y.0) (here_parts v x ps q g).1 ∙ (before_parts v x ps p h).1
  front p q h (inr g) = report_total.trans p.0 x q.0 (before_parts v x ps p h).1 (behind q g)

  old_before : (p : ℕ × Mark) → Listed p (before x ps) → IsOld ps (x ∷ xs) p
  old_before p g = let w = before_parts v x ps p g in record { listed = w.0; apart = λ h. apart h w.1 }
    where
      apart : Listed p.0 (x ∷ xs) → report_cmp p.0 x ≡ Less → ⊥
      apart (inl e) l = not_itself x (ap (λ (y : ℕ). report_cmp y x) (sym e) ∙ l)
      apart (inr h) l = not_itself x (report_total.trans x p.0 x (r.0 p.0 h) l)

  later : (p : ℕ × Mark) → IsOld (after x ps) xs p ⊎ IsNew (after x ps) xs v p → IsOld ps (x ∷ xs) p ⊎ IsNew ps (x ∷ xs) v p
  later p (inl i) = let w = after_parts v x ps p i.listed in inl (record { listed = w.0; apart = λ h. apart h w.1 })
    where
      apart : Listed p.0 (x ∷ xs) → report_cmp x p.0 ≡ Less → ⊥
      apart (inl e) l = not_itself x (ap (report_cmp x) (sym e) ∙ l)
      apart (inr h) l = i.apart h
  later p (inr i) = inr (record { listed = inr i.listed; value = i.value; absent = sym (key-after v x ps p.0 (r.0 p.0 i.listed)) ∙ i.absent })

  by_order : (p : ℕ × Mark) → IsOld ps (x ∷ xs) p → (c : Ordering) → report_cmp p.0 x ≡ c → Listed p (before x ps ++ (here v x ps ++ rest))
  by_order p i Less e = Listed-append_left p (before x ps) (here v x ps ++ rest) (Listed-filter (λ p. is_lt (report_cmp p.0 x)) p ps i.listed (less_is p.0 x e))
  by_order p i Equal e = absurd (i.apart (inl (same_from_equal p.0 x e)))
  by_order p i Greater e = Listed-append_right p (before x ps) (here v x ps ++ rest) (Listed-append_right p (here v x ps) rest
      (t.old p (record { listed = Listed-filter (λ p. is_lt (report_cmp x p.0)) p ps i.listed (less_is x p.0 (report_total.antisymm x p.0 ∙ ap ordering_reverse e)); apart = λ h. i.apart (inr h) })))

  coming : (y : ℕ) → Listed y (x ∷ xs) → is_key ps y ≡ false → Listed (y, v) (before x ps ++ (here v x ps ++ rest))
  coming y (inl i) e = Listed-append_right (y, v) (before x ps) (here v x ps ++ rest) (Listed-append_left (y, v) (here v x ps) rest
      (subst (λ b. Listed {X = ℕ × Mark} (y, v) (if b then [] else (x, v) ∷ [])) (sym (ap (is_key ps) (sym i) ∙ e)) (inl (ap (λ (z : ℕ). (z, v)) i))))
  coming y (inr h) e = Listed-append_right (y, v) (before x ps) (here v x ps ++ rest) (Listed-append_right (y, v) (here v x ps) rest (t.added y h (key-after v x ps y (r.0 y h) ∙ e)))

  whole : IsToggled ps (x ∷ xs) v (toggled ps (x ∷ xs) v)
  whole = record {
    order = Rises-append (λ p q. report_cmp p.0 q.0) (before x ps) (here v x ps ++ rest) (Rises-filter (λ p q. report_cmp p.0 q.0) (λ p. is_lt (report_cmp p.0 x)) ps o)
        (Rises-append (λ p q. report_cmp p.0 q.0) (here v x ps) rest (here_order (is_key ps x)) t.order (λ p q h g. ap (λ (y : ℕ × Mark). report_cmp y.0 q.0) (here_parts v x ps p h).1 ∙ behind q g))
        (λ p q h g. front p q h (Listed-append_cases q (here v x ps) rest g));
    each = λ p h. elim (Listed-append_cases p (before x ps) (here v x ps ++ rest) h) as (λ _. IsOld ps (x ∷ xs) p ⊎ IsNew ps (x ∷ xs) v p) [
      | inl g ↦ inl (old_before p g)
      | inr g ↦ elim (Listed-append_cases p (here v x ps) rest g) as (λ _. IsOld ps (x ∷ xs) p ⊎ IsNew ps (x ∷ xs) v p) [
        | inl f ↦ let w = here_parts v x ps p f in inr (record {
          listed = inl (ap (λ (q : ℕ × Mark). q.0) w.1);
          value = ap (λ (q : ℕ × Mark). q.1) w.1;
          absent = ap (λ (q : ℕ × Mark). is_key ps q.0) w.1 ∙ w.0;
        })
        | inr f ↦ later p (t.each p f)
      ]
    ];
    old = λ p i. by_order p i (report_cmp p.0 x) refl;
    added = λ y h e. coming y h e;
  }

pub toggled_is : (ps : List (ℕ × Mark)) (xs : List ℕ) (v : Mark) → IsInOrder ps → Rises report_cmp xs → IsToggled ps xs v (toggled ps xs v)
toggled_is ps [] v o r = record { order = o; each = λ p h. inl (record { listed = h; apart = λ g. absurd g }); old = λ p h. h.listed; added = λ x h. absurd h }
toggled_is ps (x ∷ xs) v o r = whole ps x xs v o r (toggled_is (after x ps) xs v (Rises-filter (λ p q. report_cmp p.0 q.0) (λ p. is_lt (report_cmp x p.0)) ps o) r.1)

-- ---- one pass by runs
-- what is made so far and what becomes of the rest are, one after another, the whole
abbrev pub Toggling : List (ℕ × Mark) → List ℕ → Mark → ℕ → List (ℕ × Mark) → ℕ → Type 0
Toggling ps xs v i made rest = made ++ toggled (drop rest ps) (drop i xs) v ≡ toggled ps xs v

-- the sets from a place on, as the keys from there on
pub rest_keys : (ps : List (ℕ × Mark)) (xs : List ℕ) (n : ℕ) → keys ps ≡ xs → n ≤ length xs → take (length xs - n) (drop n xs) ≡ keys (drop n ps)
rest_keys ps xs n e l = take_all (length xs - n) (drop n xs) (omega (arith, length-drop n xs)) ∙ ap (drop n) (sym e) ∙ drop-map (λ p. p.0) n ps

module _ (ps : List (ℕ × Mark)) (xs : List ℕ) (v : Mark) (i x : ℕ) (l : i < length xs) (is : x ≡ get_or xs i x) (made : List (ℕ × Mark)) (rest : ℕ) (m : Toggling ps xs v i made rest) where
  next : drop i xs ≡ x ∷ drop (i + 1) xs
  next = drop-cons xs i x l ∙ ap₂ (λ (y : ℕ) (ys : List ℕ). y ∷ ys) (sym is) (ap (λ (n : ℕ). drop n xs) (sym (add-one i)))

  opened : made ++ (before x (drop rest ps) ++ ((if is_key (drop rest ps) x then [] else (x, v) ∷ []) ++ toggled (after x (drop rest ps)) (drop (i + 1) xs) v)) ≡ toggled ps xs v
  opened = ap (λ ys. made ++ toggled (drop rest ps) ys v) (sym next) ∙ m

  pub toggling_stands : (k new : ℕ) → Stands (keys (drop rest ps)) x k → new ≡ rest + (k + 1) → Toggling ps xs v (i + 1) (made ++ take k (drop rest ps)) new
  toggling_stands k new s e =
      append_assoc made (take k (drop rest ps)) (toggled (drop new ps) (drop (i + 1) xs) v)
      ∙ ap (λ us. made ++ us) (ap₂ (λ us vs. us ++ toggled vs (drop (i + 1) xs) v) (sym (before-stands (drop rest ps) x k s))
      (ap (λ (n : ℕ). drop n ps) (e ∙ ap (λ (n : ℕ). rest + n) (add-one k)) ∙ sym (drop-drop (suc k) rest ps) ∙ sym (after-stands (drop rest ps) x k s)))
      ∙ ap (λ (b : Bool). made ++ (before x (drop rest ps) ++ ((if b then [] else (x, v) ∷ []) ++ toggled (after x (drop rest ps)) (drop (i + 1) xs) v))) (sym (is_key-stands (drop rest ps) x k s))
      ∙ opened

  pub toggling_lacks : (k new : ℕ) → Lacks (keys (drop rest ps)) x k → new ≡ rest + k → Toggling ps xs v (i + 1) ((made ++ take k (drop rest ps)) ++ (x, v) ∷ []) new
  toggling_lacks k new s e =
      append_assoc (made ++ take k (drop rest ps)) ((x, v) ∷ []) (toggled (drop new ps) (drop (i + 1) xs) v)
      ∙ append_assoc made (take k (drop rest ps)) ((x, v) ∷ toggled (drop new ps) (drop (i + 1) xs) v)
      ∙ ap (λ us. made ++ us) (ap₂ (λ us vs. us ++ (x, v) ∷ toggled vs (drop (i + 1) xs) v) (sym (before-lacks (drop rest ps) x k s))
      (ap (λ (n : ℕ). drop n ps) e ∙ sym (drop-drop k rest ps) ∙ sym (after-lacks (drop rest ps) x k s)))
      ∙ ap (λ (b : Bool). made ++ (before x (drop rest ps) ++ ((if b then [] else (x, v) ∷ []) ++ toggled (after x (drop rest ps)) (drop (i + 1) xs) v))) (sym (is_key-lacks (drop rest ps) x k s))
      ∙ opened

-- no set is left
pub toggling_all : (ps : List (ℕ × Mark)) (xs : List ℕ) (v : Mark) (i : ℕ) (made : List (ℕ × Mark)) (rest count : ℕ) → length xs ≤ i → length ps ≡ count → rest ≤ count → Toggling ps xs v i made rest
    → made ++ take (count - rest) (drop rest ps) ≡ toggled ps xs v
toggling_all ps xs v i made rest count l e b m =
    ap (λ us. made ++ us) (take_all (count - rest) (drop rest ps) (omega (arith, length-drop rest ps))) ∙ ap (λ ys. made ++ toggled (drop rest ps) ys v) (sym (drop_all i xs l)) ∙ m

-- the run before a set ends within the list
pub stands_fits : (ps : List (ℕ × Mark)) (xs : List ℕ) (rest k x : ℕ) → keys ps ≡ xs → rest ≤ length xs → Stands (keys (drop rest ps)) x k → rest + (k + 1) ≤ length xs
stands_fits ps xs rest k x e l s = let h = s.within in omega (arith, length_rest ps xs rest e, h)
  where
    length_rest : (ps : List (ℕ × Mark)) (xs : List ℕ) (rest : ℕ) → keys ps ≡ xs → length (keys (drop rest ps)) ≡ length xs - rest
    length_rest ps xs rest e = length-map (drop rest ps) (λ p. p.0) ∙ length-drop rest ps ∙ ap (λ (n : ℕ). n - rest) (sym (length-map ps (λ p. p.0)) ∙ ap length e)

pub lacks_fits : (ps : List (ℕ × Mark)) (xs : List ℕ) (rest k x : ℕ) → keys ps ≡ xs → rest ≤ length xs → Lacks (keys (drop rest ps)) x k → rest + k ≤ length xs
lacks_fits ps xs rest k x e l s = let h = s.within in omega (arith, length_rest ps xs rest e, h)
  where
    length_rest : (ps : List (ℕ × Mark)) (xs : List ℕ) (rest : ℕ) → keys ps ≡ xs → length (keys (drop rest ps)) ≡ length xs - rest
    length_rest ps xs rest e = length-map (drop rest ps) (λ p. p.0) ∙ length-drop rest ps ∙ ap (λ (n : ℕ). n - rest) (sym (length-map ps (λ p. p.0)) ∙ ap length e)

pub rest_rises : (ps : List (ℕ × Mark)) (n : ℕ) → IsInOrder ps → Rises report_cmp (keys (drop n ps))
rest_rises ps n o = Rises-keys (drop n ps) (by ps n o)
  where
    by : (ps : List (ℕ × Mark)) (n : ℕ) → IsInOrder ps → IsInOrder (drop n ps)
    by ps zero o = o
    by [] (suc n) o = tt
    by (p ∷ ps) (suc n) o = by ps n o.1
