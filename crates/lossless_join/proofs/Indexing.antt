-- One row more of an index.
use Rattle.std.proofs.Common.{inl, inr, ◌≡◌, ◌≢◌, ℕ, zero, suc, ◌+◌, ◌<◌, ◌≤◌, Bool, true, false, cond, not, refl, sym, ap, ap₂, ◌∙◌, subst, arith, List, [], ◌∷◌, ◌++◌, length, map, get_or, append-nil, take, Some}
use Rattle.std.proofs.Math.ListN.{set}
use Rattle.std.specs.List.{filter, list_any, position, position_or_len}
use Rattle.std.proofs.lemmas.Bool.{true≢false, false_from_ne_true}
use Rattle.std.proofs.lemmas.List.{map-append, length-map, take_all}
use Rattle.std.proofs.lemmas.List.Elements.{filter-append}
use Rattle.std.proofs.lemmas.List.Quantifiers.{position-Some}
use Rattle.indexmap.specs.IndexSet.{insert_key}
use Rattle.col_set.specs.ColSet.{upto}
use Rattle.col_set.specs.Lists.{Listed, Listed-map, Listed-filter_parts}
use Rattle.col_set.specs.AllSets.{Listed-upto_within}
use Rattle.col_set.proofs.Places.{Listed-get_or}
use Rattle.rel_base.specs.Cells.{Row}
use Rattle.rel_base.specs.Projection.{part, same_row, distinct}
use Rattle.rel_base.proofs.Parts.{same_row-true, Listed-distinct}
use Rattle.lossless_join.specs.NaturalJoin.{TableRows}
use Rattle.lossless_join.specs.Joining.{places_of, merged_at, matches}
use Rattle.lossless_join.specs.Indexed.{key_of, places_below, IsIndex}
use Rattle.lossless_join.proofs.PartCells.{map_same}
use Rattle.lossless_join.proofs.Projected.{Apart, same_row-itself}
use Rattle.lossless_join.proofs.Filling.{upto_more}
use Rattle.lossless_join.proofs.Distinct.{listed-same, same-listed, distinct-push, Apart-distinct}

pub get_or-default : {X : Type 0} (xs : List X) (k : ℕ) (d e : X) → k < length xs → get_or xs k d ≡ get_or xs k e
get_or-default [] k d e l = absurd (omega arith)
get_or-default (x ∷ xs) zero d e l = refl
get_or-default (x ∷ xs) (suc k) d e l = get_or-default xs k d e (omega arith)

pub was_there : (b : Bool) → not b ≡ false → b ≡ true
was_there true e = refl
was_there false e = absurd (true≢false e)

-- ---- the list that a place of the group is added to
module _ (g h : Row → List ℕ) (part : Row) (m : ℕ) (others : (q : Row) → q ≢ part → h q ≡ g q) (own : h part ≡ g part ++ m ∷ []) where
  same_groups : (keys : List Row) → ((q : Row) → Listed q keys → q ≢ part) → map g keys ≡ map h keys
  same_groups keys f = map_same g h keys (λ q l. sym (others q (f q l)))

  grown : (keys : List Row) → Apart keys → Listed part keys → set (map g keys) (position_or_len (same_row part) keys) (get_or (map g keys) (position_or_len (same_row part) keys) [] ++ m ∷ []) ≡ map h keys
  grown [] a l = absurd l
  grown (q ∷ keys) a l = by (same_row part q) refl l (λ i. grown keys a.1 i)
    where
      by : (b : Bool) → same_row part q ≡ b → Listed part (q ∷ keys) → (Listed part keys → set (map g keys) (position_or_len (same_row part) keys) (get_or (map g keys) (position_or_len (same_row part) keys) [] ++ m ∷ []) ≡ map h keys)
          → set (map g (q ∷ keys)) (cond (not b) (1 + position_or_len (same_row part) keys) 0) (get_or (map g (q ∷ keys)) (cond (not b) (1 + position_or_len (same_row part) keys) 0) [] ++ m ∷ []) ≡ map h (q ∷ keys)
      by true e i rest =
          let is : part ≡ q = same_row-true part q e in
          ap₂ (λ (x : List ℕ) (xs : List (List ℕ)). x ∷ xs) (subst (λ (p : Row). g p ++ m ∷ [] ≡ h p) is (sym own)) (same_groups keys (λ p j f. a.0 p j (sym is ∙ sym f)))
      by false e (inl i) rest = absurd (true≢false (sym (subst (λ (p : Row). same_row part p ≡ true) i (same_row-itself part)) ∙ e))
      by false e (inr i) rest = ap (λ (k : ℕ). set (map g (q ∷ keys)) k (get_or (map g (q ∷ keys)) k [] ++ m ∷ [])) (let o : 1 + position_or_len (same_row part) keys ≡ suc (position_or_len (same_row part) keys) = omega arith in o)
          ∙ ap₂ (λ (x : List ℕ) (xs : List (List ℕ)). x ∷ xs) (sym (others q (λ f. true≢false (sym (subst (λ (p : Row). same_row part p ≡ true) (sym f) (same_row-itself part)) ∙ e)))) (rest i)

-- ---- a row more
module _ (t : TableRows) (c m : ℕ) where
  more_places : (q : Row) → places_below t c (m + 1) q ≡ places_below t c m q ++ cond (same_row (key_of t c m) q) (m ∷ []) []
  more_places q = ap (filter (λ k. same_row (key_of t c k) q)) (upto_more m) ∙ filter-append (λ k. same_row (key_of t c k) q) (upto m) (m ∷ [])

  other_places : (q : Row) → q ≢ key_of t c m → places_below t c (m + 1) q ≡ places_below t c m q
  other_places q ne = more_places q ∙ ap (λ b. places_below t c m q ++ cond b (m ∷ []) []) (false_from_ne_true _ (λ e. ne (sym (same_row-true (key_of t c m) q e)))) ∙ append-nil _

  own_places : places_below t c (m + 1) (key_of t c m) ≡ places_below t c m (key_of t c m) ++ m ∷ []
  own_places = more_places (key_of t c m) ∙ ap (λ b. places_below t c m (key_of t c m) ++ cond b (m ∷ []) []) (same_row-itself (key_of t c m))

  -- no row before has a part that is new
  no_places : (n : ℕ) (q : Row) (keys : List Row) → keys ≡ distinct (map (key_of t c) (upto n)) → list_any (same_row q) keys ≡ false → places_below t c n q ≡ []
  no_places n q keys e f = by (places_below t c n q) refl
    where
      by : (ks : List ℕ) → places_below t c n q ≡ ks → places_below t c n q ≡ []
      by [] i = i
      by (k ∷ ks) i =
          let w = Listed-filter_parts (λ k. same_row (key_of t c k) q) k (upto n) (subst (Listed k) (sym i) (inl refl)) in
          absurd (true≢false (sym (same-listed q keys (subst (Listed q) (sym e) (Listed-distinct q _ (subst (λ (p : Row). Listed p (map (key_of t c) (upto n))) (same_row-true _ q w.1) (Listed-map (key_of t c) k (upto n) w.0))))) ∙ f))

  more_keys : (keys next : List Row) → keys ≡ distinct (map (key_of t c) (upto m)) → next ≡ insert_key same_row keys (key_of t c m) → next ≡ distinct (map (key_of t c) (upto (m + 1)))
  more_keys keys next e n = n ∙ ap (λ (ks : List Row). insert_key same_row ks (key_of t c m)) e ∙ distinct-push (map (key_of t c) (upto m)) (key_of t c m)
      ∙ ap distinct (sym (map-append (key_of t c) (upto m) (m ∷ [])) ∙ ap (map (key_of t c)) (sym (upto_more m)))

  module _ (keys : List Row) (groups : List (List ℕ)) (is : IsIndex t c m keys groups) (part : Row) (own : part ≡ key_of t c m) (next : List Row) (inserted : next ≡ insert_key same_row keys part) where
    inserted_key : next ≡ insert_key same_row keys (key_of t c m)
    inserted_key = inserted ∙ ap (insert_key same_row keys) own

    pub index_new : (more : List (List ℕ)) → list_any (same_row part) keys ≡ false → more ≡ groups ++ (m ∷ []) ∷ [] → IsIndex t c (m + 1) next more
    index_new more f e = record {
      parts = more_keys keys next is.parts inserted_key;
      places = e ∙ ap₂ (λ (gs : List (List ℕ)) (g : List ℕ). gs ++ g ∷ []) (is.places ∙ map_same (places_below t c m) (places_below t c (m + 1)) keys (λ q l. sym (other_places q (apart q l)))) (sym last)
          ∙ sym (map-append (places_below t c (m + 1)) keys (key_of t c m ∷ []))
          ∙ ap (map (places_below t c (m + 1))) (sym (inserted_key ∙ ap (λ b. cond b keys (keys ++ key_of t c m ∷ [])) absent));
    }
      where
        absent : list_any (same_row (key_of t c m)) keys ≡ false
        absent = ap (λ (p : Row). list_any (same_row p) keys) (sym own) ∙ f

        apart : (q : Row) → Listed q keys → q ≢ key_of t c m
        apart q l i = true≢false (sym (same-listed (key_of t c m) keys (subst (λ (p : Row). Listed p keys) i l)) ∙ absent)

        last : places_below t c (m + 1) (key_of t c m) ≡ m ∷ []
        last = own_places ∙ ap (λ (ks : List ℕ). ks ++ m ∷ []) (no_places m (key_of t c m) keys is.parts absent)

    pub index_old : (place : ℕ) (more : List (List ℕ)) → list_any (same_row part) keys ≡ true → place ≡ position_or_len (same_row part) keys → more ≡ set groups place (get_or groups place [] ++ m ∷ []) → IsIndex t c (m + 1) next more
    index_old place more f at e = record {
      parts = more_keys keys next is.parts inserted_key;
      places = e ∙ ap₂ (λ (gs : List (List ℕ)) (i : ℕ). set gs i (get_or gs i [] ++ m ∷ [])) is.places (at ∙ ap (λ (p : Row). position_or_len (same_row p) keys) own)
          ∙ grown (places_below t c m) (places_below t c (m + 1)) (key_of t c m) m other_places own_places keys (subst Apart (sym is.parts) (Apart-distinct (map (key_of t c) (upto m)))) (listed-same (key_of t c m) keys present)
          ∙ ap (map (places_below t c (m + 1))) (sym (inserted_key ∙ ap (λ b. cond b keys (keys ++ key_of t c m ∷ [])) present));
    }
      where
        present : list_any (same_row (key_of t c m)) keys ≡ true
        present = ap (λ (p : Row). list_any (same_row p) keys) (sym own) ∙ f

    pub index_place : (place : ℕ) → list_any (same_row part) keys ≡ true → place < length next → place < length groups
    index_place place f l = let e : length next ≡ length keys = ap length (inserted ∙ ap (λ b. cond b keys (keys ++ part ∷ [])) f) in let g : length groups ≡ length keys = ap length is.places ∙ length-map keys (places_below t c m) in omega arith

pub index_start : (t : TableRows) (c : ℕ) (keys : List Row) (groups : List (List ℕ)) → keys ≡ [] → groups ≡ [] → IsIndex t c 0 keys groups
unfolding distinct
index_start t c keys groups e f = record { parts = e; places = f ∙ ap (map (places_below t c 0)) (sym e) }

-- ---- a look-up
module _ (t : TableRows) (c : ℕ) (keys : List Row) (groups : List (List ℕ)) (is : IsIndex t c (length t.rows) keys groups) (q : Row) where
  pub found_group : (i : ℕ) → Some i ≡ position (same_row q) keys → get_or groups i [] ≡ places_of t c q
  found_group i e =
      let w = position-Some (same_row q) keys i q (sym e) in
      let l = w.0 in
      ap (λ (gs : List (List ℕ)). get_or gs i []) is.places ∙ get_or-map_at keys i l ∙ ap (places_below t c (length t.rows)) (sym (same_row-true q (get_or keys i q) w.1))
    where
      get_or-map_at : (ks : List Row) (i : ℕ) → i < length ks → get_or (map (places_below t c (length t.rows)) ks) i [] ≡ places_below t c (length t.rows) (get_or ks i q)
      get_or-map_at [] i l = absurd (omega arith)
      get_or-map_at (k ∷ ks) zero l = refl
      get_or-map_at (k ∷ ks) (suc i) l = get_or-map_at ks i (omega arith)

  pub group_within : (i : ℕ) → i < length keys → i < length groups
  group_within i l = let g : length groups ≡ length keys = ap length is.places ∙ length-map keys (places_below t c (length t.rows)) in omega arith

  pub no_group : list_any (same_row q) keys ≡ false → places_of t c q ≡ []
  no_group f = no_places t c 0 (length t.rows) q keys is.parts f

-- ---- the rows that agree with a row
module _ (n : ℕ) (t : TableRows) (c : ℕ) (a q : Row) (is : q ≡ part c a) where
  pub no_matches : (keys : List Row) (groups : List (List ℕ)) → IsIndex t c (length t.rows) keys groups → list_any (same_row q) keys ≡ false → matches n c t a ≡ []
  unfolding matches
  no_matches keys groups i f = ap (λ (p : Row). map (merged_at n t a) (places_of t c p)) (sym is) ∙ ap (map (merged_at n t a)) (no_group t c keys groups i q f)

  pub all_matches : (places : List ℕ) (i : ℕ) → places ≡ places_of t c q → length places ≤ i → map (merged_at n t a) (take i places) ≡ matches n c t a
  unfolding matches
  all_matches places i e l = ap (map (merged_at n t a)) (take_all i places l ∙ e) ∙ ap (λ (p : Row). map (merged_at n t a) (places_of t c p)) is

pub place_given : (t : TableRows) (c : ℕ) (q : Row) (places : List ℕ) (i : ℕ) → places ≡ places_of t c q → i < length places → get_or places i 0 < length t.rows
place_given t c q places i e l =
    Listed-upto_within (length t.rows) (get_or places i 0) (Listed-filter_parts (λ k. same_row (key_of t c k) q) (get_or places i 0) (upto (length t.rows)) (subst (Listed (get_or places i 0)) e (Listed-get_or places i 0 l))).0

pub group_found : (t : TableRows) (c : ℕ) (keys : List Row) (groups : List (List ℕ)) → IsIndex t c (length t.rows) keys groups → (q : Row) (i : ℕ) (group places : List ℕ) → Some i ≡ position (same_row q) keys → i < length keys → group ≡ get_or groups i group → places ≡ group → places ≡ places_of t c q
group_found t c keys groups is q i group places e l g p = p ∙ g ∙ get_or-default groups i group [] (group_within t c keys groups is q i l) ∙ found_group t c keys groups is q i e
