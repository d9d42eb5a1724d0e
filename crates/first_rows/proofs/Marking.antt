-- Marks, row by row and group by group.
use Rattle.std.proofs.Common.{inl, inr, ◌≡◌, ◌≢◌, ◌⊎◌, ℕ, zero, suc, ◌<◌, ◌≤◌, ◌+◌, ◌-◌, Bool, true, false, refl, sym, ap, ◌∙◌, subst, arith, List, [], length, get_or, replicate}
use Rattle.std.proofs.lemmas.Bool.{true≢false, cases_eq}
use Rattle.first_rows.specs.Marked.{IsBehind, Marked, StandsBehind, MarkedBy}

-- nothing stands behind the first row at once
nothing_behind : (group : List ℕ) (place : ℕ) → IsBehind group 1 place → ⊥
nothing_behind group place b = let s = b.some in let l = b.below in omega arith

pub marked-start : (group : List ℕ) (old : List Bool) → Marked group old 1 old
marked-start group old = record {
  long = refl;
  kept = λ place e. e;
  each = λ place l b. absurd (nothing_behind group place b);
  only = λ place e. inl e;
}

behind_less : (group : List ℕ) (k place : ℕ) → IsBehind group (k + 1) place → IsBehind group k place ⊎ (get_or group k 0 ≡ place + 1)
behind_less group k place b = by (cases_eq b.at k)
  where
    by : (b.at ≡ k) ⊎ (b.at ≢ k) → IsBehind group k place ⊎ (get_or group k 0 ≡ place + 1)
    by (inl e) = inr (ap (λ n. get_or group n 0) (sym e) ∙ b.is)
    by (inr ne) = let l = b.below in inl (record { at = b.at; some = b.some; below = omega arith; is = b.is })

behind_more : (group : List ℕ) (k place : ℕ) → IsBehind group k place → IsBehind group (k + 1) place
behind_more group k place b = let l = b.below in record { at = b.at; some = b.some; below = omega arith; is = b.is }

-- one row more, that has a place
pub marked-more : (group : List ℕ) (old later new : List Bool) (k : ℕ) → 0 < k → 0 < get_or group k 0 → Marked group old k later
    → length new ≡ length later → get_or new (get_or group k 0 - 1) false ≡ true
    → ((place : ℕ) → place ≢ get_or group k 0 - 1 → get_or new place false ≡ get_or later place false) → Marked group old (k + 1) new
marked-more group old later new k p q m long set others = record {
  long = long ∙ m.long;
  kept = λ place e. at place (m.kept place e) (cases_eq place (get_or group k 0 - 1));
  each = λ place l b. each place l (behind_less group k place b);
  only = λ place e. only place e (cases_eq place (get_or group k 0 - 1));
}
  where
    at : (place : ℕ) → get_or later place false ≡ true → (place ≡ get_or group k 0 - 1) ⊎ (place ≢ get_or group k 0 - 1) → get_or new place false ≡ true
    at place e (inl i) = ap (λ n. get_or new n false) i ∙ set
    at place e (inr ne) = others place ne ∙ e

    each : (place : ℕ) → place < length old → IsBehind group k place ⊎ (get_or group k 0 ≡ place + 1) → get_or new place false ≡ true
    each place l (inl b) = at place (m.each place l b) (cases_eq place (get_or group k 0 - 1))
    each place l (inr i) = let e : place ≡ get_or group k 0 - 1 = omega arith in ap (λ n. get_or new n false) e ∙ set

    only : (place : ℕ) → get_or new place false ≡ true → (place ≡ get_or group k 0 - 1) ⊎ (place ≢ get_or group k 0 - 1) → (get_or old place false ≡ true) ⊎ IsBehind group (k + 1) place
    only place e (inl i) = inr (record { at = k; some = p; below = omega arith; is = omega arith })
    only place e (inr ne) = by (m.only place (sym (others place ne) ∙ e))
      where
        by : (get_or old place false ≡ true) ⊎ IsBehind group k place → (get_or old place false ≡ true) ⊎ IsBehind group (k + 1) place
        by (inl f) = inl f
        by (inr b) = inr (behind_more group k place b)

-- one row more, that has none
pub marked-beyond : (group : List ℕ) (old later : List Bool) (k : ℕ) → length later ≤ get_or group k 0 - 1 → Marked group old k later → Marked group old (k + 1) later
marked-beyond group old later k l m = record {
  long = m.long;
  kept = m.kept;
  each = λ place w b. each place w (behind_less group k place b);
  only = λ place e. by place (m.only place e);
}
  where
    each : (place : ℕ) → place < length old → IsBehind group k place ⊎ (get_or group k 0 ≡ place + 1) → get_or later place false ≡ true
    each place w (inl b) = m.each place w b
    each place w (inr i) = let e = m.long in absurd (omega arith)

    by : (place : ℕ) → (get_or old place false ≡ true) ⊎ IsBehind group k place → (get_or old place false ≡ true) ⊎ IsBehind group (k + 1) place
    by place (inl f) = inl f
    by place (inr b) = inr (behind_more group k place b)

-- all rows of the group
pub marked-end : (group : List ℕ) (old later : List Bool) (k : ℕ) → length group ≤ k → (k ≤ length group) ⊎ (k ≡ 1) → Marked group old k later → Marked group old (length group) later
marked-end group old later k l (inl u) m = let e : k ≡ length group = omega arith in subst (λ n. Marked group old n later) e m
marked-end group old later k l (inr u) m = record {
  long = m.long;
  kept = m.kept;
  each = λ place w b. m.each place w (record { at = b.at; some = b.some; below = (let x = b.below in omega arith); is = b.is });
  only = λ place e. by place (m.only place e);
}
  where
    by : (place : ℕ) → (get_or old place false ≡ true) ⊎ IsBehind group k place → (get_or old place false ≡ true) ⊎ IsBehind group (length group) place
    by place (inl f) = inl f
    by place (inr b) = absurd (nothing_behind group place (subst (λ n. IsBehind group n place) u b))

-- ---- groups
all_false : (n place : ℕ) → get_or (replicate n false) place false ≡ false
all_false zero place = refl
all_false (suc n) zero = refl
all_false (suc n) (suc place) = all_false n place

pub marks-none : (groups : List (List ℕ)) (n : ℕ) (marks : List Bool) → marks ≡ replicate n false → length marks ≡ n → MarkedBy groups n 0 marks
marks-none groups n marks e l = record {
  long = l;
  each = λ place w b. let x = b.below in absurd (omega arith);
  only = λ place f. absurd (true≢false (sym f ∙ ap (λ (ms : List Bool). get_or ms place false) e ∙ all_false n place));
}

pub marks-more : (groups : List (List ℕ)) (n k : ℕ) (group : List ℕ) (old new : List Bool) → group ≡ get_or groups k [] → MarkedBy groups n k old → Marked group old (length group) new → MarkedBy groups n (k + 1) new
marks-more groups n k group old new e m one = record {
  long = one.long ∙ m.long;
  each = λ place w b. each place w b (cases_eq b.group k);
  only = λ place f. by place (one.only place f);
}
  where
    each : (place : ℕ) → place < n → (b : StandsBehind groups (k + 1) place) → (b.group ≡ k) ⊎ (b.group ≢ k) → get_or new place false ≡ true
    each place w b (inl i) = one.each place (let x = m.long in omega arith) (subst (λ (g : List ℕ). IsBehind g (length g) place) (ap (λ j. get_or groups j []) i ∙ sym e) b.is)
    each place w b (inr ne) = let x = b.below in one.kept place (m.each place w (record { group = b.group; below = omega arith; is = b.is }))

    by : (place : ℕ) → (get_or old place false ≡ true) ⊎ IsBehind group (length group) place → StandsBehind groups (k + 1) place
    by place (inl f) = let b = m.only place f in let x = b.below in record { group = b.group; below = omega arith; is = b.is }
    by place (inr b) = record { group = k; below = omega arith; is = subst (λ (g : List ℕ). IsBehind g (length g) place) e b }
