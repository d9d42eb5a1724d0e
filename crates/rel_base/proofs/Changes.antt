-- What operations and batches do to a row state.
use Rattle.std.proofs.Common.{inl, inr, ◌≡◌, ◌⊎◌, ℕ, suc, ◌+◌, ◌-◌, ◌<◌, true, false, cond, not, refl, sym, ap, ◌∙◌, subst, arith, List, [], ◌∷◌, ◌++◌, length, get_or, Result, Ok, Err}
use Rattle.std.specs.Prelude.{nat_eq}
use Rattle.std.specs.List.{All, Contains}
use Rattle.std.proofs.lemmas.Bool.{ltb-false}
use Rattle.std.proofs.lemmas.List.{length-append, get_or_append_left}
use Rattle.col_set.specs.declared.target.Target.{Target}
use Rattle.col_set.specs.Lists.{Listed, Listed-append_left, Listed-append_cases, Listed-filter_parts}
use Rattle.col_set.proofs.Places.{Contains-listed, Listed-contained}
use Rattle.rel_base.specs.declared.batch.Op.{Op}
use Rattle.rel_base.specs.declared.batch.Op.TheVariants.{Insert, Delete, Update}
use Rattle.rel_base.specs.declared.why.Why.{Why}
use Rattle.rel_base.specs.declared.why.Why.TheVariants.{Rows, Missing}
use Rattle.rel_base.specs.Cells.{Row}
use Rattle.rel_base.specs.Agreement.{agree}
use Rattle.rel_base.specs.RowState.{RowState, IsRowState, width, next}
use Rattle.rel_base.specs.Validity.{agree_of, agree_sets, holds}
use Rattle.rel_base.specs.Batches.{is_live, is_full, inserted, deleted, applied, go_on, after_from}
use Rattle.rel_base.specs.Batches.{IsAsWide}
use Rattle.rel_base.specs.Laws.{Follows}
use Rattle.rel_base.proofs.States.{All-listed, All-from, increasing-Climbs, Climbs-append, live_climbs, live_positive, live_numbered}
use Rattle.rel_base.proofs.Valid.{Climbs-filter, Listed-agree_sets, AgreeOf-agree_sets, determined-fewer}
use Rattle.rel_base.proofs.Results.{same_Ok, refused_or, passed_or}

-- ---- one operation
module _ (r : RowState) (is : IsRowState r) where
  Follows-inserted : (new : Row) → Follows r (inserted r new)
  Follows-inserted new = record {
    names = refl;
    nulls = refl;
    limit = refl;
    more = let e = length-append r.given (new ∷ []) in omega arith;
    rows = λ number p l. get_or_append_left r.given (new ∷ []) [] (number - 1) (omega arith);
    live = λ number l h. by number l (Listed-append_cases number r.live (next r ∷ []) (Listed-contained number (inserted r new).live h));
  }
    where
      at_end : (number : ℕ) → number < next r → Listed number (next r ∷ []) → Contains r.live number
      at_end number l (inl e) = absurd (omega arith)
      at_end number l (inr h) = absurd h

      by : (number : ℕ) → number < next r → Listed number r.live ⊎ Listed number (next r ∷ []) → Contains r.live number
      by number l (inl h) = Contains-listed number r.live h
      by number l (inr h) = at_end number l h

  IsRowState-inserted : (new : Row) → length new ≡ width r → is_full r ≡ false → IsRowState (inserted r new)
  IsRowState-inserted new wide room = record {
    some = is.some;
    narrow = is.narrow;
    widths = All-from (λ (x : Row). length x ≡ width r) (inserted r new).given (λ x h. as_wide x (Listed-append_cases x r.given (new ∷ []) h));
    short = let e = longer in let l = is.few in let g = ltb-false r.limit (next r) room in omega arith;
    few = is.few;
    ascending = increasing-Climbs (inserted r new).live (Climbs-append r.live (next r) (live_climbs r is) (λ y h. live_numbered r y is h));
    positive = All-from (λ (number : ℕ). 0 < number) (inserted r new).live (λ number h. positive number (Listed-append_cases number r.live (next r ∷ []) h));
    numbered = All-from (λ (number : ℕ). number < next (inserted r new)) (inserted r new).live (λ number h. numbered number (Listed-append_cases number r.live (next r ∷ []) h));
  }
    where
      longer : length (r.given ++ new ∷ []) ≡ length r.given + 1
      longer = length-append r.given (new ∷ [])

      single : (x : Row) → Listed x (new ∷ []) → length x ≡ width r
      single x (inl e) = ap length e ∙ wide
      single x (inr h) = absurd h

      as_wide : (x : Row) → Listed x r.given ⊎ Listed x (new ∷ []) → length x ≡ width r
      as_wide x (inl h) = All-listed (λ (x : Row). length x ≡ width r) x r.given is.widths h
      as_wide x (inr h) = single x h

      last_is : (number : ℕ) → Listed number (next r ∷ []) → number ≡ next r
      last_is number (inl e) = e
      last_is number (inr h) = absurd h

      positive : (number : ℕ) → Listed number r.live ⊎ Listed number (next r ∷ []) → 0 < number
      positive number (inl h) = live_positive r number is h
      positive number (inr h) = let e = last_is number h in omega arith

      numbered : (number : ℕ) → Listed number r.live ⊎ Listed number (next r ∷ []) → number < next (inserted r new)
      numbered number (inl h) = let l = live_numbered r number is h in let e = longer in omega arith
      numbered number (inr h) = let l = last_is number h in let e = longer in omega arith

  Follows-deleted : (gone : ℕ) → Follows r (deleted r gone)
  Follows-deleted gone = record {
    names = refl;
    nulls = refl;
    limit = refl;
    more = omega arith;
    rows = λ number p l. refl;
    live = λ number l h. Contains-listed number r.live (Listed-filter_parts (λ i. not (nat_eq gone i)) number r.live (Listed-contained number (deleted r gone).live h)).0;
  }

  IsRowState-deleted : (gone : ℕ) → IsRowState (deleted r gone)
  IsRowState-deleted gone = record {
    some = is.some;
    narrow = is.narrow;
    widths = is.widths;
    short = is.short;
    few = is.few;
    ascending = increasing-Climbs (deleted r gone).live (Climbs-filter (λ i. not (nat_eq gone i)) r.live (live_climbs r is));
    positive = All-from (λ (number : ℕ). 0 < number) (deleted r gone).live (λ number h. live_positive r number is (Listed-filter_parts (λ i. not (nat_eq gone i)) number r.live h).0);
    numbered = All-from (λ (number : ℕ). number < next r) (deleted r gone).live (λ number h. live_numbered r number is (Listed-filter_parts (λ i. not (nat_eq gone i)) number r.live h).0);
  }

pub Follows-refl : (r : RowState) → Follows r r
Follows-refl r = record { names = refl; nulls = refl; limit = refl; more = omega arith; rows = λ number p l. refl; live = λ number l h. h }

pub Follows-trans : (r s t : RowState) → Follows r s → Follows s t → Follows r t
Follows-trans r s t f g = record {
  names = g.names ∙ f.names;
  nulls = g.nulls ∙ f.nulls;
  limit = g.limit ∙ f.limit;
  more = let a = f.more in let b = g.more in omega arith;
  rows = λ number p l. g.rows number p (let a = f.more in omega arith) ∙ f.rows number p l;
  live = λ number l h. f.live number l (g.live number (let a = f.more in omega arith) h);
}

pub applied-follows : (r s : RowState) (op : Op) → IsRowState r → IsAsWide (width r) op → applied r op ≡ Ok s → IsRowState s × Follows r s
applied-follows r s (Insert new) is wide e =
    let w = refused_or (is_full r) Rows (inserted r new) s e in
    subst (λ (s : RowState). IsRowState s × Follows r s) w.1 (IsRowState-inserted r is new wide w.0, Follows-inserted r is new)
applied-follows r s (Delete gone) is wide e =
    let w = passed_or (is_live r gone) Missing (Ok (deleted r gone)) s e in
    subst (λ (s : RowState). IsRowState s × Follows r s) (same_Ok w.1) (IsRowState-deleted r is gone, Follows-deleted r is gone)
applied-follows r s (Update gone new) is wide e =
    let v = passed_or (is_live r gone) Missing (cond (is_full r) (Err Rows) (Ok (inserted (deleted r gone) new))) s e in
    let w = refused_or (is_full r) Rows (inserted (deleted r gone) new) s v.1 in
    let d = IsRowState-deleted r is gone in
    subst (λ (s : RowState). IsRowState s × Follows r s) w.1
    (IsRowState-inserted (deleted r gone) d new wide w.0, Follows-trans r (deleted r gone) (inserted (deleted r gone) new) (Follows-deleted r is gone) (Follows-inserted (deleted r gone) d new))

-- ---- a batch
IsAsWide-same : (m n : ℕ) (op : Op) → m ≡ n → IsAsWide m op → IsAsWide n op
IsAsWide-same m n op e h = subst (λ (k : ℕ). IsAsWide k op) e h

pub after-follows : (k : ℕ) (r s : RowState) (ops : List Op) → IsRowState r → All (IsAsWide (width r)) ops → after_from k r ops ≡ Ok s → IsRowState s × Follows r s
after-follows k r s [] is wide e = subst (λ (s : RowState). IsRowState s × Follows r s) (same_Ok e) (is, Follows-refl r)
after-follows k r s (op ∷ ops) is wide e = by (applied r op) refl e (λ m f g d. after-follows (k + 1) m s ops f (λ j o l. IsAsWide-same (width r) (width m) (get_or ops j o) (ap length (sym d)) (wide (suc j) o (omega arith))) g)
  where
    by : (a : Result RowState Why) → applied r op ≡ a → go_on a k (λ m. after_from (k + 1) m ops) ≡ Ok s
        → ((m : RowState) → IsRowState m → after_from (k + 1) m ops ≡ Ok s → m.names ≡ r.names → IsRowState s × Follows m s)
        → IsRowState s × Follows r s
    by (Ok m) i g rest =
        let w = applied-follows r m op is (wide 0 op (omega arith)) i in
        let v = rest m w.0 g w.1.names in
        (v.0, Follows-trans r m s w.1 v.1)
    by (Err why) i g rest = absurd (cc)

-- ---- what inserts and deletes can do to dependencies
pub agree_of-follows : (r s : RowState) (i j : ℕ) → IsRowState r → Follows r s → Listed i r.live → Listed j r.live → agree_of s i j ≡ agree_of r i j
agree_of-follows r s i j is f h g = λ k. agree (f.nulls k) (length (f.names k)) (f.rows i (live_positive r i is h) (live_numbered r i is h) k) (f.rows j (live_positive r j is g) (live_numbered r j is g) k)

apart : (i j : ℕ) → i < j → i ≡ j → ⊥
apart i j l e = omega arith

pub insert_breaks : (r s : RowState) (new : Row) (x : ℕ) (t : Target) → IsRowState r → applied r (Insert new) ≡ Ok s → holds s x t ≡ true → holds r x t ≡ true
unfolding holds
insert_breaks r s new x t is e h = determined-fewer (agree_sets r) (agree_sets s) x t each h
  where
    same : inserted r new ≡ s
    same = (refused_or (is_full r) Rows (inserted r new) s e).1

    stays : (i : ℕ) → Listed i r.live → Listed i s.live
    stays i g = subst (λ (m : RowState). Listed i m.live) same (Listed-append_left i r.live (next r ∷ []) g)

    each : (w : ℕ) → Listed w (agree_sets r) → Listed w (agree_sets s)
    each w g =
        let a = AgreeOf-agree_sets r w (live_climbs r is) g in
        let f : Follows r s = subst (Follows r) same (Follows-inserted r is new) in
        subst (λ (z : ℕ). Listed z (agree_sets s)) (agree_of-follows r s a.i a.j is f a.first a.second ∙ sym a.same)
        (Listed-agree_sets s a.i a.j (stays a.i a.first) (stays a.j a.second) (apart a.i a.j a.rising))

pub delete_mends : (r s : RowState) (gone : ℕ) (x : ℕ) (t : Target) → IsRowState r → applied r (Delete gone) ≡ Ok s → holds r x t ≡ true → holds s x t ≡ true
unfolding holds
delete_mends r s gone x t is e h = determined-fewer (agree_sets s) (agree_sets r) x t each h
  where
    same : deleted r gone ≡ s
    same = same_Ok (passed_or (is_live r gone) Missing (Ok (deleted r gone)) s e).1

    was : (i : ℕ) → Listed i s.live → Listed i r.live
    was i g = (Listed-filter_parts (λ i. not (nat_eq gone i)) i r.live (subst (λ (m : RowState). Listed i m.live) (sym same) g)).0

    follows : IsRowState s × Follows r s
    follows = subst (λ (s : RowState). IsRowState s × Follows r s) same (IsRowState-deleted r is gone, Follows-deleted r is gone)

    each : (w : ℕ) → Listed w (agree_sets s) → Listed w (agree_sets r)
    each w g =
        let f = follows in
        let a = AgreeOf-agree_sets s w (live_climbs s f.0) g in
        subst (λ (z : ℕ). Listed z (agree_sets r)) (sym (agree_of-follows r s a.i a.j is f.1 (was a.i a.first) (was a.j a.second)) ∙ sym a.same)
        (Listed-agree_sets r a.i a.j (was a.i a.first) (was a.j a.second) (apart a.i a.j a.rising))
