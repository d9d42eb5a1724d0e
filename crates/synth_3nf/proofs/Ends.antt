-- The dependencies that stand behind one of a list in order.
use Rattle.std.proofs.Common.{inl, inr, ◌≡◌, ◌⊎◌, ℕ, suc, ◌<◌, ◌≤◌, refl, sym, ap, ◌∙◌, subst, arith, List, [], ◌∷◌, ◌++◌, Less, Greater}
use Rattle.std.specs.List.{AllPairs, Contains}
use Rattle.std.specs.Ordering.{ordering_then}
use Rattle.std.proofs.lemmas.Bool.{cases_order}
use Rattle.col_set.specs.ColSet.{Columns, report_cmp}
use Rattle.col_set.specs.Lists.{Listed, Listed-append_right, Listed-append_cases}
use Rattle.col_set.proofs.Places.{Contains-listed, Listed-contained}
use Rattle.rel_base.specs.declared.dependency.Fd.{Fd}
use Rattle.rel_base.specs.Covers.{fd_cmp, IsInOrder}
use Rattle.rel_base.proofs.States.{All-from, All-listed}
use Rattle.fd_closure.specs.Closure.{Tells}
use Rattle.fd_closure.proofs.Sizes.{nat_cmp-gt}
use Rattle.synth_3nf.specs.Ending.{AreFrom, TellsEnd}

-- ---- two in order
less-right : (a b : Fd) → fd_cmp a b ≡ Less → a.right ≤ b.right
less-right a b e = by (cases_order a.right b.right)
  where
    other : Greater ≡ Less → ⊥
    other g = cc

    by : (a.right ≡ b.right) ⊎ ((a.right < b.right) ⊎ (b.right < a.right)) → a.right ≤ b.right
    by (inl i) = omega arith
    by (inr (inl l)) = omega arith
    by (inr (inr l)) = absurd (other (sym (ap (λ o. ordering_then o (report_cmp a.left b.left)) (nat_cmp-gt a.right b.right l)) ∙ e))

-- ---- each two of a list
module _ {X : Type 0} (R : X → X → Type 0) where
  pub first-pairs : (x : X) (xs : List X) (y : X) → AllPairs R (x ∷ xs) → Listed y xs → R x y
  first-pairs x xs y a l = let w = Contains-listed y xs l in let b = w.1 in subst (R x) w.2 (a 0 (suc w.0) y (omega arith) (omega arith))

  pub rest-pairs : (x : X) (xs : List X) → AllPairs R (x ∷ xs) → AllPairs R xs
  rest-pairs x xs a = λ i j d l m. a (suc i) (suc j) d (omega arith) (omega arith)

  end-pairs : (xs ys : List X) → AllPairs R (xs ++ ys) → AllPairs R ys
  end-pairs [] ys a = a
  end-pairs (x ∷ xs) ys a = end-pairs xs ys (rest-pairs x (xs ++ ys) a)

  before-pairs : (before : List X) (x : X) (later : List X) (y : X) → AllPairs R (before ++ x ∷ later) → Listed y before → R y x
  before-pairs [] x later y a h = absurd h
  before-pairs (b ∷ before) x later y a (inl e) = subst (λ (z : X). R z x) (sym e) (first-pairs b (before ++ x ∷ later) x a (Listed-append_right x before (x ∷ later) (inl refl)))
  before-pairs (b ∷ before) x later y a (inr h) = before-pairs before x later y (rest-pairs b (before ++ x ∷ later) a) h

abbrev rises : Fd → Fd → Type 0
rises one other = fd_cmp one other ≡ Less

pub ends : (fds before : List Fd) (fd : Fd) (later : List Fd) (sides : List (Columns × Columns)) → IsInOrder fds → Tells fds sides → before ++ fd ∷ later ≡ fds → TellsEnd sides fd.right later
ends fds before fd later sides order told e = record {
  fds = fds;
  told = told;
  narrow = order.narrow;
  own = λ f h. Contains-listed f fds (subst (Listed f) e (Listed-append_right f before (fd ∷ later) (inr (Listed-contained f later h))));
  behind = λ f h l. by f l (Listed-append_cases f before (fd ∷ later) (subst (Listed f) (sym e) (Listed-contained f fds h)));
  from = record {
    from = All-from (λ (f : Fd). fd.right ≤ f.right) later (λ f h. less-right fd f (first-pairs rises fd later f end h));
    climbing = λ i j d l m. less-right _ _ (rest-pairs rises fd later end i j d l m);
  };
}
  where
    whole : AllPairs rises (before ++ fd ∷ later)
    whole = subst (AllPairs rises) (sym e) order.rising

    end : AllPairs rises (fd ∷ later)
    end = end-pairs rises before (fd ∷ later) whole

    by : (f : Fd) → fd.right < f.right → Listed f before ⊎ Listed f (fd ∷ later) → Contains later f
    by f l (inl g) = let m = less-right f fd (before-pairs rises before fd later f whole g) in absurd (omega arith)
    by f l (inr (inl i)) = let m : f.right ≡ fd.right = ap (λ (g : Fd). g.right) i in absurd (omega arith)
    by f l (inr (inr g)) = Contains-listed f later g

-- ---- less the first one
pub from-rest : (a : ℕ) (fd : Fd) (others whole : List Fd) → whole ≡ fd ∷ others → AreFrom a whole → AreFrom a others
from-rest a fd others whole e f =
    let g = subst (AreFrom a) e f in
    record {
      from = All-from (λ (f : Fd). a ≤ f.right) others (λ f h. All-listed (λ (f : Fd). a ≤ f.right) f (fd ∷ others) g.from (inr h));
      climbing = rest-pairs (λ (one other : Fd). one.right ≤ other.right) fd others g.climbing;
    }
