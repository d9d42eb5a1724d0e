-- A round: the feeder hires a crew, goes on or not, and takes the crew's pass in.
use Rattle.std.proofs.Common.{◌≡◌, ◌⊎◌, ℕ, ◌<◌, refl, ap, ◌∙◌, subst, inl, ⊎_elim, arith}
use Rattle.desk_lock.specs.History.{GoesOn}
use Rattle.desk_lock.specs.Views.{InHome, kept_of, given_of, united}
use Rattle.desk_lock.specs.Passes.{view}
use Rattle.desk.specs.Desks.{Place, History, seen}
use Rattle.refine_pool.specs.declared.crew.Ending.{Ending}
use Rattle.refine_pool.specs.declared.crew.Ending.TheVariants.{Done, NoMemory}
use Rattle.refine_pool.specs.Crews.{OnDone, WentOn, TakesOver, Owns, SettledAfter}
use Rattle.refine_pool.proofs.Passing.{V, over_both, goes_narrower, settled_later}

-- of two that ended, one did so well where both together did
pub on_either : (P Q S : Type 0) (one other both : Ending) → (both ≡ Done → (one ≡ Done) ⊎ (other ≡ Done)) → OnDone one P → OnDone other Q → (P → S) → (Q → S) → OnDone both S
on_either P Q S one other NoMemory or p q f g = tt
on_either P Q S one other Done or p q f g = ⊎_elim (λ is. f (subst (λ (e : Ending). OnDone e P) is p)) (λ is. g (subst (λ (e : Ending). OnDone e Q) is q)) (or refl)

pub on_done : (P Q : Type 0) (e : Ending) → (P → Q) → OnDone e P → OnDone e Q
on_done P Q Done f p = f p
on_done P Q NoMemory f p = tt

pub done : (P : Type 0) (e : Ending) → e ≡ Done → OnDone e P → P
done P e is p = subst (λ (x : Ending). OnDone x P) is p

-- A pass is split at a number, one half goes on, the other is taken over by a crew, and the two come back as one.
pub record Round (p l m r q u : Place) (at : ℕ) : Type 0 where
  pub kept : view l ≡ kept_of at (view p)
  pub given : view r ≡ given_of at (view p)
  pub own : TakesOver l m
  pub crew : TakesOver r q
  pub united_is : view u ≡ united (view m) (view q)
  pub into : GoesOn (InHome (view m)) (seen m) (seen u)
  pub gone : GoesOn (InHome (view q)) (seen q) (seen u)

module _ (p l m r q u : Place) (at : ℕ) (round : Round p l m r q u at) where
  pub round_over : TakesOver p u
  round_over = over_both p l r m q u at round.kept round.given round.own round.crew round.united_is (round.into.0, round.into.1)

  -- what one of the crew found, or the half that went on
  pub round_crew_settled : SettledAfter (seen r) (seen q) → SettledAfter (seen p) (seen u)
  round_crew_settled s = settled_later (seen p) (seen q) (seen u) (subst (λ (h : History). SettledAfter h (seen q)) (ap (λ (v : V). v.seen) round.given) s) (round.gone.0, round.gone.1)

  pub round_own_settled : SettledAfter (seen l) (seen m) → SettledAfter (seen p) (seen u)
  round_own_settled s = settled_later (seen p) (seen m) (seen u) (subst (λ (h : History). SettledAfter h (seen m)) (ap (λ (v : V). v.seen) round.kept) s) (round.into.0, round.into.1)

-- what the feeder's round leaves of its numbers
pub round_owns : (p l m q u : Place) (at high : ℕ) → Owns p 0 high → 0 < at → view l ≡ kept_of at (view p) → WentOn l m → view u ≡ united (view m) (view q) → Owns u 0 at
round_owns p l m q u at high o some kept on is = record {
  low_is = ap (λ (v : V). v.low) is ∙ ap (λ (v : V). v.low) on.1 ∙ ap (λ (v : V). v.low) kept ∙ o.low_is;
  high_is = ap (λ (v : V). v.high) is ∙ ap (λ (v : V). v.high) on.1 ∙ ap (λ (v : V). v.high) kept;
  some = some;
}

-- the number 0 stays the feeder's
pub round_zero : (p l m u : Place) (at high : ℕ) → Owns p 0 high → 0 < at → view l ≡ kept_of at (view p) → WentOn l m → GoesOn (InHome (view m)) (seen m) (seen u) → GoesOn (λ n. n ≡ 0) (seen m) (seen u)
round_zero p l m u at high o some kept on into =
    let low : (view m).low ≡ 0 = ap (λ (v : V). v.low) on.1 ∙ ap (λ (v : V). v.low) kept ∙ o.low_is in
    let top : (view m).high ≡ at = ap (λ (v : V). v.high) on.1 ∙ ap (λ (v : V). v.high) kept in
    goes_narrower (InHome (view m)) (λ n. n ≡ 0) (seen m) (seen u) (λ n zero. inl (omega (arith, zero, low), omega (arith, zero, top, some))) into

-- a pass that took over from the one that had all numbers has them
pub has_all : (p q : Place) (n high all : ℕ) → Owns p 0 high → all ≡ high → TakesOver p q → n < all → InHome (view q) n
has_all p q n high all o is over below =
    let low = o.low_is in
    let top = o.high_is in
    over.home n (inl (omega (arith, low), omega (arith, top, is, below)))
