-- Left sides that lie below a number of columns.
use Rattle.std.proofs.Common.{inl, inr, ◌≡◌, ◌⊎◌, ℕ, ◌+◌, ◌<◌, ◌≤◌, ◌^◌, true, sym, ap, ◌∙◌, subst, arith, List, [], ◌∷◌, ◌++◌, length, get_or, take}
use Rattle.std.specs.List.{All}
use Rattle.std.proofs.lemmas.List.{take_more, take_all}
use Rattle.col_set.specs.ColSet.{all, subset}
use Rattle.col_set.specs.Lists.{Listed, Listed-append_cases}
use Rattle.col_set.specs.Subsets.{subset-true, subset_below}
use Rattle.rel_base.specs.declared.dependency.Fd.{Fd}
use Rattle.rel_base.proofs.States.{All-listed, All-from}
use Rattle.synth_3nf.proofs.Below.{all-below}

abbrev pub Below : ℕ → Fd → Type 0
Below n fd = fd.left < 2 ^ n

pub below-next : (n : ℕ) (fds : List Fd) (i : ℕ) (fd : Fd) → i < length fds → fd ≡ get_or fds i fd → All (Below n) (take i fds) → fd.left < 2 ^ n → All (Below n) (take (i + 1) fds)
below-next n fds i fd l is a p = subst (All (Below n)) (sym (take_more fds i fd l ∙ ap (λ (f : Fd). take i fds ++ f ∷ []) (sym is)))
    (All-from (Below n) (take i fds ++ fd ∷ []) (λ f g. at f (Listed-append_cases f (take i fds) (fd ∷ []) g)))
  where
    at : (f : Fd) → Listed f (take i fds) ⊎ Listed f (fd ∷ []) → Below n f
    at f (inl g) = All-listed (Below n) f (take i fds) a g
    at f (inr (inl e)) = subst (Below n) (sym e) p
    at f (inr (inr g)) = absurd g

pub below-all : (n : ℕ) (fds : List Fd) (i : ℕ) → length fds ≤ i → All (Below n) (take i fds) → All (Below n) fds
below-all n fds i l a = subst (All (Below n)) (take_all i fds l) a

pub within : (n left whole : ℕ) → whole ≡ all n → subset left whole ≡ true → left < 2 ^ n
within n left whole e s = subset_below n (subset-true (ap (subset left) (sym e) ∙ s)) (all-below n)
