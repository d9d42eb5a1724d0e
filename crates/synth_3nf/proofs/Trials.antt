-- What is kept of dependencies that are tried one after another.
use Rattle.std.proofs.Common.{inl, inr, ◌≡◌, ◌⊎◌, Bool, true, false, cond, refl, sym, ap, ◌∙◌, subst, List, [], ◌∷◌, ◌++◌, append_assoc}
use Rattle.std.specs.List.{All}
use Rattle.std.proofs.lemmas.List.{append-nil}
use Rattle.col_set.specs.ColSet.{Columns, IsSubset, has}
use Rattle.col_set.specs.Lists.{Listed, Listed-append_left, Listed-append_right, Listed-append_cases}
use Rattle.col_set.proofs.Places.{Contains-listed, Listed-contained}
use Rattle.rel_base.specs.declared.dependency.Fd.{Fd}
use Rattle.rel_base.proofs.States.{All-listed, All-from}
use Rattle.fd_closure.specs.Under.{IsClosed}
use Rattle.synth_3nf.specs.Reached.{reached, follows}
use Rattle.synth_3nf.specs.Canonical.{tried, canonical}
use Rattle.synth_3nf.proofs.Reaching.{reached-closure, reached-is}

-- ---- one dependency tried
pub tried-more : (kept rest later : List Fd) (fd : Fd) (b : Bool) → rest ≡ fd ∷ later → follows (kept ++ later) fd ≡ b → tried (cond b kept (kept ++ fd ∷ [])) later ≡ tried kept rest
unfolding tried
tried-more kept rest later fd b e f = ap (λ (t : Bool). tried (cond t kept (kept ++ fd ∷ [])) later) (sym f) ∙ ap (tried kept) (sym e)

pub tried-end : (kept rest : List Fd) → rest ≡ [] → tried kept rest ≡ kept
unfolding tried
tried-end kept rest e = ap (tried kept) e

pub tried-begin : (fds : List Fd) → tried [] fds ≡ canonical fds
unfolding canonical
tried-begin fds = refl

-- ---- what is kept was listed
moved : (kept rest : List Fd) (one fd : Fd) → Listed fd ((kept ++ one ∷ []) ++ rest) → Listed fd (kept ++ one ∷ rest)
moved kept rest one fd h = subst (Listed fd) (append_assoc kept (one ∷ []) rest) h

skipped : (kept rest : List Fd) (one fd : Fd) → Listed fd (kept ++ rest) → Listed fd (kept ++ one ∷ rest)
skipped kept rest one fd h = elim (Listed-append_cases fd kept rest h) as (λ _. Listed fd (kept ++ one ∷ rest)) [
  | inl g ↦ Listed-append_left fd kept (one ∷ rest) g
  | inr g ↦ Listed-append_right fd kept (one ∷ rest) (inr g)
]

pub tried-listed : (kept rest : List Fd) (fd : Fd) → Listed fd (tried kept rest) → Listed fd (kept ++ rest)
unfolding tried
tried-listed kept [] fd h = subst (Listed fd) (sym (append-nil kept)) h
tried-listed kept (one ∷ rest) fd h = by (follows (kept ++ rest) one) (tried-listed kept rest fd) (tried-listed (kept ++ one ∷ []) rest fd) h
  where
    by : (b : Bool) → (Listed fd (tried kept rest) → Listed fd (kept ++ rest)) → (Listed fd (tried (kept ++ one ∷ []) rest) → Listed fd ((kept ++ one ∷ []) ++ rest))
        → Listed fd (tried (cond b kept (kept ++ one ∷ [])) rest) → Listed fd (kept ++ one ∷ rest)
    by true f g h = skipped kept rest one fd (f h)
    by false f g h = moved kept rest one fd (g h)

pub canonical-listed : (fds : List Fd) (fd : Fd) → Listed fd (canonical fds) → Listed fd fds
unfolding canonical
canonical-listed fds fd h = tried-listed [] fds fd h

pub canonical-All : (P : Fd → Type 0) (fds : List Fd) → All P fds → All P (canonical fds)
canonical-All P fds a = All-from P (canonical fds) (λ fd h. All-listed P fd fds a (canonical-listed fds fd h))

-- ---- a set that is closed under what is kept is closed under all
closed-with : (kept rest : List Fd) (one : Fd) (z : Columns) → follows (kept ++ rest) one ≡ true → IsClosed (kept ++ rest) z → IsClosed (kept ++ one ∷ rest) z
closed-with kept rest one z f c = record { each = λ fd h s. by fd s (Listed-append_cases fd kept (one ∷ rest) (Listed-contained fd (kept ++ one ∷ rest) h)) }
  where
    by : (fd : Fd) → IsSubset fd.left z → Listed fd kept ⊎ Listed fd (one ∷ rest) → has z fd.right ≡ true
    by fd s (inl h) = c.each fd (Contains-listed fd (kept ++ rest) (Listed-append_left fd kept rest h)) s
    by fd s (inr (inl e)) =
        let r = reached-closure (kept ++ rest) one.left in
        ap (λ (g : Fd). has z g.right) e ∙ (r.smallest z (subst (λ (g : Fd). IsSubset g.left z) e s) c).each one.right f
    by fd s (inr (inr h)) = c.each fd (Contains-listed fd (kept ++ rest) (Listed-append_right fd kept rest h)) s

pub tried-closed : (kept rest : List Fd) (z : Columns) → IsClosed (tried kept rest) z → IsClosed (kept ++ rest) z
unfolding tried
tried-closed kept [] z c = subst (λ (fds : List Fd). IsClosed fds z) (sym (append-nil kept)) c
tried-closed kept (one ∷ rest) z c = by (follows (kept ++ rest) one) refl (tried-closed kept rest z) (tried-closed (kept ++ one ∷ []) rest z) c
  where
    by : (b : Bool) → follows (kept ++ rest) one ≡ b → (IsClosed (tried kept rest) z → IsClosed (kept ++ rest) z) → (IsClosed (tried (kept ++ one ∷ []) rest) z → IsClosed ((kept ++ one ∷ []) ++ rest) z)
        → IsClosed (tried (cond b kept (kept ++ one ∷ [])) rest) z → IsClosed (kept ++ one ∷ rest) z
    by true e f g c = closed-with kept rest one z e (f c)
    by false e f g c = subst (λ (fds : List Fd). IsClosed fds z) (append_assoc kept (one ∷ []) rest) (g c)

closed-more : (fds : List Fd) (z : Columns) → IsClosed fds z → IsClosed (canonical fds) z
closed-more fds z c = record { each = λ fd h s. c.each fd (Contains-listed fd fds (canonical-listed fds fd (Listed-contained fd (canonical fds) h))) s }

pub canonical-closed : (fds : List Fd) (z : Columns) → IsClosed (canonical fds) z → IsClosed fds z
unfolding canonical
canonical-closed fds z c = tried-closed [] fds z c

-- the kept ones reach what all reach
pub canonical-reached : (fds : List Fd) (x : Columns) → reached (canonical fds) x ≡ reached fds x
canonical-reached fds x =
    let c = reached-closure fds x in
    sym (reached-is (canonical fds) x (reached fds x) (record {
      contains = c.contains;
      closed = closed-more fds (reached fds x) c.closed;
      smallest = λ z s k. c.smallest z s (canonical-closed fds z k);
    }))
