-- Lists of groups that stand one after another are what their ends cut.
use Rattle.std.proofs.Common.{inl, inr, ◌≡◌, ℕ, ◌+◌, ◌-◌, ◌<◌, ◌≤◌, refl, sym, ap, ap₂, ◌∙◌, subst, arith, List, [], ◌∷◌, ◌++◌, length, take, slice_range, append_assoc}
use Rattle.std.specs.List.{flat_map, concat, sum_by}
use Rattle.std.proofs.lemmas.List.{length-append, drop_at, take_at}
use Rattle.std.proofs.lemmas.List.Sums.{sum_by-cons}
use Rattle.col_set.specs.Lists.{Listed}
use Rattle.stripped_partition.specs.Groups.{cut, EndsRise, ends_of, IsCut, IsFlat}
use Rattle.stripped_partition.specs.Splits.{parts}
use Rattle.stripped_partition.proofs.Cuts.{length-slice, sum-cut}
use Rattle.stripped_partition.proofs.SplitLoop.{few_parts}
use Rattle.rel_base.specs.declared.limits.TheConstants.{MOST_ROWS}

slice_at : (xs ys zs : List ℕ) → slice_range (xs ++ (ys ++ zs)) (length xs) (length xs + length ys) ≡ ys
slice_at xs ys zs =
    ap₂ (λ (n : ℕ) (l : List ℕ). take n l) (let e : length xs + length ys - length xs ≡ length ys = omega arith in e) (drop_at xs (ys ++ zs) (length xs) refl)
    ∙ take_at ys zs (length ys) refl

cut_from : (before : List ℕ) (gs : List (List ℕ)) → cut (length before) (before ++ concat gs) (ends_of (length before) gs) ≡ gs
unfolding cut ends_of
cut_from before [] = refl
cut_from before (g ∷ gs) = ap₂ (λ (x : List ℕ) (xs : List (List ℕ)). x ∷ xs) (slice_at before g (concat gs))
    (ap₂ (λ (n : ℕ) (l : List ℕ). cut n l (ends_of n gs)) (sym (length-append before g)) (sym (append_assoc before g (concat gs))) ∙ cut_from (before ++ g) gs)

pub flat-cut : (rows ends : List ℕ) (gs : List (List ℕ)) → IsFlat rows ends gs → cut 0 rows ends ≡ gs
flat-cut rows ends gs p = ap₂ (λ (r e : List ℕ). cut 0 r e) p.laid p.cuts ∙ cut_from [] gs

rise_from : (start : ℕ) (gs : List (List ℕ)) → ((g : List ℕ) → Listed g gs → 0 < length g) → EndsRise start (start + length (concat gs)) (ends_of start gs)
unfolding ends_of
rise_from start [] f = (let e : start ≡ start + 0 = omega arith in e)
rise_from start (g ∷ gs) f = (
  (let l = f g (inl refl) in omega arith),
  subst (λ (n : ℕ). EndsRise (start + length g) n (ends_of (start + length g) gs)) (let e = length-append g (concat gs) in let d : start + length g + length (concat gs) ≡ start + length (g ++ concat gs) = omega arith in d) (rise_from (start + length g) gs (λ h l. f h (inr l))),
)

pub flat-rise : (rows ends : List ℕ) (gs : List (List ℕ)) → IsFlat rows ends gs → ((g : List ℕ) → Listed g gs → 0 < length g) → length rows ≤ MOST_ROWS → IsCut rows ends
flat-rise rows ends gs p f short = record {
  rise = subst (λ (es : List ℕ). EndsRise 0 (length rows) es) (sym p.cuts) (subst (λ (n : ℕ). EndsRise 0 n (ends_of 0 gs)) (let e = ap length p.laid in let d : 0 + length (concat gs) ≡ length rows = omega arith in d) (rise_from 0 gs f));
  short = short;
}

-- ---- how many rows parts have
pub all_parts-length : (bound : ℕ) (ess : List (List (ℕ × ℕ))) → length (concat (flat_map (parts bound) ess)) ≤ sum_by length ess
all_parts-length bound [] = omega arith
all_parts-length bound (es ∷ ess) =
    let a = ap length (concat-append (parts bound es) (flat_map (parts bound) ess)) in
    let b = length-append (concat (parts bound es)) (concat (flat_map (parts bound) ess)) in
    let f = few_parts bound es in let r = all_parts-length bound ess in
    let s = sum_by-cons length es ess in omega arith
  where
    concat-append : (gs hs : List (List ℕ)) → concat (gs ++ hs) ≡ concat gs ++ concat hs
    concat-append [] hs = refl
    concat-append (g ∷ gs) hs = ap (λ (xs : List ℕ). g ++ xs) (concat-append gs hs) ∙ sym (append_assoc g (concat gs) (concat hs))

-- each group that is cut has a row
cut_positive : (start : ℕ) (rows ends : List ℕ) → EndsRise start (length rows) ends → (g : List ℕ) → Listed g (cut start rows ends) → 0 < length g
unfolding cut
cut_positive start rows [] r g h = absurd h
cut_positive start rows (end ∷ ends) r g (inl e) =
    let s = sum-cut end rows ends r.1 in let a = r.0 in
    let l = length-slice rows start end (omega arith) (omega arith) in
    let m = ap length e in omega arith
cut_positive start rows (end ∷ ends) r g (inr h) = cut_positive end rows ends r.1 g h

pub group_positive : (rows ends : List ℕ) → IsCut rows ends → (g : List ℕ) → Listed g (cut 0 rows ends) → 0 < length g
group_positive rows ends is g h = cut_positive 0 rows ends is.rise g h

pub sum_groups : (rows ends : List ℕ) → IsCut rows ends → sum_by length (cut 0 rows ends) ≤ MOST_ROWS
sum_groups rows ends is = let s = sum-cut 0 rows ends is.rise in let m = is.short in omega arith
