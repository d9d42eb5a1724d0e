use Rattle.std.proofs.Common.{◌≡◌, ◌∙◌, ◌+◌, ◌-◌, ◌*◌, ◌/◌, ◌%◌, ◌^◌, ℕ, List, ap, ap₂, arith, take, drop, length, length-drop}
use Rattle.std.proofs.lemmas.List.{take_all}
use Rattle.inclusion_merge.specs.Mark.{last_bytes, mark_of, number_of}
use Rattle.inclusion_merge.proofs.marks.mark_of.Goals as goal

all_behind : (xs : List ℕ) (from : ℕ) → take (length xs - from) (drop from xs) ≡ drop from xs
all_behind xs from = take_all (length xs - from) (drop from xs) (omega (arith, length-drop from xs))

pub returns-clause-value : goal.returns-clause-value
unfolding mark_of
returns-clause-value c =
    let bytes = c.args.bytes.now in
    let rest = c.split_at.result.1.now in
    let first = c.number_of.ensures ∙ ap number_of (c.split_at.ensures.front ∙ ap (λ (n : ℕ). take n bytes) c.min.ensures) in
    let behind = c.split_at.ensures.back ∙ ap (λ (n : ℕ). drop n bytes) c.min.ensures in
    let last =
    c.number_of-2.ensures
    ∙ ap number_of (all_behind rest c.saturating_sub.result ∙ ap (λ (n : ℕ). drop n rest) c.saturating_sub.ensures ∙ ap last_bytes behind) in
    ap₂ (λ (x y : ℕ). (x * 11400714819323198485 % 2 ^ 64 + y) % 2 ^ 64 * 11400714819323198485 % 2 ^ 64 / 70368744177664) first last
