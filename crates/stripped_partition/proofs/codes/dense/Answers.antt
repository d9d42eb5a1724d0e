use Rattle.std.proofs.Common.{◌≡◌, ◌<◌, ◌≤◌, ◌+◌, ℕ, List, map, subst, arith}
use Rattle.std.specs.List.{All}
use Rattle.std.proofs.lemmas.List.Elements.{All-weaker}
use Rattle.stripped_partition.proofs.Coding.{rank_of, ranks_recode, same_recode}
use Rattle.stripped_partition.proofs.codes.dense.Goals as goal

below : (codes : List ℕ) (greatest : ℕ) → All (λ (c : ℕ). c ≤ greatest) codes → All (λ (c : ℕ). c < greatest + 1) codes
below codes greatest h = All-weaker (λ (c : ℕ). c ≤ greatest) (λ (c : ℕ). c < greatest + 1) (λ c l. omega arith) codes h

pub returns-then-greatest-len : goal.returns-then-greatest-len
returns-then-greatest-len c =
    same_recode c.args.codes.items (c.greatest_code-greatest.result + 1) (below c.args.codes.items c.greatest_code-greatest.result (subst (All (λ (code : ℕ). code ≤ c.greatest_code-greatest.result)) c.deref.ensures.value c.greatest_code-greatest.ensures))

pub returns : goal.returns
returns c =
    ranks_recode c.args.codes.items c.in_ok-ranks.ranks.items c.len-bound.result (subst (λ (codes : List ℕ). c.in_ok-ranks.ranks.items ≡ map (rank_of codes) codes) c.deref-2.ensures.value c.in_ok-ranks.ensures) (let e = c.len-bound.ensures in omega (arith, c.args.codes.ok.0))
