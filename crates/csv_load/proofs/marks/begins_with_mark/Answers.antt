use Rattle.std.proofs.Common.{◌≡◌, ◌∙◌, ◌+◌, sym, true, false, length, List, ℕ, nat_eq, take, drop, Option, Some, None, Bor}
use Rattle.std.specs.Option.{is_some, MatchOption}
use Rattle.std.specs.Cmp.Lexicographic.{pointwise}
use Rattle.std.proofs.lemmas.Bool.{true≢false}
use Rattle.csv_load.specs.Records.{without_marks}
use Rattle.csv_load.proofs.LeadingMarks.{mark, without_marks-plain}
use Rattle.csv_load.proofs.marks.begins_with_mark.Goals as goal

plain : (xs : List ℕ) (o : Option (Bor (List ℕ)))
    → MatchOption o (pointwise nat_eq (take 3 xs) mark ≡ false) (λ x. (pointwise nat_eq (take 3 xs) mark ≡ true) × (x.now ≡ drop 3 xs) × (length x.now + 3 ≡ length xs))
    → is_some o ≡ false → without_marks xs ≡ xs
plain xs None cases e = without_marks-plain xs cases
plain xs (Some x) cases e = absurd (true≢false e)

pub returns : goal.returns
returns c = λ none. plain c.args.bytes.now c.strip_prefix.result c.strip_prefix.ensures.cases (sym c.is_some.ensures ∙ none)
