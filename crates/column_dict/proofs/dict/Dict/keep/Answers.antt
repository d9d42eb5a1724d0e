use Rattle.std.proofs.Common.{◌≡◌, ◌<◌, ◌-◌, ◌==◌, ℕ, List, not, length, take, drop, ap, ◌∙◌, sym, arith, length-drop}
use Rattle.std.proofs.Math.Seq.{take-length}
use Rattle.std.specs.List.{find}
use Rattle.std.specs.Option.{unwrap_or}
use Rattle.column_dict.specs.Layout.{nowhere}
use Rattle.column_dict.proofs.Laid.{cut}
use Rattle.column_dict.proofs.Coded.{shortened}
use Rattle.column_dict.proofs.dict.Dict.keep.Goals as goal
use Rattle.column_dict.proofs.dict.Dict.keep.Goals.{After-truncate-then-n-len}

tail_is : (xs : List ℕ) (n : ℕ) → take (length xs - n) (drop n xs) ≡ drop n xs
tail_is xs n = ap (λ (k : ℕ). take k (drop n xs)) (sym (length-drop n xs)) ∙ take-length (drop n xs)

left_is : (c : After-truncate-then-n-len) → c.entries_left-left.result ≡ unwrap_or (find (λ p. not (p == nowhere)) (drop c.args.n c.self.inside.places.items)) (length c.self.inside.known.entries)
left_is c =
    c.entries_left-left.ensures
    ∙ ap (λ (l : List ℕ). unwrap_or (find (λ p. not (p == nowhere)) l) (length c.self.inside.known.entries))
    (tail_is c.deref.result.now c.args.n ∙ ap (drop c.args.n) c.deref.ensures.value)

within : (c : After-truncate-then-n-len) → c.args.n < length c.self.inside.places.items
within c = let l = c.if-n-len.true in let e = c.len.ensures in let v = c.self.inside.places.ok.0 in omega (arith, l, e, v)

pub invariant_of-self : goal.invariant_of-self
invariant_of-self c =
    let old = c.self.invariant in (
      old.0,
      (cut c.self.inside.nulls c.self.inside.known.entries c.self.inside.places.items c.args.n c.entries_left-left.result c.truncate.new.self.entries c.truncate-then-n-len.new.self.items
          old.1 (within c) (left_is c) c.truncate.ensures.entries c.truncate-then-n-len.ensures.items).1,
    )

pub returns-then-n-len : goal.returns-then-n-len
returns-then-n-len c =
    let old = c.self.invariant in
    shortened c.self.inside.nulls c.self.inside.known.entries c.self.inside.places.items c.args.self.now c.self.view_is c.args.n c.entries_left-left.result c.truncate.new.self.entries c.truncate-then-n-len.new.self.items
    old.1 (within c) (left_is c) c.truncate.ensures.entries c.truncate-then-n-len.ensures.items
