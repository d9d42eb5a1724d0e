use Rattle.std.proofs.Common.{◌≡◌, ◌∙◌, ap, sym, subst, ℕ, List, [], Option, ◌<◌, get_or, length}
use Rattle.std.specs.Borrow.{Bor}
use Rattle.std.proofs.lemmas.List.{get_or-map}
use Rattle.inclusion_merge.specs.WideSet.{has_wide}
use Rattle.inclusion_merge.specs.Sharing.{BeginsWith, LeastSoFar, list_at, lists_of}
use Rattle.inclusion_merge.proofs.Merging.{first_begins, first_ended}
use Rattle.inclusion_merge.proofs.Meeting.{met_ended, met_first, met_greater, met_less, met_same}
use Rattle.inclusion_merge.proofs.merge.meet.Goals as goal

-- the list at the place, as it was read
read : (rests : List (Bor (List (List ℕ)))) (place : ℕ) (rest : Bor (List (List ℕ))) → place < length rests → rest ≡ get_or rests place rest → list_at (lists_of rests) place ≡ rest.now
read rests place rest within is =
    get_or-map (λ (slice : Bor (List (List ℕ))). slice.now) rests place rest [] within ∙ ap (λ (s : Bor (List (List ℕ))). s.now) (sym is)

pub returns-in_default : goal.returns-in_default
returns-in_default c =
    let lists = lists_of c.args.rests.now in
    let here = read c.args.rests.now c.args.place c.index-rests-place.result c.requires.place c.index-rests-place.is in
    met_ended lists c.args.place c.args.least (has_wide c.args.shared.now) c.requires.so_far (here ∙ first_ended c.index-rests-place.result.now c.in_default.ensures)

pub returns-in_default-least : goal.returns-in_default-least
returns-in_default-least c =
    let lists = lists_of c.args.rests.now in
    let here = read c.args.rests.now c.args.place c.index-rests-place.result c.requires.place c.index-rests-place.is in
    let begins = subst (λ (l : List (List ℕ)). BeginsWith c.in-Some.first.now l) (sym here) (first_begins c.in-Some.first c.index-rests-place.result.now c.in-Some.ensures) in
    met_first lists c.args.place c.in-Some.first (has_wide c.args.shared.now) (has_wide c.insert_wide.new.parts)
    (subst (λ (o : Option (Bor (List ℕ))). LeastSoFar o (has_wide c.args.shared.now) lists c.args.place) c.in_default-least.is c.requires.so_far) begins c.insert_wide.ensures

pub returns-in-Less : goal.returns-in-Less
returns-in-Less c =
    let lists = lists_of c.args.rests.now in
    let here = read c.args.rests.now c.args.place c.index-rests-place.result c.requires.place c.index-rests-place.is in
    let begins = subst (λ (l : List (List ℕ)). BeginsWith c.in-Some.first.now l) (sym here) (first_begins c.in-Some.first c.index-rests-place.result.now c.in-Some.ensures) in
    met_less lists c.args.place c.in-Some-least.value c.in-Some.first (has_wide c.args.shared.now)
    (subst (λ (o : Option (Bor (List ℕ))). LeastSoFar o (has_wide c.args.shared.now) lists c.args.place) c.in-Some-least.is c.requires.so_far) begins
    (has_wide c.clear_wide.new.parts) (has_wide c.insert_wide-in-Less.new.parts) (sym c.cmp.ensures ∙ c.in-Less.is) c.clear_wide.ensures c.insert_wide-in-Less.ensures

pub returns-in-Equal : goal.returns-in-Equal
returns-in-Equal c =
    let lists = lists_of c.args.rests.now in
    let here = read c.args.rests.now c.args.place c.index-rests-place.result c.requires.place c.index-rests-place.is in
    let begins = subst (λ (l : List (List ℕ)). BeginsWith c.in-Some.first.now l) (sym here) (first_begins c.in-Some.first c.index-rests-place.result.now c.in-Some.ensures) in
    met_same lists c.args.place c.in-Some-least.value c.in-Some.first (has_wide c.args.shared.now)
    (subst (λ (o : Option (Bor (List ℕ))). LeastSoFar o (has_wide c.args.shared.now) lists c.args.place) c.in-Some-least.is c.requires.so_far) begins
    (has_wide c.insert_wide-in-Equal.new.parts) (sym c.cmp.ensures ∙ c.in-Equal.is) c.insert_wide-in-Equal.ensures

pub returns-in-Greater : goal.returns-in-Greater
returns-in-Greater c =
    let lists = lists_of c.args.rests.now in
    let here = read c.args.rests.now c.args.place c.index-rests-place.result c.requires.place c.index-rests-place.is in
    let begins = subst (λ (l : List (List ℕ)). BeginsWith c.in-Some.first.now l) (sym here) (first_begins c.in-Some.first c.index-rests-place.result.now c.in-Some.ensures) in
    met_greater lists c.args.place c.in-Some-least.value c.in-Some.first (has_wide c.args.shared.now)
    (subst (λ (o : Option (Bor (List ℕ))). LeastSoFar o (has_wide c.args.shared.now) lists c.args.place) c.in-Some-least.is c.requires.so_far) begins
    (sym c.cmp.ensures ∙ c.in-Greater.is)
