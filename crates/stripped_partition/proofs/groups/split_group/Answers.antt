use Rattle.std.proofs.Common.{◌≡◌, ◌≤◌, ◌+◌, ◌++◌, ℕ, List, length, take, drop, zip, get_or, count_by, eqb, refl, sym, ap, ◌∙◌, subst, subst₂, arith, vec_len}
use Rattle.std.proofs.lemmas.List.{take_all, get_or_read}
use Rattle.std.proofs.lemmas.Slice.Zip.{seconds-zip}
use Rattle.stripped_partition.specs.Groups.{ends_of}
use Rattle.stripped_partition.specs.Splits.{parts, Places}
use Rattle.stripped_partition.proofs.PlacingStep.{Placing, step, room, within, short_rows, placing_none, placed_rows, placed_ends, placed_slots, long_pairs, next_pair, more_pairs}
use Rattle.stripped_partition.proofs.groups.split_group.Goals as goal

pub loop-i-init : goal.loop-i-init
loop-i-init c = placing_none (zip c.args.rows.now c.args.codes.now) (length c.count.new.slots) c.args.groups.now.rows.items c.args.groups.now.ends.items c.count.new.slots refl
    (λ d l. c.count.ensures d l ∙ ap (λ (codes : List ℕ). count_by (λ x. eqb x d) codes) (sym (seconds-zip c.args.rows.now c.args.codes.now c.requires.coded)))

pub place-requires-clause-short : goal.place-requires-clause-short
place-requires-clause-short c =
    let all : List (ℕ × ℕ) = zip c.args.rows.now c.args.codes.now in
    let s = short_rows all (length c.loop-i.slots) c.args.groups.now.rows.items c.args.groups.now.ends.items c.loop-i.groups.rows.items c.loop-i.groups.ends.items c.loop-i.slots _ _
    (next_pair c.args.rows.now c.args.codes.now c.requires.coded c.loop-i.i c.loop-i-test.true) c.loop-i.invariant in
    let n = long_pairs c.args.rows.now c.args.codes.now c.requires.coded in
    let m = c.requires.short in
    omega (arith, c.args.groups.now.rows.ok.0, c.loop-i.groups.rows.ok.0)

pub place-requires-clause-room : goal.place-requires-clause-room
place-requires-clause-room c l g =
    let all : List (ℕ × ℕ) = zip c.args.rows.now c.args.codes.now in
    let n = long_pairs c.args.rows.now c.args.codes.now c.requires.coded in
    let m = c.requires.short in
    let r = room all (length c.loop-i.slots) c.args.groups.now.rows.items c.args.groups.now.ends.items c.loop-i.groups.rows.items c.loop-i.groups.ends.items c.loop-i.slots _ _ _
    (next_pair c.args.rows.now c.args.codes.now c.requires.coded c.loop-i.i c.loop-i-test.true) (omega arith) c.loop-i.invariant l g in
    omega (arith, c.args.groups.now.rows.ok.0, c.loop-i.groups.rows.ok.0)

pub place-requires-clause-within : goal.place-requires-clause-within
place-requires-clause-within c l g =
    let all : List (ℕ × ℕ) = zip c.args.rows.now c.args.codes.now in
    let n = long_pairs c.args.rows.now c.args.codes.now c.requires.coded in
    let m = c.requires.short in
    let r = within all (length c.loop-i.slots) c.args.groups.now.rows.items c.args.groups.now.ends.items c.loop-i.groups.rows.items c.loop-i.groups.ends.items c.loop-i.slots _ _ _
    (next_pair c.args.rows.now c.args.codes.now c.requires.coded c.loop-i.i c.loop-i-test.true) (omega arith) c.loop-i.invariant l g in
    omega (arith, c.args.groups.now.rows.ok.0, c.loop-i.groups.rows.ok.0)

pub loop-i-preserved : goal.loop-i-preserved
loop-i-preserved c =
    let all : List (ℕ × ℕ) = zip c.args.rows.now c.args.codes.now in
    let n = long_pairs c.args.rows.now c.args.codes.now c.requires.coded in
    let m = c.requires.short in
    let row : c.index-rows-i.result ≡ get_or c.args.rows.now c.loop-i.i 0 = get_or_read c.args.rows.now c.loop-i.i c.index-rows-i.result c.loop-i-test.true c.index-rows-i.is 0 in
    let at = c.loop-i.groups in
    let q : Places (get_or c.args.rows.now c.loop-i.i 0) (get_or c.args.codes.now c.loop-i.i 0) at.rows.items at.ends.items c.loop-i.slots c.place.new.groups.rows.items c.place.new.groups.ends.items c.place.new.slots
    = subst (λ (r : ℕ). Places r (get_or c.args.codes.now c.loop-i.i 0) at.rows.items at.ends.items c.loop-i.slots c.place.new.groups.rows.items c.place.new.groups.ends.items c.place.new.slots) row c.in_ok-place.ensures in
    let p = step all (length c.loop-i.slots) c.args.groups.now.rows.items c.args.groups.now.ends.items at.rows.items at.ends.items c.loop-i.slots (take c.loop-i.i all) (drop (c.loop-i.i + 1) all) (get_or c.args.rows.now c.loop-i.i 0, get_or c.args.codes.now c.loop-i.i 0)
    (next_pair c.args.rows.now c.args.codes.now c.requires.coded c.loop-i.i c.loop-i-test.true) (omega arith) c.loop-i.invariant c.place.new.groups.rows.items c.place.new.groups.ends.items c.place.new.slots q in
    subst₂ (λ (b : ℕ) (es : List (ℕ × ℕ)). Placing all b c.args.groups.now.rows.items c.args.groups.now.ends.items c.place.new.groups.rows.items c.place.new.groups.ends.items c.place.new.slots es)
    (sym c.place.auto.slots) (sym (more_pairs c.args.rows.now c.args.codes.now c.requires.coded c.loop-i.i c.loop-i-test.true)) p

done : (rows codes : List ℕ) (i : ℕ) → length codes ≡ length rows → length rows ≤ i → take i (zip rows codes) ≡ zip rows codes
done rows codes i coded l = let n = long_pairs rows codes coded in take_all i (zip rows codes) (omega arith)

last : (rows codes : List ℕ) (i bound n : ℕ) (before ends_before at ends slots : List ℕ) → length codes ≡ length rows → length rows ≤ i → n ≡ bound
    → Placing (zip rows codes) bound before ends_before at ends slots (take i (zip rows codes)) → Placing (zip rows codes) n before ends_before at ends slots (zip rows codes)
last rows codes i bound n before ends_before at ends slots coded l e p = subst₂ (λ (b : ℕ) (es : List (ℕ × ℕ)). Placing (zip rows codes) b before ends_before at ends slots es) (sym e) (done rows codes i coded l) p

pub returns-clause-parts : goal.returns-clause-parts
returns-clause-parts c =
    let p = last c.args.rows.now c.args.codes.now c.loop-i.i (length c.loop-i.slots) (length c.args.slots.now) c.args.groups.now.rows.items c.args.groups.now.ends.items c.loop-i.groups.rows.items c.loop-i.groups.ends.items c.loop-i.slots
    c.requires.coded c.loop-i-test.false (sym (c.loop-i.auto.slots ∙ c.count.auto.slots)) c.loop-i.invariant in
    record {
      laid = placed_rows (zip c.args.rows.now c.args.codes.now) (length c.args.slots.now) c.args.groups.now.rows.items c.args.groups.now.ends.items c.loop-i.groups.rows.items c.loop-i.groups.ends.items c.loop-i.slots p;
      cuts =
          placed_ends (zip c.args.rows.now c.args.codes.now) (length c.args.slots.now) c.args.groups.now.rows.items c.args.groups.now.ends.items c.loop-i.groups.rows.items c.loop-i.groups.ends.items c.loop-i.slots p
          ∙ ap (λ (n : ℕ). c.args.groups.now.ends.items ++ ends_of n (parts (length c.args.slots.now) (zip c.args.rows.now c.args.codes.now))) (let e : length c.args.groups.now.rows.items ≡ vec_len c.args.groups.now.rows = omega (arith, c.args.groups.now.rows.ok.0) in e);
    }

pub returns-clause-slots : goal.returns-clause-slots
returns-clause-slots c d l z = placed_slots (zip c.args.rows.now c.args.codes.now) (length c.loop-i.slots) c.args.groups.now.rows.items c.args.groups.now.ends.items c.loop-i.groups.rows.items c.loop-i.groups.ends.items c.loop-i.slots
    (last c.args.rows.now c.args.codes.now c.loop-i.i (length c.loop-i.slots) (length c.loop-i.slots) _ _ _ _ _ c.requires.coded c.loop-i-test.false refl c.loop-i.invariant) d l
    (ap (λ (codes : List ℕ). count_by (λ x. eqb x d) codes) (seconds-zip c.args.rows.now c.args.codes.now c.requires.coded) ∙ z)
