-- Pieces that move one after another.
use Rattle.std.proofs.Common.{◌≡◌, ℕ, zero, suc, ◌+◌, ◌<◌, ◌≤◌, min, ◌∙◌, refl, sym, ap, subst, arith, false, List, [], ◌∷◌, ◌++◌, length, take, drop, append_assoc, append-nil, take-append-drop, drop-drop, length-append, length-drop, Option, None, Some}
use Rattle.std.specs.Option.{option_map}
use Rattle.std.proofs.Math.Seq.{take-add}
use Rattle.std.proofs.lemmas.List.{take-append-le, drop-append-le}
use Rattle.ports.specs.declared.source.Reading.{Reading}
use Rattle.ports.specs.declared.source.Reading.TheVariants.{Got, End, Failed}
use Rattle.ports.specs.declared.sink.Writing.TheVariants.{Took}
use Rattle.ports.specs.Bytes.{Moves, Gains}
use Rattle.ports.specs.Answers.{LeavesRest, ReadMoves}
use Rattle.ports.specs.Memory.{read_answer, write_answer}

-- a buffer whose first part is filled with what was moved so far, and which never grows past one byte more than the limit
pub record Filling (limit filled : ℕ) (buffer : List ℕ) (before now : Option (List ℕ)) : Type 0 where
  pub within : filled ≤ length buffer
  pub short : length buffer ≤ limit + 1
  pub moved : Moves before now (take filled buffer)

pub Moves-nil : (a : Option (List ℕ)) → Moves a a []
Moves-nil None = refl
Moves-nil (Some x) = refl

pub Moves-trans : (a b c : Option (List ℕ)) (p q : List ℕ) → Moves a b p → Moves b c q → Moves a c (p ++ q)
Moves-trans a b c p q first second = first ∙ ap (option_map (λ rest. p ++ rest)) second ∙ joined c
  where
    joined : (o : Option (List ℕ)) → option_map (λ rest. p ++ rest) (option_map (λ rest. q ++ rest) o) ≡ option_map (λ rest. (p ++ q) ++ rest) o
    joined None = refl
    joined (Some x) = ap Some (sym (append_assoc p q x))

-- one read more, behind what is filled
pub Moves-more : (a b c : Option (List ℕ)) (old new : List ℕ) (filled count : ℕ) → take filled new ≡ take filled old → Moves a b (take filled old)
    → Moves b c (take count (drop filled new)) → Moves a c (take (filled + count) new)
Moves-more a b c old new filled count front so_far more =
    Moves-trans a b c (take filled old) (take count (drop filled new)) so_far more
    ∙ ap (λ piece. option_map (λ rest. piece ++ rest) c) (ap (λ piece. piece ++ take count (drop filled new)) (sym front) ∙ sym (take-add filled count new))

pub Gains-nil : (a : Option (List ℕ)) → Gains a a []
Gains-nil None = refl
Gains-nil (Some x) = ap Some (sym (append-nil x))

pub Gains-trans : (a b c : Option (List ℕ)) (p q : List ℕ) → Gains a b p → Gains b c q → Gains a c (p ++ q)
Gains-trans a b c p q first second = second ∙ ap (option_map (λ held. held ++ q)) first ∙ joined a
  where
    joined : (o : Option (List ℕ)) → option_map (λ held. held ++ q) (option_map (λ held. held ++ p) o) ≡ option_map (λ held. held ++ (p ++ q)) o
    joined None = refl
    joined (Some x) = ap Some (append_assoc x p q)

-- one write more, of what is left of a text
pub Gains-more : (a b c : Option (List ℕ)) (bytes : List ℕ) (done count : ℕ) → Gains a b (take done bytes) → Gains b c (take count (drop done bytes)) → Gains a c (take (done + count) bytes)
Gains-more a b c bytes done count so_far more =
    Gains-trans a b c _ _ so_far more ∙ ap (λ piece. option_map (λ held. held ++ piece) a) (sym (take-add done count bytes))

-- a read that copied as many bytes as are there and fit moved them
pub ReadMoves-copied : (count : ℕ) (buffer left : List ℕ) → 0 < length buffer → count ≡ min (length left) (length buffer) → take count buffer ≡ take count left
    → ReadMoves (read_answer false count) buffer (Some left) (Some (drop count left))
ReadMoves-copied zero buffer left room is same = (empty left (omega arith), refl)
  where
    empty : (xs : List ℕ) → length xs ≡ 0 → xs ≡ []
    empty [] h = refl
    empty (x ∷ xs) h = absurd (omega arith)
ReadMoves-copied (suc count) buffer left room is same = (omega arith, omega arith, ap Some (sym (take-append-drop (suc count) left) ∙ ap (λ piece. piece ++ drop (suc count) left) (sym same)))

-- the same of a text that is read from one place to the next
pub ReadMoves-from : (at count : ℕ) (buffer text : List ℕ) → 0 < length buffer → count ≡ min (length (drop at text)) (length buffer) → take count buffer ≡ take count (drop at text)
    → ReadMoves (read_answer false count) buffer (Some (drop at text)) (Some (drop (at + count) text))
ReadMoves-from at count buffer text room is same =
    subst (λ (left : List ℕ). ReadMoves (read_answer false count) buffer (Some (drop at text)) (Some left)) (drop-drop count at text) (ReadMoves-copied count buffer (drop at text) room is same)

-- a read into the front of a buffer is a read into the buffer
pub ReadMoves-wider : (answer : Reading) (front back : List ℕ) (before now : Option (List ℕ)) → ReadMoves answer front before now → ReadMoves answer (front ++ back) before now
ReadMoves-wider (Got count) front back before now h =
    (h.0, omega (arith, h.1, length-append front back), subst (Moves before now) (sym (take-append-le count front back h.1)) h.2)
ReadMoves-wider End front back before now h = h
ReadMoves-wider Failed front back before now h = h

-- a read that copied so many bytes leaves what lies behind them
pub LeavesRest-copied : (count : ℕ) (before now : List ℕ) → drop count now ≡ drop count before → LeavesRest (read_answer false count) before now
LeavesRest-copied zero before now same = same
LeavesRest-copied (suc count) before now same = same

-- the same of a read into the front of a buffer
pub LeavesRest-front : (count most : ℕ) (buffer front : List ℕ) → count ≤ length front → length front ≡ length (take most buffer) → drop count front ≡ drop count (take most buffer)
    → LeavesRest (read_answer false count) buffer (front ++ drop most buffer)
LeavesRest-front count most buffer front few size same =
    LeavesRest-copied count buffer (front ++ drop most buffer)
    (drop-append-le count front (drop most buffer) few
    ∙ ap (λ rest. rest ++ drop most buffer) same
    ∙ sym (drop-append-le count (take most buffer) (drop most buffer) (omega arith))
    ∙ ap (drop count) (take-append-drop most buffer))

-- what is read stays within the text
pub within-read : (at count room : ℕ) (text : List ℕ) → at ≤ length text → count ≡ min (length (drop at text)) room → at + count ≤ length text
within-read at count room text h is = omega (arith, length-drop at text)

-- a write that took some bytes answers so many
pub write_answer-some : (count : ℕ) → 0 < count → Took count ≡ write_answer false count
write_answer-some zero h = absurd (omega arith)
write_answer-some (suc count) h = refl
