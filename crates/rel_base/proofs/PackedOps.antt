-- Operations that stand packed: their parts, and what stands at a place among them.
use Rattle.std.proofs.Common.{◌≡◌, ℕ, ◌+◌, ◌-◌, ◌^◌, ◌<◌, ◌≤◌, refl, sym, ap, ap₂, ◌∙◌, arith, List, [], ◌∷◌, ◌++◌, length, map, take, drop, get_or}
use Rattle.std.specs.List.{flat_map}
use Rattle.std.proofs.lemmas.List.{length-append, length-map, length-take, length-drop, take_more, take_all, take_at, drop_at, take-append-drop, drop_more, map_push, flat_map_more, get_or-map, get_or_default, get_or-take, get_or-drop}
use Rattle.std.proofs.lemmas.List.Concat.{flat_map-append, get_or-flat_map}
use Rattle.rel_base.specs.declared.batch.Op.{Op}
use Rattle.rel_base.specs.declared.batch.Op.TheVariants.{Insert, Delete, Update}
use Rattle.rel_base.specs.declared.batch.Step.{Step}
use Rattle.rel_base.specs.declared.batch.Step.TheVariants as step
use Rattle.rel_base.specs.declared.batch.Cursor.{Cursor}
use Rattle.rel_base.specs.Cells.{Cell, Row}
use Rattle.rel_base.specs.PackedOps.{step_of, numbers_in, cells_in, numbers_of, cells_of, step_numbers, step_cells, ops_of, ArePackedOps, IsCursor}

-- ---- the parts give the operations back
pub parted : (ops : List Op) → ops_of (map step_of ops) (numbers_of ops) (cells_of ops) ≡ ops
unfolding ops_of numbers_of cells_of
parted [] = refl
parted (Insert row ∷ ops) =
    ap₂ (λ (r : Row) (cells : List Cell). Insert r ∷ ops_of (map step_of ops) (flat_map numbers_in ops) cells)
    (take_at row (flat_map cells_in ops) (length row) refl) (drop_at row (flat_map cells_in ops) (length row) refl)
    ∙ ap (λ (rest : List Op). Insert row ∷ rest) (parted ops)
parted (Delete number ∷ ops) = ap (λ (rest : List Op). Delete number ∷ rest) (parted ops)
parted (Update number row ∷ ops) =
    ap₂ (λ (r : Row) (cells : List Cell). Update number r ∷ ops_of (map step_of ops) (flat_map numbers_in ops) cells)
    (take_at row (flat_map cells_in ops) (length row) refl) (drop_at row (flat_map cells_in ops) (length row) refl)
    ∙ ap (λ (rest : List Op). Update number row ∷ rest) (parted ops)

-- no operations
pub ArePackedOps-none : (steps : List Step) (numbers : List ℕ) (cells : List Cell) → steps ≡ [] → numbers ≡ [] → cells ≡ [] → ArePackedOps steps numbers cells
unfolding numbers_of cells_of
ArePackedOps-none steps numbers cells e f g = record { ops = []; steps_are = e; numbers_are = f; cells_are = g; few_cells = let n = ap length g in omega arith }

pub ops-none : (steps : List Step) (numbers : List ℕ) (cells : List Cell) → steps ≡ [] → ops_of steps numbers cells ≡ []
unfolding ops_of
ops-none steps numbers cells e = ap (λ (ss : List Step). ops_of ss numbers cells) e

-- ---- the parts of the operations that a batch is
module _ (steps : List Step) (numbers : List ℕ) (cells : List Cell) (h : ArePackedOps steps numbers cells) where
  pub ops-are : ops_of steps numbers cells ≡ h.ops
  ops-are =
      ap (λ (ss : List Step). ops_of ss numbers cells) h.steps_are
      ∙ ap₂ (λ (ns : List ℕ) (cs : List Cell). ops_of (map step_of h.ops) ns cs) h.numbers_are h.cells_are
      ∙ parted h.ops

  module _ (now : List Op) (view : ops_of steps numbers cells ≡ now) where
    is-now : h.ops ≡ now
    is-now = sym ops-are ∙ view

    pub steps-now : steps ≡ map step_of now
    steps-now = h.steps_are ∙ ap (map step_of) is-now

    pub numbers-now : numbers ≡ numbers_of now
    numbers-now = h.numbers_are ∙ ap numbers_of is-now

    pub cells-now : cells ≡ cells_of now
    cells-now = h.cells_are ∙ ap cells_of is-now

    pub len-now : length steps ≡ length now
    len-now = ap length steps-now ∙ length-map now step_of

  -- one operation more
  module _ (op : Op) (steps' : List Step) (numbers' : List ℕ) (cells' : List Cell) (s : steps' ≡ steps ++ step_of op ∷ []) (n : numbers' ≡ numbers ++ numbers_in op) (c : cells' ≡ cells ++ cells_in op) (few : length cells' < 2 ^ 64) where
    pub ArePackedOps-more : ArePackedOps steps' numbers' cells'
    unfolding numbers_of cells_of
    ArePackedOps-more = record {
      ops = h.ops ++ op ∷ [];
      steps_are = s ∙ ap (λ (ss : List Step). ss ++ step_of op ∷ []) h.steps_are ∙ sym (map_push step_of h.ops op);
      numbers_are = n ∙ ap (λ (ns : List ℕ). ns ++ numbers_in op) h.numbers_are ∙ flat_map_more numbers_in [] h.ops op;
      cells_are = c ∙ ap (λ (cs : List Cell). cs ++ cells_in op) h.cells_are ∙ flat_map_more cells_in [] h.ops op;
      few_cells = few;
    }

pub ops-more : (steps : List Step) (numbers : List ℕ) (cells : List Cell) (h : ArePackedOps steps numbers cells) (now : List Op) → ops_of steps numbers cells ≡ now
    → (op : Op) (steps' : List Step) (numbers' : List ℕ) (cells' : List Cell) → steps' ≡ steps ++ step_of op ∷ [] → numbers' ≡ numbers ++ numbers_in op → cells' ≡ cells ++ cells_in op → length cells' < 2 ^ 64
    → ops_of steps' numbers' cells' ≡ now ++ op ∷ []
unfolding ArePackedOps-more
ops-more steps numbers cells h now view op steps' numbers' cells' s n c few =
    ops-are steps' numbers' cells' (ArePackedOps-more steps numbers cells h op steps' numbers' cells' s n c few)
    ∙ ap (λ (ops : List Op). ops ++ op ∷ []) (sym (ops-are steps numbers cells h) ∙ view)

-- ---- a part of lists that stand one after another
module _ {X A : Type 0} (f : X → List A) (xs : List X) (k : ℕ) (x : X) (l : k < length xs) (e : get_or xs k x ≡ x) where
  parts : xs ≡ take k xs ++ x ∷ drop (k + 1) xs
  parts = sym (take-append-drop k xs) ∙ ap (λ (ys : List X). take k xs ++ ys) (drop_more xs k x l ∙ ap (λ (y : X). y ∷ drop (k + 1) xs) e)

  joined : flat_map f xs ≡ flat_map f (take k xs) ++ (f x ++ flat_map f (drop (k + 1) xs))
  joined = ap (flat_map f) parts ∙ flat_map-append f (take k xs) (x ∷ drop (k + 1) xs)

  before-more : length (flat_map f (take (k + 1) xs)) ≡ length (flat_map f (take k xs)) + length (f x)
  before-more =
      ap (λ (ys : List X). length (flat_map f ys)) (take_more xs k x l ∙ ap (λ (y : X). take k xs ++ y ∷ []) e)
      ∙ ap length (sym (flat_map_more f [] (take k xs) x))
      ∙ length-append (flat_map f (take k xs)) (f x)

  before-fits : length (flat_map f (take k xs)) + length (f x) ≤ length (flat_map f xs)
  before-fits =
      let a = ap length joined in
      let b = length-append (flat_map f (take k xs)) (f x ++ flat_map f (drop (k + 1) xs)) in
      let c = length-append (f x) (flat_map f (drop (k + 1) xs)) in
      omega arith

  part-is : take (length (f x)) (drop (length (flat_map f (take k xs))) (flat_map f xs)) ≡ f x
  part-is =
      ap (λ (ys : List A). take (length (f x)) (drop (length (flat_map f (take k xs))) ys)) joined
      ∙ ap (take (length (f x))) (drop_at (flat_map f (take k xs)) (f x ++ flat_map f (drop (k + 1) xs)) (length (flat_map f (take k xs))) refl)
      ∙ take_at (f x) (flat_map f (drop (k + 1) xs)) (length (f x)) refl

-- ---- steps
numbers-count : (op : Op) → length (numbers_in op) ≡ step_numbers (step_of op)
numbers-count (Insert row) = refl
numbers-count (Delete number) = refl
numbers-count (Update number row) = refl

cells-count : (op : Op) → length (cells_in op) ≡ step_cells (step_of op)
cells-count (Insert row) = refl
cells-count (Delete number) = refl
cells-count (Update number row) = refl

abbrev kind : Step → ℕ
kind (step.Insert width) = 0
kind step.Delete = 1
kind (step.Update width) = 2

-- the operation at a place of which the step is known
abbrev pub at : List Op → ℕ → Op
at now k = get_or now k (Delete 0)

at-self : (now : List Op) (k : ℕ) → k < length now → get_or now k (at now k) ≡ at now k
at-self now k l = get_or_default now k (at now k) (Delete 0) l

pub step-at : (steps : List Step) (now : List Op) (k : ℕ) (s : Step) → steps ≡ map step_of now → k < length now → s ≡ get_or steps k s → s ≡ step_of (at now k)
step-at steps now k s e l i = i ∙ ap (λ (ss : List Step). get_or ss k s) e ∙ get_or-map step_of now k (Delete 0) s l

-- ---- a place between operations
module _ (now : List Op) (k : ℕ) (l : k < length now) (s : Step) (e : s ≡ step_of (at now k)) where
  pub numbers-next : length (numbers_of (take (k + 1) now)) ≡ length (numbers_of (take k now)) + step_numbers s
  unfolding numbers_of
  numbers-next =
      before-more numbers_in now k (at now k) l (at-self now k l)
      ∙ ap (λ (n : ℕ). length (flat_map numbers_in (take k now)) + n) (numbers-count (at now k) ∙ ap step_numbers (sym e))

  pub cells-next : length (cells_of (take (k + 1) now)) ≡ length (cells_of (take k now)) + step_cells s
  unfolding cells_of
  cells-next =
      before-more cells_in now k (at now k) l (at-self now k l)
      ∙ ap (λ (n : ℕ). length (flat_map cells_in (take k now)) + n) (cells-count (at now k) ∙ ap step_cells (sym e))

  pub numbers-fit : length (numbers_of (take k now)) + step_numbers s ≤ length (numbers_of now)
  unfolding numbers_of
  numbers-fit =
      let a = before-fits numbers_in now k (at now k) l (at-self now k l) in
      let b = numbers-count (at now k) ∙ ap step_numbers (sym e) in
      omega arith

  pub cells-fit : length (cells_of (take k now)) + step_cells s ≤ length (cells_of now)
  unfolding cells_of
  cells-fit =
      let a = before-fits cells_in now k (at now k) l (at-self now k l) in
      let b = cells-count (at now k) ∙ ap step_cells (sym e) in
      omega arith

pub IsCursor-start : (ops : List Op) → IsCursor ops (record { op = 0; number = 0; cell = 0 })
unfolding numbers_of cells_of
IsCursor-start ops = record { within = omega arith; number = refl; cell = refl }

pub IsCursor-end : (now : List Op) (op number cell : ℕ) → op ≡ length now → number ≡ length (numbers_of now) → cell ≡ length (cells_of now) → IsCursor now (record { op = op; number = number; cell = cell })
IsCursor-end now op number cell e f g =
    let all : take op now ≡ now = take_all op now (omega arith) in record {
      within = omega arith;
      number = f ∙ ap (λ (ops : List Op). length (numbers_of ops)) (sym all);
      cell = g ∙ ap (λ (ops : List Op). length (cells_of ops)) (sym all);
    }

pub IsCursor-next : (now : List Op) (cursor : Cursor) (s : Step) (n c : ℕ) → IsCursor now cursor → cursor.op < length now → s ≡ step_of (at now cursor.op) → n ≡ step_numbers s → c ≡ step_cells s
    → IsCursor now (record { op = cursor.op + 1; number = cursor.number + n; cell = cursor.cell + c })
IsCursor-next now cursor s n c is l e f g = record {
  within = omega arith;
  number = let a = numbers-next now cursor.op l s e in let b = is.number in omega arith;
  cell = let a = cells-next now cursor.op l s e in let b = is.cell in omega arith;
}

-- the numbers and the cells of the operation before a place
pub before-are : (now : List Op) (cursor : Cursor) (s : Step) → IsCursor now cursor → 0 < cursor.op → s ≡ step_of (at now (cursor.op - 1))
    → (cursor.number ≡ length (numbers_of (take (cursor.op - 1) now)) + step_numbers s) × (cursor.cell ≡ length (cells_of (take (cursor.op - 1) now)) + step_cells s)
before-are now cursor s is l e =
    let w = is.within in
    let k : cursor.op ≡ cursor.op - 1 + 1 = omega arith in (
      is.number ∙ ap (λ (i : ℕ). length (numbers_of (take i now))) k ∙ numbers-next now (cursor.op - 1) (omega arith) s e,
      is.cell ∙ ap (λ (i : ℕ). length (cells_of (take i now))) k ∙ cells-next now (cursor.op - 1) (omega arith) s e,
    )

pub IsCursor-previous : (now : List Op) (cursor : Cursor) (s : Step) (n c : ℕ) → IsCursor now cursor → 0 < cursor.op → s ≡ step_of (at now (cursor.op - 1)) → n ≡ step_numbers s → c ≡ step_cells s
    → IsCursor now (record { op = cursor.op - 1; number = cursor.number - n; cell = cursor.cell - c })
IsCursor-previous now cursor s n c is l e f g =
    let b = before-are now cursor s is l e in
    let w = is.within in
    let x = b.0 in let y = b.1 in record { within = omega arith; number = omega arith; cell = omega arith }

-- ---- the operation at a place
module _ (now : List Op) (k : ℕ) (l : k < length now) where
  cells-part : take (length (cells_in (at now k))) (drop (length (cells_of (take k now))) (cells_of now)) ≡ cells_in (at now k)
  unfolding cells_of
  cells-part = part-is cells_in now k (at now k) l (at-self now k l)

  numbers-part : (d : ℕ) → 0 < length (numbers_in (at now k)) → get_or (numbers_of now) (length (numbers_of (take k now))) d ≡ get_or (numbers_in (at now k)) 0 d
  unfolding numbers_of
  numbers-part d m =
      ap (λ (i : ℕ). get_or (flat_map numbers_in now) i d) (let e : length (flat_map numbers_in (take k now)) ≡ length (flat_map numbers_in (take k now)) + 0 = omega arith in e)
      ∙ get_or-flat_map numbers_in now k 0 (Delete 0) d l m

insert-at : (op : Op) (width first : ℕ) (cells : List Cell) → step.Insert width ≡ step_of op → take (length (cells_in op)) (drop first cells) ≡ cells_in op → Insert (take width (drop first cells)) ≡ op
insert-at (Insert row) width first cells e p = ap Insert (ap (λ (n : ℕ). take n (drop first cells)) (ap step_cells e) ∙ p)
insert-at (Delete number) width first cells e p = let k = ap kind e in absurd (omega arith)
insert-at (Update number row) width first cells e p = let k = ap kind e in absurd (omega arith)

delete-at : (op : Op) (number : ℕ) → step.Delete ≡ step_of op → (0 < length (numbers_in op) → number ≡ get_or (numbers_in op) 0 number) → Delete number ≡ op
delete-at (Insert row) number e p = let k = ap kind e in absurd (omega arith)
delete-at (Delete gone) number e p = ap Delete (p (omega arith))
delete-at (Update gone row) number e p = let k = ap kind e in absurd (omega arith)

update-at : (op : Op) (number width first : ℕ) (cells : List Cell) → step.Update width ≡ step_of op → (0 < length (numbers_in op) → number ≡ get_or (numbers_in op) 0 number)
    → take (length (cells_in op)) (drop first cells) ≡ cells_in op → Update number (take width (drop first cells)) ≡ op
update-at (Insert row) number width first cells e p q = let k = ap kind e in absurd (omega arith)
update-at (Delete gone) number width first cells e p q = let k = ap kind e in absurd (omega arith)
update-at (Update gone row) number width first cells e p q =
    ap₂ (λ (n : ℕ) (r : Row). Update n r) (p (omega arith)) (ap (λ (n : ℕ). take n (drop first cells)) (ap step_cells e) ∙ q)

module _ (now : List Op) (cursor : Cursor) (is : IsCursor now cursor) (l : cursor.op < length now) (d : Op) where
  op-is : at now cursor.op ≡ get_or now cursor.op d
  op-is = get_or_default now cursor.op (Delete 0) d l

  held : take (length (cells_in (at now cursor.op))) (drop cursor.cell (cells_of now)) ≡ cells_in (at now cursor.op)
  held = ap (λ (i : ℕ). take (length (cells_in (at now cursor.op))) (drop i (cells_of now))) is.cell ∙ cells-part now cursor.op l

  numbered : (numbers : List ℕ) (number : ℕ) → numbers ≡ numbers_of now → number ≡ get_or numbers cursor.number number → 0 < length (numbers_in (at now cursor.op)) → number ≡ get_or (numbers_in (at now cursor.op)) 0 number
  numbered numbers number e i m = i ∙ ap₂ (λ (ns : List ℕ) (j : ℕ). get_or ns j number) e is.number ∙ numbers-part now cursor.op l number m

  pub inserts : (width : ℕ) → step.Insert width ≡ step_of (at now cursor.op) → Insert (take width (drop cursor.cell (cells_of now))) ≡ get_or now cursor.op d
  inserts width e = insert-at (at now cursor.op) width cursor.cell (cells_of now) e held ∙ op-is

  pub deletes : (numbers : List ℕ) (number : ℕ) → step.Delete ≡ step_of (at now cursor.op) → numbers ≡ numbers_of now → number ≡ get_or numbers cursor.number number → Delete number ≡ get_or now cursor.op d
  deletes numbers number e f i = delete-at (at now cursor.op) number e (numbered numbers number f i) ∙ op-is

  pub updates : (numbers : List ℕ) (number width : ℕ) → step.Update width ≡ step_of (at now cursor.op) → numbers ≡ numbers_of now → number ≡ get_or numbers cursor.number number
      → Update number (take width (drop cursor.cell (cells_of now))) ≡ get_or now cursor.op d
  updates numbers number width e f i = update-at (at now cursor.op) number width cursor.cell (cells_of now) e (numbered numbers number f i) held ∙ op-is

-- ---- the cells of a row at a place
pub row-within : (cells : List Cell) (first width column : ℕ) → column < length (take width (drop first cells)) → first + column < length cells
row-within cells first width column l =
    let a = length-take width (drop first cells) in
    let b = length-drop first cells in
    omega arith

pub row-cell : (cells : List Cell) (first width column : ℕ) (d : Cell) → column < length (take width (drop first cells)) → get_or cells (first + column) d ≡ get_or (take width (drop first cells)) column d
row-cell cells first width column d l =
    let a = length-take width (drop first cells) in
    sym (get_or-take width (drop first cells) column d (omega arith) ∙ get_or-drop first cells column d)
