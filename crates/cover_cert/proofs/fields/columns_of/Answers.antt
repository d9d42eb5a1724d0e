use Rattle.std.proofs.Common.{◌≡◌, ◌∙◌, ◌+◌, ◌∷◌, ℕ, List, Some, ap, ap₂, sym, subst, take, drop, length, arith, option_map}
use Rattle.std.proofs.lemmas.Bool.{eqb-true, eqb-false}
use Rattle.col_set.specs.ColSet.{with, union, set_of}
use Rattle.rel_base.specs.Cells.{Cell}
use Rattle.cover_cert.specs.Fields.{words, words_after, ascending}
use Rattle.cover_cert.proofs.Words.{ColumnsFrom, columns-start, columns-none, no_column, falls, taken, ended, after-none, after-some}
use Rattle.cover_cert.proofs.fields.columns_of.Goals as goal

-- the first word of what is left, and what stands behind it
parted : (rest front back : Cell) (n : ℕ) → words rest ≡ take n rest ∷ words_after (drop n rest) → front ≡ take n rest → back ≡ drop n rest → words rest ≡ front ∷ words_after back
parted rest front back n e f b = e ∙ ap₂ (λ (w t : Cell). w ∷ words_after t) (sym f) (sym b)

pub returns-then-is_empty : goal.returns-then-is_empty
returns-then-is_empty c = columns-none c.args.field.now c.empty-columns.result (eqb-true (length c.args.field.now) 0 (sym c.is_empty.ensures ∙ c.if-is_empty.true)) c.empty-columns.ensures

pub words-init : goal.words-init
words-init c = columns-start c.args.field.now c.empty-columns.result (eqb-false (length c.args.field.now) 0 (sym c.is_empty.ensures ∙ c.if-is_empty.false)) c.empty-columns.ensures

pub returns-in_default : goal.returns-in_default
returns-in_default c =
    let rest = c.words.rest.now in let word = c.split_at.result.0.now in let behind = c.split_at.result.1.now in
    let is = parted rest word behind c.end_of_word.result c.end_of_word.ensures.words c.split_at.ensures.front c.split_at.ensures.back in
    no_column c.args.field.now c.words.columns c.words.least rest word (words_after behind) c.words.invariant is (sym c.column_of.ensures.value ∙ c.in_default.is)

pub returns-then-column-least : goal.returns-then-column-least
returns-then-column-least c =
    let rest = c.words.rest.now in let word = c.split_at.result.0.now in let behind = c.split_at.result.1.now in
    let is = parted rest word behind c.end_of_word.result c.end_of_word.ensures.words c.split_at.ensures.front c.split_at.ensures.back in
    falls c.args.field.now c.words.columns c.words.least rest word (words_after behind) c.words.invariant is c.in-Some.column (sym c.column_of.ensures.value ∙ c.in-Some.is) c.if-column-least.true

pub returns-then-is_empty-2 : goal.returns-then-is_empty-2
returns-then-is_empty-2 c =
    let rest = c.words.rest.now in let word = c.split_at.result.0.now in let behind = c.split_at.result.1.now in
    let is = parted rest word behind c.end_of_word.result c.end_of_word.ensures.words c.split_at.ensures.front c.split_at.ensures.back in
    ap Some c.with-columns.ensures
    ∙ ended c.args.field.now c.words.columns c.words.least rest word (words_after behind) c.words.invariant is c.in-Some.column (sym c.column_of.ensures.value ∙ c.in-Some.is) c.if-column-least.false
    (after-none behind (eqb-true (length behind) 0 (sym c.is_empty-in-words.ensures ∙ c.if-is_empty-2.true)))

pub words-preserved : goal.words-preserved
words-preserved c =
    let rest = c.words.rest.now in let word = c.split_at.result.0.now in let behind = c.split_at.result.1.now in
    let is = parted rest word behind c.end_of_word.result c.end_of_word.ensures.words c.split_at.ensures.front c.split_at.ensures.back in
    let next = c.split_at-in-words.result.1.now in
    let column = c.in-Some.column in
    subst (λ (x : ℕ). ColumnsFrom c.args.field.now x (column + 1) next) (sym c.with-columns.ensures)
    (taken c.args.field.now c.words.columns c.words.least rest word (words_after behind) c.words.invariant is column (sym c.column_of.ensures.value ∙ c.in-Some.is) c.if-column-least.false
    ∙ ap (λ (ws : List Cell). option_map (λ cs. union (with c.words.columns column) (set_of cs)) (ascending (column + 1) ws))
    (after-some behind next (eqb-false (length behind) 0 (sym c.is_empty-in-words.ensures ∙ c.if-is_empty-2.false)) c.split_at-in-words.ensures.back))

pub words-smaller : goal.words-smaller
words-smaller c = let a = c.split_at-in-words.ensures.back_len in let b = c.split_at.ensures.back_len in omega arith
