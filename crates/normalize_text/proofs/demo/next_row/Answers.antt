use Rattle.std.proofs.Common.{◌≡◌, ◌∙◌, ◌++◌, ◌∷◌, ◌+◌, ◌*◌, ◌%◌, ℕ, List, [], map, ap}
use Rattle.std.specs.Prelude.{decimal}
use Rattle.normalize_text.specs.Demo.{drawn, drawn_row, next_state, row_from, state_after}
use Rattle.task_base.proofs.Facts.{IfOk-map}
use Rattle.normalize_text.proofs.demo.next_row.Goals as goal

pub returns-clause-state : goal.returns-clause-state
unfolding state_after
returns-clause-state c =
    c.draw.ensures.state ∙ ap next_state (c.draw-f.ensures.state ∙ ap next_state (c.draw-e.ensures.state ∙ ap next_state (c.draw-d.ensures.state ∙ ap next_state (c.draw-c.ensures.state ∙ ap next_state c.draw-b.ensures.state))))

pub returns-clause-row : goal.returns-clause-row
unfolding row_from drawn_row state_after
returns-clause-row c =
    let s : ℕ = c.args.generator.now.state in
    let s1 : c.draw-b.new.self.state ≡ state_after s 1 = c.draw-b.ensures.state in
    let s2 : c.draw-c.new.self.state ≡ state_after s 2 = c.draw-c.ensures.state ∙ ap next_state s1 in
    let s3 : c.draw-d.new.self.state ≡ state_after s 3 = c.draw-d.ensures.state ∙ ap next_state s2 in
    let s4 : c.draw-e.new.self.state ≡ state_after s 4 = c.draw-e.ensures.state ∙ ap next_state s3 in
    let s5 : c.draw-f.new.self.state ≡ state_after s 5 = c.draw-f.ensures.state ∙ ap next_state s4 in
    let s6 : c.draw.new.self.state ≡ state_after s 6 = c.draw.ensures.state ∙ ap next_state s5 in
    let d1 : c.draw-b.result ≡ drawn (state_after s 1) = c.draw-b.ensures.value ∙ ap drawn s1 in
    let d2 : c.draw-c.result ≡ drawn (state_after s 2) = c.draw-c.ensures.value ∙ ap drawn s2 in
    let d3 : c.draw-d.result ≡ drawn (state_after s 3) = c.draw-d.ensures.value ∙ ap drawn s3 in
    let d4 : c.draw-e.result ≡ drawn (state_after s 4) = c.draw-e.ensures.value ∙ ap drawn s4 in
    let d5 : c.draw-f.result ≡ drawn (state_after s 5) = c.draw-f.ensures.value ∙ ap drawn s5 in
    let d6 : c.draw.result ≡ drawn (state_after s 6) = c.draw.ensures.value ∙ ap drawn s6 in
    let numbers = λ (last : List ℕ). map decimal (c.args.number ∷ c.draw-b.result % 10 ∷ c.draw-c.result % 20 ∷ c.draw-d.result % 50 ∷ c.draw-e.result % 100 ∷ c.draw-f.result % 1000
    ∷ (7 * (c.draw-b.result % 10) + 3) % 10 ∷ (c.draw-c.result % 20 + c.draw-d.result % 50) % 13 ∷ 0 ∷ c.draw-f.result % 1000 % 25 ∷ 3 * (c.draw-e.result % 100) ∷ []) ++ last ∷ [] in
    IfOk-map c.row_of.result
    (λ row e. e ∙ ap numbers c.last_cell-last.ensures ∙ (λ i. drawn_row c.args.number (d1 i) (d2 i) (d3 i) (d4 i) (d5 i) (d6 i))) c.row_of.ensures
