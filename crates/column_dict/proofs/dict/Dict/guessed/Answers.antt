use Rattle.std.proofs.Common.{◌≡◌, false, Some, ap, ◌∙◌, subst, refl}
use Rattle.column_dict.specs.Coding.{Coding, is_fresh}
use Rattle.column_dict.proofs.Coded.{known-cell}
use Rattle.column_dict.proofs.dict.Dict.guessed.Goals as goal

pub returns-then-is_known_as-clause-old : goal.returns-then-is_known_as-clause-old
returns-then-is_known_as-clause-old c =
    known-cell c.args.self.now c.args.bytes.now c.in_ok-code.code
    (subst (λ (d : Coding). is_fresh d.nulls c.args.bytes.now ≡ false) c.self.view_is (c.if-is_known_as.ensures.old refl))
    (c.cell.ensures ∙ ap Some (c.if-is_known_as.ensures.same refl))
