use Rattle.std.proofs.Common.{ap, ◌∙◌, sym}
use Rattle.column_dict.specs.Text.{bytes_of}
use Rattle.column_dict.proofs.text.Text.bytes.Goals as goal

pub returns-in-Short : goal.returns-in-Short
returns-in-Short c = sym (ap bytes_of c.in-Short.is) ∙ c.self.view_is

pub returns-in-Long : goal.returns-in-Long
returns-in-Long c = c.as_slice.ensures.value ∙ ap (λ v. v.items) c.deref-in-Long.ensures ∙ sym (ap bytes_of c.in-Long.is) ∙ c.self.view_is
