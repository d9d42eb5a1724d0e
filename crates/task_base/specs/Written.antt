-- What a run writes.
use Rattle.std.specs.Prelude.{ℕ, List, []}
use Rattle.ports.specs.Lists.{File}

-- Files in this order, each with its name and its bytes, and then a text.
pub record Written : Type 0 where
  pub files : List File
  pub text : List ℕ

-- a text, and no file
abbrev pub text_alone : List ℕ → Written
text_alone text = record { files = []; text = text }
