use Rattle.std.proofs.Common.{◌≡◌, ◌++◌, take}
use Rattle.std.specs.List.{flat_map}
use Rattle.synth_text.specs.Synthesize.{reference_line_of}
use Rattle.synth_text.proofs.synthesizing.push_references.Given as goal

abbrev pub invariant-loop-reference : goal.invariant-loop-reference
invariant-loop-reference l = l.lines ≡ l.fn.lines ++ flat_map reference_line_of (take l.reference-index l.references)
