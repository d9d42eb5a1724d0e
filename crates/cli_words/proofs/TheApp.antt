-- What is known of the command that the words are read by.
use Rattle.std.proofs.Common.{◌≡◌, ◌∙◌, Bool, true, false, not, ◌&&◌, refl, ap, ap₂}
use Rattle.std.specs.Prelude.{is_some}
use Rattle.std.proofs.lemmas.Bool.{false≢true}
use Rattle.clap.specs.Walk.{Rule, is_empty, rule_of}
use Rattle.clap.specs.Simple.{App, app_of, with_rule}
use Rattle.clap.specs.Built.{AddsArg}
use Rattle.clap.specs.declared.builder.arg.Arg.{Arg}
use Rattle.clap.specs.declared.builder.command.Command.{Command}
use Rattle.clap.specs.declared.builder.command.Command.TheViews.{out-Command}
use Rattle.clap.proofs.WalkLemmas.{both}

not_true : (b : Bool) → not b ≡ true → b ≡ false
not_true true e = absurd (false≢true e)
not_true false e = refl

-- the last of ten tests, and the third of three
tenth : (a b c d e f g h i j : Bool) → (a && (b && (c && (d && (e && (f && (g && (h && (i && j))))))))) ≡ true → j ≡ true
tenth a b c d e f g h i j all =
    (both i j (both h (i && j) (both g (h && (i && j)) (both f (g && (h && (i && j))) (both e (f && (g && (h && (i && j))))
    (both d (e && (f && (g && (h && (i && j))))) (both c (d && (e && (f && (g && (h && (i && j))))))
    (both b (c && (d && (e && (f && (g && (h && (i && j))))))) (both a (b && (c && (d && (e && (f && (g && (h && (i && j)))))))) all).1).1).1).1).1).1).1).1).1

third : (a b c d : Bool) → (a && (b && (c && d))) ≡ true → c ≡ true
third a b c d all = (both c d (both b (c && d) (both a (b && (c && d)) all).1).1).0

-- a simple argument is not global
pub local_arg : (a : Arg) (r : Rule) → rule_of a ≡ r → r.is_simple ≡ true → a.global ≡ false
local_arg a r is simple =
    not_true a.global (tenth (is_empty a.overrides.items) (is_empty a.default_vals_ifs.items) (is_empty a.groups.items) (not (is_some a.val_delim)) (not (is_some a.terminator))
    (not a.allow_hyphen_values) (not a.allow_negative_numbers) (not a.require_equals) (not a.last) (not a.global)
    (ap (λ (x : Rule). x.is_simple) is ∙ simple))

-- a plain command has no global argument
pub local_command : (c : Command) (a : App) → app_of c ≡ a → a.top.is_plain ≡ true → (out-Command c).has_globals ≡ false
local_command c a is plain =
    let f = out-Command c in
    let more = not f.infer_long_args && (not f.allow_missing_positional && (not f.infer_subcommands && (not f.args_conflicts_with_subcommands && (not f.subcommand_precedence_over_arg
    && (not (is_some f.long_flag) && (not (is_some f.short_flag) && (is_empty f.long_flag_aliases.items && is_empty f.short_flag_aliases.items))))))) in
    not_true f.has_globals (third (is_empty f.groups.items) (not f.allow_external_subcommands) (not f.has_globals) more (ap (λ (x : App). x.top.is_plain) is ∙ plain))

-- a command with one more argument
pub with_arg : (old : Command) (a : Arg) (new : Command) (app : App) (rule : Rule) → AddsArg old a new → app_of old ≡ app → rule_of a ≡ rule → rule.is_simple ≡ true → app_of new ≡ with_rule app rule
with_arg old a new app rule adds is same simple = adds.shape (local_arg a rule same simple) ∙ ap₂ with_rule is same
