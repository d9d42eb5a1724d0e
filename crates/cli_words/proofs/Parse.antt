-- What a parse of the words says of the command that they are.
use Rattle.std.proofs.Common.{◌≡◌, ◌∙◌, ◌⊎◌, inl, inr, cond, true, false, refl, sym, ap, subst, List, [], ◌∷◌, drop, length, arith, Option, Some, None}
use Rattle.std.proofs.lemmas.Bool.{ne_eqb}
use Rattle.std.specs.Prelude.{option_map, option_and_then, is_some, Box}
use Rattle.std.specs.Box.{box_value}
use Rattle.std.specs.Borrow.{Bor}
use Rattle.clap.specs.Matches.{found_of, subcommand_name_of}
use Rattle.clap.specs.Walk.{Row, Text, is_empty, nothing_held, rows_of, stop_after}
use Rattle.clap.specs.Simple.{App, built, is_simple, names_of, subcommand_of, subcommand_rows, subcommand_rows_of}
use Rattle.clap.specs.Kinds.{IsAmong, Kinds}
use Rattle.clap.specs.Faults.{fault_of, is_simple_and_free, level_fault}
use Rattle.clap.specs.declared.parser.matches.ArgMatches.{ArgMatches}
use Rattle.clap.specs.declared.parser.matches.ArgMatches.TheViews.{out-ArgMatches, out-SubCommand}
use Rattle.clap.specs.declared.parser.matches.SubCommand.{SubCommand}
use Rattle.clap.specs.declared.error.kind.ErrorKind.{ErrorKind}
use Rattle.clap.specs.declared.error.kind.ErrorKind.TheVariants.{OutOfMemory}
use Rattle.cli_words.specs.declared.request.Request.{Request}
use Rattle.cli_words.specs.Words.{IsTheApp, app_with, behind, the_app}
use Rattle.cli_words.specs.Command.{command, request_of}
use Rattle.cli_words.proofs.Bare.{bare_words, entered-bare, entered_fault-bare}

-- ---- the command, wherever the words of its options stand
module _ (profile_names session_names : Bor (List (Bor Text))) where
  simple_with : is_simple (app_with profile_names session_names) ≡ true
  simple_with = refl

  free_with : is_simple_and_free (app_with profile_names session_names) ≡ true
  free_with = refl

  fault_bare : (words : List Text) → fault_of (app_with (bare_words profile_names) (bare_words session_names)) words ≡ fault_of (app_with profile_names session_names) words
  fault_bare words =
      let b = built (app_with profile_names session_names) in
      let stop = stop_after b.top.rules (names_of b) (drop 1 words) in
      λ i. level_fault b.top (names_of b) nothing_held (drop 1 words) (is_some (entered-bare b.subs stop i)) (entered_fault-bare b.subs stop i)

  subcommand_bare : (words : List Text) → subcommand_of (app_with (bare_words profile_names) (bare_words session_names)) words ≡ subcommand_of (app_with profile_names session_names) words
  subcommand_bare words =
      let b = built (app_with profile_names session_names) in
      entered-bare b.subs (stop_after b.top.rules (names_of b) (drop 1 words))

pub is_simple-app : (a : App) → IsTheApp a → is_simple a ≡ true
is_simple-app a is = ap is_simple is.app ∙ simple_with is.profile_names is.session_names

pub is_free-app : (a : App) → IsTheApp a → is_simple_and_free a ≡ true
is_free-app a is = ap is_simple_and_free is.app ∙ free_with is.profile_names is.session_names

pub fault_of-app : (a : App) (words : List Text) → IsTheApp a → fault_of a words ≡ fault_of the_app words
fault_of-app a words is =
    ap (λ (x : App). fault_of x words) is.app ∙ sym (fault_bare is.profile_names is.session_names words)
    ∙ (λ i. fault_of (app_with (behind (is.profile_words i)) (behind (is.session_words i))) words)

pub subcommand_of-app : (a : App) (words : List Text) → IsTheApp a → subcommand_of a words ≡ subcommand_of the_app words
subcommand_of-app a words is =
    ap (λ (x : App). subcommand_of x words) is.app ∙ sym (subcommand_bare is.profile_names is.session_names words)
    ∙ (λ i. subcommand_of (app_with (behind (is.profile_words i)) (behind (is.session_words i))) words)

-- ---- what the words are
command-found : (words : List Text) (o : Option (Text × List Row)) (r : Option Request) → fault_of the_app words ≡ [] → subcommand_of the_app words ≡ o → option_and_then request_of o ≡ r
    → command words ≡ r
unfolding command
command-found words o r none met is =
    ap (λ (ks : Kinds). cond (is_empty ks) (option_and_then request_of (subcommand_of the_app words)) None) none ∙ ap (option_and_then request_of) met ∙ is

command-fault : (words : List Text) (k : ErrorKind) → IsAmong k (fault_of the_app words) → command words ≡ None
unfolding command
command-fault words k among = go (fault_of the_app words) among
  where
    go : (ks : Kinds) → IsAmong k ks → cond (is_empty ks) (option_and_then request_of (subcommand_of the_app words)) None ≡ None
    go [] h = absurd h
    go (x ∷ ks) h =
        let some : is_empty (x ∷ ks) ≡ false = ne_eqb (length (x ∷ ks)) 0 (λ e. omega arith) in
        rw some refl

module _ {Z : Type 0} where
  abbrev name_in : Option (Box SubCommand Z) → Option Text
  name_in = option_map (λ b. (out-SubCommand (box_value b)).name.now)

  request_here : (x : Option (Box SubCommand Z)) (name : Text) (rows : List Row) → name_in x ≡ Some name → option_map (λ p. p.1) (subcommand_rows x) ≡ Some rows
      → option_and_then request_of (subcommand_rows x) ≡ request_of (name, rows)
  request_here None name rows named found = cc
  request_here (Some b) name rows named found =
      let is : (out-SubCommand (box_value b)).name.now ≡ name = cc in
      let same : rows_of (found_of (out-SubCommand (box_value b)).matches) ≡ rows = cc in
      λ i. request_of (is i, same i)

module _ (a : App) (words : List Text) (m : ArgMatches) (is : IsTheApp a) (none : fault_of a words ≡ []) (met : subcommand_rows_of m ≡ subcommand_of a words) where
  -- a parse that entered a subcommand
  pub command-named : (name : Text) (rows : List Row) → subcommand_name_of m ≡ Some name → option_map (λ p. p.1) (subcommand_rows (out-ArgMatches m).subcommand) ≡ Some rows
      → request_of (name, rows) ≡ command words
  command-named name rows named found =
      sym (command-found words (subcommand_rows_of m) (request_of (name, rows)) (sym (fault_of-app a words is) ∙ none) (sym (subcommand_of-app a words is) ∙ sym met)
      (request_here (out-ArgMatches m).subcommand name rows named found))

-- a parse that failed, and not for memory
pub command-none : (a : App) (words : List Text) (k : ErrorKind) → IsTheApp a → (k ≡ OutOfMemory) ⊎ IsAmong k (fault_of a words) → (k ≡ OutOfMemory → ⊥) → None ≡ command words
command-none a words k is (inl memory) other = absurd (other memory)
command-none a words k is (inr among) other = sym (command-fault words k (subst (IsAmong k) (fault_of-app a words is) among))
