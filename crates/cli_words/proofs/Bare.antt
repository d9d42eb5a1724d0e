-- A parse reads of an option's words only their texts, and not where these stand in memory.
use Rattle.std.proofs.Common.{◌≡◌, ◌∙◌, ◌&&◌, ◌||◌, ◌==◌, ◌+◌, ℕ, Bool, cond, false, not, zero, suc, refl, sym, ap, List, [], ◌∷◌, map, length, drop, min, Option, Some, None}
use Rattle.std.specs.Prelude.{option_map, option_and_then, slice_get, encode_utf8, find, fold, is_some}
use Rattle.std.specs.Option.{option_map_or}
use Rattle.std.specs.List.{list_any}
use Rattle.std.specs.Borrow.{Bor}
use Rattle.std.specs.Str.{bytes_eq, chars}
use Rattle.clap.specs.Lexer.{long_of, short_of}
use Rattle.clap.specs.Values.{reading_of, refused_kind, same_text}
use Rattle.clap.specs.ValueTests.{accepts}
use Rattle.clap.specs.Matches.{count_text}
use Rattle.clap.specs.Facts.{explicit_source, parser_of_value, unwrap_or_range}
use Rattle.clap.specs.Walk.{Held, Names, Outcome, Row, Rule, Step, Text, Waiting, Walk, action_of, after_flag, after_step, answers_to, arg_by_id, arg_by_index, arg_by_long, arg_by_short, attached_value, bundle, bundle_met, bundle_step, count_of, default_rows, done, finished, flag_met, has_long, has_row, has_short, idle, is_empty, is_multiple, is_pending, long_met, long_or_other, long_word, most_values, next, next_position, nothing_held, option, option_met, option_word, plain, plain_word, positional, pushed, reacted, reading_by, refused, rows_after, settled, settled_rows, short_met, short_or_plain, short_word, subcommand, subcommand_met, subcommand_or_other, takes_several, takes_values, to_positional, trailing, used, used_as, used_by_id, value, values_or_missing, waits, walk, walk_from, walked, walked_from, with_default, word_met}
use Rattle.clap.specs.Simple.{Shape, label_of, rows_at}
use Rattle.clap.specs.Takes.{is_given}
use Rattle.clap.specs.Kinds.{Kinds, check_kinds, or_else, range_kinds, request_kinds, value_kinds, values_kinds}
use Rattle.clap.specs.Faults.{action_fault, bundle_fault, bundle_step_fault, check_fault, count_fault, default_fault, defaults_fault, flag_word_fault, flags_fault, level_fault, long_fault, option_fault, other_fault, positional_fault, react_fault, repeat_fault, set_fault, settle_fault, short_fault, step_fault, stray_fault, turn_fault, use_fault, values_fault, walk_fault}
use Rattle.clap.specs.declared.builder.action.ArgAction.{ArgAction}
use Rattle.clap.specs.declared.builder.action.ArgAction.TheVariants as action
use Rattle.clap.specs.declared.builder.value_parser.ValueParser.{ValueParser}
use Rattle.clap.specs.declared.builder.value_parser.ValueParser.TheVariants as vp
use Rattle.clap.specs.declared.error.kind.ErrorKind.TheVariants as kind
use Rattle.clap.proofs.WalkLemmas.{find-map, list_any-map}
use Rattle.cli_words.specs.Words.{behind}

-- the words of an option, all behind references to one place
abbrev pub bare_words : Bor (List (Bor Text)) → Bor (List (Bor Text))
bare_words names = behind (map (λ name. name.now) names.now)

abbrev pub bare_parser : ValueParser → ValueParser
bare_parser (vp.Names names) = vp.Names (bare_words names)
bare_parser vp.String = vp.String
bare_parser vp.NonEmptyString = vp.NonEmptyString
bare_parser vp.Bool = vp.Bool
bare_parser vp.Boolish = vp.Boolish
bare_parser vp.Falsey = vp.Falsey
bare_parser (vp.Signed low high) = vp.Signed low high
bare_parser (vp.Unsigned low high) = vp.Unsigned low high
bare_parser vp.Float = vp.Float
bare_parser vp.Char = vp.Char
bare_parser (vp.Values values) = vp.Values values

abbrev pub bare : Rule → Rule
bare a = record a { parser = option_map bare_parser a.parser }

abbrev pub bare_shape : Shape → Shape
bare_shape s = record s { rules = map bare s.rules }

-- ---- one value
among : (ignore : Bool) (text : Text) (names : List (Bor Text))
    → list_any (λ name. same_text ignore name.now text) (behind (map (λ name. name.now) names)).now ≡ list_any (λ name. same_text ignore name.now text) names
among ignore text [] = refl
among ignore text (name ∷ names) = ap (λ b. same_text ignore name.now text || b) (among ignore text names)

accepts-bare : (ignore : Bool) (p : ValueParser) (text : Text) → accepts ignore (bare_parser p) text ≡ accepts ignore p text
accepts-bare ignore (vp.Names names) text = among ignore text names.now
accepts-bare ignore vp.String text = refl
accepts-bare ignore vp.NonEmptyString text = refl
accepts-bare ignore vp.Bool text = refl
accepts-bare ignore vp.Boolish text = refl
accepts-bare ignore vp.Falsey text = refl
accepts-bare ignore (vp.Signed low high) text = refl
accepts-bare ignore (vp.Unsigned low high) text = refl
accepts-bare ignore vp.Float text = refl
accepts-bare ignore vp.Char text = refl
accepts-bare ignore (vp.Values values) text = refl

refused_kind-bare : (p : ValueParser) → refused_kind (bare_parser p) ≡ refused_kind p
refused_kind-bare (vp.Names names) = refl
refused_kind-bare vp.String = refl
refused_kind-bare vp.NonEmptyString = refl
refused_kind-bare vp.Bool = refl
refused_kind-bare vp.Boolish = refl
refused_kind-bare vp.Falsey = refl
refused_kind-bare (vp.Signed low high) = refl
refused_kind-bare (vp.Unsigned low high) = refl
refused_kind-bare vp.Float = refl
refused_kind-bare vp.Char = refl
refused_kind-bare (vp.Values values) = refl

reading_of-bare : (p : ValueParser) → reading_of (bare_parser p) ≡ reading_of p
reading_of-bare (vp.Names names) = refl
reading_of-bare vp.String = refl
reading_of-bare vp.NonEmptyString = refl
reading_of-bare vp.Bool = refl
reading_of-bare vp.Boolish = refl
reading_of-bare vp.Falsey = refl
reading_of-bare (vp.Signed low high) = refl
reading_of-bare (vp.Unsigned low high) = refl
reading_of-bare vp.Float = refl
reading_of-bare vp.Char = refl
reading_of-bare (vp.Values values) = refl

value_kinds-bare : (ignore : Bool) (o : Option ValueParser) (text : Text)
    → value_kinds ignore (parser_of_value (option_map bare_parser o)) text ≡ value_kinds ignore (parser_of_value o) text
value_kinds-bare ignore None text = refl
value_kinds-bare ignore (Some p) text = λ i. cond (accepts-bare ignore p text i) [] (refused_kind-bare p i ∷ [])

values_kinds-bare : (ignore : Bool) (o : Option ValueParser) (values : List Text)
    → values_kinds ignore (parser_of_value (option_map bare_parser o)) values ≡ values_kinds ignore (parser_of_value o) values
values_kinds-bare ignore o [] = refl
values_kinds-bare ignore o (v ∷ vs) = λ i. or_else (value_kinds-bare ignore o v i) (values_kinds-bare ignore o vs i)

reading-bare : (o : Option ValueParser) → reading_of (parser_of_value (option_map bare_parser o)) ≡ reading_of (parser_of_value o)
reading-bare None = refl
reading-bare (Some p) = reading_of-bare p

reading_by-bare : (a : Rule) → reading_by (bare a) ≡ reading_by a
reading_by-bare a = reading-bare a.parser

values_fault-bare : (a : Rule) (values : List Text) → values_fault (bare a) values ≡ values_fault a values
values_fault-bare a values = values_kinds-bare a.ignore_case a.parser values

-- ---- one use of an argument
used-bare : (a : Rule) (values : List Text) (rows : List Row) → used (bare a) values rows ≡ used a values rows
used-bare a values rows = λ i. used_as (action_of a) a.id (reading_by-bare a i) (values_or_missing a values) rows

used_by_id-bare : (o : Option Rule) (values : List Text) (rows : List Row) → used_by_id (option_map bare o) values rows ≡ used_by_id o values rows
used_by_id-bare None values rows = refl
used_by_id-bare (Some a) values rows = used-bare a values rows

count_fault-bare : (a : Rule) (values : List Text) (rows : List Row) → count_fault (bare a) values rows ≡ count_fault a values rows
count_fault-bare a [] rows = value_kinds-bare a.ignore_case a.parser (count_text (min (count_of a.id rows + 1) 255))
count_fault-bare a (v ∷ vs) rows = values_fault-bare a (v ∷ vs)

set_fault-bare : (again : Bool) (a : Rule) (values : List Text) (rows : List Row) → set_fault again (bare a) values rows ≡ set_fault again a values rows
set_fault-bare again a values rows = λ i. or_else (repeat_fault again a.id rows) (values_fault-bare a values i)

action_fault-bare : (x : ArgAction) (again : Bool) (a : Rule) (values : List Text) (rows : List Row) → action_fault x again (bare a) values rows ≡ action_fault x again a values rows
action_fault-bare action.Set again a values rows = set_fault-bare again a values rows
action_fault-bare action.SetTrue again a values rows = set_fault-bare again a values rows
action_fault-bare action.SetFalse again a values rows = set_fault-bare again a values rows
action_fault-bare action.Append again a values rows = values_fault-bare a values
action_fault-bare action.Count again a values rows = count_fault-bare a values rows
action_fault-bare action.Help again a values rows = refl
action_fault-bare action.HelpShort again a values rows = refl
action_fault-bare action.HelpLong again a values rows = refl
action_fault-bare action.Version again a values rows = refl

use_fault-bare : (again : Bool) (a : Rule) (values : List Text) (rows : List Row) → use_fault again (bare a) values rows ≡ use_fault again a values rows
use_fault-bare again a values rows =
    λ i. or_else (range_kinds (unwrap_or_range a.range).start_inclusive (most_values a) (length values)) (action_fault-bare (action_of a) again a (values_or_missing a values) rows i)

-- ---- the arguments of a command
module _ (c : List Rule) where
  by_id : (id : Text) → arg_by_id (map bare c) id ≡ option_map bare (arg_by_id c id)
  by_id id = sym (find-map (λ a. bytes_eq a.id id) bare c)

  by_long : (name : Text) → arg_by_long (map bare c) name ≡ option_map bare (arg_by_long c name)
  by_long name = sym (find-map (λ a. not (is_some a.index) && has_long a name) bare c)

  by_short : (x : ℕ) → arg_by_short (map bare c) x ≡ option_map bare (arg_by_short c x)
  by_short x = sym (find-map (λ a. not (is_some a.index) && has_short a x) bare c)

  by_index : (n : ℕ) → arg_by_index (map bare c) n ≡ option_map bare (arg_by_index c n)
  by_index n = sym (find-map (λ a. option_map_or (λ k. k == n) a.index false) bare c)

  settled_rows-bare : (p : Option (Text × List Text)) (rows : List Row) → settled_rows (map bare c) p rows ≡ settled_rows c p rows
  settled_rows-bare None rows = refl
  settled_rows-bare (Some p) rows = ap (λ o. used_by_id o p.1 rows) (by_id p.0) ∙ used_by_id-bare (arg_by_id c p.0) p.1 rows

  settled-bare : (h : Held) → settled (map bare c) h ≡ settled c h
  settled-bare h = λ i. record h { rows = settled_rows-bare h.pending h.rows i; pending = None }

  reacted_rows : (a : Rule) (values : List Text) (h : Held) → used (bare a) values (settled (map bare c) h).rows ≡ used a values (settled c h).rows
  reacted_rows a values h = used-bare a values (settled (map bare c) h).rows ∙ ap (λ (k : Held). used a values k.rows) (settled-bare h)

  reacted-bare : (a : Rule) (values : List Text) (h : Held) → reacted (map bare c) (bare a) values h ≡ reacted c a values h
  reacted-bare a values h = λ i. record h { rows = reacted_rows a values h i; pending = None }

  option_met-bare : (a : Rule) (v : Option Text) (h : Held) → option_met (map bare c) (bare a) v h ≡ option_met c a v h
  option_met-bare a (Some v) h = λ i. (reacted-bare a (v ∷ []) h i, done)
  option_met-bare a None h = λ i. (record (settled-bare h i) { pending = Some (a.id, []) }, waits a.id)

  flag_met-bare : (a : Rule) (v : Option Text) (h : Held) → flag_met (map bare c) (bare a) v h ≡ flag_met c a v h
  flag_met-bare a (Some v) h = refl
  flag_met-bare a None h = λ i. (reacted-bare a [] h i, done)

  long_met-bare : (o : Option Rule) (v : Option Text) (h : Held) → long_met (map bare c) (option_map bare o) v h ≡ long_met c o v h
  long_met-bare None v h = refl
  long_met-bare (Some a) v h = λ i. cond (takes_values a) (option_met-bare a v h i) (flag_met-bare a v h i)

  short_met-bare : (o : Option Rule) (rest : Text) (h : Held) (f g : Held → Held × Outcome) → ((k : Held) → f k ≡ g k) → short_met (map bare c) (option_map bare o) rest h f ≡ short_met c o rest h g
  short_met-bare None rest h f g same = refl
  short_met-bare (Some a) rest h f g same =
      λ i. cond (takes_values a) (option_met-bare a (attached_value rest) h i) ((same (reacted (map bare c) (bare a) [] h) ∙ ap g (reacted-bare a [] h)) i)

  bundle_step-bare : (o : Option ℕ) (flags : Text) (skip : ℕ) (so_far : Outcome) (h : Held) (f g : Text → ℕ → Outcome → Held → Held × Outcome)
      → ((t : Text) (n : ℕ) (r : Outcome) (k : Held) → f t n r k ≡ g t n r k) → bundle_step (map bare c) o flags skip so_far h f ≡ bundle_step c o flags skip so_far h g
  bundle_step-bare None flags skip so_far h f g same = refl
  bundle_step-bare (Some x) flags zero so_far h f g same =
      let rest = drop (length (encode_utf8 x)) flags in
      ap (λ o. short_met (map bare c) o rest h (f rest 0 done)) (by_short x) ∙ short_met-bare (arg_by_short c x) rest h (f rest 0 done) (g rest 0 done) (same rest 0 done)
  bundle_step-bare (Some x) flags (suc skip) so_far h f g same = same (drop (length (encode_utf8 x)) flags) skip so_far h

  bundle_met-bare : (k : ℕ) (flags : Text) (skip : ℕ) (so_far : Outcome) (h : Held) → bundle_met (map bare c) k flags skip so_far h ≡ bundle_met c k flags skip so_far h
  unfolding bundle_met
  bundle_met-bare zero flags skip so_far h = refl
  bundle_met-bare (suc k) flags skip so_far h = bundle_step-bare (slice_get (chars flags) 0) flags skip so_far h (bundle_met (map bare c) k) (bundle_met c k) (bundle_met-bare k)

  -- ---- one word
  option_word-bare : (o : Option Rule) (id word : Text) (h : Held) → option_word (option_map bare o) id word h ≡ option_word o id word h
  option_word-bare None id word h = refl
  option_word-bare (Some a) id word h = refl

  plain_word-bare : (waiting : Waiting) (word : Text) (h : Held) → plain_word (map bare c) waiting word h ≡ plain_word c waiting word h
  plain_word-bare idle word h = refl
  plain_word-bare (option id) word h =
      ap (λ (w : Held × Waiting). (w.0, next w.1)) (ap (λ o. option_word o id word h) (by_id id) ∙ option_word-bare (arg_by_id c id) id word h)
  plain_word-bare positional word h = refl

  after_flag-bare : (waiting : Waiting) (word : Text) (h : Held) (r : Outcome) → after_flag (map bare c) waiting word h r ≡ after_flag c waiting word h r
  after_flag-bare waiting word h done = refl
  after_flag-bare waiting word h (waits id) = refl
  after_flag-bare waiting word h plain = plain_word-bare waiting word h
  after_flag-bare waiting word h refused = plain_word-bare waiting word h

  long_word-bare : (waiting : Waiting) (word name : Text) (v : Option Text) (h : Held) → long_word (map bare c) waiting word name v h ≡ long_word c waiting word name v h
  long_word-bare waiting word name v h =
      let met = ap (λ o. long_met (map bare c) o v h) (by_long name) ∙ long_met-bare (arg_by_long c name) v h in
      ap (λ (m : Held × Outcome). after_flag (map bare c) waiting word m.0 m.1) met
      ∙ after_flag-bare waiting word (long_met c (arg_by_long c name) v h).0 (long_met c (arg_by_long c name) v h).1

  short_word-bare : (waiting : Waiting) (word flags : Text) (h : Held) → short_word (map bare c) waiting word flags h ≡ short_word c waiting word flags h
  short_word-bare waiting word flags h =
      ap (λ (m : Held × Outcome). after_flag (map bare c) waiting word m.0 m.1) (bundle_met-bare (length flags) flags h.skip plain (record h { skip = 0 }))
      ∙ after_flag-bare waiting word (bundle c flags h).0 (bundle c flags h).1

  short_or_plain-bare : (waiting : Waiting) (word : Text) (o : Option Text) (h : Held) → short_or_plain (map bare c) waiting word o h ≡ short_or_plain c waiting word o h
  short_or_plain-bare waiting word (Some flags) h = short_word-bare waiting word flags h
  short_or_plain-bare waiting word None h = plain_word-bare waiting word h

  long_or_other-bare : (waiting : Waiting) (word : Text) (o : Option (Text × Option Text)) (h : Held) → long_or_other (map bare c) waiting word o h ≡ long_or_other c waiting word o h
  long_or_other-bare waiting word (Some p) h = long_word-bare waiting word p.0 p.1 h
  long_or_other-bare waiting word None h = short_or_plain-bare waiting word (short_of word) h

  subcommand_or_other-bare : (o : Option Text) (waiting : Waiting) (position : ℕ) (word : Text) (h : Held)
      → subcommand_or_other (map bare c) o waiting position word h ≡ subcommand_or_other c o waiting position word h
  subcommand_or_other-bare (Some name) waiting position word h = refl
  subcommand_or_other-bare None waiting position word h = λ i. cond (bytes_eq word (45 ∷ 45 ∷ [])) (h, trailing position) (long_or_other-bare waiting word (long_of word) h i)

  word_met-bare : (names : Names) (is_trailing : Bool) (waiting : Waiting) (position : ℕ) (word : Text) (h : Held)
      → word_met (map bare c) names is_trailing waiting position word h ≡ word_met c names is_trailing waiting position word h
  word_met-bare names is_trailing waiting position word h =
      λ i. cond is_trailing (h, value) (subcommand_or_other-bare (subcommand_met names waiting word) waiting position word h i)

  to_positional-bare : (o : Option Rule) (word : Text) (w : Walk) (h : Held) → to_positional (map bare c) (option_map bare o) word w h ≡ to_positional c o word w h
  to_positional-bare None word w h = refl
  to_positional-bare (Some a) word w h = λ i. record {
    held = pushed a.id word (cond (is_pending a h.pending && takes_several a) h (settled-bare h i));
    waiting = cond (is_multiple a) positional idle;
    position = next_position a w.position;
    is_trailing = w.is_trailing || a.trailing_var_arg;
    stopped = None;
  }

  after_step-bare : (word : Text) (w : Walk) (h : Held) (step : Step) → after_step (map bare c) word w h step ≡ after_step c word w h step
  after_step-bare word w h (next waiting) = refl
  after_step-bare word w h (trailing position) = refl
  after_step-bare word w h (subcommand name) = refl
  after_step-bare word w h value = ap (λ o. to_positional (map bare c) o word w h) (by_index w.position) ∙ to_positional-bare (arg_by_index c w.position) word w h

  walked_from-bare : (names : Names) (o : Option (Text × List Text)) (w : Walk) (word : Text) → walked_from (map bare c) names o w word ≡ walked_from c names o w word
  walked_from-bare names (Some p) w word = refl
  walked_from-bare names None w word =
      let met = word_met c names w.is_trailing w.waiting w.position word w.held in
      ap (λ (m : Held × Step). after_step (map bare c) word w m.0 m.1) (word_met-bare names w.is_trailing w.waiting w.position word w.held)
      ∙ after_step-bare word w met.0 met.1

  walked-bare : (names : Names) (w : Walk) (word : Text) → walked (map bare c) names w word ≡ walked c names w word
  unfolding walked
  walked-bare names w word = walked_from-bare names w.stopped w word

  walk-bare : (names : Names) (h : Held) (words : List Text) → walk (map bare c) names h words ≡ walk c names h words
  walk-bare names h words = λ i. fold (λ w word. walked-bare names w word i) (walk_from h) words

  -- ---- the faults of one word
  settle_fault-bare : (again : Bool) (h : Held) → settle_fault (map bare c) again h ≡ settle_fault c again h
  settle_fault-bare again h = at h.pending
    where
      of_rule : (o : Option Rule) (values : List Text) → option_map_or (λ a. use_fault again a values h.rows) (option_map bare o) [] ≡ option_map_or (λ a. use_fault again a values h.rows) o []
      of_rule None values = refl
      of_rule (Some a) values = use_fault-bare again a values h.rows

      at : (p : Option (Text × List Text)) → option_map_or (λ p. option_map_or (λ a. use_fault again a p.1 h.rows) (arg_by_id (map bare c) p.0) []) p []
          ≡ option_map_or (λ p. option_map_or (λ a. use_fault again a p.1 h.rows) (arg_by_id c p.0) []) p []
      at None = refl
      at (Some p) = ap (λ o. option_map_or (λ a. use_fault again a p.1 h.rows) o []) (by_id p.0) ∙ of_rule (arg_by_id c p.0) p.1

  react_fault-bare : (again : Bool) (a : Rule) (values : List Text) (h : Held) → react_fault (map bare c) again (bare a) values h ≡ react_fault c again a values h
  react_fault-bare again a values h =
      λ i. or_else (settle_fault-bare again h i) ((use_fault-bare again a values (settled (map bare c) h).rows ∙ ap (λ (k : Held). use_fault again a values k.rows) (settled-bare h)) i)

  option_fault-bare : (again : Bool) (a : Rule) (v : Option Text) (h : Held) → option_fault (map bare c) again (bare a) v h ≡ option_fault c again a v h
  option_fault-bare again a (Some v) h = react_fault-bare again a (v ∷ []) h
  option_fault-bare again a None h = settle_fault-bare again h

  long_fault-bare : (again : Bool) (o : Option Rule) (v : Option Text) (h : Held) → long_fault (map bare c) again (option_map bare o) v h ≡ long_fault c again o v h
  long_fault-bare again None v h = refl
  long_fault-bare again (Some a) v h =
      λ i. cond (takes_values a) (option_fault-bare again a v h i) (cond (is_some v) (kind.TooManyValues ∷ []) (react_fault-bare again a [] h i))

  short_fault-bare : (again : Bool) (o : Option Rule) (rest : Text) (h : Held) (f g : Held → Kinds) → ((k : Held) → f k ≡ g k) → short_fault (map bare c) again (option_map bare o) rest h f ≡ short_fault c again o rest h g
  short_fault-bare again None rest h f g same = refl
  short_fault-bare again (Some a) rest h f g same =
      λ i. cond (takes_values a) (option_fault-bare again a (attached_value rest) h i)
      (or_else (react_fault-bare again a [] h i) ((same (reacted (map bare c) (bare a) [] h) ∙ ap g (reacted-bare a [] h)) i))

  bundle_step_fault-bare : (again : Bool) (o : Option ℕ) (flags : Text) (skip : ℕ) (h : Held) (f g : Text → ℕ → Held → Kinds)
      → ((t : Text) (n : ℕ) (k : Held) → f t n k ≡ g t n k) → bundle_step_fault (map bare c) again o flags skip h f ≡ bundle_step_fault c again o flags skip h g
  bundle_step_fault-bare again None flags skip h f g same = refl
  bundle_step_fault-bare again (Some x) flags zero h f g same =
      let rest = drop (length (encode_utf8 x)) flags in
      ap (λ o. short_fault (map bare c) again o rest h (f rest 0)) (by_short x) ∙ short_fault-bare again (arg_by_short c x) rest h (f rest 0) (g rest 0) (same rest 0)
  bundle_step_fault-bare again (Some x) flags (suc skip) h f g same = same (drop (length (encode_utf8 x)) flags) skip h

  flags_fault-bare : (again : Bool) (k : ℕ) (flags : Text) (skip : ℕ) (h : Held) → flags_fault (map bare c) again k flags skip h ≡ flags_fault c again k flags skip h
  unfolding flags_fault
  flags_fault-bare again zero flags skip h = refl
  flags_fault-bare again (suc k) flags skip h = bundle_step_fault-bare again (slice_get (chars flags) 0) flags skip h (flags_fault (map bare c) again k) (flags_fault c again k) (flags_fault-bare again k)

  flag_word_fault-bare : (again : Bool) (o : Option (Text × Option Text)) (word : Text) (h : Held) → flag_word_fault (map bare c) again o word h ≡ flag_word_fault c again o word h
  flag_word_fault-bare again (Some p) word h = ap (λ o. long_fault (map bare c) again o p.1 h) (by_long p.0) ∙ long_fault-bare again (arg_by_long c p.0) p.1 h
  flag_word_fault-bare again None word h = at (short_of word)
    where
      at : (o : Option Text) → option_map_or (λ flags. bundle_fault (map bare c) again flags h) o [] ≡ option_map_or (λ flags. bundle_fault c again flags h) o []
      at None = refl
      at (Some flags) = flags_fault-bare again (length flags) flags h.skip (record h { skip = 0 })

  positional_fault-bare : (again : Bool) (a : Rule) (h : Held) → positional_fault (map bare c) again (bare a) h ≡ positional_fault c again a h
  positional_fault-bare again a h = λ i. cond (is_pending a h.pending && takes_several a) [] (settle_fault-bare again h i)

-- ---- the faults of a walk
other_fault-bare : (s : Shape) (o : Option Text) (word : Text) (h : Held) → other_fault (bare_shape s) o word h ≡ other_fault s o word h
other_fault-bare s (Some name) word h = refl
other_fault-bare s None word h = λ i. cond (bytes_eq word (45 ∷ 45 ∷ [])) [] (flag_word_fault-bare s.rules s.args_override_self (long_of word) word h i)

step_fault-bare : (s : Shape) (position : ℕ) (h : Held) (step : Step) → step_fault (bare_shape s) position h step ≡ step_fault s position h step
step_fault-bare s position h (next waiting) = refl
step_fault-bare s position h (trailing p) = refl
step_fault-bare s position h (subcommand name) = refl
step_fault-bare s position h value =
    ap (λ o. option_map_or (λ a. positional_fault (map bare s.rules) s.args_override_self a h) o (stray_fault s)) (by_index s.rules position) ∙ at (arg_by_index s.rules position)
  where
    at : (o : Option Rule) → option_map_or (λ a. positional_fault (map bare s.rules) s.args_override_self a h) (option_map bare o) (stray_fault s)
        ≡ option_map_or (λ a. positional_fault s.rules s.args_override_self a h) o (stray_fault s)
    at None = refl
    at (Some a) = positional_fault-bare s.rules s.args_override_self a h

turn_fault-bare : (s : Shape) (names : Names) (w : Walk) (word : Text) → turn_fault (bare_shape s) names w word ≡ turn_fault s names w word
turn_fault-bare s names w word =
    let met = word_met s.rules names w.is_trailing w.waiting w.position word w.held in
    λ i. cond (is_some w.stopped) [] (or_else (cond w.is_trailing [] (other_fault-bare s (subcommand_met names w.waiting word) word w.held i))
    ((ap (λ (m : Held × Step). step_fault (bare_shape s) w.position m.0 m.1) (word_met-bare s.rules names w.is_trailing w.waiting w.position word w.held)
    ∙ step_fault-bare s w.position met.0 met.1) i))

walk_fault-bare : (s : Shape) (names : Names) (w : Walk) (words : List Text) → walk_fault (bare_shape s) names w words ≡ walk_fault s names w words
unfolding walk_fault
walk_fault-bare s names w [] = refl
walk_fault-bare s names w (word ∷ rest) =
    λ i. or_else (turn_fault-bare s names w word i)
    ((ap (λ v. walk_fault (bare_shape s) names v rest) (walked-bare s.rules names w word) ∙ walk_fault-bare s names (walked s.rules names w word) rest) i)

-- ---- after the walk
with_default-bare : (rows : List Row) (a : Rule) → with_default rows (bare a) ≡ with_default rows a
with_default-bare rows a = λ i. cond (has_row a.id rows) rows (default_rows a.id (reading_by-bare a i) a.defaults rows)

with_defaults-bare : (c : List Rule) (rows : List Row) → fold with_default rows (map bare c) ≡ fold with_default rows c
with_defaults-bare [] rows = refl
with_defaults-bare (a ∷ c) rows = ap (λ r. fold with_default r (map bare c)) (with_default-bare rows a) ∙ with_defaults-bare c (with_default rows a)

finished-bare : (c : List Rule) (h : Held) → finished (map bare c) h ≡ finished c h
finished-bare c h = with_defaults-bare c (settled (map bare c) h).rows ∙ ap (λ (k : Held). fold with_default k.rows c) (settled-bare c h)

rows_after-bare : (c : List Rule) (names : Names) (words : List Text) → rows_after (map bare c) names words ≡ rows_after c names words
rows_after-bare c names words = ap (λ (w : Walk). finished (map bare c) w.held) (walk-bare c names nothing_held words) ∙ finished-bare c (walk c names nothing_held words).held

default_fault-bare : (rows : List Row) (a : Rule) → default_fault rows (bare a) ≡ default_fault rows a
default_fault-bare rows a = λ i. cond (has_row a.id rows || is_empty a.defaults) [] (or_else (request_kinds (action_of a)) (values_fault-bare a a.defaults i))

defaults_fault-bare : (rows : List Row) (c : List Rule) → defaults_fault rows (map bare c) ≡ defaults_fault rows c
unfolding defaults_fault
defaults_fault-bare rows [] = refl
defaults_fault-bare rows (a ∷ c) =
    λ i. or_else (default_fault-bare rows a i) ((ap (λ r. defaults_fault r (map bare c)) (with_default-bare rows a) ∙ defaults_fault-bare (with_default rows a) c) i)

check_fault-bare : (s : Shape) (rows : List Row) (has_subcommand : Bool) → check_fault (bare_shape s) rows has_subcommand ≡ check_fault s rows has_subcommand
check_fault-bare s rows has_subcommand =
    let missing = sym (list_any-map (λ (a : Rule). a.required && not (is_given a.id rows)) bare s.rules) in
    λ i. check_kinds (not has_subcommand && (s.arg_required_else_help && not (list_any (λ r. explicit_source r.source) rows))) (not has_subcommand && s.subcommand_required)
    (not (s.subcommand_negates_reqs && has_subcommand) && missing i)

level_fault-bare : (s : Shape) (names : Names) (h : Held) (words : List Text) (has_subcommand : Bool) (below : Kinds)
    → level_fault (bare_shape s) names h words has_subcommand below ≡ level_fault s names h words has_subcommand below
level_fault-bare s names h words has_subcommand below =
    let end = (walk s.rules names h words).held in
    let at_end = λ (k : Held). or_else (settle_fault (map bare s.rules) s.args_override_self k)
    (or_else (defaults_fault (settled (map bare s.rules) k).rows (map bare s.rules)) (check_fault (bare_shape s) (finished (map bare s.rules) k) has_subcommand)) in
    let after : at_end end ≡ or_else (settle_fault s.rules s.args_override_self end) (or_else (defaults_fault (settled s.rules end).rows s.rules) (check_fault s (finished s.rules end) has_subcommand)) =
    λ i. or_else (settle_fault-bare s.rules s.args_override_self end i)
    (or_else ((defaults_fault-bare (settled (map bare s.rules) end).rows s.rules ∙ ap (λ (k : Held). defaults_fault k.rows s.rules) (settled-bare s.rules end)) i)
    ((check_fault-bare s (finished (map bare s.rules) end) has_subcommand ∙ ap (λ rows. check_fault s rows has_subcommand) (finished-bare s.rules end)) i)) in
    λ i. or_else (walk_fault-bare s names (walk_from h) words i) (or_else below ((ap (λ (w : Walk). at_end w.held) (walk-bare s.rules names h words) ∙ after) i))

-- ---- the subcommand that the words name
pub entered_fault-bare : (subs : List Shape) (stop : Option (Text × List Text))
    → option_map_or (λ p. option_map_or (λ s. level_fault s [] nothing_held p.1 false []) (find (λ s. answers_to p.0 (label_of s)) (map bare_shape subs)) []) stop []
    ≡ option_map_or (λ p. option_map_or (λ s. level_fault s [] nothing_held p.1 false []) (find (λ s. answers_to p.0 (label_of s)) subs) []) stop []
entered_fault-bare subs None = refl
entered_fault-bare subs (Some p) =
    ap (λ o. option_map_or (λ s. level_fault s [] nothing_held p.1 false []) o []) (sym (find-map (λ s. answers_to p.0 (label_of s)) bare_shape subs)) ∙ at (find (λ s. answers_to p.0 (label_of s)) subs)
  where
    at : (o : Option Shape) → option_map_or (λ s. level_fault s [] nothing_held p.1 false []) (option_map bare_shape o) [] ≡ option_map_or (λ s. level_fault s [] nothing_held p.1 false []) o []
    at None = refl
    at (Some s) = level_fault-bare s [] nothing_held p.1 false []

pub entered-bare : (subs : List Shape) (stop : Option (Text × List Text))
    → option_and_then (λ p. option_map (λ s. rows_at s p.1) (find (λ s. answers_to p.0 (label_of s)) (map bare_shape subs))) stop
    ≡ option_and_then (λ p. option_map (λ s. rows_at s p.1) (find (λ s. answers_to p.0 (label_of s)) subs)) stop
entered-bare subs None = refl
entered-bare subs (Some p) =
    ap (option_map (λ s. rows_at s p.1)) (sym (find-map (λ s. answers_to p.0 (label_of s)) bare_shape subs)) ∙ at (find (λ s. answers_to p.0 (label_of s)) subs)
  where
    at : (o : Option Shape) → option_map (λ s. rows_at s p.1) (option_map bare_shape o) ≡ option_map (λ s. rows_at s p.1) o
    at None = refl
    at (Some s) = λ i. Some (s.name, rows_after-bare s.rules [] p.1 i)
