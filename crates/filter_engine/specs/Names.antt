-- What is tested of names, and which names pass.
use Rattle.std.specs.Prelude.{ℕ, nat_le, nat_lt, Bool, false, ◌||◌, List, [], ◌∷◌, Option, None, Some, Result, Ok, Err, is_some, chars, if◌then◌else◌}
use Rattle.std.specs.Str.{bytes_eq}
use Rattle.regex_hir.specs.Find.{find}
use Rattle.regex_hir.specs.Re.{Re}
use Rattle.regex_syntax.specs.Brackets.{Nested}
use Rattle.regex_syntax.specs.Grammar.{Names, read}
use Rattle.regex_syntax.specs.Verdict.{default_config}
use Rattle.filter_engine.specs.GlobDecisions.{writes_glob, glob_takes}
use Rattle.filter_engine.specs.GlobSizes.{glob_size}
use Rattle.filter_engine.specs.RegexSizes.{most_states, regex_size}
use Rattle.filter_engine.specs.Matches.{NameQuestion, equal, contains, glob, regex}
use Rattle.filter_language.specs.declared.matchers.PatternFault.{PatternFault}
use Rattle.filter_language.specs.declared.matchers.PatternFault.TheVariants.{Malformed, TooLarge}
use Rattle.filter_language.specs.declared.words.Sign.{Sign}
use Rattle.filter_language.specs.declared.words.Sign.TheVariants.{Equal, Contains, Glob, Regex}
use Rattle.filter_language.specs.Texts.{after_prefix}

-- Whether a text that was read as a regex, or was not, nests at most 250 deep.
abbrev pub nests_within : Option (Nested Re × Names) → Bool
nests_within None = false
nests_within (Some p) = nat_le p.0.depth 250

-- A question, unless its pattern takes too many states.
abbrev pub if_small : ℕ → NameQuestion → Result NameQuestion PatternFault
if_small states question = if nat_lt most_states states then Err TooLarge else Ok question

-- The test of a regex.
abbrev pub regex_question : List ℕ → Result NameQuestion PatternFault
regex_question text =
    if nests_within (read default_config (chars text)) then if_small (regex_size text) (regex text)
    else Err Malformed

-- The test of a glob.
abbrev pub glob_question : List ℕ → Result NameQuestion PatternFault
glob_question text =
    if writes_glob text then if_small (glob_size text) (glob text) else Err Malformed

-- The test of a text behind a sign.
abbrev pub question_in : Sign → List ℕ → Result NameQuestion PatternFault
question_in Equal text = Ok (equal text)
question_in Contains text = Ok (contains text)
question_in Glob text = glob_question text
question_in Regex text = regex_question text

-- Whether a text begins with a part at some place.
abbrev pub has_part : List ℕ → List ℕ → Bool
has_part part [] = is_some (after_prefix part [])
has_part part (c ∷ text) = is_some (after_prefix part (c ∷ text)) || has_part part text

-- Whether what was read as a regex has a match in a name.
abbrev pub found_in : Option (Nested Re × Names) → List ℕ → Bool
found_in None name = false
found_in (Some p) name = is_some (find p.0.value name 0)

-- Whether a name passes a test.
abbrev pub asks : NameQuestion → List ℕ → Bool
asks (equal text) name = bytes_eq name text
asks (contains text) name = has_part text name
asks (glob text) name = glob_takes text name
asks (regex text) name = found_in (read default_config (chars text)) name
