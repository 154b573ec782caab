-- Predicates of texts. A compiler says what a pattern means, or why it has no meaning.
use Rattle.std.specs.Prelude.{ℕ, ◌-◌, Bool, true, false, List, Option, None, Some, Result, Ok, Err, codes, take, drop, length, if◌then◌else◌}
use Rattle.std.specs.Option.{option_or}
use Rattle.std.specs.Str.{trim, bytes_eq}
use Rattle.nextest_engines.specs.declared.queries.BuildPlatform.{BuildPlatform}
use Rattle.nextest_engines.specs.declared.queries.BuildPlatform.TheVariants.{Host, Target}
use Rattle.filter_language.specs.declared.fault.FaultKind.{FaultKind}
use Rattle.filter_language.specs.declared.fault.FaultKind.TheVariants.{InvalidPlatformArgument, InvalidString, InvalidGlob, InvalidRegex, TooLarge}
use Rattle.filter_language.specs.declared.matchers.PatternFault.{PatternFault}
use Rattle.filter_language.specs.declared.matchers.PatternFault.TheVariants as pattern
use Rattle.filter_language.specs.declared.words.Field.{Field}
use Rattle.filter_language.specs.declared.words.Field.TheVariants.{TestName, Package, Deps, Rdeps, BinaryId, BinaryName, Kind, Group}
use Rattle.filter_language.specs.declared.words.Sign.{Sign}
use Rattle.filter_language.specs.declared.words.Sign.TheVariants.{Equal, Contains, Glob, Regex}
use Rattle.filter_language.specs.declared.words.Word.{Word}
use Rattle.filter_language.specs.declared.words.Word.TheVariants.{All, Nothing, Default, Platform, Matches}
use Rattle.filter_language.specs.declared.reading.predicate.Predicate as predicate
use Rattle.filter_language.specs.Formula.{Question, Always, Never, TheDefault, OfPlatform, OfName, question_view}
use Rattle.filter_language.specs.Texts.{skipped}
use Rattle.filter_language.specs.Places.{Misreading}
use Rattle.filter_language.specs.Lexing.{wrong_between, spelled, opened_in, closed_in, closed_bare_in}
use Rattle.filter_language.specs.Arguments.{Body, text_in, regex_in}

infixl 10 ◌>>=◌
-- What a further step gives, unless something is wrong before it.
abbrev pub ◌>>=◌ : {A B : Type 0} → Result A Misreading → (A → Result B Misreading)
    → Result B Misreading
Ok x >>= step = step x
Err m >>= step = Err m

-- What a text means behind a sign for a field, or why it has no meaning.
abbrev pub Compiler : Type 0 → Type 0
Compiler L = Field → Sign → List ℕ → Result L PatternFault

-- A predicate: what it tests, and the places behind its `(`, of its `)` and behind that.
pub record PredicateRead (L : Type 0) : Type 0 where
  pub question : Question L
  pub inside : List ℕ
  pub close : List ℕ
  pub rest : List ℕ

-- The predicate that one in memory is.
abbrev pub predicate_view : {M L : Type 0} → (M → L) → predicate.Predicate M → PredicateRead L
predicate_view meaning p = record {
  question = question_view meaning p.question;
  inside = p.inside.now;
  close = p.close.now;
  rest = p.rest.now;
}

-- A predicate by what it tests, behind its `(`, and where its `)` is.
abbrev pub asking : {L : Type 0} → Question L → List ℕ → List ℕ × List ℕ → PredicateRead L
asking question inside found = record {
  question = question;
  inside = inside;
  close = found.0;
  rest = found.1;
}

-- The platform of a name.
abbrev pub platform_named : List ℕ → Option BuildPlatform
platform_named name =
    if bytes_eq name (codes "host") then Some Host
    else (if bytes_eq name (codes "target") then Some Target else None)

-- The set of what is built for a platform, behind its `(`.
abbrev pub of_platform : {L : Type 0} → List ℕ → List ℕ → List ℕ × List ℕ
    → Option BuildPlatform → Result (PredicateRead L) Misreading
of_platform inside end found (Some p) = Ok (asking (OfPlatform p) inside found)
of_platform inside end found None = Err (wrong_between InvalidPlatformArgument inside end)

abbrev pub platform_in : {L : Type 0} → List ℕ → Result (PredicateRead L) Misreading
platform_in inside = text_in (skipped inside)
    >>= (λ body. closed_in body.behind
    >>= (λ found. of_platform inside body.end found (platform_named (trim body.bytes))))

-- The sign of a field's texts without one.
abbrev pub default_sign : Field → Sign
default_sign TestName = Contains
default_sign Kind = Equal
default_sign Package = Glob
default_sign Deps = Glob
default_sign Rdeps = Glob
default_sign BinaryId = Glob
default_sign BinaryName = Glob
default_sign Group = Glob

-- The sign that an argument begins with, whether it is the field's own, and what follows it.
abbrev pub sign_of : Field → List ℕ → Option (Sign × List ℕ) → Sign × Bool × List ℕ
sign_of field argument (Some found) = (found.0, false, found.1)
sign_of field argument None = (default_sign field, true, argument)

abbrev pub sign_in : Field → List ℕ → Sign × Bool × List ℕ
sign_in field argument = sign_of field argument
    (option_or (spelled Equal (codes "=") argument)
    (option_or (spelled Contains (codes "~") argument)
    (option_or (spelled Glob (codes "#") argument)
    (spelled Regex (codes "/") argument))))

-- The text or regex behind a sign.
abbrev pub body_behind : Sign → List ℕ → Result Body Misreading
body_behind Regex start = regex_in start
body_behind Equal start = text_in start
body_behind Contains start = text_in start
body_behind Glob start = text_in start

-- What is wrong with a malformed pattern.
abbrev pub malformed : Sign → FaultKind
malformed Regex = InvalidRegex
malformed Glob = InvalidGlob
malformed Equal = InvalidString
malformed Contains = InvalidString

-- What is wrong with a pattern that has no meaning.
abbrev pub meaningless : Sign → PatternFault → FaultKind
meaningless sign pattern.Malformed = malformed sign
meaningless sign pattern.TooLarge = TooLarge

-- The meaning of a pattern, or what is wrong with it.
abbrev pub meaning_of : {L : Type 0} → Sign → List ℕ → List ℕ → Result L PatternFault
    → Result L Misreading
meaning_of sign start end (Ok meaning) = Ok meaning
meaning_of sign start end (Err fault) = Err (wrong_between (meaningless sign fault) start end)

-- What is in a text before a rest with which it ends, else all of it.
abbrev pub before_rest : List ℕ → List ℕ → List ℕ
before_rest text rest =
    if bytes_eq (drop (length text - length rest) text) rest
    then take (length text - length rest) text else text

-- The set of what a pattern matches, of a text that begins with its word, behind its `(`.
abbrev pub signed_in : {L : Type 0} → Compiler L → Field → List ℕ → List ℕ
    → Sign × Bool × List ℕ → Result (PredicateRead L) Misreading
signed_in compiler field start inside signed = body_behind signed.0 signed.2
    >>= (λ body. meaning_of signed.0 signed.2 body.end (compiler field signed.0 body.bytes)
    >>= (λ meaning. closed_in body.behind
    >>= (λ found. Ok (asking (OfName (record {
      field = field;
      sign = signed.0;
      is_default = signed.1;
      text = body.bytes;
      written = before_rest start found.1;
      meaning = meaning;
    })) inside found))))

abbrev pub matching_in : {L : Type 0} → Compiler L → Field → List ℕ → List ℕ
    → Result (PredicateRead L) Misreading
matching_in compiler field start inside =
    signed_in compiler field start inside (sign_in field (skipped inside))

-- A set without an argument.
abbrev pub bare_in : {L : Type 0} → Question L → List ℕ → Result (PredicateRead L) Misreading
bare_in question inside = closed_bare_in inside >>= (λ found. Ok (asking question inside found))

-- The predicate of a text that begins with a word, behind its `(`.
abbrev pub worded_in : {L : Type 0} → Compiler L → Word → List ℕ → List ℕ
    → Result (PredicateRead L) Misreading
worded_in compiler All start inside = bare_in Always inside
worded_in compiler Nothing start inside = bare_in Never inside
worded_in compiler Default start inside = bare_in TheDefault inside
worded_in compiler Platform start inside = platform_in inside
worded_in compiler (Matches field) start inside = matching_in compiler field start inside

-- The predicate of a text that begins with a word, behind that word.
abbrev pub predicate_in : {L : Type 0} → Compiler L → Word → List ℕ → List ℕ
    → Result (PredicateRead L) Misreading
predicate_in compiler word start behind = opened_in behind >>= worded_in compiler word start
