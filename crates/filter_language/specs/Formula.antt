-- Filters without where they lie in memory. L is what patterns mean.
use Rattle.std.specs.Prelude.{ℕ, Bool, List, [], ◌++◌, ◌∷◌, string_bytes}
use Rattle.nextest_engines.specs.declared.queries.BuildPlatform.{BuildPlatform}
use Rattle.filter_language.specs.declared.words.Field.{Field}
use Rattle.filter_language.specs.declared.words.Sign.{Sign}
use Rattle.filter_language.specs.declared.mark.Match as match
use Rattle.filter_language.specs.declared.mark.Question as question
use Rattle.filter_language.specs.declared.mark.Question.TheVariants.{All, Nothing, Default, Platform, Matches}

-- A pattern for a name: the field with that name, the sign and whether the field
-- has it by default, the text with its escapes resolved, the predicate as it was written, and
-- what the pattern means.
pub record Pattern (L : Type 0) : Type 0 where
  pub field : Field
  pub sign : Sign
  pub is_default : Bool
  pub text : List ℕ
  pub written : List ℕ
  pub meaning : L

-- What is tested of a test or a binary: always true, never true, the default filter, a platform,
-- or a field with a name that a pattern matches.
pub data Question (L : Type 0) : Type 0 where
  Always : Question L
  Never : Question L
  TheDefault : Question L
  OfPlatform : BuildPlatform → Question L
  OfName : Pattern L → Question L

-- A filter: questions joined by not, and, or, minus and parentheses.
pub data Formula (L : Type 0) : Type 0 where
  Asks : Question L → Formula L
  Negated : Formula L → Formula L
  Both : Formula L → Formula L → Formula L
  Either : Formula L → Formula L → Formula L
  Without : Formula L → Formula L → Formula L
  Grouped : Formula L → Formula L

-- The pattern of a predicate in memory, by what its matcher means.
abbrev pub pattern_view : {M L : Type 0} → (M → L) → match.Match M → Pattern L
pattern_view meaning m = record {
  field = m.field;
  sign = m.sign;
  is_default = m.is_default;
  text = string_bytes m.text;
  written = string_bytes m.written;
  meaning = meaning m.matcher;
}

-- The question of a predicate in memory.
abbrev pub question_view : {M L : Type 0} → (M → L) → question.Question M → Question L
question_view meaning All = Always
question_view meaning Nothing = Never
question_view meaning Default = TheDefault
question_view meaning (Platform p) = OfPlatform p
question_view meaning (Matches m) = OfName (pattern_view meaning m)

-- The questions of a filter, from left to right.
abbrev pub questions : {L : Type 0} → Formula L → List (Question L)
questions (Asks q) = q ∷ []
questions (Negated a) = questions a
questions (Both a b) = questions a ++ questions b
questions (Either a b) = questions a ++ questions b
questions (Without a b) = questions a ++ questions b
questions (Grouped a) = questions a
