-- What is tested of a name, and when a name passes.
use Rattle.std.specs.Prelude.{◌≡◌, ℕ, List, string_bytes}
use Rattle.std.specs.Str.Iter.{HasSubslice}
use Rattle.filter_engine.specs.Globs.{GlobMatches}
use Rattle.filter_engine.specs.RegexTexts.{RegexMatches}
use Rattle.filter_engine.specs.declared.name_matcher.PatternMatcher.{PatternMatcher}
use Rattle.filter_engine.specs.declared.name_matcher.PatternMatcher.TheVariants.{Equal, Contains, Glob, Regex}

-- What is tested of a name: to equal a text, to have it as a part, that a glob takes it, or that a
-- regular expression has a match in it.
pub data NameQuestion : Type 0 where
  equal : List ℕ → NameQuestion
  contains : List ℕ → NameQuestion
  glob : List ℕ → NameQuestion
  regex : List ℕ → NameQuestion

-- The name passes the test.
abbrev pub Matches : NameQuestion → List ℕ → Type 0
Matches (equal text) name = name ≡ text
Matches (contains text) name = HasSubslice name text
Matches (glob text) name = GlobMatches text name
Matches (regex text) name = RegexMatches text name

-- what a matcher tests
abbrev pub question_of : PatternMatcher → NameQuestion
question_of (Equal text) = equal (string_bytes text)
question_of (Contains text) = contains text
question_of (Glob text) = glob text
question_of (Regex text) = regex text
