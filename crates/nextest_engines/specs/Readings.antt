-- What engines make of texts: all that a statement about a configuration knows of them.
use Rattle.std.specs.Prelude.{ℕ, List, Bool, Option, Result}
use Rattle.nextest_engines.specs.Engines.{Test, Binary, RefusalText}
use Rattle.nextest_engines.specs.declared.filters.Filters as filters
use Rattle.nextest_engines.specs.declared.parse_context.ParseContext.{ParseContext}
use Rattle.nextest_engines.specs.declared.platforms.Specs as platforms
use Rattle.nextest_engines.specs.declared.queries.FiltersetKind.{FiltersetKind}

-- a text, as its bytes
abbrev pub Text : Type 0
Text = List ℕ

-- What two engines make of texts: M is what filters mean, K what platform specs mean, P the
-- platforms.
pub record Readings (M K P : Type 0) : Type 0 where
  -- what the text of a filter means that is written for something, or its refusal
  pub read_filter : FiltersetKind → Text → Result M RefusalText
  -- what the text of a platform spec means, or its refusal
  pub read_spec : Text → Result K RefusalText
  -- the meaning of the filter that matches everything
  pub match_all : M
  -- whether a filter matches a test, where the default filter has the second meaning
  pub matches_test : M → Test → M → Bool
  -- whether a filter matches a binary, or none where that depends on the test
  pub matches_binary : M → Binary → M → Option Bool
  -- the parts of a filter that only a test can decide, as they are written
  pub leaves : M → List Text
  -- whether a platform meets a spec, or none where that is unknown
  pub meets : K → P → Option Bool

-- what the engines of a context make of texts, by the ghost members of their types
abbrev pub readings_view : {F Expr Tally S Spec P : Type 0} → (f : filters.Ghosts F Expr Tally)
    → (s : platforms.Ghosts S Spec P) → ParseContext F S → Readings f.Meaning s.SpecMeaning P
readings_view f s pcx = record {
  read_filter = f.read pcx.filters.now;
  read_spec = s.read_spec pcx.specs.now;
  match_all = f.match_all;
  matches_test = f.holds;
  matches_binary = f.holds_binary;
  leaves = f.leaves;
  meets = s.holds_on;
}
