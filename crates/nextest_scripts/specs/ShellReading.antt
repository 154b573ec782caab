-- How a command line is read from each place that a reader can be at: the words from there on, or
-- `None` where a quote stays open. The readers' own clauses cite these functions; what a command
-- line means is `SplitsInto` of ShellWords, which `split_shell_words` promises, and
-- `law_shell_words` says that the two are the same.
use Rattle.std.specs.Prelude.{◌==◌, ◌&&◌, ◌∷◌, ◌++◌, ℕ, List, [], Option, Some, None, is_none, unwrap_or, option_map, if◌then◌else◌}
use Rattle.nextest_scripts.specs.ShellWords.{is_delimiter, is_escapable, line_feed, double_quote, number_sign, single_quote, backslash}

-- The word that is begun, if one is, is before the other words.
abbrev pub behind : Option (List ℕ) → Option (List (List ℕ)) → Option (List (List ℕ))
behind None words = words
behind (Some word) words = option_map (λ others. word ∷ others) words

-- A word that is begun has this so far, and nothing where none is begun.
abbrev pub so_far : Option (List ℕ) → List ℕ
so_far begun = unwrap_or begun []

unfoldable mutual
  -- The words from a place outside quotes on, where a word may be begun.
  pub words_from : Option (List ℕ) → List ℕ → Option (List (List ℕ))
  words_from begun [] = behind begun (Some [])
  words_from begun (c ∷ rest) =
      if is_delimiter c then behind begun (words_from None rest)
      else if c == backslash then words_from_escape begun rest
      else if c == single_quote then words_from_single (so_far begun) rest
      else if c == double_quote then words_from_double (so_far begun) rest
      else if is_none begun && c == number_sign then words_from_comment rest
      else words_from (Some (so_far begun ++ c ∷ [])) rest

  -- The words from behind a backslash outside quotes on.
  pub words_from_escape : Option (List ℕ) → List ℕ → Option (List (List ℕ))
  words_from_escape begun [] = Some ((so_far begun ++ backslash ∷ []) ∷ [])
  words_from_escape begun (c ∷ rest) =
      if c == line_feed then words_from begun rest
      else words_from (Some (so_far begun ++ c ∷ [])) rest

  -- The words from a place in single quotes on, where the word has this so far.
  pub words_from_single : List ℕ → List ℕ → Option (List (List ℕ))
  words_from_single word [] = None
  words_from_single word (c ∷ rest) =
      if c == single_quote then words_from (Some word) rest
      else words_from_single (word ++ c ∷ []) rest

  -- The words from a place in double quotes on, where the word has this so far.
  pub words_from_double : List ℕ → List ℕ → Option (List (List ℕ))
  words_from_double word [] = None
  words_from_double word (c ∷ rest) =
      if c == double_quote then words_from (Some word) rest
      else if c == backslash then words_from_double_escape word rest
      else words_from_double (word ++ c ∷ []) rest

  -- The words from behind a backslash in double quotes on.
  pub words_from_double_escape : List ℕ → List ℕ → Option (List (List ℕ))
  words_from_double_escape word [] = None
  words_from_double_escape word (c ∷ rest) =
      if c == line_feed then words_from_double word rest
      else if is_escapable c then words_from_double (word ++ c ∷ []) rest
      else words_from_double (word ++ backslash ∷ c ∷ []) rest

  -- The words from a place in a comment on.
  pub words_from_comment : List ℕ → Option (List (List ℕ))
  words_from_comment [] = Some []
  words_from_comment (c ∷ rest) =
      if c == line_feed then words_from None rest else words_from_comment rest

-- The words of a command line, where it splits into any.
abbrev pub words_in : List ℕ → Option (List (List ℕ))
words_in text = words_from None text
