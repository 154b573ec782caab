-- What it means that a command line splits into words: a relation between a whole text and its
-- words, both as lists of characters.
use Rattle.std.specs.Prelude.{◌≡◌, ◌≢◌, ◌==◌, ◌||◌, ℕ, List, [], ◌∷◌, ◌++◌, Bool, IsTrue, IsFalse, ⊤, map, String, Vec, string_bytes}
use Rattle.std.specs.declared.alloc.Global.{Global}
use Rattle.std.specs.Str.{chars}

-- Delimiters are the space, the tab and the line feed.
abbrev pub is_delimiter : ℕ → Bool
is_delimiter c = c == 32 || c == 9 || c == 10

-- The line feed is the character 10.
abbrev pub line_feed : ℕ
line_feed = 10

-- The double quote is the character 34.
abbrev pub double_quote : ℕ
double_quote = 34

-- The number sign, `#`, is the character 35.
abbrev pub number_sign : ℕ
number_sign = 35

-- The single quote is the character 39.
abbrev pub single_quote : ℕ
single_quote = 39

-- The backslash is the character 92.
abbrev pub backslash : ℕ
backslash = 92

-- In double quotes a backslash escapes a dollar sign, a backquote, a double quote and a backslash.
abbrev pub is_escapable : ℕ → Bool
is_escapable c = c == 36 || c == 96 || c == double_quote || c == backslash

-- Special characters are the delimiters, the backslash and the two quotes.
abbrev pub is_special : ℕ → Bool
is_special c = is_delimiter c || c == backslash || c == single_quote || c == double_quote

-- The text behind a single quote: the characters up to the next single quote, as they are, and
-- then the rest.
pub data SingleQuoted : (text gives rest : List ℕ) → Type 0 where
  at_quote : {rest : List ℕ} → SingleQuoted (single_quote ∷ rest) [] rest
  literal : {c : ℕ} {text gives rest : List ℕ} → c ≢ single_quote → SingleQuoted text gives rest
      → SingleQuoted (c ∷ text) (c ∷ gives) rest

-- The text behind a double quote: characters as they are, a backslash that escapes one, a
-- backslash and a line feed that give nothing, or a backslash that stays with the character after
-- it, up to the next double quote, and then the rest.
pub data DoubleQuoted : (text gives rest : List ℕ) → Type 0 where
  at_quote : {rest : List ℕ} → DoubleQuoted (double_quote ∷ rest) [] rest
  literal : {c : ℕ} {text gives rest : List ℕ} → c ≢ double_quote → c ≢ backslash
      → DoubleQuoted text gives rest → DoubleQuoted (c ∷ text) (c ∷ gives) rest
  escaped : {c : ℕ} {text gives rest : List ℕ} → IsTrue (is_escapable c)
      → DoubleQuoted text gives rest → DoubleQuoted (backslash ∷ c ∷ text) (c ∷ gives) rest
  continued : {text gives rest : List ℕ} → DoubleQuoted text gives rest
      → DoubleQuoted (backslash ∷ line_feed ∷ text) gives rest
  kept : {c : ℕ} {text gives rest : List ℕ} → c ≢ line_feed → IsFalse (is_escapable c)
      → DoubleQuoted text gives rest
      → DoubleQuoted (backslash ∷ c ∷ text) (backslash ∷ c ∷ gives) rest

-- A text begins with a piece that gives these characters, before the rest: a character that is not
-- special, a character behind a backslash, a backslash and a line feed that give nothing, a text in
-- single or in double quotes, or a lone backslash at the very end.
pub data Piece : (text gives rest : List ℕ) → Type 0 where
  plain : {c : ℕ} {rest : List ℕ} → IsFalse (is_special c) → Piece (c ∷ rest) (c ∷ []) rest
  escaped : {c : ℕ} {rest : List ℕ} → c ≢ line_feed → Piece (backslash ∷ c ∷ rest) (c ∷ []) rest
  continued : {rest : List ℕ} → Piece (backslash ∷ line_feed ∷ rest) [] rest
  single_quoted : {text gives rest : List ℕ} → SingleQuoted text gives rest
      → Piece (single_quote ∷ text) gives rest
  double_quoted : {text gives rest : List ℕ} → DoubleQuoted text gives rest
      → Piece (double_quote ∷ text) gives rest
  lone_backslash : Piece (backslash ∷ []) (backslash ∷ []) []

-- One or more pieces, with nothing between, give what each gives, in order.
pub data Pieces : (text gives rest : List ℕ) → Type 0 where
  last : {text gives rest : List ℕ} → Piece text gives rest → Pieces text gives rest
  more : {text gives next others rest : List ℕ} → Piece text gives next → Pieces next others rest
      → Pieces text (gives ++ others) rest

-- The text begins with a line feed.
abbrev pub BeginsWithLineFeed : List ℕ → Type 0
BeginsWithLineFeed [] = ⊥
BeginsWithLineFeed (c ∷ rest) = c ≡ line_feed

-- No word begins with a bare number sign, nor with a backslash and a line feed.
abbrev pub MayBeginWord : List ℕ → Type 0
MayBeginWord [] = ⊤
MayBeginWord (c ∷ rest) = (c ≢ number_sign) × ¬ ((c ≡ backslash) × BeginsWithLineFeed rest)

-- A word ends at the end of the text, or before a delimiter.
abbrev pub EndsWord : List ℕ → Type 0
EndsWord [] = ⊤
EndsWord (c ∷ rest) = IsTrue (is_delimiter c)

-- The text behind a number sign: what is before the next line feed, or before the end, is the
-- comment.
pub data Comment : (text rest : List ℕ) → Type 0 where
  at_end : Comment [] []
  at_line_feed : {rest : List ℕ} → Comment (line_feed ∷ rest) (line_feed ∷ rest)
  more : {c : ℕ} {text rest : List ℕ} → c ≢ line_feed → Comment text rest → Comment (c ∷ text) rest

-- The empty text has no word. A delimiter, a backslash and a line feed, or a comment leaves the
-- words of the rest. A word, before the end or a delimiter, is before the words of the rest.
pub data SplitsInto : (text : List ℕ) (words : List (List ℕ)) → Type 0 where
  no_word : SplitsInto [] []
  delimiter : {c : ℕ} {rest : List ℕ} {words : List (List ℕ)} → IsTrue (is_delimiter c)
      → SplitsInto rest words → SplitsInto (c ∷ rest) words
  continued : {rest : List ℕ} {words : List (List ℕ)} → SplitsInto rest words
      → SplitsInto (backslash ∷ line_feed ∷ rest) words
  comment : {text rest : List ℕ} {words : List (List ℕ)} → Comment text rest
      → SplitsInto rest words → SplitsInto (number_sign ∷ text) words
  word : {text gives rest : List ℕ} {words : List (List ℕ)} → MayBeginWord text
      → Pieces text gives rest → EndsWord rest → SplitsInto rest words
      → SplitsInto text (gives ∷ words)

-- The texts of a list of words, each as its list of characters.
abbrev pub texts_of : Vec (String Global) Global → List (List ℕ)
texts_of words = map (λ word. chars (string_bytes word)) words.items
