-- Tokens of a text, in order, and what is between them.
use Rattle.std.specs.Prelude.{◌≡◌, ◌<◌, ◌≤◌, ◌-◌, ◌==◌, ◌||◌, ◌&&◌, Bool, true, false, not, ℕ, List, [], ◌∷◌, ◌++◌, length, drop, Option, Some, None, String, string_bytes}
use Rattle.std.specs.List.{All, between, concat}
use Rattle.std.specs.Str.{IsUtf8}
use Rattle.std.specs.declared.alloc.Global.{Global}
use Rattle.toml_parser.specs.Lexical.{comma, dot, equals, first, left_brace, left_bracket, right_brace, right_bracket, skip_blank}
use Rattle.toml_parser.specs.Strings.{key, starts_string}
use Rattle.nextest_places.specs.declared.spans.token.Container.{Container}
use Rattle.nextest_places.specs.declared.spans.token.Container.TheVariants as container
use Rattle.nextest_places.specs.declared.spans.token.Span.{Span}
use Rattle.nextest_places.specs.declared.spans.token.Token.{Token}
use Rattle.nextest_places.specs.declared.spans.token.TokenKind.{TokenKind}
use Rattle.nextest_places.specs.declared.spans.token.TokenKind.TheVariants.{TableHeader, ElementHeader, Key, Dotted, Open, Close, String as StringToken, Word, Other}

-- a text that is not empty, in two, of which the first is not empty
pub record IsCut (text front rest : List ℕ) : Type 0 where
  pub some : 0 < length front
  pub whole : text ≡ front ++ rest
  pub utf8 : IsUtf8 front
  pub rest_utf8 : IsUtf8 rest

-- the whole text is a key of this one part
abbrev pub IsKey : List ℕ → List ℕ → Type 0
IsKey text name = key text ≡ Some (([], name), [])

-- the text is a key of one part that has this name, or no such key
abbrev pub IsNamed : List ℕ → Option (String Global) → Type 0
IsNamed text None = (name : List ℕ) → ¬ IsKey text name
IsNamed text (Some name) = IsKey text (string_bytes name)

-- a byte that separates parts of keys, a key from its value, or values, or ends a header
abbrev pub is_separator : ℕ → Bool
is_separator byte = ((byte == dot || byte == equals) || byte == comma) || byte == right_bracket

-- what may be between tokens: white space, newlines and comments, or one separator
abbrev pub is_gap : List ℕ → Bool
is_gap bytes = length (skip_blank bytes) == 0 || (length bytes == 1 && is_separator (first bytes))

-- the byte that opens a list or a table, and the one that closes it
abbrev pub opening : Container → ℕ
opening container.List = left_bracket
opening container.Table = left_brace

abbrev pub closing : Container → ℕ
closing container.List = right_bracket
closing container.Table = right_brace

-- the bytes begin a value that is neither a string nor a list nor a table
abbrev pub begins_word : List ℕ → Bool
begins_word bytes = (not (starts_string bytes) && not (first bytes == left_bracket))
    && not (first bytes == left_brace)

-- the bytes are those of a token of this kind; a part of a key reads as the name that it has
abbrev pub IsRightKind : List ℕ → TokenKind → Type 0
IsRightKind text TableHeader = text ≡ left_bracket ∷ []
IsRightKind text ElementHeader = text ≡ left_bracket ∷ left_bracket ∷ []
IsRightKind text (Key name) = IsNamed text name
IsRightKind text (Dotted name) = IsNamed text name
IsRightKind text (Open c) = text ≡ opening c ∷ []
IsRightKind text (Close c) = text ≡ closing c ∷ []
IsRightKind text StringToken = starts_string text ≡ true
IsRightKind text Word = begins_word text ≡ true
IsRightKind text Other = is_gap text ≡ false

-- a front of a text that was cut is a gap or a token
abbrev pub IsRightPiece : List ℕ → Option TokenKind → Type 0
IsRightPiece text None = is_gap text ≡ true
IsRightPiece text (Some kind) = IsRightKind text kind

-- the bytes of a text at a span
abbrev pub text_at : List ℕ → Span → List ℕ
text_at text span = between span.start span.end text

-- nothing but gaps is between two bytes of a text
pub record AreGaps (text : List ℕ) (low high : ℕ) : Type 0 where
  pub gaps : List (List ℕ)
  pub order : low ≤ high
  pub whole : between low high text ≡ concat gaps
  pub each : All (λ bytes. is_gap bytes ≡ true) gaps

-- the token is some whole characters of the text, which are those of its kind
pub record IsToken (text : List ℕ) (token : Token) : Type 0 where
  pub some : token.span.start < token.span.end
  pub within : token.span.end ≤ length text
  pub utf8 : IsUtf8 (text_at text token.span)
  pub right : IsRightKind (text_at text token.span) token.kind

-- the text between two bytes is these tokens in order, with nothing but gaps before, between and
-- behind them
abbrev pub AreTokens : List ℕ → ℕ → List Token → ℕ → Type 0
AreTokens text low [] high = AreGaps text low high
AreTokens text low (token ∷ tokens) high =
    AreGaps text low token.span.start × IsToken text token
    × AreTokens text token.span.end tokens high

-- the byte at which a rest of the text begins
abbrev pub at : List ℕ → List ℕ → ℕ
at text rest = length text - length rest

-- the text ends with this
pub record IsRest (text rest : List ℕ) : Type 0 where
  pub within : length rest ≤ length text
  pub is : rest ≡ drop (at text rest) text

-- the token takes the text from one rest of it up to another; with none there is a gap
abbrev pub IsFound : List ℕ → ℕ → ℕ → Option Token → Type 0
IsFound text low high None = is_gap (between low high text) ≡ true
IsFound text low high (Some token) = IsToken text token × (token.span.start ≡ low)
    × (token.span.end ≡ high)

-- from a rest of a text, a turn leads to a shorter one, with what it found in the bytes between
pub record IsTaken (text rest : List ℕ) (token : Option Token) (behind : List ℕ) : Type 0 where
  pub place : IsRest text behind
  pub utf8 : IsUtf8 behind
  pub less : length behind < length rest
  pub found : IsFound text (at text rest) (at text behind) token
