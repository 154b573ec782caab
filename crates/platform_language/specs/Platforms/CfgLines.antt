-- Lines as the compiler prints them.
use Rattle.std.specs.Prelude.{◌≡◌, ℕ, ◌==◌, Bool, false, ◌||◌, ◌&&◌, IsTrue, List, [], ◌∷◌, ◌++◌, length, map, filter, All, Option, Some, None, not}
use Rattle.std.specs.Char.{is_ascii_alphabetic, is_ascii_alphanumeric}
use Rattle.std.specs.List.{list_all}
use Rattle.platform_language.specs.Platforms.Platforms.{Line}

-- whether a byte begins a word: `_` or a letter
abbrev pub starts_word : ℕ → Bool
starts_word byte = byte == 95 || is_ascii_alphabetic byte

-- whether a byte goes on with a word: `_`, a letter or a digit
abbrev pub continues_word : ℕ → Bool
continues_word byte = byte == 95 || is_ascii_alphanumeric byte

-- whether bytes are a word
abbrev pub is_word : List ℕ → Bool
is_word [] = false
is_word (first ∷ rest) = starts_word first && list_all continues_word rest

-- a value between quotes; none in it is escaped
abbrev pub quoted : List ℕ → List ℕ
quoted value = 34 ∷ (value ++ (34 ∷ []))

-- how a key is printed alone, and before a value: with `=` and the value between quotes
abbrev pub spelling_of : List ℕ → Option (List ℕ) → List ℕ
spelling_of key None = key
spelling_of key (Some value) = key ++ (61 ∷ quoted value)

-- how a line is printed
abbrev pub spelling : Line → List ℕ
spelling line = spelling_of line.key line.value

-- The key of a line is a word.
abbrev pub HasWord : Line → Type 0
HasWord line = IsTrue (is_word line.key)

-- The text is how a line is printed whose key is a word.
abbrev pub WritesLine : List ℕ → Line → Type 0
WritesLine text line = HasWord line × (text ≡ spelling line)

-- The text writes no line.
abbrev pub IsNoLine : List ℕ → Type 0
IsNoLine text = (line : Line) → ¬ WritesLine text line

-- The texts but the empty ones are how these lines are printed, and their keys are words.
pub record WritesLines (texts : List (List ℕ)) (lines : List Line) : Type 0 where
  pub words : All HasWord lines
  pub spelled : filter (λ text. not (length text == 0)) texts ≡ map spelling lines
