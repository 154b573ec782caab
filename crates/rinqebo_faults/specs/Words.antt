-- Lists in words.
use Rattle.std.specs.Prelude.{ℕ, ◌==◌, Bool, not, ◌&&◌, List, [], ◌∷◌, ◌++◌, map, length, codes, if◌then◌else◌}
use Rattle.std.specs.Str.{all_ascii_digits}

-- words behind the first one: a comma before each, and something else before the last one
abbrev pub listed_behind : List ℕ → List (List ℕ) → List ℕ
listed_behind last [] = []
listed_behind last (word ∷ []) = last ++ word
listed_behind last (word ∷ next ∷ words) =
    codes ", " ++ (word ++ listed_behind last (next ∷ words))

-- words with commas between them, and something else before the last one
unfoldable pub listed : List ℕ → List (List ℕ) → List ℕ
listed last [] = []
listed last (word ∷ words) = word ++ listed_behind last words

-- a word between backquotes
abbrev pub backquoted : List ℕ → List ℕ
backquoted word = codes "`" ++ (word ++ codes "`")

-- words between backquotes with commas between them, and something else before the last one
abbrev pub quoted : List ℕ → List (List ℕ) → List ℕ
quoted last words = listed last (map backquoted words)

-- a text has a character, and digits alone
unfoldable pub is_number : List ℕ → Bool
is_number text = all_ascii_digits text && not (length text == 0)

-- what is before an item behind the first one: commas, and something else before the last one
abbrev pub mark_before : (is_last : Bool) → List ℕ → List ℕ
mark_before is_last last = if is_last then last else codes ", "
