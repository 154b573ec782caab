-- The lines of a text.
use Rattle.std.specs.Prelude.{ℕ, zero, suc, ◌+◌, ◌||◌, ◌==◌, if◌then◌else◌, List, [], ◌∷◌, length}

-- The first n lines of a text: each up to and including its line feed, the last perhaps without.
abbrev pub first_lines : ℕ → List ℕ → List ℕ
first_lines zero text = []
first_lines (suc n) [] = []
first_lines (suc n) (c ∷ cs) = c ∷ (if c == 10 then first_lines n cs else first_lines (suc n) cs)

-- What follows the first n lines of a text.
abbrev pub after_lines : ℕ → List ℕ → List ℕ
after_lines zero text = text
after_lines (suc n) [] = []
after_lines (suc n) (c ∷ cs) = if c == 10 then after_lines n cs else after_lines (suc n) cs

-- Where each line ends, for lines that begin at `start`: behind a line feed, or at the end.
abbrev pub line_ends : ℕ → List ℕ → List ℕ
line_ends start [] = []
line_ends start (c ∷ cs) =
    if c == 10 || length cs == 0 then (start + 1) ∷ line_ends (start + 1) cs
    else line_ends (start + 1) cs

-- How many lines a text has.
abbrev pub line_count : List ℕ → ℕ
line_count text = length (line_ends 0 text)
