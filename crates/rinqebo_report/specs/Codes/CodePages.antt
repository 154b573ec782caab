-- The pages of codes, their list, and the document that has the pages of all.
use Rattle.std.specs.Prelude.{ℕ, List, [], ◌∷◌, ◌++◌, Option, None, Some, codes, flat_map}
use Rattle.rinqebo_report.specs.declared.codes.code.Code.{Code}
use Rattle.rinqebo_report.specs.Codes.Codes.{code_word, code_upstream, code_meaning, code_example, code_advice, code_correction}

-- the end of a line
abbrev pub line_end : List ℕ
line_end = 10 ∷ []

-- a line of an example
abbrev pub example_line : List ℕ → List ℕ
example_line line = codes "    " ++ (line ++ line_end)

-- a paragraph, and an empty line behind it
abbrev pub paragraph : List ℕ → List ℕ
paragraph text = text ++ (line_end ++ line_end)

-- the lines of an example, and an empty line behind them
abbrev pub example_text : List (List ℕ) → List ℕ
example_text lines = flat_map example_line lines ++ line_end

-- the name that nextest-runner has, if it has one
abbrev pub upstream_text : Option (List ℕ) → List ℕ
upstream_text None = codes "A finding of `rinqebo` alone.\n"
upstream_text (Some name) = codes "In nextest-runner: `" ++ (name ++ codes "`.\n")

-- what a code means, an example, what to do, the example corrected, and the name in nextest-runner
abbrev pub body_text : Code → List ℕ
body_text code =
    paragraph (code_meaning code)
    ++ (example_text (code_example code)
    ++ (paragraph (code_advice code)
    ++ (example_text (code_correction code) ++ upstream_text (code_upstream code))))

-- the page of a code
abbrev pub page_text : Code → List ℕ
page_text code = paragraph (code_word code) ++ body_text code

-- a code in the list of codes
abbrev pub listed_text : Code → List ℕ
listed_text code = code_word code ++ (codes ": " ++ (code_meaning code ++ line_end))

-- a code in the document of all codes
abbrev pub section_text : Code → List ℕ
section_text code =
    codes "\n## `" ++ (code_word code ++ (codes "`\n\n" ++ body_text code))

-- what the document of all codes begins with
unfoldable pub document_head : List ℕ
document_head =
    codes "# Findings\n\n"
    ++ (codes "Each finding has a code: a word in brackets behind its level. "
    ++ (codes "`rinqebo check --explain CODE` prints\nwhat a code means, "
    ++ codes "and `rinqebo check --codes` lists all.\n"))
