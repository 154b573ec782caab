-- What is wrong with single values.
use Rattle.std.specs.Prelude.{ℕ, List, Option, None, Some, if◌then◌else◌}
use Rattle.nextest_tree.specs.Node.{Node, text}
use Rattle.nextest_tree.specs.Schema.{FaultCause, wrong_kind, bad_value, is_one_of}

-- a value that is to be one of some words
abbrev pub words_cause : List (List ℕ) → List ℕ → Node → Option FaultCause
words_cause words expected (text s) =
    if is_one_of words s then None else Some (bad_value s expected)
words_cause words expected _ = Some wrong_kind
