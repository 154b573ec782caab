-- Lines and lists, as they are read.
use Rattle.std.proofs.Common.{◌≡◌, ℕ, List, [], ◌∷◌, Option, Some, None, Ok, Err, String, Global, refl, sym, ap, ◌∙◌}
use Rattle.std.specs.Str.{chars}
use Rattle.nextest_tree.specs.Leaf.{a_text, IsText}
use Rattle.nextest_tree.specs.Node.{Node, text, array, Nodes, no_nodes, node}
use Rattle.nextest_tree.specs.Reads.{InArray, IsList, ReadState, reading, test_outcome, ◌>>=◌}
use Rattle.nextest_tree.specs.Schema.{Fault, FaultCause, bad_value, out_of_range, list_of}
use Rattle.nextest_tree.proofs.Reading.{noting_none, reading_array, reading_list}
use Rattle.nextest_scripts.specs.CommandLine.{IsArray, a_command_line, line_expected, list_cause, words_cause}
use Rattle.nextest_scripts.specs.ShellReading.{words_in}
use Rattle.nextest_scripts.specs.ShellWords.{SplitsInto}
use Rattle.nextest_scripts.proofs.ShellSplits.{splits_as_read, splits_read}

-- the fault of a line without words
abbrev pub line_fault : List ℕ → ReadState → Fault
line_fault line at = record { path = at.path; cause = bad_value line line_expected }

reading_words : (line : List ℕ) (words : Option (List (List ℕ))) (at : ReadState)
    → words_in (chars line) ≡ words
    → reading a_command_line (text line) at ≡ test_outcome (words_cause line words) at
unfolding reading a_command_line
reading_words line None at h = rw h refl
reading_words line (Some []) at h = rw h refl
reading_words line (Some (word ∷ words)) at h = rw h (ap (λ s. Ok s) (noting_none at))

-- a line that splits into words
pub line_read : (line word : List ℕ) (words : List (List ℕ)) (at : ReadState)
    → SplitsInto (chars line) (word ∷ words) → reading a_command_line (text line) at ≡ Ok at
line_read line word words at splits =
    reading_words line (Some (word ∷ words)) at (splits_read splits)

-- into no word
pub line_empty : (line : List ℕ) (at : ReadState) → SplitsInto (chars line) []
    → reading a_command_line (text line) at ≡ Err (line_fault line at)
line_empty line at splits = reading_words line (Some []) at (splits_read splits)

-- or into nothing
no_words : (line : List ℕ) (words : Option (List (List ℕ))) → words_in (chars line) ≡ words
    → ((words : List (List ℕ)) → ¬ SplitsInto (chars line) words) → words_in (chars line) ≡ None
no_words line None h none = h
no_words line (Some words) h none = absurd (none words (splits_as_read (chars line) words h))

pub line_open : (line : List ℕ) (at : ReadState)
    → ((words : List (List ℕ)) → ¬ SplitsInto (chars line) words)
    → reading a_command_line (text line) at ≡ Err (line_fault line at)
line_open line at none =
    reading_words line None at (no_words line (words_in (chars line)) refl none)

-- a list, and then whether it has a first item
abbrev pub items_cause : Node → Option FaultCause
items_cause (array items) = list_cause items
items_cause _ = None

pub list_reading : (n : Node) (at : ReadState) → IsArray n
    → reading a_command_line n at
    ≡ (reading (list_of a_text) n at >>= test_outcome (items_cause n))
unfolding a_command_line
list_reading (array items) at is =
    reading_array _ a_text list_cause items at
    ∙ ap (λ r. r >>= test_outcome (list_cause items)) (sym (reading_list a_text items at))
list_reading n at is = absurd is

first_there : (items : Nodes) (words : List (String Global)) (word : String Global)
    (rest : List (String Global)) → IsList IsText items words → words ≡ word ∷ rest
    → list_cause items ≡ None
first_there no_nodes words word rest are is = absurd (rw is at are)
first_there (node n items) words word rest are is = refl

none_there : (items : Nodes) (words : List (String Global)) → IsList IsText items words
    → words ≡ [] → list_cause items ≡ Some out_of_range
none_there no_nodes words are is = refl
none_there (node n items) words are is = absurd (rw is at are)

pub list_first : (n : Node) (words : List (String Global)) (word : String Global)
    (rest : List (String Global)) → IsArray n → InArray (λ ns xs. IsList IsText ns xs) n words
    → words ≡ word ∷ rest → items_cause n ≡ None
list_first (array items) words word rest is are some = first_there items words word rest are some
list_first n words word rest is are some = absurd is

pub list_empty : (n : Node) (words : List (String Global)) → IsArray n
    → InArray (λ ns xs. IsList IsText ns xs) n words → words ≡ []
    → items_cause n ≡ Some out_of_range
list_empty (array items) words is are none = none_there items words are none
list_empty n words is are none = absurd is
