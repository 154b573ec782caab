use Rattle.std.specs.Prelude.{ℕ, Bool, true, false, List, [], ◌∷◌, ◌++◌, Option, None, Some, Result, Ok, Err, codes, unwrap_or, if◌then◌else◌}
use Rattle.std.specs.List.{list_any, flat_map}
use Rattle.nextest_engines.specs.Engines as engines
use Rattle.nextest_engines.specs.declared.queries.FiltersetKind.{FiltersetKind}
use Rattle.nextest_engines.specs.declared.queries.FiltersetKind.TheVariants.{DefaultFilter}
use Rattle.nextest_explain.specs.Engines.FilterValues.{Atom, AsTheDefault, NameHas, Term, Filter, Subject, filter_value}
use Rattle.nextest_explain.specs.Engines.FilterTexts.{filter_in, atom_text}

-- A filter is evaluated at a test by the test's name and the id of its binary.
abbrev pub test_subject : engines.Test → Subject
test_subject test = record { binary_id = test.binary.binary_id; test_name = Some test.name }

-- A filter is evaluated at a binary by its id alone.
abbrev pub binary_subject : engines.Binary → Subject
binary_subject binary = record { binary_id = binary.binary_id; test_name = None }

-- The value of a filter beside a default filter, in which a further `default()` is true.
abbrev pub value_beside : Subject → Filter → Filter → Option Bool
value_beside s default filter = filter_value s (filter_value s (Some true) default) filter

-- Whether a filter matches a test.
abbrev pub filter_matches : Filter → engines.Test → Filter → Bool
filter_matches filter test default =
    unwrap_or (value_beside (test_subject test) default filter) false

-- Whether a filter matches a binary, or none where that is unknown.
abbrev pub filter_holds_binary : Filter → engines.Binary → Filter → Option Bool
filter_holds_binary filter binary default = value_beside (binary_subject binary) default filter

-- An atom that only a test can decide, as it is written.
abbrev pub atom_leaves : Atom → List (List ℕ)
atom_leaves (NameHas part) = atom_text (NameHas part) ∷ []
atom_leaves _ = []

-- The parts of a term, and of a filter, that only a test can decide, from left to right.
abbrev pub term_leaves : Term → List (List ℕ)
term_leaves t = atom_leaves t.atom

abbrev pub filter_leaves : Filter → List (List ℕ)
filter_leaves filter = flat_map (λ terms. flat_map term_leaves terms) filter

-- Whether a term is `default()`, behind `not`s or not.
abbrev pub is_default_atom : Atom → Bool
is_default_atom AsTheDefault = true
is_default_atom _ = false

abbrev pub is_default_term : Term → Bool
is_default_term t = is_default_atom t.atom

-- Whether a filter uses the default filter.
abbrev pub asks_default : Filter → Bool
asks_default filter = list_any (λ terms. list_any is_default_term terms) filter

-- The messages of refusals.
abbrev pub no_filter : (text piece : List ℕ) → List ℕ
no_filter text piece =
    codes "`" ++ text ++ codes "` is no filter: it breaks at `" ++ piece ++ codes "`"

abbrev pub default_in_default : List ℕ → List ℕ
default_in_default text =
    codes "`" ++ text ++ codes "` asks for the default filter, which a default filter may not"

-- What a text means that is read for a kind, by the filter that it writes or the piece at which it
-- breaks: a default filter may not use itself. No refusal has a span.
abbrev pub read_for : FiltersetKind → List ℕ → Result Filter (List ℕ)
    → Result Filter engines.RefusalText
read_for kind text (Err piece) = Err (engines.without_span (no_filter text piece))
read_for DefaultFilter text (Ok filter) =
    if asks_default filter then Err (engines.without_span (default_in_default text)) else Ok filter
read_for _ text (Ok filter) = Ok filter

-- What a text means that is read for a kind.
abbrev pub filter_read : FiltersetKind → List ℕ → Result Filter engines.RefusalText
filter_read kind text = read_for kind text (filter_in text)
