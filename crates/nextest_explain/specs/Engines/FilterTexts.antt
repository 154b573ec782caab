use Rattle.std.specs.Prelude.{◌≡◌, ℕ, zero, suc, Bool, true, false, not, ◌+◌, ◌==◌, ◌&&◌, List, [], ◌∷◌, ◌++◌, Option, None, Some, Result, Ok, Err, length, map, option_map, codes, if◌then◌else◌}
use Rattle.std.specs.List.{list_all, slice_split, join_by}
use Rattle.std.specs.Option.{option_and_then, option_or}
use Rattle.std.specs.Str.{bytes_eq}
use Rattle.nextest_explain.specs.Engines.Texts.{after_prefix}
use Rattle.nextest_explain.specs.Engines.FilterValues.{Atom, Always, Never, AsTheDefault, NameHas, BinaryIs, Term, Filter, term_of, lists_of}
use Rattle.nextest_explain.specs.declared.engines.parse.Alternatives as read
use Rattle.nextest_explain.specs.declared.engines.parse.Reading.{Reading}
use Rattle.nextest_explain.specs.declared.engines.parse.Reading.TheVariants.{BreaksAt, Filter as TheFilter}

-- Whether a byte is neither `(` nor `)`.
abbrev pub is_no_parenthesis : ℕ → Bool
is_no_parenthesis c = not (c == 40) && not (c == 41)

-- A name is one byte or more, none of them a parenthesis.
abbrev pub is_name : List ℕ → Bool
is_name name = not (length name == 0) && list_all is_no_parenthesis name

-- The grammar.

-- How an atom is written.
abbrev pub atom_text : Atom → List ℕ
atom_text Always = codes "all()"
atom_text Never = codes "none()"
atom_text AsTheDefault = codes "default()"
atom_text (NameHas part) = codes "test(" ++ part ++ codes ")"
atom_text (BinaryIs id) = codes "binary_id(" ++ id ++ codes ")"

-- A text behind a number of `not`s.
abbrev pub behind_nots : ℕ → List ℕ → List ℕ
behind_nots zero text = text
behind_nots (suc n) text = codes "not " ++ behind_nots n text

-- How a term is written.
abbrev pub term_text : Term → List ℕ
term_text t = behind_nots t.negations (atom_text t.atom)

-- Terms are written with ` and ` between them, and the lists of a filter with ` or ` between them.
abbrev pub terms_text : List Term → List ℕ
terms_text terms = join_by term_text (codes " and ") terms

abbrev pub filter_text : Filter → List ℕ
filter_text filter = join_by terms_text (codes " or ") filter

-- Whether the names in an atom are names.
abbrev pub is_atom : Atom → Bool
is_atom (NameHas part) = is_name part
is_atom (BinaryIs id) = is_name id
is_atom _ = true

-- Whether there is something in a list.
abbrev pub is_filled : {X : Type 0} → List X → Bool
is_filled [] = false
is_filled (x ∷ xs) = true

-- Whether terms can be written: there is one, and their names are names.
abbrev pub are_written : List Term → Bool
are_written terms = is_filled terms && list_all (λ t. is_atom t.atom) terms

-- Whether a filter can be written: it has a list, and its lists can be written.
abbrev pub is_written : Filter → Bool
is_written filter = is_filled filter && list_all are_written filter

-- A text spells a filter that can be written.
abbrev pub SpellsFilter : List ℕ → Filter → Type 0
SpellsFilter text filter = (filter_text filter ≡ text) × (is_written filter ≡ true)

-- Reading, by pieces that end before each `)`.

-- The name that follows a prefix.
abbrev pub name_after : List ℕ → List ℕ → Option (List ℕ)
name_after prefix piece =
    option_and_then (λ name. if is_name name then Some name else None) (after_prefix prefix piece)

-- The atom that a piece writes.
abbrev pub atom_in : List ℕ → Option Atom
atom_in piece =
    if bytes_eq piece (codes "all(") then Some Always else
    (if bytes_eq piece (codes "none(") then Some Never else
    (if bytes_eq piece (codes "default(") then Some AsTheDefault else
    option_or (option_map NameHas (name_after (codes "test(") piece))
    (option_map BinaryIs (name_after (codes "binary_id(") piece))))

-- An atom alone, and a term behind one more `not`.
abbrev pub plain : Atom → Term
plain atom = record { negations = 0; atom = atom }

abbrev pub once_more : Term → Term
once_more t = record { negations = suc t.negations; atom = t.atom }

-- A term behind more `not`s.
abbrev pub more_nots : ℕ → Term → Term
more_nots n t = record { negations = n + t.negations; atom = t.atom }

-- The term that a piece writes.
abbrev pub term_in : List ℕ → Option Term
term_in (a ∷ b ∷ c ∷ d ∷ piece) =
    if bytes_eq (a ∷ b ∷ c ∷ d ∷ []) (codes "not ") then option_map once_more (term_in piece)
    else option_map plain (atom_in (a ∷ b ∷ c ∷ d ∷ piece))
term_in piece = option_map plain (atom_in piece)

-- What was read so far: the lists that are complete, and the last one.
pub record SoFar : Type 0 where
  pub complete : Filter
  pub last : List Term

-- What was read so far, of the lists in memory.
abbrev pub parts_so_far : read.Alternatives → SoFar
parts_so_far r = record { complete = lists_of r.complete.items; last = map term_of r.last.items }

abbrev pub filter_so_far : SoFar → Filter
filter_so_far s = s.complete ++ s.last ∷ []

-- One more term of the last list, and one of a new list.
abbrev pub also : SoFar → Term → SoFar
also s t = record { complete = s.complete; last = s.last ++ t ∷ [] }

abbrev pub or_else : SoFar → Term → SoFar
or_else s t = record { complete = filter_so_far s; last = t ∷ [] }

-- What a piece adds, by what follows ` and ` and what follows ` or ` in it.
abbrev pub joined_by : SoFar → Option (List ℕ) → Option (List ℕ) → Option SoFar
joined_by s (Some text) _ = option_map (also s) (term_in text)
joined_by s None (Some text) = option_map (or_else s) (term_in text)
joined_by s None None = None

abbrev pub joined_piece : SoFar → List ℕ → Option SoFar
joined_piece s piece =
    joined_by s (after_prefix (codes " and ") piece) (after_prefix (codes " or ") piece)

-- What follows where a piece is read. Else the text breaks at this piece.
abbrev pub unless_broken : {X : Type 0} → List ℕ → (X → Result Filter (List ℕ)) → Option X
    → Result Filter (List ℕ)
unless_broken piece next None = Err piece
unless_broken piece next (Some x) = next x

-- The filter so far, where nothing is behind the last `)`; else what is there.
abbrev pub filter_at_end : SoFar → List ℕ → Result Filter (List ℕ)
filter_at_end s [] = Ok (filter_so_far s)
filter_at_end s (c ∷ piece) = Err (c ∷ piece)

-- The filter with what further pieces add, or the piece at which they break.
abbrev pub filter_after : SoFar → List (List ℕ) → Result Filter (List ℕ)
filter_after s [] = Err []
filter_after s (piece ∷ []) = filter_at_end s piece
filter_after s (piece ∷ next ∷ pieces) =
    unless_broken piece (λ more. filter_after more (next ∷ pieces)) (joined_piece s piece)

-- A text, cut at each `)`.
abbrev pub pieces : List ℕ → List (List ℕ)
pieces text = slice_split (λ c. c == 41) text

-- What was read with the first term.
abbrev pub one_term_so_far : Term → SoFar
one_term_so_far t = record { complete = []; last = t ∷ [] }

-- The filter that the pieces of a text write, or the piece at which they break.
abbrev pub filter_in_pieces : List (List ℕ) → Result Filter (List ℕ)
filter_in_pieces [] = Err []
filter_in_pieces (piece ∷ []) = Err piece
filter_in_pieces (piece ∷ next ∷ more) =
    unless_broken piece (λ t. filter_after (one_term_so_far t) (next ∷ more)) (term_in piece)

-- The filter that a text writes, or the piece at which the text breaks.
abbrev pub filter_in : List ℕ → Result Filter (List ℕ)
filter_in text = filter_in_pieces (pieces text)

-- What a text is read as, of what is in memory.
abbrev pub reading_view : Reading → Result Filter (List ℕ)
reading_view (TheFilter lists) = Ok (lists_of lists.items)
reading_view (BreaksAt piece) = Err piece.now
