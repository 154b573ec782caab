-- What is in front of a text: words, operators and parentheses, or what is wrong there.
use Rattle.std.specs.Prelude.{ℕ, List, [], ◌∷◌, Option, None, Some, Result, Ok, Err, is_some, option_map, codes, if◌then◌else◌}
use Rattle.std.specs.Option.{option_or}
use Rattle.std.specs.Str.{trim}
use Rattle.filter_language.specs.declared.fault.FaultKind.{FaultKind}
use Rattle.filter_language.specs.declared.fault.FaultKind.TheVariants.{ExpectedOpenParenthesis, ExpectedCloseParenthesis, UnexpectedArgument, UnexpectedComma, InvalidOrOperator, InvalidAndOperator}
use Rattle.filter_language.specs.declared.words.Field.{Field}
use Rattle.filter_language.specs.declared.words.Field.TheVariants.{TestName, Package, Deps, Rdeps, BinaryId, BinaryName, Kind, Group}
use Rattle.filter_language.specs.declared.words.Word.{Word}
use Rattle.filter_language.specs.declared.words.Word.TheVariants.{All, Nothing, Default, Platform, Matches}
use Rattle.filter_language.specs.declared.reading.operator.Operator.{Operator}
use Rattle.filter_language.specs.declared.reading.operator.Operator.TheVariants.{And, Or, Minus, Close}
use Rattle.filter_language.specs.Texts.{after_prefix, skipped, front_until, rest_until}
use Rattle.filter_language.specs.Places.{Misreading}

-- What is wrong at one place, and from one place until another.
abbrev pub wrong_between : FaultKind → List ℕ → List ℕ → Misreading
wrong_between kind from until = record { kind = kind; from = from; until = until }

abbrev pub wrong_at : FaultKind → List ℕ → Misreading
wrong_at kind place = wrong_between kind place place

-- Something that is written in one way, and what follows it.
abbrev pub spelled : {X : Type 0} → X → List ℕ → List ℕ → Option (X × List ℕ)
spelled x spelling text = option_map (λ rest. (x, rest)) (after_prefix spelling text)

-- The field whose word a text begins with, and what follows it.
abbrev pub field_in : List ℕ → Option (Field × List ℕ)
field_in text =
    option_or (spelled BinaryId (codes "binary_id") text)
    (option_or (spelled BinaryName (codes "binary") text)
    (option_or (spelled TestName (codes "test") text)
    (option_or (spelled Package (codes "package") text)
    (option_or (spelled Deps (codes "deps") text)
    (option_or (spelled Rdeps (codes "rdeps") text)
    (option_or (spelled Kind (codes "kind") text)
    (spelled Group (codes "group") text)))))))

-- The word that a text begins with, and what follows it.
abbrev pub word_in : List ℕ → Option (Word × List ℕ)
word_in text =
    option_or (spelled All (codes "all") text)
    (option_or (spelled Nothing (codes "none") text)
    (option_or (spelled Default (codes "default") text)
    (option_or (spelled Platform (codes "platform") text)
    (option_map (λ found. (Matches found.0, found.1)) (field_in text)))))

-- What follows the `(` behind a word.
abbrev pub inside_of : List ℕ → Option (List ℕ) → Result (List ℕ) Misreading
inside_of place (Some inside) = Ok inside
inside_of place None = Err (wrong_at ExpectedOpenParenthesis place)

abbrev pub opened_in : List ℕ → Result (List ℕ) Misreading
opened_in place = inside_of place (after_prefix (codes "(") (skipped place))

-- The `)` behind an argument, and what follows it.
abbrev pub close_of : FaultKind → List ℕ → List ℕ → Option (List ℕ)
    → Result (List ℕ × List ℕ) Misreading
close_of kind place close (Some rest) = Ok (close, rest)
close_of kind place close None = Err (wrong_at kind place)

-- What is wrong if there is no `)`.
abbrev pub no_close : List ℕ → FaultKind
no_close close =
    if is_some (after_prefix (codes ",") close) then UnexpectedComma else ExpectedCloseParenthesis

abbrev pub closed_in : List ℕ → Result (List ℕ × List ℕ) Misreading
closed_in place =
    close_of (no_close (skipped place)) place (skipped place)
    (after_prefix (codes ")") (skipped place))

-- The `)` of a set without an argument, and what follows it: white space alone is before it.
abbrev pub bare_close : List ℕ → List ℕ → List ℕ → Result (List ℕ × List ℕ) Misreading
bare_close inside [] close =
    close_of ExpectedCloseParenthesis close close (after_prefix (codes ")") close)
bare_close inside (c ∷ argument) close = Err (wrong_between UnexpectedArgument inside close)

abbrev pub closed_bare_in : List ℕ → Result (List ℕ × List ℕ) Misreading
closed_bare_in inside =
    bare_close inside (trim (front_until (codes ")") inside)) (rest_until (codes ")") inside)

-- What follows one of two spellings.
abbrev pub after_one : List ℕ → List ℕ → List ℕ → Option (List ℕ)
after_one first second text = option_or (after_prefix first text) (after_prefix second text)

-- The operator or `)` that a text begins with, and what follows it.
abbrev pub operator_of : List ℕ → Option (Operator × List ℕ)
operator_of text =
    option_or (option_map (λ rest. (Or, rest)) (option_or (after_prefix (codes "or ") text)
    (after_one (codes "|") (codes "+") text)))
    (option_or (option_map (λ rest. (And, rest)) (after_one (codes "and ") (codes "&") text))
    (option_or (spelled Minus (codes "-") text) (spelled Close (codes ")") text)))

-- The same, unless a mark is there that other languages write.
abbrev pub foreign_or : List ℕ → Option (List ℕ) → Option (List ℕ)
    → Result (Option (Operator × List ℕ)) Misreading
foreign_or text (Some rest) _ = Err (wrong_between InvalidOrOperator text rest)
foreign_or text None (Some rest) = Err (wrong_between InvalidAndOperator text rest)
foreign_or text None None = Ok (operator_of text)

abbrev pub operator_in : List ℕ → Result (Option (Operator × List ℕ)) Misreading
operator_in text =
    foreign_or text (after_one (codes "||") (codes "OR ") text)
    (after_one (codes "&&") (codes "AND ") text)
