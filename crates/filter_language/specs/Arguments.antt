-- The texts and regexes of arguments: what their bytes are, where they end, or what is wrong there.
use Rattle.std.specs.Prelude.{ℕ, zero, suc, nat_lt, ◌&&◌, List, [], ◌∷◌, ◌++◌, Option, None, Some, Result, Ok, Err, length, drop, option_map, codes, chars, if◌then◌else◌}
use Rattle.std.specs.List.{list_all}
use Rattle.std.specs.Option.{option_or, option_and_then}
use Rattle.std.specs.Char.{encode_utf8, is_digit, len_utf8}
use lib.Utf8.{scalar}
use Rattle.std.specs.Str.Parse.{digits_value}
use Rattle.filter_language.specs.declared.fault.FaultKind.TheVariants.{InvalidEscapeCharacter, InvalidString, ExpectedCloseRegex}
use Rattle.filter_language.specs.Texts.{after_prefix, front_until, rest_until}
use Rattle.filter_language.specs.Places.{Misreading}
use Rattle.filter_language.specs.Lexing.{wrong_between, wrong_at, spelled}

-- The number of one to six hex digits.
abbrev pub hex_in : List ℕ → Option ℕ
hex_in digits =
    if (nat_lt 0 (length digits) && nat_lt (length digits) 7)
    && list_all (λ c. is_digit c 16) digits
    then Some (digits_value 16 digits) else None

-- The character of a number.
abbrev pub scalar_in : ℕ → Option ℕ
scalar_in number = if scalar number then Some number else None

-- The character of an escape `u{..}`, and what follows it.
abbrev pub braced_in : List ℕ → Option (ℕ × List ℕ)
braced_in text =
    option_and_then (λ rest. option_map (λ c. (c, rest))
    (option_and_then scalar_in (hex_in (front_until (codes "}") text))))
    (after_prefix (codes "}") (rest_until (codes "}") text))

abbrev pub unicode_in : List ℕ → Option (ℕ × List ℕ)
unicode_in text = option_and_then braced_in (after_prefix (codes "u{") text)

-- The character of an escape behind its `\`, and what follows it.
abbrev pub escape_in : List ℕ → Option (ℕ × List ℕ)
escape_in text =
    option_or (spelled 10 (codes "n") text)
    (option_or (spelled 13 (codes "r") text)
    (option_or (spelled 9 (codes "t") text)
    (option_or (spelled 92 (codes "\\") text)
    (option_or (spelled 47 (codes "/") text)
    (option_or (spelled 41 (codes ")") text)
    (option_or (spelled 44 (codes ",") text)
    (unicode_in text)))))))

-- A text behind its first character.
abbrev pub behind_first : List ℕ → List ℕ → List ℕ
behind_first [] text = text
behind_first (c ∷ cs) text = drop (len_utf8 c) text

-- The bytes that were read so far, and the place from which reading goes on or where it ends.
pub data Turn : Type 0 where
  Onward : List ℕ → List ℕ → Turn
  Over : List ℕ → List ℕ → Turn

-- A text up to its next escape, and that escape, behind what was read before.
abbrev pub escaped_turn : List ℕ → List ℕ → List ℕ → Option (ℕ × List ℕ)
    → Result Turn Misreading
escaped_turn read end behind (Some found) = Ok (Onward (read ++ encode_utf8 found.0) found.1)
escaped_turn read end behind None =
    Err (wrong_between InvalidEscapeCharacter end (behind_first (chars behind) behind))

abbrev pub backslash_turn : List ℕ → List ℕ → Option (List ℕ) → Result Turn Misreading
backslash_turn read end (Some behind) = escaped_turn read end behind (escape_in behind)
backslash_turn read end None = Ok (Over read end)

abbrev pub text_turn : List ℕ → List ℕ → Result Turn Misreading
text_turn before rest =
    backslash_turn (before ++ front_until (codes ",)\\") rest) (rest_until (codes ",)\\") rest)
    (after_prefix (codes "\\") (rest_until (codes ",)\\") rest))

-- A regex up to its next `\/` or other `\`, and that, behind what was read before.
abbrev pub bare_turn : List ℕ → List ℕ → Option (List ℕ) → Result Turn Misreading
bare_turn read end (Some next) = Ok (Onward (read ++ codes "\\") next)
bare_turn read end None = Ok (Over read end)

abbrev pub slash_turn : List ℕ → List ℕ → Option (List ℕ) → Result Turn Misreading
slash_turn read end (Some next) = Ok (Onward (read ++ codes "/") next)
slash_turn read end None = bare_turn read end (after_prefix (codes "\\") end)

abbrev pub regex_turn : List ℕ → List ℕ → Result Turn Misreading
regex_turn before rest =
    slash_turn (before ++ front_until (codes "/\\") rest) (rest_until (codes "/\\") rest)
    (after_prefix (codes "\\/") (rest_until (codes "/\\") rest))

-- What is read when a turn has been taken, and where that ends.
abbrev pub behind_turn : (List ℕ → List ℕ → Result (List ℕ × List ℕ) Misreading)
    → Result Turn Misreading → Result (List ℕ × List ℕ) Misreading
behind_turn more (Ok (Onward read next)) = more read next
behind_turn more (Ok (Over read end)) = Ok (read, end)
behind_turn more (Err m) = Err m

-- What is read in so many turns, and where that ends.
abbrev pub body_within : (List ℕ → List ℕ → Result Turn Misreading) → ℕ → List ℕ → List ℕ
    → Result (List ℕ × List ℕ) Misreading
body_within turn zero before rest = Ok (before, rest)
body_within turn (suc n) before rest = behind_turn (body_within turn n) (turn before rest)

-- What is read in as many turns as there are bytes, and one more at the end.
unfoldable pub body_in : (List ℕ → List ℕ → Result Turn Misreading) → List ℕ
    → Result (List ℕ × List ℕ) Misreading
body_in turn text = body_within turn (suc (length text)) [] text

-- A text or a regex: its bytes, where it ends, and where what is behind it begins.
pub record Body : Type 0 where
  pub bytes : List ℕ
  pub end : List ℕ
  pub behind : List ℕ

-- A text of at least one character.
abbrev pub filled : Result (List ℕ × List ℕ) Misreading → Result Body Misreading
filled (Ok ([], end)) = Err (wrong_at InvalidString end)
filled (Ok (c ∷ bytes, end)) = Ok (record { bytes = c ∷ bytes; end = end; behind = end })
filled (Err m) = Err m

abbrev pub text_in : List ℕ → Result Body Misreading
text_in start = filled (body_in text_turn start)

-- A regex that ends with a `/`.
abbrev pub closed_regex : List ℕ → List ℕ → List ℕ → Option (List ℕ) → Result Body Misreading
closed_regex start bytes end (Some behind) =
    Ok (record { bytes = bytes; end = end; behind = behind })
closed_regex start bytes end None =
    Err (wrong_at ExpectedCloseRegex (rest_until (codes ")") start))

abbrev pub slashed : List ℕ → Result (List ℕ × List ℕ) Misreading → Result Body Misreading
slashed start (Ok (bytes, end)) = closed_regex start bytes end (after_prefix (codes "/") end)
slashed start (Err m) = Err m

abbrev pub regex_in : List ℕ → Result Body Misreading
regex_in start = slashed start (body_in regex_turn start)
