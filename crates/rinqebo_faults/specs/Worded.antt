-- Texts that are refused, and what is wrong with a part of them.
use Rattle.std.specs.Prelude.{◌≡◌, ◌⊎◌, ◌≤◌, ◌+◌, ◌-◌, ◌^◌, ℕ, min, List, [], ◌∷◌, length, None, Some, string_bytes, option_map, slice_range}
use Rattle.std.specs.Char.{encode_utf8}
use Rattle.std.specs.Str.{chars, IsCharBoundary}
use Rattle.rinqebo_faults.specs.declared.worded.Worded.{Worded}

-- the first of some characters, as a text
abbrev pub first_text : List ℕ → List ℕ
first_text [] = []
first_text (c ∷ cs) = encode_utf8 c

-- the character that a text begins with, as a text
unfoldable pub first_of : List ℕ → List ℕ
first_of text = first_text (chars text)

-- a text may be cut at two bytes
pub record IsCut (text : List ℕ) (start end : ℕ) : Type 0 where
  pub in_order : start ≤ end
  pub before : IsCharBoundary text start
  pub behind : IsCharBoundary text end

-- A part of a text is what is between two bytes.
pub record IsBetween (text : List ℕ) (start end : ℕ) (part : List ℕ) : Type 0 where
  pub bytes : part ≡ slice_range text start end
  pub reaches : length part + start ≡ end
  pub fits : end ≤ length text

-- a part of a text is what is between two bytes, or nothing where the text may not be cut at them
abbrev pub IsPart : List ℕ → ℕ → ℕ → List ℕ → Type 0
IsPart text start end part =
    IsBetween text start end part ⊎ (¬ IsCut text start end × (part ≡ []))

-- the place of a part of a text, of some bytes, with which some end of the text begins
unfoldable pub place_of : (text rest : List ℕ) → ℕ → ℕ × ℕ
place_of text rest len =
    let start = length text - length rest in (start, min (start + len) (2 ^ 64 - 1))

-- What is wrong with a part of a text is this, and what is expected there; there is no advice.
pub record IsWorded (place : ℕ × ℕ) (message expected : List ℕ) (worded : Worded) : Type 0 where
  pub start : worded.start ≡ place.0
  pub end : worded.end ≡ place.1
  pub says : string_bytes worded.message ≡ message
  pub wants : option_map string_bytes worded.expected ≡ Some expected
  pub no_help : worded.help ≡ None
