-- What is wrong with platforms that are refused, in words.
use Rattle.std.specs.Prelude.{◌≡◌, ℕ, ◌+◌, nat_eq, min, Bool, not, ◌&&◌, List, codes, Option, None, Some, option_map, string_bytes, if◌then◌else◌}
use Rattle.std.specs.Bool.{⊤}
use Rattle.std.specs.List.{ends_with, starts_with}
use Rattle.std.specs.Str.{bytes_eq}
use Rattle.rinqebo_faults.specs.TomlLines.{greatest}
use Rattle.rinqebo_faults.specs.declared.worded.Worded.{Worded}

-- a text begins an expression and does not end it
unfoldable pub is_open : List ℕ → Bool
is_open text = starts_with nat_eq text (codes "cfg(") && not (ends_with nat_eq text (codes ")"))

-- what is wrong with parentheses or quotes of a platform, and what is expected
unfoldable pub pair_words : (text reason : List ℕ) → Option (List ℕ × List ℕ)
pair_words text reason =
    if is_open text then Some (codes "`(` is not closed", codes "a closing `)`")
    else if bytes_eq reason (codes "unclosed quotes")
    then Some (codes "`\"` is not closed", codes "a closing `\"`")
    else if bytes_eq reason (codes "unclosed parentheses")
    then Some (codes "`(` is not closed", codes "a closing `)`")
    else if bytes_eq reason (codes "unopened parentheses")
    then Some (codes "`)` closes nothing", codes "the end of the platform, or a `(` before it")
    else None

-- the place of one byte
abbrev pub first_byte : ℕ → ℕ × ℕ
first_byte start = (start, min (start + 1) greatest)

-- What is wrong with a byte of a platform is this, and what is expected there.
pub record SaysAt (message expected : List ℕ) (start : ℕ) (worded : Worded) : Type 0 where
  pub place : (worded.start, worded.end) ≡ first_byte start
  pub says : string_bytes worded.message ≡ message
  pub wants : option_map string_bytes worded.expected ≡ Some expected

-- words are those of parentheses or quotes, if these are wrong
abbrev pub HasPairWords : Option (List ℕ × List ℕ) → ℕ → Option Worded → Type 0
HasPairWords None start words = ⊤
HasPairWords (Some pair) start None = ⊥
HasPairWords (Some pair) start (Some worded) = SaysAt pair.0 pair.1 start worded
