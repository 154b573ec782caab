-- The leaves that keys and values write.
use Rattle.std.specs.Prelude.{ℕ, leb, ◌==◌, ◌||◌, ◌&&◌, Bool, not, List, Option, None, Some, Result, Ok, Err, length, codes, bytes_eq, decimal, option_and_then, if◌then◌else◌}
use Rattle.std.specs.Str.{all_ascii_digits}
use Rattle.std.specs.Str.Parse.{digits_value, without_leading_plus}
use Rattle.platform_language.specs.declared.fault.Place.{Place}
use Rattle.platform_language.specs.declared.fault.FaultKind.TheVariants.{ValueWanted, UnknownTargetKey, ValueNotAllowed, EmptyFeature, BadEndian, BadWidth, BadAtomic}
use Rattle.platform_language.specs.declared.fault.BodyFault.{BodyFault}
use Rattle.platform_language.specs.declared.keys.KeyKind.{KeyKind}
use Rattle.platform_language.specs.declared.keys.KeyKind.TheVariants.{Family, Never, CrateFeature, Free, Endian, Width, Atomic, TargetFeature, UnknownTarget, Other}
use Rattle.platform_language.specs.declared.leaves.Piece as piece
use Rattle.platform_language.specs.Expressions.{Leaf, Has, Feature, Nowhere}
use Rattle.platform_language.specs.Faults.{fault_at}
use Rattle.platform_language.specs.Keys.{key_kind}

-- A part of a body that has a text.
pub record Piece : Type 0 where
  pub text : List ℕ
  pub place : Place

-- the piece that is in memory
abbrev pub piece_view : piece.Piece → Piece
piece_view p = record { text = p.text.now; place = p.place }

-- the question for a line of a key with a value
abbrev pub has_line : List ℕ → List ℕ → Leaf
has_line key value = Has (record { key = key; value = Some value })

-- the question for a line of a key alone
abbrev pub has_name : List ℕ → Leaf
has_name name = Has (record { key = name; value = None })

-- whether a text is a digit of ASCII or more
abbrev pub is_numeral : List ℕ → Bool
is_numeral text = not (length text == 0) && all_ascii_digits text

-- the number that a text writes, perhaps behind a `+`
abbrev pub number_in : List ℕ → Option ℕ
number_in text = if is_numeral (without_leading_plus text)
    then Some (digits_value 10 (without_leading_plus text)) else None

-- a number that is at most another, written plainly
abbrev pub plain_to : ℕ → List ℕ → Option (List ℕ)
plain_to most text =
    option_and_then (λ n. if leb n most then Some (decimal n) else None) (number_in text)

-- the leaf of a key and a plain number, or a fault where there is none
abbrev pub number_leaf : List ℕ → BodyFault → Option (List ℕ) → Result Leaf BodyFault
number_leaf key bad (Some plain) = Ok (has_line key plain)
number_leaf key bad None = Err bad

-- the leaf of an endianness
abbrev pub endian_leaf : Piece → Result Leaf BodyFault
endian_leaf value = if bytes_eq value.text (codes "big") || bytes_eq value.text (codes "little")
    then Ok (has_line (codes "target_endian") value.text) else Err (fault_at BadEndian value.place)

-- the leaf of the width of pointers
abbrev pub width_leaf : Piece → Result Leaf BodyFault
width_leaf value = number_leaf (codes "target_pointer_width")
    (fault_at BadWidth value.place) (plain_to 255 value.text)

-- the leaf of the size of atomics
abbrev pub atomic_leaf : Piece → Result Leaf BodyFault
atomic_leaf value = if bytes_eq value.text (codes "ptr")
    then Ok (has_line (codes "target_has_atomic") value.text)
    else number_leaf (codes "target_has_atomic")
    (fault_at BadAtomic value.place) (plain_to 65535 value.text)

-- the leaf of a feature
abbrev pub feature_leaf : Piece → Result Leaf BodyFault
feature_leaf value = if length value.text == 0
    then Err (fault_at EmptyFeature value.place) else Ok (Feature value.text)

-- the leaf of a key of some kind, alone
abbrev pub kind_alone : KeyKind → Piece → Result Leaf BodyFault
kind_alone Family key = Ok (has_line (codes "target_family") key.text)
kind_alone Never key = Ok Nowhere
kind_alone Other key = Ok (has_name key.text)
kind_alone CrateFeature key = Err (fault_at ValueWanted key.place)
kind_alone Free key = Err (fault_at ValueWanted key.place)
kind_alone Endian key = Err (fault_at ValueWanted key.place)
kind_alone Width key = Err (fault_at ValueWanted key.place)
kind_alone Atomic key = Err (fault_at ValueWanted key.place)
kind_alone TargetFeature key = Err (fault_at ValueWanted key.place)
kind_alone UnknownTarget key = Err (fault_at ValueWanted key.place)

-- the leaf of a key of some kind with a value
abbrev pub kind_with : KeyKind → Piece → Piece → Result Leaf BodyFault
kind_with Family key value = Err (fault_at ValueNotAllowed value.place)
kind_with Never key value = Err (fault_at ValueNotAllowed value.place)
kind_with CrateFeature key value = Ok Nowhere
kind_with Other key value = Ok Nowhere
kind_with Free key value = Ok (has_line key.text value.text)
kind_with Endian key value = endian_leaf value
kind_with Width key value = width_leaf value
kind_with Atomic key value = atomic_leaf value
kind_with TargetFeature key value = feature_leaf value
kind_with UnknownTarget key value = Err (fault_at UnknownTargetKey key.place)

-- the leaf that a key writes alone
abbrev pub leaf_alone : Piece → Result Leaf BodyFault
leaf_alone key = kind_alone (key_kind key.text) key

-- the leaf that a key with a value writes
abbrev pub leaf_with : Piece → Piece → Result Leaf BodyFault
leaf_with key value = kind_with (key_kind key.text) key value
