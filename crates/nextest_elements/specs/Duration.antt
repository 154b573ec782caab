-- Durations: the texts that write them, and the nanoseconds that they mean.
use Rattle.std.specs.Prelude.{◌≡◌, ℕ, ◌+◌, ◌*◌, ◌^◌, ◌<◌, List, [], ◌∷◌, ◌++◌, length, map, flat_map, replicate, sum_by, All, Contains, codes, ◌⊎◌}
use Rattle.std.specs.Str.Parse.{IsNumeral, digits_value}

-- ---- units

-- the names, each with this size
abbrev pub units_of_size : ℕ → List (List ℕ) → List (List ℕ × ℕ)
units_of_size size names = map (λ name. (name, size)) names

-- a second in nanoseconds
abbrev pub second : ℕ
second = 10 ^ 9

-- the names of the units, each with its size in nanoseconds; the bytes 194, 181 and 115 are `µs`
unfoldable pub duration_units : List (List ℕ × ℕ)
duration_units =
    units_of_size 1 (codes "ns" ∷ codes "nsec" ∷ codes "nanos" ∷ [])
    ++ units_of_size (10 ^ 3) (codes "us" ∷ codes "usec" ∷ (194 ∷ 181 ∷ 115 ∷ []) ∷ [])
    ++ units_of_size (10 ^ 6) (codes "ms" ∷ codes "msec" ∷ codes "millis" ∷ [])
    ++ units_of_size second
    (codes "s" ∷ codes "sec" ∷ codes "secs" ∷ codes "second" ∷ codes "seconds" ∷ [])
    ++ units_of_size (60 * second)
    (codes "m" ∷ codes "min" ∷ codes "mins" ∷ codes "minute" ∷ codes "minutes" ∷ [])
    ++ units_of_size (3600 * second)
    (codes "h" ∷ codes "hr" ∷ codes "hrs" ∷ codes "hour" ∷ codes "hours" ∷ [])
    ++ units_of_size (86400 * second) (codes "d" ∷ codes "day" ∷ codes "days" ∷ [])
    ++ units_of_size (604800 * second)
    (codes "w" ∷ codes "wk" ∷ codes "wks" ∷ codes "week" ∷ codes "weeks" ∷ [])
    ++ units_of_size (2630016 * second) (codes "M" ∷ codes "month" ∷ codes "months" ∷ [])
    ++ units_of_size (31557600 * second)
    (codes "y" ∷ codes "yr" ∷ codes "yrs" ∷ codes "year" ∷ codes "years" ∷ [])

-- The unit of this name has this size.
abbrev pub IsUnit : List ℕ → ℕ → Type 0
IsUnit name size = Contains duration_units (name, size)

-- ---- the grammar

-- One item of a duration: so many spaces, digits, so many spaces, and the name of a unit of this
-- size.
pub record Item : Type 0 where
  pub before : ℕ
  pub digits : List ℕ
  pub between : ℕ
  pub unit : List ℕ
  pub size : ℕ

-- The digits are a number, of one digit or more, and the name is that of a unit of this size.
pub record IsItem (item : Item) : Type 0 where
  pub number : IsNumeral 10 item.digits
  pub sized : IsUnit item.unit item.size

-- so many spaces
abbrev pub spaces : ℕ → List ℕ
spaces n = replicate n 32

-- how an item is written
abbrev pub spelling : Item → List ℕ
spelling item = spaces item.before ++ (item.digits ++ (spaces item.between ++ item.unit))

-- what an item means: its number times the size of its unit
abbrev pub nanoseconds : Item → ℕ
nanoseconds item = digits_value 10 item.digits * item.size

-- The text is these items in a row and so many spaces, and n is the sum of what the items mean.
pub record IsRow (items : List Item) (after : ℕ) (text : List ℕ) (n : ℕ) : Type 0 where
  pub each : All IsItem items
  pub spelled : text ≡ flat_map spelling items ++ spaces after
  pub total : n ≡ sum_by nanoseconds items

-- The text means n nanoseconds: it is `0` and n is 0, or it is a row of one item or more whose sum
-- is n.
abbrev pub IsDuration : List ℕ → ℕ → Type 0
IsDuration text n =
    ((text ≡ codes "0") × (n ≡ 0))
    ⊎ ((items : List Item) × (after : ℕ) × (0 < length items) × IsRow items after text n)

-- ---- the range

-- the longest duration that is read, 18446744073709551615 seconds
abbrev pub longest_duration : ℕ
longest_duration = 18446744073709551615 * second
