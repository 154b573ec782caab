-- Durations as files spell them: one number, and the longest unit that divides them.
use Rattle.std.specs.Prelude.{ℕ, ◌*◌, ◌/◌, ◌%◌, ◌==◌, Bool, List, [], ◌∷◌, ◌++◌, Option, None, Some, option_and_then, codes, decimal, if◌then◌else◌}
use Rattle.std.specs.Char.{is_ascii_digit}
use Rattle.std.specs.Str.{bytes_eq}
use Rattle.std.specs.Str.Parse.{digits_value}
use Rattle.rinqebo_report.specs.declared.duration.Unit.{Unit as Unit'}
use Rattle.rinqebo_report.specs.declared.duration.Unit.TheVariants.{Year, Day, Hour, Minute, Second, Millisecond, Microsecond, Nanosecond}

-- how a file writes a unit
abbrev pub unit_name : Unit' → List ℕ
unit_name Year = codes "y"
unit_name Day = codes "d"
unit_name Hour = codes "h"
unit_name Minute = codes "m"
unit_name Second = codes "s"
unit_name Millisecond = codes "ms"
unit_name Microsecond = codes "us"
unit_name Nanosecond = codes "ns"

-- the nanoseconds of a unit: a year has 365 days and 6 hours
abbrev pub unit_size : Unit' → ℕ
unit_size Year = 31557600000000000
unit_size Day = 86400000000000
unit_size Hour = 3600000000000
unit_size Minute = 60000000000
unit_size Second = 1000000000
unit_size Millisecond = 1000000
unit_size Microsecond = 1000
unit_size Nanosecond = 1

-- a unit divides a number of nanoseconds
abbrev pub divides : Unit' → ℕ → Bool
divides unit n = n % unit_size unit == 0

-- the longest unit that divides a number of nanoseconds: of none, the second
abbrev pub unit_of : ℕ → Unit'
unit_of n =
    if n == 0 then Second
    else (if divides Year n then Year
    else (if divides Day n then Day
    else (if divides Hour n then Hour
    else (if divides Minute n then Minute
    else (if divides Second n then Second
    else (if divides Millisecond n then Millisecond
    else (if divides Microsecond n then Microsecond
    else Nanosecond)))))))

-- a duration: how often the unit goes into it, and the unit
abbrev pub duration_text : ℕ → List ℕ
duration_text n = decimal (n / unit_size (unit_of n)) ++ unit_name (unit_of n)

-- the digits that a text begins with
abbrev pub front_digits : List ℕ → List ℕ
front_digits [] = []
front_digits (c ∷ cs) = if is_ascii_digit c then c ∷ front_digits cs else []

-- what follows the digits that a text begins with
abbrev pub behind_digits : List ℕ → List ℕ
behind_digits [] = []
behind_digits (c ∷ cs) = if is_ascii_digit c then behind_digits cs else c ∷ cs

-- the unit of a name
abbrev pub unit_named : List ℕ → Option Unit'
unit_named name =
    if bytes_eq name (codes "y") then Some Year
    else (if bytes_eq name (codes "d") then Some Day
    else (if bytes_eq name (codes "h") then Some Hour
    else (if bytes_eq name (codes "m") then Some Minute
    else (if bytes_eq name (codes "s") then Some Second
    else (if bytes_eq name (codes "ms") then Some Millisecond
    else (if bytes_eq name (codes "us") then Some Microsecond
    else (if bytes_eq name (codes "ns") then Some Nanosecond
    else None)))))))

-- so many of a unit, if there are digits
abbrev pub read_count : List ℕ → Unit' → Option ℕ
read_count [] unit = None
read_count (c ∷ cs) unit = Some (digits_value 10 (c ∷ cs) * unit_size unit)

-- the duration that a text spells: digits, and the name of a unit
abbrev pub read_duration : List ℕ → Option ℕ
read_duration text =
    option_and_then (read_count (front_digits text)) (unit_named (behind_digits text))
