-- The texts and regexes of arguments.
use Rattle.std.specs.Prelude.{ℕ, List, string_bytes}
use Rattle.filter_language.specs.declared.reading.argument.Body as body
use Rattle.filter_language.specs.declared.reading.argument.Progress as progress
use Rattle.filter_language.specs.declared.reading.argument.Progress.TheVariants.{On, Ended}
use Rattle.filter_language.specs.Arguments.{Turn, Onward, Over, Body}
use Rattle.filter_language.specs.Places.{IsBehind, IsPast}

-- The text or regex that one in memory is.
abbrev pub body_view : body.Body → Body
body_view b = record { bytes = string_bytes b.text; end = b.end.now; behind = b.behind.now }

-- The turn after which so much is read.
abbrev pub turn_view : List ℕ → progress.Progress → Turn
turn_view read (On rest) = Onward read rest.now
turn_view read (Ended rest) = Over read rest.now

-- A body that goes on was read past a place, and one that ends is not read back.
abbrev pub GoesOnWithin : List ℕ → progress.Progress → Type 0
GoesOnWithin start (On rest) = IsPast rest.now start
GoesOnWithin start (Ended rest) = IsBehind rest.now start
