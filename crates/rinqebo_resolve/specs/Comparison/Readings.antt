-- What the bytes of a request are.
use Rattle.std.specs.Prelude.{◌≡◌, ℕ, List, None, Some}
use Rattle.std.specs.Str.{IsUtf8}
use Rattle.rinqebo_resolve.specs.declared.comparison.comparing.Reading.{Reading}
use Rattle.rinqebo_resolve.specs.declared.comparison.comparing.Reading.TheVariants as readings
use Rattle.rinqebo_forms.specs.Runs.{run_of, run_view}
use Rattle.rinqebo_resolve.specs.declared.ending.Ending.{Ending}
use Rattle.rinqebo_resolve.specs.declared.ending.Ending.TheVariants as ends

-- an ending says why bytes are not a request
abbrev pub IsNoRequest : List ℕ → Ending → Type 0
IsNoRequest request (ends.Answered text) = ⊥
IsNoRequest request (ends.Refused text) = ⊥
IsNoRequest request (ends.NoProfile text) = ⊥
IsNoRequest request (ends.NoEngines reason) = ⊥
IsNoRequest request (ends.NotUnderstood reason) = run_of request ≡ None
IsNoRequest request ends.NotText = ¬ IsUtf8 request
IsNoRequest request ends.Memory = ⊥

-- bytes are the request for a run, or an ending says why they are not, unless memory runs out
abbrev pub IsReadingOf : List ℕ → Reading → Type 0
IsReadingOf request (readings.Run run) = run_of request ≡ Some (run_view run)
IsReadingOf request (readings.Ended ending) = IsNoRequest request ending
