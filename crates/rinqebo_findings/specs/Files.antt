-- The files of a run as layers.
use Rattle.std.specs.Prelude.{ℕ, ◌-◌, ◌==◌, nat_le, List, length, slice_get, Option, None, Some, option_map, string_bytes, if◌then◌else◌}
use Rattle.std.specs.Option.{option_and_then}
use Rattle.nextest_sources.specs.declared.sources.FileInput.{FileInput}
use Rattle.nextest_sources.specs.declared.sources.ReadOutcome.{ReadOutcome}
use Rattle.nextest_sources.specs.declared.sources.ReadOutcome.TheVariants as outcomes
use Rattle.rinqebo_request.specs.declared.files.gathering.Gathered.{Gathered}

-- the repository's file: the one that a user named, or else the workspace's own
abbrev pub or_shared : Option FileInput → FileInput → FileInput
or_shared (Some file) shared = file
or_shared None shared = shared

abbrev pub own_file : Gathered → FileInput
own_file gathered = or_shared gathered.config_file gathered.paths.shared

-- the file of a layer above those of the tools, counted from 1: the organisation's, if there is one,
-- and the repository's
abbrev pub upper_file : Option FileInput → (own : FileInput) → ℕ → FileInput
upper_file None own place = own
upper_file (Some file) own place = if place == 1 then file else own

-- the file that is the layer at a position: first come the defaults, which are no file, then the
-- tools' files, the first tool last
abbrev pub file_in : Gathered → ℕ → Option FileInput
file_in gathered position =
    if position == 0 then None
    else if nat_le position (length gathered.tools.items)
    then option_map (λ tool. tool.config_file)
    (slice_get gathered.tools.items (length gathered.tools.items - position))
    else Some (upper_file gathered.organisation_file (own_file gathered)
    (position - length gathered.tools.items))

-- the text of a file that has one
abbrev pub outcome_text : ReadOutcome → Option (List ℕ)
outcome_text (outcomes.Text text) = Some (string_bytes text)
outcome_text outcomes.NotFound = None
outcome_text outcomes.NotADirectory = None
outcome_text (outcomes.Failed message) = None

-- the text of the layer at a position, if it is a file that has one
abbrev pub text_in : Gathered → ℕ → Option (List ℕ)
text_in gathered position =
    option_and_then (λ file. outcome_text file.outcome) (file_in gathered position)
