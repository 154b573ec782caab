-- What a load of the files of a session warns of, and why it refuses them.
use Rattle.std.specs.Prelude.{List}
use Rattle.nextest_load.specs.Steps.{load_steps}
use Rattle.nextest_rules.specs.KnownView.{features_view}
use Rattle.nextest_sources.specs.Endings.{error_view, Ran}
use Rattle.nextest_sources.specs.Steps.{LoadStep, warnings_before}
use Rattle.nextest_sources.specs.Warnings.{Warning}
use Rattle.nextest_sources.specs.declared.error.ConfigParseError.{ConfigParseError}
use Rattle.rinqebo_load.specs.Sessions.{files_view, readings}
use Rattle.rinqebo_load.specs.declared.session.Session.{Session}

-- the checks that a load of the files of a session makes, in their order
abbrev pub checks_of : Session → List LoadStep
checks_of session =
    load_steps (readings session.engines.filters) (features_view session.features)
    (files_view session.gathered.now)

-- the warnings that a load of the files of a session meets before its first fault, in their order
abbrev pub warnings_met : Session → List Warning
warnings_met session = warnings_before (checks_of session)

-- A load of the files of a session refused them: the error is their first fault, and the warnings
-- before it were added; where memory ran out, the first of them.
abbrev pub IsRefusedLoad : Session → (old new : List Warning) → ConfigParseError → Type 0
IsRefusedLoad session old new error = Ran (checks_of session) old new (error_view error)
