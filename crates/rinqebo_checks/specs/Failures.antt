-- Why a session has no result.
use Rattle.std.specs.Prelude.{◌≡◌}
use Rattle.nextest_load.specs.Config.{config_of}
use Rattle.nextest_sources.specs.Endings.{IsMemory}
use Rattle.nextest_sources.specs.Inputs.{sources_in}
use Rattle.nextest_sources.specs.declared.error.ConfigParseError.{ConfigParseError}
use Rattle.nextest_tables.specs.FileTexts.{names_in, IsIn}
use Rattle.nextest_tables.specs.Written.{Name}
use Rattle.rinqebo_request.specs.declared.request.RequestedTest.{RequestedTest}
use Rattle.rinqebo_load.specs.Accepted.{AreAccepted}
use Rattle.rinqebo_load.specs.FindTests.{HasSeveral, LacksTargets, LacksTest}
use Rattle.rinqebo_load.specs.Sessions.{files_view, readings}
use Rattle.rinqebo_load.specs.declared.failure.Failure.{Failure}
use Rattle.rinqebo_load.specs.declared.failure.Failure.TheVariants as failures
use Rattle.rinqebo_load.specs.declared.missing.TestFault.{TestFault}
use Rattle.rinqebo_load.specs.declared.missing.TestFault.TheVariants as faults
use Rattle.rinqebo_load.specs.declared.session.Session.{Session}
use Rattle.rinqebo_checks.specs.Reports.{IsReportOf}

-- A load of a session failed with an error: files are refused, in a report of the session, but not
-- because memory ran out, or memory ran out.
abbrev pub IsLoadFailure : Session → ConfigParseError → Failure → Type 0
IsLoadFailure session error (failures.Engines fault) = ⊥
IsLoadFailure session error (failures.Refused report) =
    (¬ IsMemory error) × IsReportOf session report
IsLoadFailure session error (failures.NoProfile report) = ⊥
IsLoadFailure session error (failures.NoTest report) = ⊥
IsLoadFailure session error (failures.SeveralTests report) = ⊥
IsLoadFailure session error failures.Memory = Unit {0}

-- a failure says that a profile is missing, in a report of a session
abbrev pub IsProfileFailure : Session → Failure → Type 0
IsProfileFailure session (failures.Engines fault) = ⊥
IsProfileFailure session (failures.Refused report) = ⊥
IsProfileFailure session (failures.NoProfile report) = IsReportOf session report
IsProfileFailure session (failures.NoTest report) = ⊥
IsProfileFailure session (failures.SeveralTests report) = ⊥
IsProfileFailure session failures.Memory = ⊥

-- The files of a session lack a profile: every written rule holds of them, and none of their
-- profiles has the name.
pub record LacksProfile (session : Session) (name : Name) : Type 0 where
  pub acceptance : AreAccepted session
  pub absent : ¬ IsIn (names_in (config_of (readings session.engines.filters)
      (sources_in (files_view session.gathered.now))).profiles) name

-- A session has no result about a profile: files are refused only if some written rule does not
-- hold of them, and the profile is missing only if they lack it. The report of it is one of the
-- session.
abbrev pub IsFailureAbout : Session → Name → Failure → Type 0
IsFailureAbout session profile (failures.Engines fault) = ⊥
IsFailureAbout session profile (failures.Refused report) =
    (¬ AreAccepted session) × IsReportOf session report
IsFailureAbout session profile (failures.NoProfile report) =
    LacksProfile session profile × IsReportOf session report
IsFailureAbout session profile (failures.NoTest report) = ⊥
IsFailureAbout session profile (failures.SeveralTests report) = ⊥
IsFailureAbout session profile failures.Memory = Unit {0}

-- a failure is that of a test that is not found, in a report of a session, or a refusal of memory
abbrev pub IsTestFailure : Session → TestFault → Failure → Type 0
IsTestFailure session fault failures.Memory = Unit {0}
IsTestFailure session (faults.NoTest missing) (failures.NoTest report) = IsReportOf session report
IsTestFailure session (faults.SeveralTests tests) (failures.SeveralTests report) =
    IsReportOf session report
IsTestFailure session (faults.Input fault) (failures.Engines told) = told ≡ fault
IsTestFailure session fault failure = ⊥

-- A session has no result about the test that a request names: there is none, or there are several,
-- in a report of the session, or the metadata, which would have its binary, are not understood,
-- unless memory runs out.
abbrev pub IsFailureToFind : Session → RequestedTest → Failure → Type 0
IsFailureToFind session requested (failures.Engines fault) = LacksTargets session requested fault
IsFailureToFind session requested (failures.Refused report) = ⊥
IsFailureToFind session requested (failures.NoProfile report) = ⊥
IsFailureToFind session requested (failures.NoTest report) =
    LacksTest session requested × IsReportOf session report
IsFailureToFind session requested (failures.SeveralTests report) =
    HasSeveral session requested × IsReportOf session report
IsFailureToFind session requested failures.Memory = Unit {0}
