-- What a caller requests of a profile, and what it returns.
use Rattle.std.specs.Prelude.{◌≡◌, ◌⊎◌, ℕ, List, Option, None, Some, false, true, ◌==◌, if◌then◌else◌}
use Rattle.std.specs.Str.{IsUtf8}
use Rattle.nextest_elements.specs.declared.run_mode.NextestRunMode.{NextestRunMode}
use Rattle.nextest_elements.specs.declared.run_mode.NextestRunMode.TheVariants.{Test as in_test, Benchmark as in_benchmark}
use Rattle.nextest_engines.specs.Engines.{Binary, Test}
use Rattle.nextest_engines.specs.declared.queries.BuildPlatform.{BuildPlatform}
use Rattle.nextest_engines.specs.declared.queries.BuildPlatform.TheVariants.{Host, Target}
use Rattle.rinqebo_session.specs.Needs.{lacks}
use Rattle.rinqebo_session.specs.declared.needs.Needs.{Needs}
use Rattle.rinqebo_session.specs.declared.profile.Opened.{Opened}
use Rattle.rinqebo_session.specs.declared.status.TheConstants.{NOT_KNOWN, NOT_TEXT, UNKNOWN_NUMBER}
use Rattle.rinqebo_session.specs.declared.test.CallerTest.{CallerTest}
use Rattle.rinqebo_session.specs.declared.test.TestFault.{TestFault}
use Rattle.rinqebo_session.specs.declared.test.TestFault.TheVariants.{NotKnown, NotText, UnknownNumber}

-- the number of why there are no settings of a test
abbrev pub fault_status : TestFault → ℕ
fault_status NotText = NOT_TEXT
fault_status UnknownNumber = UNKNOWN_NUMBER
fault_status NotKnown = NOT_KNOWN

-- the platform of a number
abbrev pub platform_numbered : ℕ → Option BuildPlatform
platform_numbered n = if n == 0 then Some Host else (if n == 1 then Some Target else None)

-- the mode of a number
abbrev pub mode_numbered : ℕ → Option NextestRunMode
mode_numbered n = if n == 0 then Some in_test else (if n == 1 then Some in_benchmark else None)

-- what filters need, for binaries of a platform
abbrev pub needs_on : Opened → BuildPlatform → Needs
needs_on opened Host = opened.for_host
needs_on opened Target = opened.for_target

-- the binary of a test, on a platform
abbrev pub binary_of : CallerTest → BuildPlatform → Binary
binary_of asked platform = record {
  package_id = asked.package.now;
  binary_id = asked.binary.now;
  kind = asked.kind.now;
  binary_name = asked.target.now;
  platform = platform;
}

-- A test is the one that a caller names, in a mode: its bytes are the texts, and its numbers are
-- those of the platform and the mode.
pub record IsTestOf (asked : CallerTest) (test : Test) (mode : NextestRunMode) : Type 0 where
  pub platform : platform_numbered asked.platform ≡ Some test.binary.platform
  pub in_mode : mode_numbered asked.mode ≡ Some mode
  pub binary : test.binary ≡ binary_of asked test.binary.platform
  pub name : test.name ≡ asked.name.now

-- bytes are not text, and that is the fault
abbrev pub IsNoText : List ℕ → TestFault → Type 0
IsNoText bytes fault = (fault ≡ NotText) × (¬ IsUtf8 bytes)

-- some bytes of a test's binary are not text, and that is the fault
abbrev pub IsBytesFault : CallerTest → TestFault → Type 0
IsBytesFault asked fault =
    IsNoText asked.package.now fault ⊎ IsNoText asked.binary.now fault
    ⊎ IsNoText asked.kind.now fault ⊎ IsNoText asked.target.now fault

-- a test is not understood: one of its numbers has no meaning, or some of its bytes are not a text
abbrev pub IsTestFault : CallerTest → TestFault → Type 0
IsTestFault asked UnknownNumber =
    (platform_numbered asked.platform ≡ None) ⊎ (mode_numbered asked.mode ≡ None)
IsTestFault asked NotText =
    IsBytesFault asked NotText ⊎ IsNoText asked.name.now NotText
IsTestFault asked NotKnown = ⊥

-- A test is one that an open profile knows enough of: it is the one that a caller names, and has
-- each part that a filter uses.
pub record IsKnownTest (opened : Opened) (asked : CallerTest) (test : Test)
    (mode : NextestRunMode) : Type 0 where
  pub is_test : IsTestOf asked test mode
  pub known : lacks (needs_on opened test.binary.platform) asked ≡ false

-- A test is not known: it is understood, and lacks a part that a filter uses.
pub record IsUnknownTest (opened : Opened) (asked : CallerTest) : Type 0 where
  pub test : Test
  pub mode : NextestRunMode
  pub is_test : IsTestOf asked test mode
  pub unknown : lacks (needs_on opened test.binary.platform) asked ≡ true

-- why an open profile has no settings of a test: the test is not understood, or it lacks a part
-- that a filter uses
abbrev pub IsFaultIn : Opened → CallerTest → TestFault → Type 0
IsFaultIn opened asked NotKnown = IsUnknownTest opened asked
IsFaultIn opened asked NotText = IsTestFault asked NotText
IsFaultIn opened asked UnknownNumber = IsTestFault asked UnknownNumber
