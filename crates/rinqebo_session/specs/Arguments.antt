-- The arguments of a test in a profile.
use Rattle.std.specs.Prelude.{◌≡◌, ◌⊎◌, ℕ, List, Option, option_and_then, slice_get, Result, Ok, Err, MatchOption}
use Rattle.nextest_elements.specs.declared.run_mode.NextestRunMode.{NextestRunMode}
use Rattle.nextest_engines.specs.Engines.{Test}
use Rattle.filter_engine.specs.Engine.{filter_holds}
use Rattle.nextest_settings.specs.Profiles.Meaning.{profile_meaning}
use Rattle.nextest_settings.specs.Queries.{query_in, setting_value}
use Rattle.nextest_elements.specs.declared.setting.Setting.TheVariants as at
use Rattle.rinqebo_session.specs.Asking.{IsFaultIn, IsKnownTest, fault_status}
use Rattle.rinqebo_session.specs.Copies.{IsCopiedOut, IsNothingCopied}
use Rattle.rinqebo_session.specs.Readings.{filter_meaning}
use Rattle.rinqebo_session.specs.Sizes.{test_size}
use Rattle.rinqebo_session.specs.Statuses.{open_status}
use Rattle.rinqebo_session.specs.declared.failure.OpenFailure.{OpenFailure}
use Rattle.rinqebo_session.specs.declared.profile.Opened.{Opened}
use Rattle.rinqebo_session.specs.declared.profile.Profile.{Profile}
use Rattle.rinqebo_session.specs.declared.status.TheConstants.{BAD_SIZE, UNKNOWN_NUMBER}
use Rattle.rinqebo_session.specs.declared.test.CallerTest.{CallerTest}
use Rattle.rinqebo_session.specs.declared.test.TestFault.{TestFault}

-- A text is the argument of an index that a profile gives to a test, or there is none if the
-- profile gives no more.
pub record IsArgumentOf (opened : Opened) (asked : CallerTest) (index : ℕ)
    (text : Option (List ℕ)) : Type 0 where
  pub test : Test
  pub mode : NextestRunMode
  pub is_known : IsKnownTest opened asked test mode
  pub value : let profile = profile_meaning filter_meaning opened.profile in
      text ≡ option_and_then (λ arguments. slice_get arguments index)
      (setting_value (query_in filter_holds profile test) mode profile at.RunExtraArgs)

-- the argument of an index is copied out, if there is one
abbrev pub IsCopiedOrNone : Option (List ℕ) → List ℕ → List ℕ → ℕ → ℕ → Type 0
IsCopiedOrNone text old new needed status =
    MatchOption text (IsNothingCopied UNKNOWN_NUMBER old new needed status)
    (λ text. IsCopiedOut text old new needed status)

-- what an open profile returns: an argument, or the fault of the test
abbrev pub ReturnsArgument : Opened → CallerTest → ℕ → List ℕ → List ℕ → ℕ → ℕ
    → Type 0
ReturnsArgument opened asked index old new needed status =
    ((text : Option (List ℕ)) × IsArgumentOf opened asked index text
    × IsCopiedOrNone text old new needed status)
    ⊎ ((fault : TestFault) × IsFaultIn opened asked fault
    × IsNothingCopied (fault_status fault) old new needed status)

-- what a profile returns; where it is not open, the status says why
abbrev pub ReturnsArgumentBy : Result Opened OpenFailure → CallerTest → ℕ → List ℕ → List ℕ
    → ℕ → ℕ → Type 0
ReturnsArgumentBy (Ok opened) asked index old new needed status =
    ReturnsArgument opened asked index old new needed status
ReturnsArgumentBy (Err failure) asked index old new needed status =
    IsNothingCopied (open_status failure) old new needed status

-- The argument of an index that a profile gives to a test is copied out. Where the size in the test
-- is not this version's, and nowhere else, the status says so.
pub record IsArgumentCopied (profile : Profile) (asked : CallerTest) (index : ℕ)
    (old new : List ℕ) (needed status : ℕ) : Type 0 where
  pub sized : asked.size ≡ test_size
      → ReturnsArgumentBy profile.outcome asked index old new needed status
  pub bad_size : (¬ (asked.size ≡ test_size)) → IsNothingCopied BAD_SIZE old new needed status
