-- No failure has the number of an answer, or that of a wrong size.
use Rattle.std.proofs.Common.{◌≢◌, ◌∙◌, ℕ, Result, Ok, Err, arith, sym}
use Rattle.rinqebo_session.specs.Answering.{ReturnsBy}
use Rattle.rinqebo_session.specs.Asking.{fault_status}
use Rattle.rinqebo_session.specs.Statuses.{open_status}
use Rattle.rinqebo_session.specs.declared.failure.OpenFailure.{OpenFailure}
use Rattle.rinqebo_session.specs.declared.failure.OpenFailure.TheVariants as opens
use Rattle.rinqebo_session.specs.declared.profile.Opened.{Opened}
use Rattle.rinqebo_session.specs.declared.settings.SettingNumbers.{SettingNumbers}
use Rattle.rinqebo_session.specs.declared.status.TheConstants.{BAD_SIZE, DONE}
use Rattle.rinqebo_session.specs.declared.test.CallerTest.{CallerTest}
use Rattle.rinqebo_session.specs.declared.test.TestFault.{TestFault}
use Rattle.rinqebo_session.specs.declared.test.TestFault.TheVariants.{NotText, UnknownNumber, NotKnown}

-- the number of a fault is not that of an answer
pub fault_fails : (fault : TestFault) → fault_status fault ≢ DONE
fault_fails NotText is = omega arith
fault_fails UnknownNumber is = omega arith
fault_fails NotKnown is = omega arith

-- nor that of a wrong size
fault_of_no_size : (fault : TestFault) → fault_status fault ≢ BAD_SIZE
fault_of_no_size NotText is = omega arith
fault_of_no_size UnknownNumber is = omega arith
fault_of_no_size NotKnown is = omega arith

-- nor is the number of a profile that is not open
failure_of_no_size : (failure : OpenFailure) → open_status failure ≢ BAD_SIZE
failure_of_no_size opens.NotLoaded is = omega arith
failure_of_no_size opens.NotText is = omega arith
failure_of_no_size (opens.NotFound missing) is = omega arith
failure_of_no_size opens.Memory is = omega arith

-- what a profile answers never has the number of a wrong size
pub answer_of_no_size : (outcome : Result Opened OpenFailure) (asked : CallerTest) (n : SettingNumbers)
    (status : ℕ) → ReturnsBy outcome asked n status → status ≢ BAD_SIZE
answer_of_no_size (Ok opened) asked n status answers is =
    let failed = answers.refused (λ done. omega arith) in
    fault_of_no_size failed.0 (sym failed.2 ∙ is)
answer_of_no_size (Err failure) asked n status answers is = failure_of_no_size failure (sym answers ∙ is)
