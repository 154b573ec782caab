-- Why a test is not understood is why a profile has no settings of it.
use Rattle.rinqebo_session.specs.Asking.{IsFaultIn, IsTestFault}
use Rattle.rinqebo_session.specs.declared.profile.Opened.{Opened}
use Rattle.rinqebo_session.specs.declared.test.CallerTest.{CallerTest}
use Rattle.rinqebo_session.specs.declared.test.TestFault.{TestFault}
use Rattle.rinqebo_session.specs.declared.test.TestFault.TheVariants.{NotText, UnknownNumber, NotKnown}

pub fault_in : (opened : Opened) (asked : CallerTest) (fault : TestFault) → IsTestFault asked fault
    → IsFaultIn opened asked fault
fault_in opened asked NotText is = is
fault_in opened asked UnknownNumber is = is
fault_in opened asked NotKnown is = absurd is
