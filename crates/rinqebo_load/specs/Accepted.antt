-- That the files of a session are accepted.
use Rattle.nextest_load.specs.Accepted.{IsAccepted}
use Rattle.nextest_rules.specs.KnownView.{features_view}
use Rattle.rinqebo_load.specs.Sessions.{files_view, readings}
use Rattle.rinqebo_load.specs.declared.session.Session.{Session}

-- every written rule holds of the files of a session
abbrev pub AreAccepted : Session → Type 0
AreAccepted session =
    IsAccepted (readings session.engines.filters) (features_view session.features)
    (files_view session.gathered.now)
