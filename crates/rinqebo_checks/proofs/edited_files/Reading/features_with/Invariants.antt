use Rattle.nextest_rules.specs.KnownView.{features_view}
use Rattle.rinqebo_checks.specs.Rounds.{AreAmong}
use Rattle.rinqebo_checks.proofs.edited_files.Reading.features_with.Given as goal

-- the features are among those so far
abbrev pub invariant-loop-feature : goal.invariant-loop-feature
invariant-loop-feature l = AreAmong (features_view l.features) (features_view l.all)
