use Rattle.nextest_rules.specs.KnownView.{features_view}
use Rattle.rinqebo_checks.specs.Rounds.{AreAmong}
use Rattle.rinqebo_checks.proofs.leaving_out.switch_on.Given as goal

-- the features from before are among those so far
abbrev pub invariant-loop-feature : goal.invariant-loop-feature
invariant-loop-feature l = AreAmong (features_view l.fn.switched_on) (features_view l.switched_on)
