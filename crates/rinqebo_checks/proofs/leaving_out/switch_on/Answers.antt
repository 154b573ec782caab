use Rattle.std.proofs.Common.{refl}
use Rattle.nextest_rules.specs.KnownView.{features_view}
use Rattle.rinqebo_checks.proofs.Featured.{among_copies, among_more}
use Rattle.rinqebo_checks.proofs.leaving_out.switch_on.Goals as goal

pub loop-feature-init : goal.loop-feature-init
loop-feature-init c = among_copies c.args.switched_on.now c.args.switched_on.now refl

pub loop-feature-preserved : goal.loop-feature-preserved
loop-feature-preserved c =
    among_more _ _ (features_view c.args.switched_on.now) c.loop-feature.switched_on c.insert.new.self
    c.in_ok-is_new.ensures.keys c.loop-feature.invariant
