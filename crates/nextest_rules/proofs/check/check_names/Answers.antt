use Rattle.std.proofs.Common.{refl, ap, subst, ◌∙◌}
use Rattle.nextest_sources.specs.Endings.{Ran, ending}
use Rattle.nextest_sources.specs.Sources.{source_view}
use Rattle.nextest_rules.specs.KnownView.{known_view}
use Rattle.nextest_rules.specs.Steps.{name_steps}
use Rattle.nextest_rules.specs.View.{order_view}
use Rattle.nextest_rules.proofs.Composing.{ran_failed}
use Rattle.nextest_rules.proofs.check.check_names.Goals as goal

pub returns-in_err-order : goal.returns-in_err-order
returns-in_err-order g c = ran_failed _ _ _ c.from_residual.result c.from_residual.ensures.1 refl

pub returns : goal.returns
returns g c =
    let f = g.F.Filters.meaning in
    let h = g.S.Specs.spec_meaning in
    subst (λ order. Ran (name_steps g.F.Filters.leaves (known_view c.args.known.now)
    (source_view c.args.source.now) order)
    (g.W.ConfigWarnings.warnings c.args.warnings.now)
    (g.W.ConfigWarnings.warnings c.check_in_order.new.warnings) (ending c.check_in_order.result))
    (ap (λ es. order_view f h es) c.deref.ensures.value ∙ c.in_ok-order.ensures) c.check_in_order.ensures
