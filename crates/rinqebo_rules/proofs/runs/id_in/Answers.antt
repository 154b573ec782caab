use Rattle.std.proofs.Common.{◌∙◌, ap, map}
use Rattle.nextest_settings.specs.View.{evaluated_override_view}
use Rattle.rinqebo_rules.proofs.Selected.{filtering_in}
use Rattle.rinqebo_rules.proofs.runs.id_in.Goals as goal

pub returns : goal.returns
returns g c =
    filtering_in g.F.Filters.meaning c.args.profile.now _ _
    (ap (map evaluated_override_view) c.deref.ensures.value ∙ c.rules-rules.ensures.overrides)
    c.filtering_override.ensures
