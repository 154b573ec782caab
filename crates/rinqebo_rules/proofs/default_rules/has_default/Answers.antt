use Rattle.std.proofs.Common.{◌∙◌, ap, is_some, sym}
use Rattle.nextest_rules.specs.View.{read_filter_view}
use Rattle.nextest_settings.proofs.Held.{is_held}
use Rattle.nextest_settings.specs.View.{override_ref_view}
use Rattle.rinqebo_rules.proofs.default_rules.has_default.Goals as goal

pub returns : goal.returns
returns c =
    c.is_some.ensures ∙ sym (is_held (λ filter. read_filter_view filter.now) c.default_filter.result)
    ∙ ap is_some (c.default_filter.ensures ∙ ap (λ rule. (override_ref_view rule).writes.default_filter) c.rule.ensures)
