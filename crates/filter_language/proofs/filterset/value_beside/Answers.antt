use Rattle.std.proofs.Common.{true, Some, option_map, sym, ◌∙◌}
use Rattle.nextest_engines.specs.Engines.{binary_view}
use Rattle.filter_language.proofs.DefaultFilters.{same_beside}
use Rattle.filter_language.proofs.filterset.value_beside.Goals as goal

pub returns-then-not-names_default : goal.returns-then-not-names_default
returns-then-not-names_default g c =
    c.value.ensures
    ∙ same_beside g.E.Matchers.accepts g.E.Matchers.meaning (binary_view c.args.binary)
    (option_map (λ name. name.now) c.args.test_name) (Some true) _ c.args.filter.now
    (sym c.names_default.ensures ∙ c.if-not-names_default.true)
