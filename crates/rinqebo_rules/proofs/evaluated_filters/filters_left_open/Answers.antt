use Rattle.std.proofs.Common.{◌≡◌, ◌∙◌, IfOk, ap, map, subst, sym}
use Rattle.filter_engine.specs.Compiling.{names_of}
use Rattle.filter_language.specs.Filtersets.{marks_view}
use Rattle.nextest_settings.specs.Profiles.Meaning.{profile_meaning}
use Rattle.rinqebo_rules.specs.EvaluatedFilters.{placed_view}
use Rattle.rinqebo_rules.proofs.OpenFilters.{all_open, none_open}
use Rattle.rinqebo_rules.proofs.evaluated_filters.filters_left_open.Goals as goal

pub returns-then-not-is_open : goal.returns-then-not-is_open
returns-then-not-is_open c =
    ap (map placed_view) c.new.ensures.items
    ∙ none_open c.args.filters.now.packages (profile_meaning (marks_view names_of) c.args.profile.now)
    (sym c.is_open.ensures ∙ c.if-not-is_open.true)

pub returns : goal.returns
returns c =
    subst (λ filters. IfOk c.filters_asking.result (λ found. map placed_view found.items ≡ filters))
    (sym (all_open c.args.filters.now.packages (profile_meaning (marks_view names_of) c.args.profile.now)
    (sym c.is_open.ensures ∙ c.if-not-is_open.false)))
    c.filters_asking.ensures
