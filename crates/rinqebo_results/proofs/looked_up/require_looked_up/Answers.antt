use Rattle.std.proofs.Common.{◌∙◌, ap, map, sym}
use Rattle.filter_engine.specs.Compiling.{names_of}
use Rattle.filter_language.specs.Filtersets.{marks_view}
use Rattle.nextest_settings.specs.Profiles.Meaning.{profile_meaning}
use Rattle.rinqebo_rules.specs.EvaluatedFilters.{placed_view}
use Rattle.rinqebo_results.proofs.LookedUp.{fails_for, first_asks, open_here}
use Rattle.rinqebo_results.proofs.looked_up.require_looked_up.Goals as goal

pub failure_of-requires : goal.failure_of-requires
failure_of-requires c = record {
  asks = first_asks c.args.session.now.engines.filters.packages
      (profile_meaning (marks_view names_of) c.in_ok-on.on) (placed_view c.in-Some.first)
      (map placed_view c.in-Some.ensures.0)
      (sym c.in_ok-found.ensures ∙ ap (map placed_view) (sym c.deref.ensures.value ∙ c.in-Some.ensures.1));
}

pub returns-in-None-clause-ok : goal.returns-in-None-clause-ok
returns-in-None-clause-ok c =
    open_here c.args.session.now c.args.config.now c.args.profile.now c.in_ok-on.on c.in_ok-found.found.items _
    c.requires.means c.in_ok-on.ensures c.in_ok-found.ensures
    (ap (map placed_view) (sym c.deref.ensures.value ∙ c.in-None.ensures))

pub returns-clause-err : goal.returns-clause-err
returns-clause-err c =
    fails_for c.args.session.now c.args.profile.now c.in_ok-failure_of-in-Some.field-0 (placed_view c.in-Some.first)
    (map placed_view c.in-Some.ensures.0)
    (open_here c.args.session.now c.args.config.now c.args.profile.now c.in_ok-on.on c.in_ok-found.found.items _
    c.requires.means c.in_ok-on.ensures c.in_ok-found.ensures
    (ap (map placed_view) (sym c.deref.ensures.value ∙ c.in-Some.ensures.1)))
    c.in_ok-failure_of-in-Some.ensures
