use Rattle.std.proofs.Common.{ap}
use Rattle.filter_engine.specs.Compiling.{names_of}
use Rattle.filter_language.specs.Filtersets.{marks_view}
use Rattle.nextest_inheritance.specs.View.{borrowed_view}
use Rattle.nextest_elements.specs.declared.run_mode.NextestRunMode.TheVariants as modes
use Rattle.nextest_settings.specs.Profiles.Meaning.{profile_meaning}
use Rattle.platform_language.specs.Expressions.{spec_view}
use Rattle.rinqebo_load.specs.Sessions.{readings}
use Rattle.rinqebo_results.proofs.Listing.{given_means}
use Rattle.rinqebo_results.proofs.Requests.{requested_on}
use Rattle.rinqebo_results.proofs.Showing.{shown_at}
use Rattle.rinqebo_results.specs.ListedBy.{read_by}
use Rattle.rinqebo_results.proofs.leaves.shown.Goals as goal

pub profile_on-requires : goal.profile_on-requires
profile_on-requires c = c.requires

pub returns : goal.returns
returns c =
    let session = c.args.session.now in
    record {
      on = profile_meaning (marks_view names_of) c.in_ok-on.on;
      is_profile = given_means (marks_view names_of) spec_view (readings session.engines.filters).meets
          session.engines.platforms (read_by session c.args.config.now) c.args.profile.now c.in_ok-on.on c.in_ok-on.ensures;
      chain = borrowed_view c.in_ok-chain.chain.items;
      is_chain = c.in_ok-chain.ensures c.requires;
      shown = shown_at c.args.keys.now c.args.with_hidden _ _ _ _ _ _ _ c.deref-2.ensures.value
          c.deref-3.ensures.value c.filtering_place-place.ensures c.in_ok-entries.ensures;
      requested = requested_on session c.args.profile.now modes.Test _ _ _ (ap borrowed_view c.deref.ensures.value)
          c.in_ok-asked.ensures;
    }
