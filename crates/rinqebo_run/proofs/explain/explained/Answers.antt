use Rattle.std.proofs.Common.{◌∙◌, ap}
use Rattle.nextest_inheritance.specs.View.{borrowed_view}
use Rattle.filter_inputs.specs.Lists.ListView.{list_test_view}
use Rattle.rinqebo_results.proofs.Listing.{basis_here}
use Rattle.rinqebo_results.proofs.Requests.{requested_on}
use Rattle.rinqebo_run.proofs.Rows.{explained_here}
use Rattle.rinqebo_results.specs.ListedBy.{basis_of}
use Rattle.rinqebo_run.proofs.explain.explained.Goals as goal

pub profile_on-requires : goal.profile_on-requires
profile_on-requires c = c.requires

pub returns-clause-told : goal.returns-clause-told
returns-clause-told c =
    let session = c.args.session.now in
    explained_here session c.args.config.now c.args.profile.now c.args.test.now c.args.asked.now
    (list_test_view c.listed-listed.result) c.new-origins.result c.in_ok-on.on (borrowed_view c.in_ok-chain.chain.items)
    c.in_ok-rows.rows c.in_ok-on.ensures (c.in_ok-chain.ensures c.requires)
    (basis_here session c.new-origins.result _ _ c.new-origins.ensures c.deref-2.ensures.value
    ∙ ap (λ names. basis_of session (borrowed_view names)) c.deref-3.ensures.value)
    c.listed-listed.ensures c.in_ok-rows.ensures.told

pub returns-clause-requested : goal.returns-clause-requested
returns-clause-requested c = record {
  chain = borrowed_view c.in_ok-chain.chain.items;
  is_chain = c.in_ok-chain.ensures c.requires;
  requested = requested_on c.args.session.now c.args.profile.now c.args.test.now.mode _ _ _
      (ap borrowed_view c.deref.ensures.value) c.in_ok-requested.ensures;
}
