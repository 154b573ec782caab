use Rattle.std.proofs.Common.{◌∙◌, ap, refl, subst}
use Rattle.nextest_inheritance.specs.View.{borrowed_view}
use Rattle.rinqebo_keys.specs.Keys.{dotted}
use Rattle.rinqebo_rules.specs.Conditions.{is_met_by, filter_matches}
use Rattle.rinqebo_results.proofs.Requests.{requested_on}
use Rattle.rinqebo_results.specs.ReportsReasons.{AreReasons}
use Rattle.rinqebo_run.proofs.why.reasons.Goals as goal

pub early_profile-requires : goal.early_profile-requires
early_profile-requires c = c.requires

pub returns-clause-requested : goal.returns-clause-requested
returns-clause-requested c = record {
  chain = borrowed_view c.in_ok-chain.chain.items;
  is_chain = c.in_ok-chain.ensures c.requires;
  requested = requested_on c.args.session.now c.args.profile.now c.args.test.now.mode _ _ _
      (ap borrowed_view c.deref.ensures.value) c.in_ok-asked.ensures;
}

pub returns-clause-told : goal.returns-clause-told
returns-clause-told c = (
  c.in_ok-named.ensures,
  c.in_ok-key.ensures ∙ (λ i. dotted (c.of.ensures.table i) (c.of.ensures.key i)),
  refl,
  record {
    profile = c.in_ok-early.early;
    is_profile = c.in_ok-early.ensures;
    chain = borrowed_view c.in_ok-chain.chain.items;
    is_chain = c.in_ok-chain.ensures c.requires;
    reasons = subst (λ chain. AreReasons c.args.session.now.layers.items chain is_met_by filter_matches
        c.args.session.now.engines.platforms c.args.test.now c.args.setting c.in_ok-early.early
        c.in_ok-rules.rules.items) (ap borrowed_view c.deref-2.ensures.value) c.in_ok-rules.ensures;
  },
)
