use Rattle.std.proofs.Common.{[], subst}
use Rattle.std.proofs.lemmas.List.{take_all}
use Rattle.std.specs.List.{AllZip}
use Rattle.rinqebo_results.proofs.Listing.{zip_mapped}
use Rattle.rinqebo_origins.proofs.Zips.{zip_more}
use Rattle.rinqebo_origins.specs.Origins.{IsOriginOf}
use Rattle.rinqebo_origins.specs.RulePlaces.{place_view}
use Rattle.rinqebo_results.proofs.list_origins.origins_of_rules.Goals as goal

pub loop-rule-preserved : goal.loop-rule-preserved
loop-rule-preserved c =
    zip_more (λ place. IsOriginOf c.args.layers.now (place_view place) []) c.args.rules.now c.loop-rule.rule-index c.rule-item.result _
    c.loop-rule-test.true c.rule-item.is _ _ _ c.loop-rule.invariant c.in_ok-origin.ensures c.in_ok-push.ensures.items

pub returns : goal.returns
returns c =
    zip_mapped place_view (λ place. IsOriginOf c.args.layers.now place []) c.args.rules.now c.loop-rule.origins.items
    (subst (λ rules. AllZip (λ place. IsOriginOf c.args.layers.now (place_view place) []) rules c.loop-rule.origins.items)
    (take_all c.loop-rule.rule-index c.args.rules.now c.loop-rule-test.false) c.loop-rule.invariant)
