use Rattle.std.proofs.Common.{Some, refl, ◌∙◌}
use Rattle.nextest_places.specs.declared.step.Step.TheVariants as steps
use Rattle.nextest_tree.specs.Schema.{at, unknown_field}
use Rattle.nextest_shape.proofs.faults.Adding.{added_below}
use Rattle.nextest_shape.proofs.faults.listing.add_unknown_key.Goals as goal

pub returns : goal.returns
returns c =
    added_below (λ q. at q (Some unknown_field)) c.args.found.now.items c.add_at.new.found.items c.args.path.now
    c.deref.result.now (steps.Key c.args.key) c.args.key.now (c.deref.ensures.value ∙ c.in_ok-path.ensures) refl
    (c.in_ok-add_at.ensures (Some unknown_field) (record { cause = unknown_field; seen = refl; meant = refl }))
