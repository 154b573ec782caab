use Rattle.std.proofs.Common.{ap, ◌∙◌}
use Rattle.std.specs.Option.{ok_or}
use Rattle.filter_inputs.specs.declared.packages.fault.MetadataFault.TheVariants.{UnknownPackage}
use Rattle.filter_inputs.proofs.packages.Placing.{position-ids}
use Rattle.filter_inputs.proofs.packages.metadata.package_of.Goals as goal

pub returns : goal.returns
returns c =
    c.ok_or.ensures.value
    ∙ ap (λ found. ok_or found (UnknownPackage c.args.place))
    (c.place_of.ensures ∙ position-ids c.args.id.now c.args.ids.now)
