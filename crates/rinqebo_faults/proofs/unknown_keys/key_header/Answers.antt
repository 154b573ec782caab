use Rattle.std.proofs.Common.{◌≡◌, ◌++◌, ◌∷◌, [], ◌∙◌, ap, arith}
use Rattle.std.proofs.lemmas.Grind.{common_steps}
use Rattle.std.proofs.lemmas.List.Elements.{filter_map-append}
use Rattle.std.specs.Prelude.{filter_map}
use Rattle.nextest_places.specs.declared.step.Step.TheVariants as steps
use Rattle.rinqebo_faults.specs.Shapes.{key_of}
use Rattle.rinqebo_faults.proofs.unknown_keys.key_header.Goals as goal

pub returns : goal.returns
returns c =
    let same : filter_map key_of c.in_ok-path.path.items
    ≡ filter_map key_of c.args.table.now ++ c.args.key.now ∷ [] =
    ap (filter_map key_of) c.in_ok-path.ensures
    ∙ filter_map-append key_of c.args.table.now (steps.Key c.args.key ∷ []) in
    grind (arith, common_steps, same)
