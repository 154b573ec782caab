use Rattle.std.proofs.Common.{◌≡◌, List, ℕ, Ok, ap, ◌∙◌, codes, refl, sym}
use Rattle.std.specs.Option.{option_and_then, ok_or}
use Rattle.serde_json.specs.Data.{Data}
use Rattle.serde_json.specs.View.{view}
use Rattle.filter_inputs.specs.Fields.Parts.{a_list}
use Rattle.filter_inputs.specs.declared.fields.kind.Wanted.TheVariants as wants
use Rattle.filter_inputs.specs.declared.packages.fault.MetadataFault.TheVariants.{Expected}
use Rattle.filter_inputs.specs.declared.packages.fault.MetadataPlace.TheVariants.{Packages}
use Rattle.filter_inputs.specs.Packages.Metadata.{list_under}
use Rattle.filter_inputs.specs.Packages.Names.{ids_view}
use Rattle.filter_inputs.specs.Packages.Targets.{all_targets, member_ids, targets_of}
use Rattle.filter_inputs.proofs.packages.targets.targets_in.Goals as goal

-- the targets of a value are those of its packages
targets_are : (metadata : Data) (members : List (List ℕ)) (packages : List Data) → member_ids metadata ≡ Ok members
    → list_under (codes "packages") Packages metadata ≡ Ok packages
    → targets_of metadata ≡ all_targets members packages
unfolding targets_of
targets_are metadata members packages m p = rw (m, p) refl

pub returns : goal.returns
returns c =
    rw (targets_are (view c.args.metadata.now) (ids_view c.deref.result.now) _
    (c.in_ok-members.ensures ∙ ap (λ ids. Ok (ids_view ids)) (sym c.deref.ensures.value))
    (ap (λ found. ok_or (option_and_then a_list found) (Expected wants.List Packages)) (sym c.under.ensures.found)
    ∙ ap (λ values. ok_or values (Expected wants.List Packages)) c.in_ok-packages.ensures))
    c.all_targets.ensures
