use Rattle.std.proofs.Common.{map, string_bytes, subst}
use Rattle.std.specs.Prelude.{flat_map}
use Rattle.rinqebo_faults.specs.Edits.{names_view}
use Rattle.rinqebo_findings.specs.Later.{AddsLater, list_wrapper_faults, unknown_script_faults, wrong_kind_faults}
use Rattle.rinqebo_findings.proofs.Later.{adds_both}
use Rattle.rinqebo_findings.proofs.unknown_names.add_script_errors.Goals as goal

pub returns : goal.returns
returns c =
    let layers = c.args.refused.now.source.layers.now in
    let position = c.args.refused.now.source.position in
    let names = names_view c.args.refused.now.left_out.now.scripts in
    let namings = c.in_ok-namings.namings in
    let known = map string_bytes c.args.known.now.keys in
    record {
      namings = namings;
      adds = adds_both layers position _ _ _ _ _
          (subst (λ errors. AddsLater layers position (flat_map (unknown_script_faults namings names known) errors)
          c.args.findings.now.items c.add_unknown_scripts.new.findings.items) c.deref.ensures.value
          c.in_ok-add_unknown_scripts.ensures)
          (adds_both layers position _ _ _ _ _
          (subst (λ errors. AddsLater layers position (flat_map (wrong_kind_faults namings names) errors)
          c.add_unknown_scripts.new.findings.items c.add_wrong_kinds.new.findings.items) c.deref-2.ensures.value
          c.in_ok-add_wrong_kinds.ensures)
          (subst (λ errors. AddsLater layers position (flat_map (list_wrapper_faults namings) errors)
          c.add_wrong_kinds.new.findings.items c.add_list_wrappers.new.findings.items) c.deref-3.ensures.value
          c.in_ok-add_list_wrappers.ensures));
    }
