use Rattle.std.proofs.Common.{◌≡◌, ◌<◌, length, All, sym, ap, ◌∙◌, subst, string_bytes}
use Rattle.std.proofs.lemmas.List.{length-map}
use Rattle.std.proofs.lemmas.Result.{err_from_is_err_and}
use Rattle.std.specs.Option.{option_and_then, ok_or}
use Rattle.serde_json.specs.View.{view}
use Rattle.filter_inputs.specs.Fields.Parts.{a_list}
use Rattle.filter_inputs.specs.declared.fields.kind.Wanted.TheVariants as wants
use Rattle.filter_inputs.specs.declared.packages.fault.MetadataFault.TheVariants.{Expected}
use Rattle.filter_inputs.specs.declared.packages.fault.MetadataPlace.TheVariants.{Packages}
use Rattle.filter_inputs.specs.Packages.Marks.{IsBelow}
use Rattle.filter_inputs.specs.Packages.Metadata.{members_of, edges_of}
use Rattle.filter_inputs.specs.Packages.Names.{ids_view, names_view}
use Rattle.filter_inputs.proofs.packages.Composing.{members_fault}
use Rattle.filter_inputs.proofs.packages.Within.{length-each, members_below, edges_below}
use Rattle.filter_inputs.proofs.packages.graph.PackageGraph.from_value.Goals as goal

pub returns-in_err-members : goal.returns-in_err-members
returns-in_err-members c =
    let p = err_from_is_err_and c.from_residual-in_err-members.result c.from_residual-in_err-members.ensures.1 in
    rw (p.1, p.2)
    (λ has_memory. members_fault (view c.args.metadata.now) _ _ _ _
    (ap (λ found. ok_or (option_and_then a_list found) (Expected wants.List Packages)) (sym c.under.ensures.found)
    ∙ ap (λ values. ok_or values (Expected wants.List Packages)) c.in_ok-packages.ensures)
    c.in_ok-ids.ensures c.in_ok-names.ensures
    (ap (λ ids. members_of (ids_view ids) (view c.args.metadata.now)) (sym c.deref.ensures.value)
    ∙ c.in_err-members.ensures has_memory))

pub invariant_of-result : goal.invariant_of-result
invariant_of-result c =
    let ids = ids_view c.in_ok-ids.ids.items in
    let names = c.in_ok-names.names.items in
    let same : length ids ≡ length names =
    length-each _ _ ids c.in_ok-ids.ensures ∙ sym (length-each _ _ (names_view names) c.in_ok-names.ensures)
    ∙ length-map names string_bytes in
    let members = members_below ids (view c.args.metadata.now) c.in_ok-members.members.items
    (ap (λ ids. members_of (ids_view ids) (view c.args.metadata.now)) (sym c.deref.ensures.value)
    ∙ c.in_ok-members.ensures) in
    let edges = edges_below ids (view c.args.metadata.now) c.in_ok-edges.edges.items
    (ap (λ ids. edges_of (ids_view ids) (view c.args.metadata.now)) (sym c.deref-2.ensures.value)
    ∙ c.in_ok-edges.ensures) in
    record {
      members_within = subst (λ n. All (λ place. place < n) c.in_ok-members.members.items) same members;
      edges_within = subst (λ n. All (IsBelow n) c.in_ok-edges.edges.items) same edges;
    }
