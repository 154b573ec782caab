use Rattle.std.proofs.Common.{◌≡◌, ℕ, ◌<◌, true, [], length, get_or, All, string_bytes, sym, subst, ap, ◌∙◌, arith}
use Rattle.std.proofs.lemmas.List.{get_or_default, get_or-map, length-map}
use Rattle.std.proofs.lemmas.Map.Text.{btree_set_updates_text}
use Rattle.std.specs.BTreeSet.{contains_text}
use Rattle.filter_inputs.specs.Packages.GraphView.{graph_view}
use Rattle.filter_inputs.specs.Packages.Marks.{IsMarked}
use Rattle.filter_inputs.specs.Packages.Names.{names_view}
use Rattle.filter_inputs.proofs.packages.Matching.{named_add, named_all}
use Rattle.filter_inputs.proofs.packages.graph.PackageGraph.marked_members.Goals as goal

pub loop-place-preserved : goal.loop-place-preserved
loop-place-preserved c =
    let graph = c.args.self.now in
    let n = c.loop-place.place-index in
    let p : ℕ = get_or c.deref-place-items.result.now n 0 in
    let at_zero : p ≡ get_or graph.members.items n 0 =
    ap (λ members. get_or members n 0) c.deref-place-items.ensures.value in
    let within : n < length graph.members.items =
    omega (arith, c.loop-place-test.true, ap length c.deref-place-items.ensures.value) in
    let marked : IsMarked c.args.marks.now p = c.if-not-marks-place.false in
    let below : p < length graph.names.items =
    subst (λ place. place < length graph.names.items) (sym at_zero) (graph.members_within n 0 within) in
    let bytes = string_bytes c.in_ok-clone.field-0 in
    let is : bytes ≡ get_or (names_view graph.names.items) p [] =
    c.in_ok-clone.ensures.cases ∙ ap string_bytes c.index.ensures
    ∙ sym (get_or-map string_bytes graph.names.items p c.index.result.now [] below) in
    named_add (names_view graph.names.items) graph.members.items c.args.marks.now
    (contains_text c.loop-place.names) (contains_text c.insert.new.self) n p bytes within
    (at_zero ∙ get_or_default graph.members.items n 0 p within) marked is
    (btree_set_updates_text bytes c.loop-place.names c.insert.new.self true c.in_ok-insert.ensures.updates)
    c.loop-place.invariant

pub returns : goal.returns
returns c name =
    let graph = c.args.self.now in
    let below = subst (λ m. All (λ place. place < m) graph.members.items)
    (sym (length-map graph.names.items string_bytes)) graph.members_within in
    named_all (graph_view graph) c.args.marks.now (contains_text c.loop-place.names) c.loop-place.place-index
    name below (omega (arith, c.loop-place-test.false, ap length c.deref-place-items.ensures.value))
    c.loop-place.invariant
