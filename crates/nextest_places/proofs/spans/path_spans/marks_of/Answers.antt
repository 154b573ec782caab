use Rattle.std.proofs.Common.{◌≡◌, ◌∙◌, Some, ap, subst, sym, arith}
use Rattle.std.specs.Bool.{OnTrue}
use Rattle.std.specs.List.{slice_get}
use Rattle.std.proofs.lemmas.List.{length_push}
use Rattle.std.proofs.lemmas.Option.{slice_get-get_or}
use Rattle.nextest_places.specs.Spans.Nodes.{nodes_view}
use Rattle.nextest_places.specs.Spans.Spans.{ReadsAsNode}
use Rattle.nextest_places.proofs.spans.Marks.{mark}
use Rattle.nextest_places.proofs.spans.path_spans.marks_of.Goals as goal

pub loop-place-preserved : goal.loop-place-preserved
loop-place-preserved c =
    let reads = c.in_ok-reads_as_node.field-0 in
    let marks = c.loop-place.marks.items in
    let item = c.index-items-place.result in
    let here : slice_get c.args.items.now c.loop-place.place ≡ Some item =
    slice_get-get_or c.args.items.now c.loop-place.place item c.loop-place-test.true ∙ ap Some (sym c.index-items-place.is) in
    let now = subst (λ n. OnTrue reads (ReadsAsNode c.args.text.now item n)) c.node_at.ensures c.in_ok-reads_as_node.ensures in
    rw c.in_ok-push.ensures.items (
      omega (arith, length_push marks reads, c.loop-place.invariant.0),
      mark c.args.text.now c.args.items.now (nodes_view c.args.nodes.now) marks reads c.loop-place.place item c.loop-place.invariant.1
          c.loop-place.invariant.0 here now,
    )
