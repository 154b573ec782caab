use Rattle.std.proofs.Common.{◌≡◌, length}
use Rattle.nextest_places.specs.Spans.Nodes.{nodes_view}
use Rattle.nextest_places.specs.Spans.Spans.{AreMarked}
use Rattle.nextest_places.proofs.spans.path_spans.marks_of.Given as goal

abbrev pub invariant-loop-place : goal.invariant-loop-place
invariant-loop-place l =
    (length l.marks.items ≡ l.place) × AreMarked l.text l.items (nodes_view l.nodes) l.marks.items
