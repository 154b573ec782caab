use Rattle.std.proofs.Common.{◌≡◌, map}
use Rattle.nextest_tree.specs.Node.{keys}
use Rattle.nextest_tree.specs.View.{entries_view}
use Rattle.rinqebo_faults.specs.Edits.{edits_view, omit_script, with_edits}
use Rattle.rinqebo_faults.proofs.refusal_repairs.omit_names.Given as goal

abbrev pub invariant-loop-name : goal.invariant-loop-name
invariant-loop-name l =
    with_edits (edits_view l.edits) (map omit_script (keys (entries_view l.name-iterator)))
    ≡ with_edits (edits_view l.fn.edits) (map omit_script (keys (entries_view l.scripts.entries)))
