use Rattle.std.proofs.Common.{◌≡◌}
use Rattle.std.specs.BTreeSet.{contains_text}
use Rattle.nextest_tree.specs.View.{entries_view}
use Rattle.rinqebo_faults.specs.Edits.{edits_view, with_edits}
use Rattle.rinqebo_faults.specs.Repairs.{profiles_edits}
use Rattle.rinqebo_faults.proofs.refusal_repairs.leave_out_marked.Given as goal

abbrev pub invariant-loop-name : goal.invariant-loop-name
invariant-loop-name l =
    let each = profiles_edits l.place (contains_text l.marks) in
    with_edits (edits_view l.edits) (each (entries_view l.name-iterator))
    ≡ with_edits (edits_view l.fn.edits) (each (entries_view l.profiles.entries))
