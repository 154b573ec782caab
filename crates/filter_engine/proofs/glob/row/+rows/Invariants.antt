use Rattle.std.proofs.Common.{◌+◌, ◌-◌, ◌*◌, ◌≤◌, drop, length}
use Rattle.filter_engine.proofs.GlobRows.{ReadTo, ReadBranches}
use Rattle.filter_engine.proofs.glob.row.+rows.Given as goal

abbrev pub decreases-read_row : goal.decreases-read_row
decreases-read_row l = 3 * l.levels + 2

abbrev pub decreases-read_piece : goal.decreases-read_piece
decreases-read_piece l = 3 * l.levels + 1

abbrev pub decreases-read_group : goal.decreases-read_group
decreases-read_group l = 3 * l.levels + 3

abbrev pub invariant-read_row-loop-alloc : goal.invariant-read_row-loop-alloc
invariant-read_row-loop-alloc l =
    ReadTo l.inside l.levels l.text l.place (drop l.at l.text) l.patterns.items × (l.at ≤ length l.text)

abbrev pub decreases-read_row-loop-alloc : goal.decreases-read_row-loop-alloc
decreases-read_row-loop-alloc l = length l.text - l.at

abbrev pub invariant-read_group-loop-branches : goal.invariant-read_group-loop-branches
invariant-read_group-loop-branches l =
    ReadBranches l.levels l.text (drop l.at l.text) l.branches.items × (l.at ≤ length l.text)

abbrev pub decreases-read_group-loop-branches : goal.decreases-read_group-loop-branches
decreases-read_group-loop-branches l = length l.text - l.at
