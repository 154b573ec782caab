use Rattle.std.proofs.Common.{◌+◌, ◌*◌, length}
use Rattle.serde_json.specs.View.{members_view}
use Rattle.filter_inputs.proofs.lists.ReadTokens.{AreItemsRead, AreMembersRead}
use Rattle.filter_inputs.proofs.lists.tokens.+value_in.Given as goal

abbrev pub decreases-value_in : goal.decreases-value_in
decreases-value_in l = 2 * l.depth

abbrev pub decreases-items_in : goal.decreases-items_in
decreases-items_in l = 2 * l.depth + 1

abbrev pub decreases-members_in : goal.decreases-members_in
decreases-members_in l = 2 * l.depth + 1

abbrev pub invariant-items_in-items : goal.invariant-items_in-items
invariant-items_in-items l = AreItemsRead l.depth l.initial.reader l.reader l.found.items

abbrev pub decreases-items_in-items : goal.decreases-items_in-items
decreases-items_in-items l = length l.reader

abbrev pub invariant-members_in-members : goal.invariant-members_in-members
invariant-members_in-members l = AreMembersRead l.depth l.initial.reader l.reader (members_view l.found.entries)

abbrev pub decreases-members_in-members : goal.decreases-members_in-members
decreases-members_in-members l = length l.reader
