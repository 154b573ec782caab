use Rattle.std.proofs.Common.{length}
use Rattle.serde_json.specs.Data.{Members}
use Rattle.filter_inputs.specs.Lists.Parts.{AreListParts}
use Rattle.filter_inputs.proofs.lists.ReadTokens.{AreMembersRead}
use Rattle.filter_inputs.proofs.lists.list_reader.list_parts.Given as goal

-- what was read so far
abbrev pub invariant-members : goal.invariant-members
invariant-members l = (list : Members) × AreMembersRead l.depth l.initial.reader l.reader list
    × AreListParts list l.parts.members.entries l.parts.binaries

abbrev pub decreases-members : goal.decreases-members
decreases-members l = length l.reader
