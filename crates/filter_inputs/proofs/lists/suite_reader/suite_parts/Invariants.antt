use Rattle.std.proofs.Common.{length}
use Rattle.serde_json.specs.Data.{Members}
use Rattle.filter_inputs.specs.Lists.Parts.{AreSuiteParts}
use Rattle.filter_inputs.proofs.lists.ReadTokens.{AreMembersRead}
use Rattle.filter_inputs.proofs.lists.suite_reader.suite_parts.Given as goal

-- what was read so far
abbrev pub invariant-members : goal.invariant-members
invariant-members l = (suite : Members) × AreMembersRead l.depth l.initial.reader l.reader suite
    × AreSuiteParts suite l.parts.members.entries l.parts.tests

abbrev pub decreases-members : goal.decreases-members
decreases-members l = length l.reader
