use Rattle.std.proofs.Common.{length}
use Rattle.serde_json.specs.Data.{Members}
use Rattle.filter_inputs.specs.Lists.Parts.{AreEntriesOf, IsCaseOf}
use Rattle.filter_inputs.proofs.lists.ReadTokens.{AreMembersRead}
use Rattle.filter_inputs.proofs.lists.case_reader.cases_by_name.Given as goal

-- the test cases so far
abbrev pub invariant-cases : goal.invariant-cases
invariant-cases l = (cases : Members) × AreMembersRead l.depth l.initial.reader l.reader cases
    × AreEntriesOf IsCaseOf cases l.found.entries

abbrev pub decreases-cases : goal.decreases-cases
decreases-cases l = length l.reader
