use Rattle.std.proofs.Common.{length}
use Rattle.serde_json.specs.Data.{Members}
use Rattle.filter_inputs.specs.Lists.Parts.{AreEntriesOf, IsBinaryOf}
use Rattle.filter_inputs.proofs.lists.ReadTokens.{AreMembersRead}
use Rattle.filter_inputs.proofs.lists.suite_reader.binaries_by_id.Given as goal

-- the suites so far
abbrev pub invariant-suites : goal.invariant-suites
invariant-suites l = (suites : Members) × AreMembersRead l.depth l.initial.reader l.reader suites
    × AreEntriesOf IsBinaryOf suites l.found.entries

abbrev pub decreases-suites : goal.decreases-suites
decreases-suites l = length l.reader
