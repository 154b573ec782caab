use Rattle.std.proofs.Common.{◌≡◌, ◌++◌, map}
use Rattle.filter_inputs.specs.Lists.ListView.{case_view}
use Rattle.filter_inputs.specs.Lists.Parts.{entry_case}
use Rattle.filter_inputs.proofs.lists.case_reader.in_order.Given as goal

-- the tests so far
abbrev pub invariant-loop-name : goal.invariant-loop-name
invariant-loop-name l = map case_view l.tests.items ++ map entry_case l.name-iterator
    ≡ map entry_case l.fn.cases.entries
