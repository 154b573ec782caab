use Rattle.std.proofs.Common.{◌≡◌, ◌++◌, map}
use Rattle.serde_json.specs.View.{members_view}
use Rattle.filter_inputs.specs.Lists.Lists.{cases_in}
use Rattle.filter_inputs.specs.Lists.ListView.{case_view}
use Rattle.filter_inputs.proofs.lists.suites.cases_of.Given as goal

abbrev pub invariant-loop-name : goal.invariant-loop-name
invariant-loop-name l =
    map case_view l.tests.items ++ cases_in (members_view l.name-iterator)
    ≡ cases_in (members_view l.cases.entries)
