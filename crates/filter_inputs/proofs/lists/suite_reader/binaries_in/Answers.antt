use Rattle.std.proofs.Common.{sym, subst, map}
use Rattle.std.specs.List.{AllZip}
use Rattle.filter_inputs.specs.Lists.ListView.{listed_view}
use Rattle.filter_inputs.specs.Lists.Lists.{IsSuiteOf, values}
use Rattle.filter_inputs.proofs.lists.Entries.{entry_suites}
use Rattle.filter_inputs.proofs.lists.suite_reader.binaries_in.Goals as goal

pub returns-clause-ok : goal.returns-clause-ok
returns-clause-ok c =
    let found = c.in_ok-suites.ensures.ok in
    let are = entry_suites found.0 c.in_ok-suites.suites.entries found.2 in (
      found.0,
      c.in_ok-within.ensures.is found.0 c.binaries_by_id.new.reader found.1,
      subst (λ bs. AllZip IsSuiteOf (values found.0) (map listed_view bs)) (sym c.in_ok-binaries.ensures) are.0,
      are.1,
    )
