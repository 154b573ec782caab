use Rattle.std.proofs.Common.{◌∙◌}
use Rattle.filter_inputs.proofs.lists.Entries.{entry_cases}
use Rattle.filter_inputs.proofs.lists.case_reader.tests_in.Goals as goal

pub returns-clause-ok : goal.returns-clause-ok
returns-clause-ok c =
    let found = c.in_ok-cases.ensures.ok in (
      found.0,
      c.in_ok-within.ensures.is found.0 c.cases_by_name.new.reader found.1,
      c.in_ok-tests.ensures ∙ entry_cases found.0 c.in_ok-cases.cases.entries found.2,
    )
