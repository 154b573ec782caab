use Rattle.rinqebo_results.proofs.list_page.ListPage.test_text.Goals as goal

pub returns-clause-shown : goal.returns-clause-shown
returns-clause-shown c = record {
  rows = c.in_ok-rows.rows;
  are_reported = c.in_ok-rows.ensures.told;
  shown = c.in_ok-text.ensures;
}
