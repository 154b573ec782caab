use Rattle.nextest_settings.proofs.AreValues.{nearer}
use Rattle.nextest_settings.proofs.values.run_over.Goals as goal

pub returns : goal.returns
returns c = λ fs h.
    let near = c.args.near.now in
    let further = c.args.further in
    record {
      test_threads = nearer near.runs.test_threads _ further.test_threads _ h.test_threads c.unwrap_or.ensures;
      status_level = nearer near.outputs.status_level _ further.status_level _ h.status_level c.unwrap_or-2.ensures;
      final_status_level = nearer near.outputs.final_status_level _ further.final_status_level _
          h.final_status_level c.unwrap_or-3.ensures;
      max_fail = nearer near.ends.max_fail _ further.max_fail _ h.max_fail c.unwrap_or-4.ensures;
      global_timeout = nearer near.ends.global_timeout _ further.global_timeout _ h.global_timeout
          c.unwrap_or-5.ensures;
    }
