use Rattle.std.proofs.Common.{map, string_bytes, option_map}
use Rattle.nextest_settings.proofs.AreValues.{nearer}
use Rattle.nextest_settings.proofs.values.tests_over.Goals as goal

pub returns : goal.returns
returns c = λ fs h.
    let near = c.args.near.now in
    let further = c.args.further in
    record {
      retries = nearer near.runs.retries _ further.retries _ h.retries c.unwrap_or.ensures;
      flaky_result = nearer near.runs.flaky_result _ further.flaky_result _ h.flaky_result c.unwrap_or-2.ensures;
      threads_required = nearer near.runs.threads_required _ further.threads_required _ h.threads_required
          c.unwrap_or-3.ensures;
      run_extra_args = nearer (option_map (λ v. map string_bytes v.items) near.runs.run_extra_args) _
          (map string_bytes further.run_extra_args.now) _ h.run_extra_args c.arguments_over.ensures;
      slow_timeout = nearer near.ends.slow_timeout _ further.slow_timeout _ h.slow_timeout c.unwrap_or-4.ensures;
      leak_timeout = nearer near.ends.leak_timeout _ further.leak_timeout _ h.leak_timeout c.unwrap_or-5.ensures;
      success_output = nearer near.outputs.success_output _ further.success_output _ h.success_output
          c.unwrap_or-6.ensures;
      failure_output = nearer near.outputs.failure_output _ further.failure_output _ h.failure_output
          c.unwrap_or-7.ensures;
    }
