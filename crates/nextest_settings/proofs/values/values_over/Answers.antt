use Rattle.std.proofs.Common.{refl}
use Rattle.nextest_tables.specs.View.{fields_view}
use Rattle.nextest_settings.proofs.values.values_over.Goals as goal

pub returns : goal.returns
returns c = λ fs h. record {
  tests = c.tests_over.ensures fs h.tests;
  run = c.run_over.ensures fs h.run;
  report = c.report_over.ensures (fields_view c.args.near.now) fs refl h.report;
  bench = c.bench_over.ensures (fields_view c.args.near.now) fs refl h.bench;
}
