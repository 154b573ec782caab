use Rattle.std.proofs.Common.{◌≡◌, drop, is_some, map}
use Rattle.nextest_settings.specs.Settings.{report_path}
use Rattle.nextest_settings.specs.View.{fields_ref_view}
use Rattle.nextest_settings.proofs.fallback.has_report.Given as goal

abbrev pub invariant-loop-written : goal.invariant-loop-written
invariant-loop-written l =
    is_some (report_path (map fields_ref_view (drop l.written-index l.fields)))
    ≡ is_some (report_path (map fields_ref_view l.fields))
