use Rattle.filter_engine.specs.RegexSizes.{scan_view, whole_of}
use Rattle.filter_engine.proofs.RegexSizes.{IsClosing}
use Rattle.filter_engine.proofs.regex_size.scan.Scan.whole.Given as goal

abbrev pub invariant-loop-done : goal.invariant-loop-done
invariant-loop-done l =
    IsClosing (scan_view l.self) (whole_of (scan_view l.fn.self)) l.done l.done-end
