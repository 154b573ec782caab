use Rattle.std.proofs.Common.{◌≡◌, take}
use Rattle.std.specs.List.{fold}
use Rattle.filter_engine.specs.RegexSizes.{scan_view, start, with_byte}
use Rattle.filter_engine.proofs.regex_size.regex_size.Given as goal

abbrev pub invariant-loop-i : goal.invariant-loop-i
invariant-loop-i l = scan_view l.scan ≡ fold with_byte start (take l.i l.text)
