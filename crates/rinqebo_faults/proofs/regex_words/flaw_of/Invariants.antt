use Rattle.std.proofs.Common.{◌≡◌, drop, length}
use Rattle.std.specs.Str.{chars}
use Rattle.rinqebo_faults.specs.Regexes.{flaw_from, flaw_of}
use Rattle.rinqebo_faults.proofs.regex_words.flaw_of.Given as goal

abbrev pub invariant-loop-c : goal.invariant-loop-c
invariant-loop-c l =
    flaw_from (drop (length l.yielded) (chars l.pattern)) l.scan ≡ flaw_of l.pattern
