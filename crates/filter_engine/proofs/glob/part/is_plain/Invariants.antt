use Rattle.std.proofs.Common.{◌≡◌, ℕ, ◌<◌, false, get_or}
use Rattle.filter_engine.specs.Globs.{is_special}
use Rattle.filter_engine.proofs.glob.part.is_plain.Given as goal

abbrev pub invariant-loop-byte : goal.invariant-loop-byte
invariant-loop-byte l = (k : ℕ) → k < l.byte-index → is_special (get_or l.text k 0) ≡ false
