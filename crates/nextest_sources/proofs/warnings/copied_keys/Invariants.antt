use Rattle.std.proofs.Common.{◌≡◌, ◌++◌, map, string_bytes}
use Rattle.nextest_sources.proofs.warnings.copied_keys.Given as goal

-- the copies so far, and the keys that are left
abbrev pub invariant-loop-key : goal.invariant-loop-key
invariant-loop-key l = map string_bytes l.copies.items ++ map string_bytes l.key-iterator ≡ map string_bytes l.keys.keys
