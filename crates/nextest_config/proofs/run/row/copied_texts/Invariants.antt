use Rattle.std.proofs.Common.{◌≡◌, ◌++◌, drop, map, string_bytes}
use Rattle.nextest_config.proofs.run.row.copied_texts.Given as goal

-- the copies so far, and the texts that are left
abbrev pub invariant-loop-text : goal.invariant-loop-text
invariant-loop-text l = map string_bytes l.copies.items ++ map string_bytes (drop l.text-index l.texts)
    ≡ map string_bytes l.texts
