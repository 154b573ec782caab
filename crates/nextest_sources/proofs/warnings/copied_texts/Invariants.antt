use Rattle.std.proofs.Common.{◌≡◌, ◌++◌, drop, map, string_bytes}
use Rattle.nextest_sources.specs.Warnings.{texts_view}
use Rattle.nextest_sources.proofs.warnings.copied_texts.Given as goal

-- the copies so far, and the texts that are left
abbrev pub invariant-loop-text : goal.invariant-loop-text
invariant-loop-text l = map string_bytes l.copies.items ++ texts_view (drop l.text-index l.texts) ≡ texts_view l.texts
