use Rattle.std.proofs.Common.{◌≡◌, map, string_bytes, take}
use Rattle.rinqebo_report.proofs.reported_request.copied_texts.Given as goal

-- the copies so far
abbrev pub invariant-loop-text : goal.invariant-loop-text
invariant-loop-text l = map string_bytes l.copies.items ≡ map string_bytes (take l.text-index l.texts)
