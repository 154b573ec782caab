use Rattle.std.proofs.Common.{◌≡◌, map, string_bytes, take}
use Rattle.rinqebo_request.proofs.hints.text_hint.Given as goal

-- the names so far are the texts so far
abbrev pub invariant-loop-text : goal.invariant-loop-text
invariant-loop-text l = map (λ name. name.now) l.names.items ≡ map string_bytes (take l.text-index l.known)
