use Rattle.std.proofs.Common.{◌≡◌, map, string_bytes, take}
use Rattle.rinqebo_load.proofs.reported_request.keys_of.Given as goal

-- the copies so far
abbrev pub invariant-loop-key : goal.invariant-loop-key
invariant-loop-key l = map string_bytes l.copies.items ≡ map (λ key. key.now) (take l.key-index l.keys)
