use Rattle.std.proofs.Common.{◌≡◌, ◌++◌, drop, map, string_bytes}
use Rattle.rinqebo_faults.specs.Headers.{dotted_keys, header_text}
use Rattle.rinqebo_faults.proofs.headers.header_text.Given as goal

abbrev pub invariant-loop-key : goal.invariant-loop-key
invariant-loop-key l =
    string_bytes l.text ++ dotted_keys (map (λ key. key.now) (drop l.key-index l.rest))
    ≡ header_text l.path
