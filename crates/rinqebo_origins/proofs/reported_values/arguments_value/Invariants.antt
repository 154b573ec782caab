use Rattle.std.proofs.Common.{◌≡◌, ◌++◌, drop, map, string_bytes}
use Rattle.rinqebo_origins.proofs.reported_values.arguments_value.Given as goal

-- the copies so far, and the arguments that are left
abbrev pub invariant-loop-argument : goal.invariant-loop-argument
invariant-loop-argument l = map string_bytes l.texts.items ++ map string_bytes (drop l.argument-index l.arguments)
    ≡ map string_bytes l.arguments
