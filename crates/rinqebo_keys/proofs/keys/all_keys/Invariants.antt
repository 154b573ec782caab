use Rattle.std.proofs.Common.{◌≡◌, map, take, string_bytes}
use Rattle.nextest_elements.specs.Settings.{settings}
use Rattle.rinqebo_keys.specs.Keys.{key_text}
use Rattle.rinqebo_keys.proofs.keys.all_keys.Given as goal

-- the keys of the settings so far
abbrev pub invariant-loop-setting : goal.invariant-loop-setting
invariant-loop-setting l =
    map string_bytes l.keys.items ≡ map (λ s. key_text s l.mode) (take l.setting-index settings)
