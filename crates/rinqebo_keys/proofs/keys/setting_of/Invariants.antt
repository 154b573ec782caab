use Rattle.nextest_elements.specs.Settings.{settings}
use Rattle.rinqebo_keys.specs.Keys.{key_text}
use Rattle.rinqebo_keys.proofs.KeyLists.{NoneHas}
use Rattle.rinqebo_keys.proofs.keys.setting_of.Given as goal

-- no setting so far has the key
abbrev pub invariant-loop-setting : goal.invariant-loop-setting
invariant-loop-setting l = NoneHas (λ s. key_text s l.mode) settings l.key l.setting-index
