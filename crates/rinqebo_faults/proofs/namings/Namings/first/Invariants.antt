use Rattle.std.proofs.Common.{◌≡◌, drop, map}
use Rattle.std.specs.Prelude.{fold}
use Rattle.rinqebo_faults.specs.Namings.{earlier, first_naming, naming_of}
use Rattle.rinqebo_faults.proofs.namings.Namings.first.Given as goal

abbrev pub invariant-loop-key : goal.invariant-loop-key
invariant-loop-key l =
    fold (λ first key. earlier first (naming_of l.self l.profile key l.name)) l.first
    (map (λ key. key.now) (drop l.key-index l.keys))
    ≡ first_naming l.self l.profile (map (λ key. key.now) l.keys) l.name
