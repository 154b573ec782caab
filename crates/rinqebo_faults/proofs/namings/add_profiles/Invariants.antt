use Rattle.std.proofs.Common.{map}
use Rattle.nextest_tree.specs.View.{entries_view}
use Rattle.rinqebo_faults.specs.FileNamings.{profiles_names}
use Rattle.rinqebo_faults.proofs.Named.{Left}
use Rattle.rinqebo_faults.proofs.namings.add_profiles.Given as goal

abbrev pub invariant-loop-profile : goal.invariant-loop-profile
invariant-loop-profile l =
    let each = profiles_names l.list (map (λ key. key.now) l.keys) in
    Left l.fn.firsts l.firsts (each (entries_view l.profile-iterator)) (each (entries_view l.profiles.entries))
