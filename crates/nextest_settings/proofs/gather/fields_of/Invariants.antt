use Rattle.std.proofs.Common.{◌≡◌, map, take}
use Rattle.nextest_load.specs.ConfigView.{merged_profile_view}
use Rattle.nextest_tables.specs.View.{by_name}
use Rattle.nextest_settings.specs.Chains.{fields_of}
use Rattle.nextest_settings.specs.View.{fields_ref_view}
use Rattle.nextest_settings.proofs.gather.fields_of.Given as goal

abbrev pub invariant-loop-name : goal.invariant-loop-name
invariant-loop-name l =
    map fields_ref_view l.found.items
    ≡ fields_of (by_name merged_profile_view l.profiles.entries)
    (map (λ name. name.now) (take l.name-index l.names))
