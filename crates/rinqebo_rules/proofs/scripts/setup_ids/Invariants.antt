use Rattle.std.proofs.Common.{◌≡◌, map, string_bytes}
use Rattle.nextest_settings.specs.SetupView.{script_id_view}
use Rattle.rinqebo_rules.proofs.scripts.setup_ids.Given as goal

-- the scripts so far
abbrev pub invariant-loop-script : goal.invariant-loop-script
invariant-loop-script g l = map string_bytes l.ids.items ≡ map script_id_view l.yielded
