use Rattle.std.proofs.Common.{◌≡◌, fold, map, string_bytes}
use Rattle.nextest_scripts.specs.EnvMap.{env_view}
use Rattle.serde_json.specs.Data.{no_members}
use Rattle.serde_json.specs.View.{members_view}
use Rattle.rinqebo_objects.specs.Scripts.{with_variable}
use Rattle.rinqebo_objects.proofs.scripts.variables_json.Given as goal

-- the members so far, with the variables that are left
abbrev pub invariant-loop-key : goal.invariant-loop-key
invariant-loop-key l =
    fold with_variable (members_view l.members.entries)
    (map (λ e. (string_bytes e.0, string_bytes e.1)) l.key-iterator)
    ≡ fold with_variable no_members (env_view l.variables)
