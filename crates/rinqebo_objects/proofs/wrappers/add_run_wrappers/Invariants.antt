use Rattle.std.proofs.Common.{◌≡◌, ◌++◌, drop, filter_map, map}
use Rattle.nextest_scripts.specs.ScriptId.{script_text}
use Rattle.rinqebo_objects.specs.Uses.{wrapper_in}
use Rattle.rinqebo_objects.proofs.wrappers.add_run_wrappers.Given as goal

-- the ids so far, with those of the tests that are left
abbrev pub invariant-loop-scripts : goal.invariant-loop-scripts
invariant-loop-scripts l =
    map (λ id. script_text id.now) l.ids.items ++ filter_map wrapper_in (drop l.scripts-index l.uses)
    ≡ map (λ id. script_text id.now) l.initial.ids.items ++ filter_map wrapper_in l.uses
