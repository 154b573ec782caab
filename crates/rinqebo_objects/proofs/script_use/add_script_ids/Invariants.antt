use Rattle.std.proofs.Common.{◌≡◌, ◌++◌, map, take}
use Rattle.nextest_scripts.specs.ScriptId.{script_text}
use Rattle.rinqebo_objects.proofs.script_use.add_script_ids.Given as goal

-- the ids so far are those before, and then the first ones that are named
abbrev pub invariant-loop-id : goal.invariant-loop-id
invariant-loop-id l =
    map (λ id. script_text id.now) l.ids.items
    ≡ map (λ id. script_text id.now) l.initial.ids.items ++ map script_text (take l.id-index l.named)
