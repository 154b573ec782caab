use Rattle.std.proofs.Common.{◌≡◌, ◌++◌, map}
use Rattle.nextest_scripts.specs.ScriptId.{script_text}
use Rattle.std.specs.Map.{keys_of}
use Rattle.rinqebo_session.proofs.profile.ids_of.Given as goal

-- the ids so far, with those that are left
abbrev pub invariant-loop-id : goal.invariant-loop-id
invariant-loop-id l =
    map (λ id. id.now) l.ids.items ++ map script_text l.id-iterator ≡ map script_text (keys_of l.table.entries)
