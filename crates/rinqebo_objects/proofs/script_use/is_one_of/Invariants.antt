use Rattle.std.proofs.Common.{◌≡◌, map, drop}
use Rattle.nextest_scripts.specs.ScriptId.{script_text}
use Rattle.nextest_tree.specs.Schema.{is_one_of}
use Rattle.rinqebo_objects.proofs.script_use.is_one_of.Given as goal

abbrev pub invariant-loop-used : goal.invariant-loop-used
invariant-loop-used l =
    is_one_of (map (λ id. script_text id.now) (drop l.used-index l.ids)) (script_text l.id)
    ≡ is_one_of (map (λ id. script_text id.now) l.ids) (script_text l.id)
