use Rattle.std.proofs.Common.{map, take, string_bytes}
use Rattle.std.specs.BTreeMap.{get_by_text}
use Rattle.nextest_scripts.specs.ScriptId.{script_text}
use Rattle.nextest_load.specs.ScriptNames.{script_at}
use Rattle.nextest_load.proofs.Placing.{Placed}
use Rattle.nextest_load.proofs.scripts.in_order.Given as goal

-- the scripts of the names so far are placed
abbrev pub invariant-loop-name : goal.invariant-loop-name
invariant-loop-name g l =
    Placed script_text (map string_bytes (take l.name-index l.names)) (script_at l.fn.left)
    (get_by_text l.left) l.scripts.entries
