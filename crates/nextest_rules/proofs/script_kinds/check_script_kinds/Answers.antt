use Rattle.std.proofs.Common.{◌≡◌, [], map, length, ap}
use Rattle.nextest_scripts.specs.ScriptId.{script_text}
use Rattle.nextest_sources.specs.Causes.{both_script_kinds}
use Rattle.nextest_sources.specs.InputFaults.{fault_at_source}
use Rattle.nextest_sources.specs.Sources.{source_view}
use Rattle.nextest_rules.proofs.Gathering.{gathered_none, gathered_some, none_mapped, some_mapped}
use Rattle.nextest_rules.proofs.Telling.{told_at}
use Rattle.nextest_rules.proofs.script_kinds.check_script_kinds.Goals as goal

pub returns-then-is_empty : goal.returns-then-is_empty
returns-then-is_empty c =
    let keys = c.in_ok-ids.ids.keys in
    let none : length keys ≡ 0 = c.is_empty.ensures.0 c.if-is_empty.true in
    ap (fault_at_source (source_view c.args.source.now))
    (gathered_none both_script_kinds (map script_text keys) _ c.in_ok-ids.ensures (none_mapped script_text keys none))

pub returns : goal.returns
returns c =
    let keys = c.in_ok-ids.ids.keys in
    let some : map script_text keys ≡ [] → ⊥ =
    some_mapped script_text keys
    (λ none. let empty = c.is_empty.ensures.1 none in let full = c.if-is_empty.false in cc) in
    told_at (source_view c.args.source.now) _ _ c.at.result
    (gathered_some both_script_kinds (map script_text keys) _ c.in_ok-ids.ensures some) c.at.ensures
