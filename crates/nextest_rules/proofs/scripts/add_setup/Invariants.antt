use Rattle.std.proofs.Common.{map, drop}
use Rattle.nextest_scripts.specs.ScriptId.{script_text}
use Rattle.nextest_scripts.specs.declared.script_type.ProfileScriptType.TheVariants as script_uses
use Rattle.nextest_sources.specs.Errors.{script_errors_view}
use Rattle.nextest_rules.specs.KnownView.{known_view}
use Rattle.nextest_rules.specs.RuleFaults.{AreMore, use_faults}
use Rattle.nextest_rules.proofs.Joining.{joined}
use Rattle.nextest_rules.proofs.scripts.add_setup.Given as goal

-- what is there, and what is wrong with the ids that are left
abbrev pub invariant-loop-id : goal.invariant-loop-id
invariant-loop-id l =
    AreMore (script_errors_view l.errors)
    (use_faults (known_view l.known) l.profile
    (map (λ id. (id, script_uses.Setup)) (map script_text (drop l.id-index l.ids))))
    (joined (script_errors_view l.initial.errors)
    (use_faults (known_view l.known) l.profile (map (λ id. (id, script_uses.Setup)) (map script_text l.ids))))
