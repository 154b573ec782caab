use Rattle.std.proofs.Common.{◌++◌, List, map, option_to_list, subst}
use Rattle.std.proofs.lemmas.Result.{on_ok_weaker}
use Rattle.nextest_scripts.specs.ScriptId.{script_text}
use Rattle.nextest_scripts.specs.declared.script_id.ScriptId.{ScriptId}
use Rattle.nextest_scripts.specs.declared.script_type.ProfileScriptType.{ProfileScriptType}
use Rattle.nextest_scripts.specs.declared.script_type.ProfileScriptType.TheVariants as script_uses
use Rattle.nextest_sources.specs.Errors.{script_errors_view}
use Rattle.nextest_tables.specs.View.{uses_view}
use Rattle.nextest_tables.specs.Written.{Name}
use Rattle.nextest_rules.specs.KnownView.{known_view}
use Rattle.nextest_rules.specs.RuleFaults.{AreMore, use_faults}
use Rattle.nextest_rules.proofs.Joining.{part_then, uses_joined}
use Rattle.nextest_rules.proofs.scripts.add_uses.Goals as goal

pub returns : goal.returns
returns c =
    let known = known_view c.args.known.now in
    let profile = c.args.profile.now in
    let scripts = uses_view c.args.scripts.now in
    let setup : List (Name × ProfileScriptType) = map (λ id. (id, script_uses.Setup)) scripts.setup in
    let lists : List (Name × ProfileScriptType) =
    map (λ id. (id, script_uses.ListWrapper)) (option_to_list scripts.list_wrapper) in
    let runs : List (Name × ProfileScriptType) =
    map (λ id. (id, script_uses.RunWrapper)) (option_to_list scripts.run_wrapper) in
    let old = script_errors_view c.args.errors.now in
    let one = script_errors_view c.add_setup.new.errors in
    let two = script_errors_view c.add_wrapper.new.errors in
    let all = script_errors_view c.add_wrapper-2.new.errors in
    let first : AreMore old (use_faults known profile setup) one =
    subst (λ (ids : List ScriptId). AreMore old
    (use_faults known profile (map (λ id. (id, script_uses.Setup)) (map script_text ids))) one)
    c.deref.ensures.value c.in_ok-add_setup.ensures in
    let second : AreMore old (use_faults known profile (setup ++ lists)) two =
    part_then old (use_faults known profile setup) one (use_faults known profile lists) two
    (use_faults known profile (setup ++ lists)) first c.in_ok-add_wrapper.ensures
    (uses_joined known profile setup lists) in
    on_ok_weaker c.add_wrapper-2.result
    (λ last. part_then old (use_faults known profile (setup ++ lists)) two (use_faults known profile runs) all
    (use_faults known profile (setup ++ lists ++ runs)) second last
    (uses_joined known profile (setup ++ lists) runs))
    c.add_wrapper-2.ensures
