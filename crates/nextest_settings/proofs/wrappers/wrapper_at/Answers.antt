use Rattle.std.proofs.Common.{◌≡◌, ◌∙◌, sym, ap, option_map, IsSome, None}
use Rattle.nextest_load.specs.ConfigView.{scripts_view}
use Rattle.nextest_rules.specs.Rules.{at_name}
use Rattle.nextest_scripts.specs.ScriptId.{script_text}
use Rattle.nextest_scripts.specs.ScriptTexts.{wrapper_script_view}
use Rattle.nextest_settings.proofs.ScriptTables.{at_script_ref, is_there}
use Rattle.nextest_settings.proofs.wrappers.wrapper_at.Goals as goal

pub unreachable-requires : goal.unreachable-requires
unreachable-requires c =
    let es = (scripts_view c.args.scripts.now).wrapper in
    let found = at_script_ref wrapper_script_view c.args.id.now c.args.scripts.now.wrapper.entries
    c.get.result c.get.ensures.value in
    let none : at_name (script_text c.args.id.now) es ≡ None =
    sym found ∙ ap (option_map (λ w. wrapper_script_view w.now)) c.in-None.is in
    let some : IsSome (at_name (script_text c.args.id.now) es) = is_there (script_text c.args.id.now) es c.requires in
    let both = rw none at some in
    absurd cc

pub returns : goal.returns
returns c = sym (at_script_ref wrapper_script_view c.args.id.now c.args.scripts.now.wrapper.entries
    c.get.result c.get.ensures.value) ∙ ap (option_map (λ w. wrapper_script_view w.now)) c.in-Some.is
