use Rattle.std.proofs.Common.{◌||◌, map, ap, ◌∙◌}
use Rattle.nextest_scripts.specs.ScriptId.{script_text}
use Rattle.nextest_tables.specs.View.{file_table_view}
use Rattle.nextest_tree.specs.Schema.{is_one_of}
use Rattle.nextest_rules.specs.Definitions.{common_names}
use Rattle.nextest_rules.proofs.Gathering.{two_parts}
use Rattle.nextest_rules.proofs.script_kinds.ids_of_both_kinds.Goals as goal

pub returns : goal.returns
returns c q =
    let file = file_table_view c.args.file.now in
    two_parts (is_one_of file.wrapper_scripts) file.new_setup_scripts file.old_setup_scripts q _ _
    (c.in_ok-add_common.ensures q
    ∙ ap (λ ks. is_one_of (map script_text ks) q || is_one_of
    (common_names file.new_setup_scripts file.wrapper_scripts) q) c.new-ids.ensures.empty)
    (c.in_ok-add_common-2.ensures q)
