use Rattle.std.proofs.Common.{◌||◌, map, filter, not, ap, ◌∙◌}
use Rattle.nextest_tree.specs.Schema.{is_one_of}
use Rattle.nextest_scripts.specs.ScriptId.{script_text}
use Rattle.nextest_sources.specs.Sources.{source_view}
use Rattle.nextest_tables.specs.View.{file_table_view}
use Rattle.nextest_rules.specs.Definitions.{may_define}
use Rattle.nextest_rules.proofs.Gathering.{three_parts}
use Rattle.nextest_rules.proofs.ill_named.forbidden_scripts.Goals as goal

pub returns : goal.returns
returns c q =
    let kind = (source_view c.args.source.now).kind in
    let file = file_table_view c.args.file.now in
    three_parts (λ name. not (may_define kind name)) file.new_setup_scripts file.old_setup_scripts
    file.wrapper_scripts q _ _ _
    (c.in_ok-add_forbidden.ensures q
    ∙ ap (λ ks. is_one_of (map script_text ks) q || is_one_of
    (filter (λ name. not (may_define kind name)) file.new_setup_scripts) q) c.new-ids.ensures.empty)
    (c.in_ok-add_forbidden-2.ensures q) (c.in_ok-add_forbidden-3.ensures q)
