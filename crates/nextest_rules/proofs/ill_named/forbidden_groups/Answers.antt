use Rattle.std.proofs.Common.{◌||◌, Some, map, ◌∙◌}
use Rattle.nextest_tree.specs.Schema.{is_one_of}
use Rattle.nextest_elements.specs.TestGroup.{custom_group_text}
use Rattle.nextest_sources.specs.Sources.{source_view}
use Rattle.nextest_rules.specs.Definitions.{forbidden_names}
use Rattle.nextest_rules.proofs.Knowing.{keys_named}
use Rattle.nextest_rules.proofs.ill_named.forbidden_groups.Goals as goal

pub returns : goal.returns
returns c q =
    let kind = (source_view c.args.source.now).kind in
    c.in_ok-add_forbidden.ensures q
    ∙ (λ i. is_one_of (map custom_group_text (c.new-groups.ensures.empty i)) q
    || is_one_of (forbidden_names kind
    (keys_named custom_group_text (λ config. Some config) c.args.file.now.test_groups.entries i)) q)
