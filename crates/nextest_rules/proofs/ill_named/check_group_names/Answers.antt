use Rattle.std.proofs.Common.{◌≡◌, Some, map, length, ap, ◌∙◌}
use Rattle.nextest_elements.specs.TestGroup.{custom_group_text}
use Rattle.nextest_sources.specs.Causes.{ill_named_groups}
use Rattle.nextest_sources.specs.InputFaults.{fault_at_source}
use Rattle.nextest_sources.specs.Errors.{group_names_view}
use Rattle.nextest_sources.specs.Sources.{source_view, owner_of_source}
use Rattle.nextest_elements.specs.Owner.{owner_class}
use Rattle.nextest_rules.specs.Definitions.{source_class}
use Rattle.nextest_rules.proofs.Gathering.{gathered_none, gathered_some, none_mapped, some_mapped}
use Rattle.nextest_rules.proofs.Telling.{told}
use Rattle.nextest_rules.proofs.ill_named.check_group_names.Goals as goal

pub returns-then-is_empty : goal.returns-then-is_empty
returns-then-is_empty c =
    let source = source_view c.args.source.now in
    let keys = c.in_ok-groups.groups.keys in
    let none : length keys ≡ 0 = c.is_empty.ensures.0 c.if-is_empty.true in
    ap (fault_at_source source)
    (gathered_none (ill_named_groups (source_class source.kind)) (map custom_group_text keys) _
    c.in_ok-groups.ensures (none_mapped custom_group_text keys none))

pub returns : goal.returns
returns c =
    let source = source_view c.args.source.now in
    let keys = c.in_ok-groups.groups.keys in
    let some : map custom_group_text keys ≡ _ → ⊥ =
    some_mapped custom_group_text keys
    (λ none. let empty = c.is_empty.ensures.1 none in let full = c.if-is_empty.false in cc) in
    told source _ _ c.ill_named_kind-kind.result c.at.result
    (gathered_some (ill_named_groups (source_class source.kind)) (map custom_group_text keys) _
    c.in_ok-groups.ensures some)
    (c.ill_named_kind-kind.ensures
    ∙ ap (λ o. Some (ill_named_groups (owner_class o) (group_names_view c.in_ok-groups.groups)))
    (c.owner.ensures ∙ ap owner_of_source c.kind.ensures)) c.at.ensures
