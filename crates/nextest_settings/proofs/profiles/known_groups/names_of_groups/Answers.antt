use Rattle.std.proofs.Common.{◌||◌, map, sym, ap, ◌∙◌}
use Rattle.std.specs.BTreeSet.{contains_text}
use Rattle.nextest_elements.specs.TestGroup.{custom_group_text}
use Rattle.nextest_tree.specs.Schema.{is_one_of}
use Rattle.nextest_settings.proofs.profiles.IsKnownGroups.{next_name, or-false, names_of_entries}
use Rattle.nextest_settings.proofs.profiles.known_groups.names_of_groups.Goals as goal

pub loop-group-preserved : goal.loop-group-preserved
loop-group-preserved c q =
    let names = c.loop-group.names in
    let step = next_name names c.insert.new.self c.in_ok-from_str.field-0
    (custom_group_text c.in-Some.group.now) (map (λ e. custom_group_text e.0) c.next.new.self) q
    (c.in_ok-from_str.ensures.ok ∙ c.as_str.ensures) c.in_ok-insert.ensures.updates in
    step ∙ ap (λ es. contains_text names q || is_one_of (map (λ e. custom_group_text e.0) es) q)
    (sym c.in-Some.ensures.steps) ∙ c.loop-group.invariant q

pub returns : goal.returns
returns c = λ q.
    sym (or-false (contains_text c.loop-group.names q))
    ∙ ap (λ es. contains_text c.loop-group.names q || is_one_of (map (λ e. custom_group_text e.0) es) q)
    (sym c.in-None.ensures.steps.0)
    ∙ c.loop-group.invariant q
    ∙ ap (λ names. is_one_of names q) (sym (names_of_entries c.args.groups.now.entries))
