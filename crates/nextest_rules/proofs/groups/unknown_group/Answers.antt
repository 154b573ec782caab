use Rattle.std.proofs.Common.{◌≡◌, Some, sym, ap, ◌∙◌, true, false}
use Rattle.std.specs.BTreeSet.{contains_text}
use Rattle.nextest_elements.specs.TestGroup.{custom_group_text}
use Rattle.nextest_elements.specs.declared.test_group.TestGroup.TheVariants as groups
use Rattle.nextest_rules.proofs.Grouping.{group_known, group_unknown}
use Rattle.nextest_rules.proofs.groups.unknown_group.Goals as goal

pub returns-then-contains : goal.returns-then-contains
returns-then-contains c =
    let is : c.args.group.now ≡ Some (groups.Custom c.in-Custom.group) = cc (c.in-Some.is, c.in-Custom.is) in
    let known : contains_text c.args.known.now (custom_group_text c.in-Custom.group) ≡ true =
    ap (contains_text c.args.known.now) (sym c.as_str.ensures) ∙ sym c.contains.ensures ∙ c.if-contains.true in
    sym (group_known (contains_text c.args.known.now) c.args.profile.now c.args.group.now c.in-Custom.group is known)

pub returns : goal.returns
returns c =
    let is : c.args.group.now ≡ Some (groups.Custom c.in-Custom.group) = cc (c.in-Some.is, c.in-Custom.is) in
    let unknown : contains_text c.args.known.now (custom_group_text c.in-Custom.group) ≡ false =
    ap (contains_text c.args.known.now) (sym c.as_str.ensures) ∙ sym c.contains.ensures ∙ c.if-contains.false in
    rw (c.in_ok-from_str.ensures.ok, c.in_ok-clone.ensures.cases)
    (sym (group_unknown (contains_text c.args.known.now) c.args.profile.now c.args.group.now c.in-Custom.group
    is unknown))
