use Rattle.std.proofs.Common.{◌≡◌, ◌∷◌, ◌++◌, ◌+◌, map, drop, sym, ap, ◌∙◌, append_assoc}
use Rattle.std.specs.BTreeSet.{contains_text}
use Rattle.std.specs.List.{filter_map}
use Rattle.std.proofs.lemmas.List.{drop_more}
use Rattle.nextest_sources.specs.Errors.{group_error_view}
use Rattle.nextest_rules.specs.Meaning.{override_meaning}
use Rattle.nextest_rules.specs.RuleFaults.{group_fault, group_faults_in}
use Rattle.nextest_rules.specs.View.{order_view, override_rule_view}
use Rattle.nextest_rules.proofs.groups.groups_not_known.Goals as goal

pub loop-name-preserved : goal.loop-name-preserved
loop-name-preserved g c =
    let known = contains_text c.args.known.now in
    let order = c.args.order.now in
    let i = c.loop-name.name-index in
    let e = c.loop-name-item.result in
    let next : drop i order ≡ e ∷ drop (i + 1) order =
    drop_more order i e c.loop-name-test.true ∙ ap (λ x. x ∷ drop (i + 1) order) (sym c.loop-name-item.is) in
    let added = c.in_ok-add_unknown.ensures
    ∙ ap (λ os. map group_error_view c.loop-name.errors.items
    ++ filter_map (λ r. group_fault known e.0.now r.writes.settings.test_group)
    (map (override_meaning g.F.Filters.meaning g.S.Specs.spec_meaning) (map override_rule_view os)))
    c.deref.ensures.value in
    ap (λ l. l ++ group_faults_in known
    (order_view g.F.Filters.meaning g.S.Specs.spec_meaning (drop (i + 1) order))) added
    ∙ append_assoc (map group_error_view c.loop-name.errors.items) _ _
    ∙ ap (λ es. map group_error_view c.loop-name.errors.items
    ++ group_faults_in known (order_view g.F.Filters.meaning g.S.Specs.spec_meaning es)) (sym next)
    ∙ c.loop-name.invariant
