use Rattle.std.proofs.Common.{◌≡◌, ◌∷◌, ◌+◌, map, drop, refl, sym, ap, ◌∙◌, subst}
use Rattle.std.proofs.lemmas.List.{drop_more, drop_all}
use Rattle.nextest_sources.specs.Errors.{script_errors_view}
use Rattle.nextest_rules.specs.KnownView.{known_view}
use Rattle.nextest_rules.specs.Meaning.{script_rule_meaning}
use Rattle.nextest_rules.specs.RuleFaults.{AreMore, rule_script_faults}
use Rattle.nextest_rules.specs.View.{script_rule_view}
use Rattle.nextest_rules.proofs.Joining.{part_more, same_faults}
use Rattle.nextest_rules.proofs.scripts.script_errors.Goals as goal

pub loop-name-preserved : goal.loop-name-preserved
loop-name-preserved g c =
    let order = c.args.order.now in
    let i = c.loop-name.name-index in
    let e = c.loop-name-item.result in
    let next : drop i order ≡ e ∷ drop (i + 1) order =
    drop_more order i e c.loop-name-test.true ∙ ap (λ x. x ∷ drop (i + 1) order) (sym c.loop-name-item.is) in
    let known = known_view c.args.known.now in
    let old = script_errors_view c.loop-name.errors in
    let new = script_errors_view c.add_rules.new.errors in
    let added = subst (λ rules. AreMore old (rule_script_faults g.F.Filters.leaves known e.0.now
    (map (script_rule_meaning g.F.Filters.meaning g.S.Specs.spec_meaning) (map script_rule_view rules))) new)
    c.deref.ensures.value c.in_ok-add_rules.ensures in
    part_more old _ new _ _ _ added (record { unknown = refl; wrong = refl; lists = refl })
    (rw next at c.loop-name.invariant)

pub returns : goal.returns
returns g c =
    let none = drop_all c.loop-name.name-index c.args.order.now c.loop-name-test.false in
    same_faults _ _ (rw none at c.loop-name.invariant)
