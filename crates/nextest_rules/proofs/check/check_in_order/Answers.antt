use Rattle.std.proofs.Common.{◌∷◌, [], refl}
use Rattle.std.specs.BTreeSet.{contains_text}
use Rattle.nextest_sources.proofs.Runs.{ran_check, ran_first, ran_next, ran_exit}
use Rattle.nextest_sources.specs.Endings.{error_view, passed, ending}
use Rattle.nextest_sources.specs.Sources.{source_view}
use Rattle.nextest_sources.specs.Steps.{check}
use Rattle.nextest_rules.specs.KnownView.{known_view}
use Rattle.nextest_rules.specs.Steps.{empty_steps_in, group_cause_in, script_cause_in}
use Rattle.nextest_rules.specs.View.{order_view}
use Rattle.nextest_rules.proofs.check.check_in_order.Goals as goal

pub returns-in_err-check_groups : goal.returns-in_err-check_groups
returns-in_err-check_groups g c =
    let s = source_view c.args.source.now in
    let order = order_view g.F.Filters.meaning g.S.Specs.spec_meaning c.args.order.now in
    let groups = group_cause_in (contains_text c.args.known.now.groups) order in
    let e = c.in_err-check_groups.field-0.0 in
    let old = g.W.ConfigWarnings.warnings c.args.warnings.now in
    ran_exit _ old old _ e c.from_residual.ensures.1
    (ran_first (check s groups ∷ []) _ old old e
    (ran_check s groups old old (error_view e) refl c.in_err-check_groups.ensures))

pub returns-in_err-warn_of_empty_sections : goal.returns-in_err-warn_of_empty_sections
returns-in_err-warn_of_empty_sections g c =
    let s = source_view c.args.source.now in
    let order = order_view g.F.Filters.meaning g.S.Specs.spec_meaning c.args.order.now in
    let groups = group_cause_in (contains_text c.args.known.now.groups) order in
    let e = c.in_err-warn_of_empty_sections.field-0.0 in
    let old = g.W.ConfigWarnings.warnings c.args.warnings.now in
    let new = g.W.ConfigWarnings.warnings c.warn_of_empty_sections.new.warnings in
    ran_exit _ old new _ e c.from_residual-in_err-warn_of_empty_sections.ensures.1
    (ran_next (check s groups ∷ []) _ old old new (error_view e)
    (ran_check s groups old old passed refl c.in_ok-check_groups.ensures)
    (ran_first (empty_steps_in s order) _ old new e c.in_err-warn_of_empty_sections.ensures))

pub returns : goal.returns
returns g c =
    let s = source_view c.args.source.now in
    let order = order_view g.F.Filters.meaning g.S.Specs.spec_meaning c.args.order.now in
    let groups = group_cause_in (contains_text c.args.known.now.groups) order in
    let scripts = script_cause_in g.F.Filters.leaves (known_view c.args.known.now) order in
    let o = ending c.check_scripts.result in
    let old = g.W.ConfigWarnings.warnings c.args.warnings.now in
    let new = g.W.ConfigWarnings.warnings c.warn_of_empty_sections.new.warnings in
    ran_next (check s groups ∷ []) _ old old new o (ran_check s groups old old passed refl c.in_ok-check_groups.ensures)
    (ran_next (empty_steps_in s order) (check s scripts ∷ []) old new new o c.in_ok-warn_of_empty_sections.ensures
    (ran_check s scripts new new o refl c.check_scripts.ensures))
