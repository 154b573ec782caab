use Rattle.std.proofs.Common.{◌≡◌, [], ◌∷◌, ◌++◌, ◌+◌, take, drop, refl, sym, ap, ◌∙◌, subst}
use Rattle.std.proofs.lemmas.List.{drop_more, take_more, take_all}
use Rattle.nextest_sources.proofs.Runs.{ran_first, ran_next, ran_exit, ran_none}
use Rattle.nextest_sources.specs.Endings.{Ran, error_view, passed}
use Rattle.nextest_sources.specs.Sources.{source_view}
use Rattle.nextest_rules.specs.Steps.{empty_steps_in, empty_steps_of}
use Rattle.nextest_rules.specs.View.{order_view, profile_meaning_view}
use Rattle.nextest_rules.proofs.Emptying.{steps_split, steps_more}
use Rattle.nextest_rules.proofs.empty_sections.warn_of_empty_sections.Goals as goal

pub loop-name-init : goal.loop-name-init
loop-name-init g c = ran_none _ _ refl

pub returns-in_err-warn_of_profile : goal.returns-in_err-warn_of_profile
returns-in_err-warn_of_profile g c =
    let f = g.F.Filters.meaning in
    let h = g.S.Specs.spec_meaning in
    let s = source_view c.args.source.now in
    let order = c.args.order.now in
    let i = c.loop-name.name-index in
    let item = c.loop-name-item.result in
    let e = c.in_err-warn_of_profile.field-0.0 in
    let old = g.W.ConfigWarnings.warnings c.args.warnings.now in
    let mid = g.W.ConfigWarnings.warnings c.loop-name.warnings in
    let new = g.W.ConfigWarnings.warnings c.warn_of_profile.new.warnings in
    let next : drop i order ≡ item ∷ drop (i + 1) order =
    drop_more order i item c.loop-name-test.true ∙ ap (λ x. x ∷ drop (i + 1) order) (sym c.loop-name-item.is) in
    let all = ap (λ es. empty_steps_in s (order_view f h (take i order))
    ++ empty_steps_in s (order_view f h es)) (sym next) ∙ steps_split f h s i order in
    ran_exit _ old new _ e c.from_residual.ensures.1
    (subst (λ steps. Ran steps old new (error_view e)) all
    (ran_next (empty_steps_in s (order_view f h (take i order))) _ old mid new (error_view e) c.loop-name.invariant
    (ran_first (empty_steps_of s item.0.now (profile_meaning_view f h item.1.now))
    (empty_steps_in s (order_view f h (drop (i + 1) order))) mid new e c.in_err-warn_of_profile.ensures)))

pub loop-name-preserved : goal.loop-name-preserved
loop-name-preserved g c =
    let f = g.F.Filters.meaning in
    let h = g.S.Specs.spec_meaning in
    let s = source_view c.args.source.now in
    let order = c.args.order.now in
    let i = c.loop-name.name-index in
    let item = c.loop-name-item.result in
    let old = g.W.ConfigWarnings.warnings c.args.warnings.now in
    let mid = g.W.ConfigWarnings.warnings c.loop-name.warnings in
    let new = g.W.ConfigWarnings.warnings c.warn_of_profile.new.warnings in
    let more : take (i + 1) order ≡ take i order ++ item ∷ [] =
    take_more order i item c.loop-name-test.true ∙ ap (λ x. take i order ++ x ∷ []) (sym c.loop-name-item.is) in
    subst (λ steps. Ran steps old new passed)
    (sym (ap (λ es. empty_steps_in s (order_view f h es)) more ∙ steps_more f h s (take i order) item))
    (ran_next (empty_steps_in s (order_view f h (take i order)))
    (empty_steps_of s item.0.now (profile_meaning_view f h item.1.now)) old mid new passed c.loop-name.invariant
    c.in_ok-warn_of_profile.ensures)

pub returns : goal.returns
returns g c =
    let f = g.F.Filters.meaning in
    let h = g.S.Specs.spec_meaning in
    let s = source_view c.args.source.now in
    subst (λ es. Ran (empty_steps_in s (order_view f h es)) (g.W.ConfigWarnings.warnings c.args.warnings.now)
    (g.W.ConfigWarnings.warnings c.loop-name.warnings) passed)
    (take_all c.loop-name.name-index c.args.order.now c.loop-name-test.false) c.loop-name.invariant
