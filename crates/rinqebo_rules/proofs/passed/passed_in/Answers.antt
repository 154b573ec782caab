use Rattle.std.proofs.Common.{◌∙◌, ℕ, arith, refl, subst, take}
use Rattle.std.proofs.lemmas.List.{take_all}
use Rattle.std.specs.List.{AllZip}
use Rattle.nextest_elements.specs.Settings.{settings}
use Rattle.nextest_elements.specs.declared.setting.Setting.{Setting}
use Rattle.nextest_settings.specs.Settings.{is_set}
use Rattle.rinqebo_rules.proofs.SetMarks.{length_set, zip_set}
use Rattle.rinqebo_rules.specs.Passed.{IsPassed}
use Rattle.rinqebo_rules.proofs.passed.passed_in.Goals as goal

pub loop-place-preserved : goal.loop-place-preserved
unfolding settings
loop-place-preserved g c =
    let so_far = c.loop-place.invariant in
    record {
      same_length = length_set c.loop-place.counts c.loop-place.place c.passed_for.result ∙ so_far.same_length;
      so_far = λ query mode profile same are.
          zip_set (λ s. IsPassed query (λ w. is_set w.settings mode s) (λ w. w.id) profile.overrides) settings
          c.loop-place.counts c.loop-place.place _ _ c.passed_for.result c.loop-place-test.true refl
          (omega (arith, c.loop-place-test.true, so_far.same_length)) (so_far.so_far query mode profile same are)
          (c.passed_for.ensures query mode profile same are);
    }

pub returns : goal.returns
unfolding settings
returns g c = λ query mode profile same are.
    let so_far = c.loop-place.invariant in
    let P : Setting → ℕ → Type 0 =
    λ s. IsPassed query (λ w. is_set w.settings mode s) (λ w. w.id) profile.overrides in
    subst (AllZip P settings)
    (take_all c.loop-place.place c.loop-place.counts (omega (arith, c.loop-place-test.false, so_far.same_length)))
    (subst (λ ss. AllZip P ss (take c.loop-place.place c.loop-place.counts))
    (take_all c.loop-place.place settings c.loop-place-test.false) (so_far.so_far query mode profile same are))
