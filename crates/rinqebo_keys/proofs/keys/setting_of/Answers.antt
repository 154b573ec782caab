use Rattle.std.proofs.Common.{◌≡◌, ◌<◌, true, refl, length, arith, rules}
use Rattle.std.proofs.lemmas.Option.{slice_get_within}
use Rattle.nextest_elements.specs.Settings.{settings, index_of}
use Rattle.nextest_elements.proofs.StandsOnce.{at_place}
use Rattle.rinqebo_keys.specs.Keys.{key_text}
use Rattle.rinqebo_keys.proofs.KeyLists.{none_more}
use Rattle.rinqebo_keys.proofs.keys.setting_of.Goals as goal

pub loop-setting-preserved : goal.loop-setting-preserved
unfolding settings
loop-setting-preserved c =
    none_more (λ s. key_text s c.args.mode) settings c.args.key.now c.loop-setting.setting-index _ _
    c.loop-setting-test.true refl c.loop-setting.invariant
    (λ is. let has : c.in_ok-has_key.field-0 ≡ true = c.in_ok-has_key.ensures.1 is in search rules)

pub returns : goal.returns
unfolding settings
returns c =
    λ setting.
    let within : index_of setting < length settings =
    slice_get_within settings (index_of setting) setting (at_place setting) in
    let so_far : index_of setting < c.loop-setting.setting-index = omega (arith, c.loop-setting-test.false, within) in
    c.loop-setting.invariant (index_of setting) so_far setting (at_place setting)
