use Rattle.std.proofs.Common.{◌∙◌, ap, map, option_map, sym}
use Rattle.nextest_settings.specs.SettingValues.{by_kind, profile_sets}
use Rattle.nextest_settings.specs.Values.{nearest}
use Rattle.nextest_settings.specs.View.{fields_ref_view}
use Rattle.nextest_settings.proofs.FallbackValue.{fallback_is}
use Rattle.nextest_settings.proofs.Held.{held_first, held_second}
use Rattle.nextest_settings.proofs.fallback.fallback_of.Goals as goal

pub returns-in-Some : goal.returns-in-Some
returns-in-Some c =
    let s = c.args.setting in
    let fs = map fields_ref_view c.args.fields.now in
    let stated = rw (c.in-Some.is, c.has_report.ensures) at c.stated_value.ensures in
    held_first (by_kind s) _ (nearest (λ f. profile_sets f c.args.mode s) fs) _ stated
    ∙ ap (option_map (by_kind s)) (sym (fallback_is fs c.args.mode s))

pub returns-in-None : goal.returns-in-None
returns-in-None c =
    let s = c.args.setting in
    let fs = map fields_ref_view c.args.fields.now in
    let stated = rw (c.in-None.is, c.has_report.ensures) at c.stated_value.ensures in
    held_second (by_kind s) _ _ _ stated c.nearest_value.ensures
    ∙ ap (option_map (by_kind s)) (sym (fallback_is fs c.args.mode s))
