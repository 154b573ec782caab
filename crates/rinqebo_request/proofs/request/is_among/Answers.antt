use Rattle.std.proofs.Common.{rules, tests}
use Rattle.std.proofs.lemmas.Iterator.{YieldsList-from_slice}
use Rattle.std.proofs.lemmas.Iterator.Search.{any_from_yields_List}
use Rattle.nextest_elements.specs.declared.setting.Setting.{Setting}
use Rattle.rinqebo_request.specs.NoteTexts.{is_same_setting}
use Rattle.rinqebo_request.proofs.request.is_among.Goals as goal

pub returns : goal.returns
returns c =
    any_from_yields_List (λ (one : Setting). is_same_setting one c.args.setting) _ _ _ c.any.ensures.ran
    (YieldsList-from_slice c.args.settings.now cc) (λ x b q k. search (rules, tests))
