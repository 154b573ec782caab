use Rattle.nextest_load.specs.Config.{config_of}
use Rattle.nextest_settings.proofs.profiles.MeaningOfTexts.{means_texts}
use Rattle.nextest_settings.proofs.profiles.laws.law_settings_of_texts.Goals as goal

pub returns : goal.returns
returns g c = λ engines sources configured name early platforms same of_name.
    means_texts g.F.Filters.meaning g.S.Specs.spec_meaning g.S.Specs.holds_on platforms configured name early
    (config_of engines sources) same of_name
