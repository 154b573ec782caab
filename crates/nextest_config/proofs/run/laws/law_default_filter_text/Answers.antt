use Rattle.nextest_config.proofs.DefaultFilters.{filters_are_read}
use Rattle.nextest_config.proofs.run.laws.law_default_filter_text.Goals as goal

pub returns : goal.returns
returns g c = λ engines platforms a name chain. filters_are_read engines platforms a name chain
