use Rattle.nextest_config.proofs.LastRule.{filter_kept, rest_decided}
use Rattle.nextest_config.proofs.run.laws.law_last_rule.Goals as goal

pub returns : goal.returns
returns g c = λ engines platforms p rule test unchosen.
    (rest_decided engines platforms p rule test unchosen, filter_kept engines platforms p rule test unchosen)
