use Rattle.nextest_config.proofs.Isolation.{isolated}
use Rattle.nextest_config.proofs.run.laws.law_isolation.Goals as goal

pub returns : goal.returns
returns g c = λ engines platforms a b name chain is agree. isolated engines platforms a b name chain is agree
