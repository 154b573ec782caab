use Rattle.nextest_config.proofs.FileApart.{kept_apart}
use Rattle.nextest_config.proofs.run.laws.law_file_apart.Goals as goal

pub returns : goal.returns
returns g c = λ engines platforms a b name chain below s above is without with_it apart. kept_apart engines
    platforms a b name chain below s above is without with_it apart
