use Rattle.nextest_config.proofs.TakingOut.{filter_stays, test_stays}
use Rattle.nextest_config.proofs.run.laws.law_take_out.Goals as goal

pub returns : goal.returns
returns g c = λ engines platforms p before rule after test is fails unchosen. (
  test_stays engines platforms p before rule after test is fails unchosen,
  filter_stays engines platforms p
      before rule after test is unchosen,
)
