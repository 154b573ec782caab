use Rattle.nextest_settings.specs.Queries.{custom_group_of}
use Rattle.nextest_settings.proofs.profiles.IsLastGroup.{group_is_last}
use Rattle.nextest_settings.proofs.profiles.laws.law_last_group.Goals as goal

pub returns : goal.returns
returns g c = λ p tests id name. group_is_last (custom_group_of g.F.Filters.holds p) id name tests
