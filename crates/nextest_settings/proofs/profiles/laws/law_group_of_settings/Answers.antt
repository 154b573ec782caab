use Rattle.nextest_elements.specs.declared.run_mode.NextestRunMode.TheVariants.{Test}
use Rattle.nextest_settings.specs.Queries.{query_in, written_value, custom_group_of}
use Rattle.nextest_elements.specs.declared.setting.Setting.TheVariants.{TestGroup}
use Rattle.nextest_settings.proofs.profiles.IsLastGroup.{last_given, gets_by_name, whole_group}
use Rattle.nextest_settings.proofs.profiles.laws.law_group_of_settings.Goals as goal

pub returns : goal.returns
returns g c = λ p tests n test distinct at.
    let gets = custom_group_of g.F.Filters.holds p in
    let query = query_in g.F.Filters.holds p test in
    whole_group (written_value query Test p.overrides p.script_rules TestGroup)
    (last_given gets test.binary.binary_id test.name tests) (gets_by_name gets tests distinct n test at)
