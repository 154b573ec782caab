use Rattle.nextest_elements.specs.declared.run_mode.NextestRunMode.TheVariants.{Test}
use Rattle.nextest_settings.specs.Queries.{query_in, test_query, written_value, custom_group_of}
use Rattle.nextest_elements.specs.declared.setting.Setting.TheVariants.{TestGroup}
use Rattle.nextest_inheritance.proofs.WithDefault.{all_different}
use Rattle.nextest_load.proofs.Closing.{groups_closed}
use Rattle.nextest_settings.proofs.IsAmong.{group_known}
use Rattle.nextest_settings.proofs.IsLastGroup.{last_given, gets_by_name, whole_group}
use Rattle.nextest_config.specs.Laws.{meant_by, profile_by}
use Rattle.nextest_config.proofs.ScriptsAreEnabledInOrder.{in_order}
use Rattle.nextest_config.proofs.run.laws.law_users.Goals as goal

pub returns-clause-groups : goal.returns-clause-groups
returns-clause-groups g c = λ engines platforms a name chain mode test.
    group_known engines.meets platforms (meant_by engines a) name chain
    (groups_closed engines a.features a.files a.rules_hold)
    (query_in engines.matches_test (profile_by engines platforms a name chain) test) mode

pub returns-clause-chains : goal.returns-clause-chains
returns-clause-chains g c = λ parents name chain leads. all_different parents name chain leads

pub returns-clause-scripts : goal.returns-clause-scripts
returns-clause-scripts g c = λ engines p. in_order engines p

pub returns-clause-memberships : goal.returns-clause-memberships
returns-clause-memberships g c = λ engines p tests n test distinct at.
    let gets = custom_group_of engines.matches_test p in
    let query = test_query engines.matches_test p.default_filter.filter test in
    whole_group (written_value query Test p.overrides p.script_rules TestGroup)
    (last_given gets test.binary.binary_id test.name tests) (gets_by_name gets tests distinct n test at)
