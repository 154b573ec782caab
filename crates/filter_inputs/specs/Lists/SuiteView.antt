-- What contracts see of suites.
use Rattle.serde_json.specs.View.{members_view}
use Rattle.filter_inputs.specs.Lists.Lists.{Listed, cases_in}
use Rattle.filter_inputs.specs.declared.lists.suites.Suite.{Suite}

-- the binary that a suite describes
abbrev pub suite_view : Suite → Listed
suite_view suite = record {
  binary = record {
    package_id = suite.package_id.now;
    binary_id = suite.binary_id.now;
    kind = suite.kind.now;
    binary_name = suite.binary_name.now;
    platform = suite.platform;
  };
  package_name = suite.package_name.now;
  tests = cases_in (members_view suite.cases.now.entries);
}
