-- What contracts see of lists.
use Rattle.std.specs.Prelude.{map, option_map, string_bytes}
use Rattle.nextest_engines.specs.Engines.{Binary, test_view}
use Rattle.filter_inputs.specs.Lists.Lists.{Case, Listed, ListTest, Triples, TestList}
use Rattle.filter_inputs.specs.declared.lists.list.ListedBinary.{ListedBinary}
use Rattle.filter_inputs.specs.declared.lists.list.ListedTest.{ListedTest}
use Rattle.filter_inputs.specs.declared.lists.list.ListedTests.{ListedTests}
use Rattle.filter_inputs.specs.declared.lists.list.TestCase.{TestCase}
use Rattle.filter_inputs.specs.declared.lists.platforms.Triples.{Triples as FoundTriples}

-- what filters see of a binary of a list
abbrev pub binary_view : ListedBinary → Binary
binary_view b = record {
  package_id = string_bytes b.package_id;
  binary_id = string_bytes b.id;
  kind = string_bytes b.kind;
  binary_name = string_bytes b.name;
  platform = b.platform;
}

-- a test of a binary
abbrev pub case_view : TestCase → Case
case_view case = record { name = string_bytes case.name; ignored = case.ignored }

-- a test of a list
abbrev pub list_test_view : ListedTest → ListTest
list_test_view t = record { test = test_view t.query; ignored = t.ignored }

-- a binary of a list
abbrev pub listed_view : ListedBinary → Listed
listed_view b = record {
  binary = binary_view b;
  package_name = string_bytes b.package_name;
  tests = map case_view b.tests.items;
}

-- the triples of a build
abbrev pub triples_view : FoundTriples → Triples
triples_view t = record {
  host = option_map (λ text. text.now) t.host;
  target = option_map (λ text. text.now) t.target;
}

-- a list
abbrev pub list_view : ListedTests → TestList
list_view list = record {
  triples = record {
    host = option_map string_bytes list.host;
    target = option_map string_bytes list.target;
  };
  target_directory = option_map string_bytes list.target_directory;
  binaries = map listed_view list.binaries.items;
}
