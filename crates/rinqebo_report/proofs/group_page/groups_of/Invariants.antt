use Rattle.std.proofs.Common.{◌≡◌, map, take, string_bytes}
use Rattle.std.specs.String.{string_eq}
use Rattle.std.specs.HashSet.{IsUnique}
use Rattle.rinqebo_report.specs.Groups.{reported_text, firsts, test_groups}
use Rattle.rinqebo_report.proofs.group_page.groups_of.Given as goal

abbrev pub invariant-loop-test : goal.invariant-loop-test
invariant-loop-test l = record {
  keys : map string_bytes l.texts.keys ≡ map reported_text (firsts (take l.test-index l.tests));
  unique : IsUnique string_eq l.texts;
  groups : map (λ group. map (λ test. test.now) group.items) l.groups.items ≡ test_groups (take l.test-index l.tests);
}
