use Rattle.std.proofs.Common.{◌≡◌, List, map, take}
use Rattle.nextest_rules.specs.View.{id_view}
use Rattle.nextest_settings.specs.Deciding.{QueryContext}
use Rattle.nextest_settings.specs.View.{meant_override}
use Rattle.rinqebo_rules.specs.Unused.{is_used, unused_among}
use Rattle.rinqebo_rules.proofs.unused.unmarked_overrides.Given as goal

-- the rules so far that hold for none of the tests
abbrev pub invariant-loop-number : goal.invariant-loop-number
invariant-loop-number g l =
    let F = g.F.Filters in
    let rules = map (meant_override F.meaning) l.rules in
    (tests : List (QueryContext F.Meaning)) → l.used ≡ map (is_used tests) rules
    → map (λ id. id_view id.now) l.ids.items
    ≡ map (λ rule. rule.writes.id) (unused_among tests (take l.number rules))
