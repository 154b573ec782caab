use Rattle.std.proofs.Common.{◌≡◌, Bool, List, Option, map, take}
use Rattle.nextest_scripts.specs.ScriptId.{script_text}
use Rattle.nextest_settings.specs.Deciding.{QueryContext}
use Rattle.nextest_settings.specs.Queries.{is_enabled_for}
use Rattle.nextest_settings.specs.View.{meant_script_rule}
use Rattle.nextest_tables.specs.Written.{Name}
use Rattle.nextest_tree.specs.Schema.{is_one_of}
use Rattle.rinqebo_rules.specs.SetupRules.{AreKnownMore}
use Rattle.rinqebo_rules.proofs.setup_rules.enabled_ids.Given as goal

-- the ids so far are those that the rules so far enable
abbrev pub invariant-loop-number : goal.invariant-loop-number
invariant-loop-number g l =
    let F = g.F.Filters in
    let rules = map (meant_script_rule F.meaning) l.rules in
    (query : QueryContext F.Meaning) (before : List (Option Bool)) → AreKnownMore query rules before l.known
    → (id : Name) → is_one_of (map (λ id. script_text id.now) l.ids.items) id
    ≡ is_enabled_for query (take l.number rules) id
