use Rattle.std.proofs.Common.{◌≡◌}
use Rattle.std.specs.Option.{option_or}
use Rattle.nextest_rules.specs.Rules.{at_name}
use Rattle.nextest_tables.specs.Written.{Name}
use Rattle.nextest_load.specs.ScriptNames.{HaveOwnIds, by_id, script_at}
use Rattle.nextest_load.proofs.scripts.add_by_text.Given as goal

-- the scripts that are there, and those that are left
abbrev pub invariant-loop-id : goal.invariant-loop-id
invariant-loop-id g l = record {
  own : HaveOwnIds l.scripts;
  all : (name : Name) → option_or (script_at l.scripts name) (at_name name (by_id l.id-iterator))
      ≡ option_or (script_at l.fn.scripts name) (at_name name (by_id l.fn.more.entries));
}
