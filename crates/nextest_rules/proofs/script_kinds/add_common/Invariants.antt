use Rattle.std.proofs.Common.{◌≡◌, ◌||◌, ℕ, List, map}
use Rattle.nextest_scripts.specs.ScriptId.{script_text}
use Rattle.nextest_sources.specs.Errors.{script_names_view}
use Rattle.nextest_tree.specs.Schema.{is_one_of}
use Rattle.nextest_rules.specs.Definitions.{common_names}
use Rattle.nextest_rules.proofs.script_kinds.add_common.Given as goal

-- the ids so far, with those that are left
abbrev pub invariant-loop-id : goal.invariant-loop-id
invariant-loop-id g l =
    let others = map (λ e. script_text e.0) l.others.entries in
    (q : List ℕ)
    → (script_names_view l.found q || is_one_of (common_names (map (λ e. script_text e.0) l.id-iterator) others) q)
    ≡ (script_names_view l.initial.found q || is_one_of
    (common_names (map (λ e. script_text e.0) l.scripts.entries) others) q)
