use Rattle.std.proofs.Common.{◌≡◌, ◌||◌, ℕ, List, map}
use Rattle.nextest_tree.specs.Schema.{is_one_of}
use Rattle.nextest_sources.specs.Sources.{source_view}
use Rattle.nextest_rules.specs.Definitions.{forbidden_names}
use Rattle.nextest_rules.proofs.ill_named.add_forbidden.Given as goal

-- the names so far, with those that are left
abbrev pub invariant-loop-key : goal.invariant-loop-key
invariant-loop-key g l =
    let text = g.K.NameKey.text in
    let kind = (source_view l.source).kind in
    (q : List ℕ)
    → (is_one_of (map text l.found.keys) q || is_one_of (forbidden_names kind (map (λ e. text e.0) l.key-iterator)) q)
    ≡ (is_one_of (map text l.initial.found.keys) q || is_one_of
    (forbidden_names kind (map (λ e. text e.0) l.table.entries)) q)
