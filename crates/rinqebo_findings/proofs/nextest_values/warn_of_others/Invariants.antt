use Rattle.std.proofs.Common.{map}
use Rattle.nextest_places.specs.Spans.Paths.{path_step}
use Rattle.nextest_tree.specs.View.{entries_view}
use Rattle.rinqebo_findings.specs.NextestForms.{unknown_keys}
use Rattle.rinqebo_findings.proofs.Forms.{Left}
use Rattle.rinqebo_findings.proofs.nextest_values.warn_of_others.Given as goal

-- the keys that are left
abbrev pub invariant-loop-key : goal.invariant-loop-key
invariant-loop-key l =
    let source = l.refused.source in
    let known = map (λ key. key.now) l.known in
    let path = map path_step l.path in
    Left source.layers.now source.position l.fn.findings.items l.findings.items
    (unknown_keys known path (entries_view l.key-iterator))
    (unknown_keys known path (entries_view l.members.entries))
