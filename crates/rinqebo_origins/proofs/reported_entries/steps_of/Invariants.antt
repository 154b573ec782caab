use Rattle.std.proofs.Common.{◌≡◌, ◌++◌, Some, map, take}
use Rattle.nextest_documents.specs.Layers.{keys_view}
use Rattle.nextest_documents.specs.Sections.{base_path, section_view}
use Rattle.rinqebo_origins.specs.ReportedEntries.{step_key}
use Rattle.rinqebo_origins.proofs.reported_entries.steps_of.Given as goal

-- the steps so far
abbrev pub invariant-loop-key : goal.invariant-loop-key
invariant-loop-key l =
    map step_key l.steps.items
    ≡ map Some (base_path (section_view l.entry.section) ++ keys_view (take l.key-index l.entry.path.items))
