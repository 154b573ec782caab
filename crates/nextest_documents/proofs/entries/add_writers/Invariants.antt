use Rattle.std.proofs.Common.{◌≡◌, ◌-◌, ◌++◌, map}
use Rattle.nextest_documents.specs.Sections.{section_view}
use Rattle.nextest_documents.specs.Writers.{writer_view, writers_in}
use Rattle.nextest_documents.proofs.entries.add_writers.Given as goal

abbrev pub invariant-down : goal.invariant-down
invariant-down l =
    map writer_view l.writers.items ++ writers_in (l.count - l.back) (section_view l.section)
    ≡ map writer_view l.initial.writers.items ++ writers_in l.count (section_view l.section)
