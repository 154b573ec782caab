use Rattle.std.proofs.Common.{◌≡◌, ◌-◌, ◌+◌, suc, map, ap, ◌∙◌, arith}
use Rattle.std.proofs.lemmas.List.{map-append}
use Rattle.nextest_documents.specs.Sections.{section_view}
use Rattle.nextest_documents.specs.Writers.{writer_view}
use Rattle.nextest_documents.proofs.Writing.{one_writer}
use Rattle.nextest_documents.proofs.entries.add_writers.Goals as goal

pub down-preserved : goal.down-preserved
down-preserved c =
    let count = c.args.count in
    let back = c.down.back in
    let at = count - 1 - back in
    let before : count - back ≡ suc at = omega (arith, c.down-test.true) in
    let after : count - (back + 1) ≡ at = omega (arith, c.down-test.true) in
    one_writer (section_view c.args.section) (count - back) (count - (back + 1)) at
    (map writer_view c.down.writers.items) _ (map writer_view c.push.new.self.items) before after c.down.invariant
    (ap (map writer_view) c.in_ok-push.ensures.items ∙ map-append writer_view c.down.writers.items _)
