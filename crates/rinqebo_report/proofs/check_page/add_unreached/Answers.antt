use Rattle.std.proofs.Common.{◌≡◌, ◌++◌, codes, string_bytes, ap, ◌∙◌}
use Rattle.rinqebo_report.proofs.WholeTexts.{on_ok, written_four}
use Rattle.rinqebo_report.specs.Joined.{joined}
use Rattle.rinqebo_report.specs.OriginText.{path_at}
use Rattle.rinqebo_report.specs.Pages.{unreached_text}
use Rattle.rinqebo_report.proofs.check_page.add_unreached.Goals as goal

pub returns : goal.returns
returns c =
    let unreached = c.args.unreached.now in
    let path = path_at c.args.root.now c.args.sources.now unreached.source in
    let checks = joined (codes ", ") string_bytes unreached.checks.items in
    on_ok c.add_joined.result
    (string_bytes c.add_joined.new.out ≡ string_bytes c.push_str-3.new.self
    ++ joined (codes ", ") string_bytes c.deref.result.now)
    (string_bytes c.add_joined.new.out ≡ string_bytes c.args.out.now
    ++ unreached_text c.args.root.now c.args.sources.now unreached)
    (λ last. written_four (string_bytes c.args.out.now) (codes "; not reached in ") path (codes ": ") checks _ _ _ _
    c.in_ok-push_str.ensures.bytes
    (c.in_ok-push_str-2.ensures.bytes ∙ ap (λ p. string_bytes c.push_str.new.self ++ p) c.path_at.ensures)
    c.in_ok-push_str-3.ensures.bytes
    (last ∙ ap (λ xs. string_bytes c.push_str-3.new.self ++ joined (codes ", ") string_bytes xs) c.deref.ensures.value))
    c.add_joined.ensures
