use Rattle.std.proofs.Common.{◌≡◌, ◌∙◌, Some, ap, option_map, string_bytes, sym}
use Rattle.nextest_tree.specs.View.{tree_view}
use Rattle.rinqebo_faults.specs.Edits.{edits_view}
use Rattle.rinqebo_checks.specs.ReadAgain.{edited_document_text, reading_view}
use Rattle.rinqebo_checks.proofs.ReadAgain.{document_read, not_read}
use Rattle.rinqebo_checks.proofs.edited_files.Reading.text_at.Goals as goal

pub returns-then-contains : goal.returns-then-contains
returns-then-contains c =
    ap (λ t. Some t) c.new.ensures.bytes
    ∙ not_read (reading_view c.args.self.now) c.args.layers.now c.args.place
    (sym c.contains.ensures ∙ c.if-contains.true)

pub returns-in_ok-edited_document-in-Some : goal.returns-in_ok-edited_document-in-Some
returns-in_ok-edited_document-in-Some c =
    let edits = edits_view c.args.self.now.edits in
    let text = c.in_ok-edited_document-in-Some.field-0 in
    let is : string_bytes text ≡ edited_document_text edits c.args.place (tree_view c.in-Some.tree.now) =
    c.in_ok-edited_document-in-Some.ensures in
    document_read (reading_view c.args.self.now) c.args.layers.now c.args.place (Some (string_bytes text))
    (sym c.contains.ensures ∙ c.if-contains.false)
    (ap (λ t. Some t) is ∙ ap (option_map (edited_document_text edits c.args.place)) c.in-Some.ensures)

pub returns-in-None : goal.returns-in-None
returns-in-None c =
    document_read (reading_view c.args.self.now) c.args.layers.now c.args.place _
    (sym c.contains.ensures ∙ c.if-contains.false)
    (ap (option_map (edited_document_text (edits_view c.args.self.now.edits) c.args.place)) c.in-None.ensures)
