-- A document has no float and nests little, so that its text is known and reads back.
use Rattle.std.proofs.Common.{◌≤◌, Some, subst, sym, ap, ◌∙◌}
use Rattle.serde_json.specs.Data.{Data, depth}
use Rattle.serde_json.specs.Read.{max_depth}
use Rattle.serde_json.specs.Written.{has_float, compact_text}
use Rattle.rinqebo_report.proofs.ExactDocuments.{document_nests, document_is_whole}
use Rattle.rinqebo_report.proofs.json_document.document_text.Goals as goal

pub returns-clause-text : goal.returns-clause-text
returns-clause-text c =
    let same = c.in_ok-document.ensures in
    c.in_ok-text.ensures.text (ap has_float same ∙ document_is_whole c.args.report.now)
    ∙ ap compact_text same

pub returns-clause-reads_back : goal.returns-clause-reads_back
returns-clause-reads_back c =
    let same = c.in_ok-document.ensures in
    c.in_ok-text.ensures.reads_back
    (subst (λ (d : Data). depth d ≤ max_depth) (sym same) (document_nests c.args.report.now))
    ∙ ap Some same
