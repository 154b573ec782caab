use Rattle.std.proofs.Common.{◌≡◌, [], sym, subst}
use Rattle.std.specs.Prelude.{IfSome}
use Rattle.nextest_documents.specs.Merge.{over}
use Rattle.nextest_tables.specs.Defaults.{defaults}
use Rattle.nextest_tables.specs.Tables.{a_file}
use Rattle.nextest_tree.specs.Schema as schema
use Rattle.rinqebo_faults.specs.Edits.{edits_view}
use Rattle.rinqebo_checks.specs.Faults.{LeavesOutDocument, ReportDocument}
use Rattle.rinqebo_checks.proofs.file_values.layer_findings.Goals as goal

pub returns-in_ok-document_findings-in-Some-clause-reported : goal.returns-in_ok-document_findings-in-Some-clause-reported
returns-in_ok-document_findings-in-Some-clause-reported c =
    subst (λ document. ReportDocument c.args.session.now.layers.items c.args.place document
    c.in_ok-document_findings-in-Some.field-0.items) (sym c.in-Some.ensures)
    c.in_ok-document_findings-in-Some.ensures.reported

pub returns-in_ok-document_findings-in-Some-clause-sound : goal.returns-in_ok-document_findings-in-Some-clause-sound
returns-in_ok-document_findings-in-Some-clause-sound c = λ sound.
    c.in_ok-document_findings-in-Some.ensures.sound
    (subst (λ document. IfSome document (λ node. schema.faults a_file [] (over node defaults) ≡ []))
    c.in-Some.ensures sound)

pub returns-in_ok-document_findings-in-Some-clause-left_out : goal.returns-in_ok-document_findings-in-Some-clause-left_out
returns-in_ok-document_findings-in-Some-clause-left_out c =
    subst (λ document. LeavesOutDocument c.args.place document (edits_view c.args.edits.now)
    (edits_view c.document_findings.new.edits)) (sym c.in-Some.ensures)
    c.in_ok-document_findings-in-Some.ensures.left_out
