-- A finding is what its members are.
use Rattle.std.proofs.Common.{◌≡◌, ◌∙◌, ap}
use Rattle.serde_json.proofs.Views.{view-Object}
use Rattle.serde_json.specs.Data.{no_members, object}
use Rattle.serde_json.specs.View.{members_view}
use Rattle.rinqebo_report.specs.Documents.{with_advice, with_expression, with_fault, with_site}
use Rattle.rinqebo_report.proofs.json_findings.finding_json.Goals as goal

pub returns : goal.returns
returns c =
    let finding = c.args.finding.now in
    let none : members_view c.new-members.result.entries ≡ no_members = ap members_view c.new-members.ensures.empty in
    view-Object c.put_advice.new.members
    ∙ ap object (c.in_ok-put_advice.ensures
    ∙ ap (with_advice finding) (c.in_ok-put_expression.ensures
    ∙ ap (with_expression finding) (c.in_ok-put_site.ensures
    ∙ ap (with_site finding) (c.in_ok-put_fault.ensures
    ∙ ap (with_fault finding) none))))
