-- A test is what its members are.
use Rattle.std.proofs.Common.{◌≡◌, ◌∙◌, ap, ap₂, codes}
use Rattle.serde_json.proofs.Views.{view-Object}
use Rattle.serde_json.specs.Data.{no_members, object, put, string}
use Rattle.serde_json.specs.View.{members_view}
use Rattle.rinqebo_report.specs.Requests.{put_given}
use Rattle.rinqebo_report.proofs.json_request.named_test_json.Goals as goal

pub returns : goal.returns
returns c =
    let test = c.args.test.now in
    let none : members_view c.new-members.result.entries ≡ no_members = ap members_view c.new-members.ensures.empty in
    view-Object c.put_text.new.members
    ∙ ap object (c.in_ok-put_text.ensures
    ∙ ap₂ (λ text members. put (codes "name") (string text) members) c.as_str.ensures.value
    (c.in_ok-put_given.ensures ∙ ap (put_given (codes "binary-id") test.binary) none))
