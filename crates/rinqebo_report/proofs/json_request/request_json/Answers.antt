-- A request is what its members are.
use Rattle.std.proofs.Common.{◌≡◌, ◌∙◌, ap, ap₂, codes}
use Rattle.serde_json.proofs.Views.{view-Object}
use Rattle.serde_json.specs.Data.{no_members, object, put, string}
use Rattle.serde_json.specs.View.{members_view}
use Rattle.rinqebo_report.specs.Documents.{list_data, text_data}
use Rattle.rinqebo_report.specs.Filled.{put_filled}
use Rattle.rinqebo_report.specs.Requests.{put_given, put_test}
use Rattle.rinqebo_report.proofs.json_request.request_json.Goals as goal

pub returns : goal.returns
returns c =
    let request = c.args.request.now in
    let none : members_view c.new-members.result.entries ≡ no_members = ap members_view c.new-members.ensures.empty in
    view-Object c.put_given-3.new.members
    ∙ ap object (c.in_ok-put_given-3.ensures
    ∙ ap (put_given (codes "why") request.why) (c.in_ok-put_test.ensures
    ∙ ap (put_test request.test) (c.in_ok-put_given-2.ensures
    ∙ ap (put_given (codes "list") request.list) (c.in_ok-put_filled.ensures
    ∙ ap₂ (λ keys members. put_filled (codes "keys") keys members)
    (c.in_ok-keys.ensures ∙ ap (list_data text_data) c.deref.ensures.value) (c.in_ok-put_given.ensures
    ∙ ap (put_given (codes "by") request.by) (c.in_ok-put_text.ensures
    ∙ ap₂ (λ word members. put (codes "command") (string word) members) c.word.ensures none))))))
