use Rattle.std.proofs.Common.{◌≡◌, string_bytes, ap, ◌∙◌, rules}
use Rattle.serde_json.specs.Data.{put}
use Rattle.serde_json.specs.View.{view, members_view}
use Rattle.serde_json.proofs.Views.{members_view-insert_entry}
use Rattle.filter_inputs.proofs.lists.tokens.with_member.Goals as goal

pub returns-clause-ok : goal.returns-clause-ok
returns-clause-ok c =
    let v = c.in_ok-member.member in
    let old = c.args.members.entries in
    let copied : string_bytes c.in_ok-name.name ≡ c.args.key.now = search rules in (
      view v,
      c.in_ok-member.ensures.ok,
      ap members_view c.in_ok-insert.ensures.entries
          ∙ members_view-insert_entry old c.in_ok-name.name v
          ∙ ap (λ name. put name (view v) (members_view old)) copied,
    )
