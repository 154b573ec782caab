use Rattle.std.proofs.Common.{◌≡◌, ◌∙◌, ap, subst}
use Rattle.std.proofs.lemmas.Result.{IfOk-weaker}
use Rattle.serde_json.specs.View.{view}
use Rattle.rinqebo_changes.specs.Documents.{diff_data, IsDiffDocument}
use Rattle.rinqebo_changes.specs.Groups.{AreGroups}
use Rattle.rinqebo_changes.proofs.json_page.diff_document.Goals as goal

pub returns : goal.returns
returns c =
    let diff = c.args.diff.now in
    IfOk-weaker c.document_of.result (λ value. view value ≡ diff_data diff c.deref-2.result.now)
    (λ value. IsDiffDocument diff (view value))
    (λ value is. record {
      groups = c.in_ok-groups.groups.items;
      are_groups = subst (λ tests. AreGroups tests c.in_ok-groups.groups.items) c.deref.ensures.value
          c.in_ok-groups.ensures;
      is_data = is ∙ ap (diff_data diff) c.deref-2.ensures.value;
    }) c.document_of.ensures
