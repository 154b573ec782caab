use Rattle.std.proofs.Common.{◌∙◌, ◌++◌, ap, flat_map, subst}
use Rattle.rinqebo_changes.specs.GithubPage.{group_notice, run_notice}
use Rattle.rinqebo_changes.specs.Groups.{AreGroups}
use Rattle.rinqebo_changes.proofs.github_page.diff_github.Goals as goal

pub returns : goal.returns
returns c =
    let diff = c.args.diff.now in
    let workspace = c.args.workspace.now in
    record {
      groups = c.in_ok-groups.groups.items;
      are_groups = subst (λ tests. AreGroups tests c.in_ok-groups.groups.items) c.deref.ensures.value
          c.in_ok-groups.ensures;
      is_text = c.in_ok-add_runs.ensures
          ∙ ap (λ text. text ++ flat_map (run_notice workspace diff) diff.run.items)
          (c.in_ok-add_groups.ensures
          ∙ (λ i. c.new-text.ensures.bytes i ++ flat_map (group_notice workspace diff) (c.deref-2.ensures.value i)));
    }
