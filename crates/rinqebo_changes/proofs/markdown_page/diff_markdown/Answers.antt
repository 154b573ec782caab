use Rattle.std.proofs.Common.{◌∙◌, ◌++◌, subst}
use Rattle.rinqebo_changes.specs.Groups.{AreGroups}
use Rattle.rinqebo_changes.specs.MarkdownPage.{table_text}
use Rattle.rinqebo_changes.proofs.markdown_page.diff_markdown.Goals as goal

pub returns : goal.returns
returns c =
    let diff = c.args.diff.now in record {
      groups = c.in_ok-groups.groups.items;
      are_groups = subst (λ tests. AreGroups tests c.in_ok-groups.groups.items) c.deref.ensures.value
          c.in_ok-groups.ensures;
      is_text = c.in_ok-add_table.ensures
          ∙ (λ i. c.new-text.ensures.bytes i ++ table_text diff c.args.lists_all (c.deref-2.ensures.value i));
    }
