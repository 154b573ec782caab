use Rattle.std.proofs.Common.{◌∙◌, ◌++◌, subst}
use Rattle.rinqebo_report.specs.Pieces.{page_text}
use Rattle.rinqebo_changes.specs.Groups.{AreGroups}
use Rattle.rinqebo_changes.specs.Pages.{diff_runs}
use Rattle.rinqebo_changes.proofs.text_page.diff_text.Goals as goal

pub returns : goal.returns
returns c =
    let diff = c.args.diff.now in record {
      groups = c.in_ok-groups.groups.items;
      are_groups = subst (λ tests. AreGroups tests c.in_ok-groups.groups.items) c.deref.ensures.value
          c.in_ok-groups.ensures;
      is_text = c.in_ok-add_page.ensures
          ∙ (λ i. c.new-text.ensures.bytes i
          ++ page_text c.args.paper.colour
          (diff_runs c.args.paper.columns diff c.args.lists_all (c.deref-2.ensures.value i)));
    }
