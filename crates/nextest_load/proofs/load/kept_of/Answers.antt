use Rattle.std.proofs.Common.{option_map, sym, ap, ◌∙◌}
use Rattle.nextest_tree.specs.View.{tree_view}
use Rattle.nextest_load.proofs.Parting.{lowest_kept}
use Rattle.nextest_load.proofs.load.kept_of.Goals as goal

pub returns-in-None : goal.returns-in-None
returns-in-None c ss s so_far is =
    lowest_kept ss s c.args.kept (sym (ap (option_map tree_view) c.in-None.is) ∙ so_far) is
