use Rattle.std.proofs.Common.{◌∙◌, ap, map, option_map, refl}
use Rattle.nextest_tree.specs.View.{tree_view}
use Rattle.rinqebo_faults.specs.FileNamings.{file_names, first_place, naming_place, or_place}
use Rattle.rinqebo_faults.proofs.MarkSets.{none_at}
use Rattle.rinqebo_faults.proofs.namings.Namings.of.Goals as goal

pub returns : goal.returns
returns c =
    let file = option_map (λ tree. tree_view tree.now) c.args.tree in
    let names = file_names file c.args.list.now (map (λ key. key.now) c.args.keys.now) in
    record {
      of_list = refl;
      firsts = λ mark.
          c.in_ok-add_file.ensures mark
          ∙ ap (λ o. or_place o (first_place mark names))
          (none_at naming_place c.new-firsts.result c.new-firsts.ensures.empty mark);
    }
