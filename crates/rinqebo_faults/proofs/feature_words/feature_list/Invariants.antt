use Rattle.std.proofs.Common.{◌≡◌, drop, map, option_map, string_bytes}
use Rattle.std.specs.Prelude.{fold}
use Rattle.nextest_elements.specs.Experimental.{experimental_text}
use Rattle.nextest_tree.specs.View.{tree_view}
use Rattle.rinqebo_faults.specs.Features.{feature_list, with_quoted}
use Rattle.rinqebo_faults.proofs.feature_words.feature_list.Given as goal

abbrev pub invariant-loop-feature : goal.invariant-loop-feature
invariant-loop-feature l =
    fold with_quoted (string_bytes l.list) (map experimental_text (drop l.feature-index l.missing))
    ≡ feature_list (option_map (λ tree. tree_view tree.now) l.listed) l.missing
