use Rattle.std.proofs.Common.{◌≡◌, ◌∙◌, option_map, rules, subst, sym, string_bytes}
use Rattle.std.specs.Prelude.{IfOk}
use Rattle.nextest_tree.specs.View.{tree_view}
use Rattle.rinqebo_faults.specs.Features.{by_key_or_list}
use Rattle.rinqebo_faults.proofs.feature_words.enabled_by.Goals as goal

pub returns-then-is_table : goal.returns-then-is_table
returns-then-is_table c =
    let listed = option_map (λ tree. tree_view tree.now) c.args.listed in
    subst
    (λ table. IfOk c.format.result (λ help. string_bytes help
    ≡ by_key_or_list table listed c.args.feature.now c.args.missing.now))
    (sym (sym c.is_table.ensures ∙ c.if-is_table.true)) (search rules)
