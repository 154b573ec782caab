use Rattle.std.proofs.Common.{[], ◌≤◌, ◌∙◌, Bor, List, ap, length, map, refl, subst, sym, ℕ}
use Rattle.std.proofs.lemmas.List.{length-map, take_all}
use Rattle.rinqebo_request.specs.ArgumentTable.{Adds}
use Rattle.rinqebo_request.proofs.Adding.{none}
use Rattle.rinqebo_diff.specs.DiffArguments.{right_rule}
use Rattle.rinqebo_diff.specs.RightLine.{right_names}
use Rattle.rinqebo_diff.proofs.Arguments.{one_more_right, some_choice, some_modes}
use Rattle.rinqebo_diff.proofs.options.with_options.Goals as goal

pub loop-name-init : goal.loop-name-init
loop-name-init c _ = (some_modes, some_choice, none c.args.command)

pub loop-name-preserved : goal.loop-name-preserved
loop-name-preserved c names =
    let so_far = c.loop-name.invariant names in
    let option = c.right_option.ensures in
    let no_text : Bor (List ℕ) = record { ref_ptr = (0, 0); now = [] } in
    one_more_right c.args.options.now c.loop-name.name-index _ (no_text, no_text) so_far.0 option.0 _ _ _ _ names c.loop-name-test.true so_far.1 option.1 so_far.2
    option.2 c.in_ok-command.ensures refl

pub returns : goal.returns
returns c named =
    let all = c.loop-name.invariant named in
    let past : length right_names ≤ c.loop-name.name-index =
    subst (λ n. n ≤ c.loop-name.name-index) (sym (length-map c.args.options.now (λ option. option.0.now)) ∙ ap length named) c.loop-name-test.false in (
      all.0,
      all.1,
      subst (λ names. Adds (map (right_rule all.0) names) c.args.command c.loop-name.command)
          (take_all c.loop-name.name-index right_names past) all.2,
    )
