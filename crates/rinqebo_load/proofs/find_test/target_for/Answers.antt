use Rattle.std.proofs.Common.{◌≡◌, ◌<◌, ◌∙◌, true, Some, ap, arith, length, map, rules, sym}
use Rattle.std.proofs.lemmas.List.{length-map}
use Rattle.std.proofs.lemmas.Option.{slice_get-get_or}
use Rattle.filter_inputs.specs.Packages.Targets.{binary_id}
use Rattle.filter_inputs.specs.Packages.TargetView.{target_view, targets_view}
use Rattle.rinqebo_keys.proofs.KeyLists.{none_more}
use Rattle.rinqebo_load.proofs.Elements.{seen_at}
use Rattle.rinqebo_load.proofs.find_test.target_for.Goals as goal

pub loop-target-preserved : goal.loop-target-preserved
loop-target-preserved c =
    let targets = c.args.targets.now in
    none_more binary_id (targets_view targets) c.args.id.now c.loop-target.target-index _ _
    (omega (arith, c.loop-target-test.true, length-map targets target_view))
    (seen_at target_view targets c.loop-target.target-index c.target-item.result c.loop-target-test.true c.target-item.is)
    c.loop-target.invariant
    (λ is. let has : c.in_ok-builds.field-0 ≡ true = c.in_ok-builds.ensures.1 is in search rules)

pub returns-then-branch : goal.returns-then-branch
returns-then-branch c =
    let targets = c.args.targets.now in
    let i = c.loop-target.target-index in
    let below : i < length (targets_view targets) = omega (arith, c.loop-target-test.true, length-map targets target_view) in
    let at = seen_at target_view targets i c.target-item.result c.loop-target-test.true c.target-item.is in (
      (i, below, sym at),
      c.in_ok-builds.ensures.0 c.if-branch.true,
    )

pub returns : goal.returns
returns c =
    λ target has.
    let targets = c.args.targets.now in
    let within : has.0 < length (targets_view targets) = has.1 in
    let so_far : has.0 < c.loop-target.target-index =
    omega (arith, within, c.loop-target-test.false, length-map targets target_view) in
    c.loop-target.invariant has.0 so_far target
    (slice_get-get_or (targets_view targets) has.0 target within ∙ ap Some has.2)
