use Rattle.std.proofs.Common.{◌≡◌, List, [], ◌∷◌, ◌++◌, flat_map, Ok, ap, ◌∙◌, sym, refl}
use Rattle.std.proofs.lemmas.List.{append-nil, map-append}
use Rattle.std.proofs.lemmas.Grind.{flat_map-append}
use Rattle.std.proofs.lemmas.Result.{err_from_is_err_and}
use Rattle.serde_json.specs.View.{view}
use Rattle.filter_inputs.specs.Packages.Names.{ids_view}
use Rattle.filter_inputs.specs.Packages.Results.{and_then}
use Rattle.filter_inputs.specs.Packages.Targets.{TargetText, targets_at}
use Rattle.filter_inputs.specs.Packages.TargetView.{target_view, targets_view}
use Rattle.filter_inputs.proofs.packages.Gathering.{seen_step, seen_all, seen_fault}
use Rattle.filter_inputs.proofs.packages.targets.all_targets.Goals as goal

pub loop-place-init : goal.loop-place-init
loop-place-init c = ([], ap targets_view c.new-targets.ensures.items, refl)

pub returns-in_err-listed : goal.returns-in_err-listed
returns-in_err-listed c =
    let p = err_from_is_err_and c.from_residual.result c.from_residual.ensures.1 in
    rw (p.1, p.2)
    (λ has_memory. ap (λ r. and_then r (λ lists. Ok (flat_map (λ targets. targets) lists)))
    (seen_fault view (targets_at (ids_view c.args.members.now)) c.args.packages.now c.loop-place.place _
    c.index-packages-place.result c.in_err-listed.field-0.0 c.loop-place-test.true c.index-packages-place.is
    (c.in_err-listed.ensures has_memory) c.loop-place.invariant.2))

pub loop-place-preserved : goal.loop-place-preserved
loop-place-preserved c =
    let done = c.loop-place.invariant.0 in
    let listed = targets_view c.in_ok-listed.listed.items in
    let join : (List (List TargetText)) → List TargetText = λ lists. flat_map (λ targets. targets) lists in
    let joined : join (done ++ listed ∷ []) ≡ join done ++ listed =
    flat_map-append (λ (targets : List TargetText). targets) done (listed ∷ [])
    ∙ ap (λ more. join done ++ more) (append-nil listed) in (
      done ++ listed ∷ [],
      ap targets_view c.in_ok-append.ensures.items
          ∙ map-append target_view c.loop-place.targets.items c.in_ok-listed.listed.items
          ∙ ap (λ front. front ++ listed) c.loop-place.invariant.1
          ∙ sym joined,
      seen_step view (targets_at (ids_view c.args.members.now)) c.args.packages.now c.loop-place.place done _
          c.index-packages-place.result listed c.loop-place-test.true c.index-packages-place.is
          c.in_ok-listed.ensures c.loop-place.invariant.2 refl,
    )

pub returns : goal.returns
returns c =
    ap (λ r. and_then r (λ lists. Ok (flat_map (λ targets. targets) lists)))
    (seen_all view (targets_at (ids_view c.args.members.now)) c.args.packages.now c.loop-place.place _
    c.loop-place-test.false c.loop-place.invariant.2)
    ∙ ap Ok (sym c.loop-place.invariant.1)
