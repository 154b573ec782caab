use Rattle.std.proofs.Common.{◌≡◌, ◌∙◌, ◌++◌, ◌+◌, ◌∷◌, [], ap, refl, subst, sym, take}
use Rattle.std.specs.Prelude.{flat_map}
use Rattle.std.proofs.lemmas.Grind.{flat_map-append}
use Rattle.std.proofs.lemmas.List.{append-nil, take_all}
use Rattle.rinqebo_faults.specs.Hints.{texts}
use Rattle.rinqebo_findings.specs.Profiles.{AreNew, names_in, new_names}
use Rattle.rinqebo_findings.proofs.Each.{taken}
use Rattle.rinqebo_findings.proofs.parents.profile_names.Goals as goal

pub loop-layer-init : goal.loop-layer-init
loop-layer-init c =
    record {
      has = λ name. rw c.new-seen.ensures.empty refl;
      are = ap texts c.new-names.ensures.items;
    }

pub loop-layer-preserved : goal.loop-layer-preserved
loop-layer-preserved c =
    let l = c.loop-layer in
    let layers = c.args.layers.now in
    let layer = c.layer-item.result in
    let more : flat_map names_in (take (l.layer-index + 1) layers)
    ≡ flat_map names_in (take l.layer-index layers) ++ names_in layer =
    ap (flat_map names_in) (taken layers l.layer-index layer c.loop-layer-test.true c.layer-item.is)
    ∙ flat_map-append names_in (take l.layer-index layers) (layer ∷ [])
    ∙ ap (λ names. flat_map names_in (take l.layer-index layers) ++ names) (append-nil (names_in layer)) in
    subst (λ came. AreNew came c.add_layer.new.seen c.add_layer.new.names.items) (sym more)
    (c.in_ok-add_layer.ensures (flat_map names_in (take l.layer-index layers)) l.invariant)

pub returns : goal.returns
returns c =
    c.loop-layer.invariant.are
    ∙ ap (λ layers. new_names [] (flat_map names_in layers))
    (take_all c.loop-layer.layer-index c.args.layers.now c.loop-layer-test.false)
