use Rattle.std.proofs.Common.{◌≡◌, [], ◌∷◌, ◌+◌, map, drop, sym, ap, ◌∙◌}
use Rattle.std.proofs.lemmas.List.{drop_more, drop_all}
use Rattle.nextest_scripts.specs.ScriptId.{script_text}
use Rattle.nextest_scripts.specs.declared.script_type.ProfileScriptType.TheVariants as script_uses
use Rattle.nextest_sources.specs.Errors.{script_errors_view}
use Rattle.nextest_rules.specs.KnownView.{known_view}
use Rattle.nextest_rules.proofs.Joining.{are_joined, part_more, all_there, uses_joined}
use Rattle.nextest_rules.proofs.scripts.add_setup.Goals as goal

pub loop-id-init : goal.loop-id-init
loop-id-init c = are_joined (script_errors_view c.args.errors.now) _

pub loop-id-preserved : goal.loop-id-preserved
loop-id-preserved c =
    let known = known_view c.args.known.now in
    let profile = c.args.profile.now in
    let ids = c.args.ids.now in
    let i = c.loop-id.id-index in
    let id = c.id-item.result in
    let next : drop i ids ≡ id ∷ drop (i + 1) ids =
    drop_more ids i id c.loop-id-test.true ∙ ap (λ x. x ∷ drop (i + 1) ids) (sym c.id-item.is) in
    part_more _ _ _ _ _ _ c.in_ok-add_use.ensures
    (uses_joined known profile ((script_text id, script_uses.Setup) ∷ [])
    (map (λ id. (id, script_uses.Setup)) (map script_text (drop (i + 1) ids))))
    (rw next at c.loop-id.invariant)

pub returns : goal.returns
returns c =
    let none = drop_all c.loop-id.id-index c.args.ids.now c.loop-id-test.false in
    all_there _ _ _ (rw none at c.loop-id.invariant)
