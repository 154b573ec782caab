use Rattle.std.proofs.Common.{◌≡◌, ◌<◌, [], ◌∷◌, suc, length, Some, refl, sym, ap, ◌∙◌, subst, arith}
use Rattle.std.specs.List.{slice_get}
use Rattle.std.proofs.lemmas.Option.{slice_get_read}
use Rattle.std.proofs.lemmas.Slice.Eq.{bytes_eq-Decides}
use Rattle.nextest_places.specs.declared.step.Step.TheVariants.{Key}
use Rattle.nextest_places.specs.Spans.Paths.{IsEndedBy, key}
use Rattle.nextest_places.proofs.spans.Climbing.{ended}
use Rattle.nextest_places.proofs.spans.path.before_key.Goals as goal

pub returns-in-Key : goal.returns-in-Key
returns-in-Key c =
    let less : c.in_ok-last.last < length c.args.path.now = c.in_ok-step.ensures.lookup.3.0 in
    let size : suc c.in_ok-last.last ≡ length c.args.path.now = omega (arith, less, c.in_ok-last.ensures) in
    let here : slice_get c.args.path.now c.in_ok-last.last ≡ Some (Key c.in-Key.step) =
    slice_get_read c.args.path.now (length c.args.path.now) c.in_ok-last.last c.in_ok-step.field-0.now refl less c.in_ok-step.ensures.lookup.1
    ∙ ap Some c.in-Key.is in
    let same : c.in-Key.step.now ≡ c.args.name.now = (bytes_eq-Decides c.in-Key.step.now c.args.name.now).0 (sym c.eq.ensures ∙ c.if-eq.true) in
    subst (λ k. IsEndedBy c.args.path.now (key k ∷ []) c.in_ok-last.last) same
    (ended c.args.path.now c.in_ok-last.last (Key c.in-Key.step) size here)
