use Rattle.std.proofs.Common.{refl}
use Rattle.std.proofs.lemmas.Result.{IfOk-weaker}
use Rattle.rinqebo_request.proofs.Hinting.{hinted, of_texts}
use Rattle.rinqebo_request.proofs.hints.name_hint.Goals as goal

pub returns-clause-names : goal.returns-clause-names
returns-clause-names c =
    IfOk-weaker c.did_you_mean.result _ _
    (λ hint is. hinted c.args.name.now c.args.known.now c.in_ok-nearest_name.field-0 hint c.in_ok-nearest_name.ensures is)
    c.did_you_mean.ensures

pub returns-clause-texts : goal.returns-clause-texts
returns-clause-texts c =
    IfOk-weaker c.did_you_mean.result _ _
    (λ hint is. of_texts c.args.name.now c.args.known.now _ hint
    (hinted c.args.name.now c.args.known.now c.in_ok-nearest_name.field-0 hint c.in_ok-nearest_name.ensures is) refl)
    c.did_you_mean.ensures
