use Rattle.std.proofs.Common.{◌∙◌, ap, map, string_bytes}
use Rattle.std.proofs.lemmas.Result.{IfOk-weaker}
use Rattle.rinqebo_request.proofs.Hinting.{and_runs, key_is, of_other_mode, of_same_mode}
use Rattle.rinqebo_request.proofs.hints.key_hint.Goals as goal

pub returns-in_ok-known-in-Some : goal.returns-in_ok-known-in-Some
returns-in_ok-known-in-Some c =
    let shown = key_is c.in-Some.setting c.args.mode _ _ _ c.as_str.result.now c.of.ensures.table c.of.ensures.key
    c.in_ok-known-in-Some.ensures c.as_str.ensures.value in
    let has = rw c.in-Some.is at c.in_ok-setting.ensures in
    IfOk-weaker c.did_you_mean.result _ _
    (λ hint. of_other_mode c.args.key.now c.args.mode c.other_mode.result c.in-Some.setting _ hint c.other_mode.ensures has shown)
    c.did_you_mean.ensures

pub returns-in_ok-push-in-None : goal.returns-in_ok-push-in-None
returns-in_ok-push-in-None c =
    let names = and_runs c.args.mode _ _ _ c.in_ok-known-in-None.ensures c.in_ok-push-in-None.ensures.items c.in_ok-from_str-in-None.ensures.ok in
    let none = rw c.in-None.is at c.in_ok-setting.ensures in
    IfOk-weaker c.text_hint.result _ _
    (λ hint. of_same_mode c.args.key.now c.args.mode c.other_mode.result _ hint c.other_mode.ensures none
    (ap (map string_bytes) c.deref.ensures.value ∙ names))
    c.text_hint.ensures
