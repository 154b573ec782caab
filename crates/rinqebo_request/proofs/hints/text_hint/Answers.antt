use Rattle.std.proofs.Common.{◌∙◌, ap, map, string_bytes}
use Rattle.std.proofs.lemmas.List.{take_all}
use Rattle.std.proofs.lemmas.Result.{IfOk-weaker}
use Rattle.rinqebo_request.proofs.Hinting.{texts_more}
use Rattle.rinqebo_request.proofs.hints.text_hint.Goals as goal

pub loop-text-preserved : goal.loop-text-preserved
loop-text-preserved c =
    texts_more string_bytes c.args.known.now c.loop-text.text-index c.text-item.result c.loop-text.names.items c.push.new.self.items c.as_str.result
    c.loop-text-test.true c.loop-text.invariant c.in_ok-push.ensures.items (c.as_str.ensures.value ∙ ap string_bytes c.text-item.is)

pub returns : goal.returns
returns c =
    IfOk-weaker c.name_hint.result _ _
    (λ hint is. (
      c.deref.result.now,
      ap (map (λ name. name.now)) c.deref.ensures.value ∙ c.loop-text.invariant
          ∙ ap (map string_bytes) (take_all c.loop-text.text-index c.args.known.now c.loop-text-test.false),
      is,
    ))
    c.name_hint.ensures.names
