use Rattle.std.proofs.Common.{◌∙◌, ◌++◌, ap, map, refl}
use Rattle.std.proofs.lemmas.List.{take_all}
use Rattle.nextest_scripts.specs.ScriptId.{script_text}
use Rattle.rinqebo_objects.proofs.Gathered.{put_more}
use Rattle.rinqebo_objects.proofs.script_use.add_script_ids.Goals as goal

pub loop-id-preserved : goal.loop-id-preserved
loop-id-preserved c =
    put_more c.args.named.now c.loop-id.id-index _ _ c.loop-id-test.true c.id-item.is (λ id. script_text id.now)
    script_text _ c.loop-id.ids.items _ _ c.loop-id.invariant c.in_ok-push.ensures.items refl

pub returns : goal.returns
returns c =
    c.loop-id.invariant
    ∙ ap (λ named. map (λ id. script_text id.now) c.args.ids.now.items ++ map script_text named)
    (take_all c.loop-id.id-index c.args.named.now c.loop-id-test.false)
