use Rattle.std.proofs.Common.{◌≡◌, ◌∙◌, append-nil, map, sym}
use Rattle.std.specs.Map.{keys_of}
use Rattle.nextest_settings.proofs.KnowsScripts.{fused}
use Rattle.nextest_scripts.specs.ScriptId.{script_text}
use Rattle.rinqebo_session.proofs.profile.ids_of.Goals as goal

pub returns : goal.returns
returns c =
    let entries = c.args.table.now.entries in
    let all : map (λ id. id.now) c.loop-id.ids.items ≡ map script_text (keys_of entries) =
    sym (append-nil (map (λ id. id.now) c.loop-id.ids.items))
    ∙ (rw c.in-None.ensures.steps.0 at c.loop-id.invariant) in
    all ∙ fused script_text (λ e. e.0) entries
