use Rattle.std.proofs.Common.{◌≡◌, ◌∙◌, append-nil, sym, map, string_bytes}
use Rattle.std.specs.Map.{keys_of}
use Rattle.nextest_settings.proofs.KnowsScripts.{fused}
use Rattle.rinqebo_results.proofs.list_objects.names_of_profiles.Goals as goal

pub returns : goal.returns
returns c =
    let entries = c.args.profiles.now.entries in
    let all : map string_bytes c.loop-name.names.items ≡ map string_bytes (keys_of entries) =
    sym (append-nil (map string_bytes c.loop-name.names.items))
    ∙ (rw c.in-None.ensures.steps.0 at c.loop-name.invariant) in
    all ∙ fused string_bytes (λ e. e.0) entries
