use Rattle.std.proofs.Common.{◌≡◌, IfOk, string_bytes, subst, sym}
use Rattle.nextest_settings.proofs.KnowsScripts.{fused}
use Rattle.serde_json.specs.Data.{array, string}
use Rattle.serde_json.specs.View.{items_of, view}
use Rattle.rinqebo_objects.proofs.values.names_json.Goals as goal

pub returns : goal.returns
returns c =
    subst (λ ds. IfOk c.texts_json.result (λ value. view value ≡ array (items_of ds)))
    (sym (fused string string_bytes c.args.texts.now)) c.texts_json.ensures
