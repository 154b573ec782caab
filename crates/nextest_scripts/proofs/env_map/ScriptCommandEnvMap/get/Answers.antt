use Rattle.std.proofs.Common.{◌∙◌, ap, Some, option_map, string_bytes, Global}
use Rattle.nextest_scripts.proofs.Variables.{texts_lookup}
use Rattle.nextest_scripts.proofs.env_map.ScriptCommandEnvMap.get.Goals as goal

pub returns : goal.returns
returns c =
    ap (λ t. Some t) c.as_str.ensures.value
    ∙ ap (option_map (string_bytes {Z = Global})) c.in_ok-text.ensures.value
    ∙ texts_lookup c.args.key.now c.args.self.now.0.entries

pub returns-in_err-text : goal.returns-in_err-text
returns-in_err-text c =
    rw c.from_residual.ensures
    (ap (option_map (string_bytes {Z = Global})) c.in_err-text.ensures.value
    ∙ texts_lookup c.args.key.now c.args.self.now.0.entries)
