use Rattle.std.proofs.Common.{◌≡◌, subst, string_bytes}
use Rattle.std.specs.Prelude.{IfOk}
use Rattle.rinqebo_faults.specs.Features.{enabled_by}
use Rattle.rinqebo_faults.proofs.feature_words.feature_help.Goals as goal

pub returns : goal.returns
returns c =
    subst
    (λ listed. IfOk c.enabled_by.result (λ help. string_bytes help ≡ enabled_by listed c.args.feature.now c.args.missing.now))
    c.value_of.ensures c.enabled_by.ensures
