use Rattle.std.proofs.Common.{◌≡◌, ◌++◌, ℕ, List, IfOk, string_bytes, subst}
use Rattle.std.specs.Prelude.{codes}
use Rattle.rinqebo_faults.proofs.unknown_keys.overrides_help.Goals as goal

pub returns : goal.returns
returns c =
    subst
    (λ (place : List ℕ). IfOk c.format.result (λ help. string_bytes help
    ≡ codes "`" ++ (c.args.key.now ++ (codes "` is a setting of overrides: " ++ place))))
    c.in_ok-place.ensures c.format.ensures.ok
