-- The stress index after the rest.
use Rattle.std.proofs.Common.{◌≡◌, ◌++◌, subst, IfOk, string_bytes, append_assoc}
use Rattle.std.specs.Prelude.{codes}
use Rattle.std.specs.Fmt.{decimal}
use Rattle.nextest_scripts.specs.ScriptId.{unique_text}
use Rattle.nextest_scripts.proofs.script_id.ScriptId.unique_id.Goals as goal

pub returns-in-Some : goal.returns-in-Some
returns-in-Some c =
    let before = c.in_ok-id.ensures.ok in
    let told : string_bytes c.in_ok-id.id ++ (codes "@stress-" ++ decimal c.in-Some.index)
    ≡ unique_text c.args.run_id c.args.self.now.0 c.args.stress_index =
    rw (before, c.in-Some.is) (simp append_assoc) in
    subst (λ text. IfOk c.format-in-Some.result (λ id. string_bytes id ≡ text)) told c.format-in-Some.ensures.ok
