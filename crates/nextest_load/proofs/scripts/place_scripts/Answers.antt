use Rattle.std.proofs.Common.{◌≡◌, map, Option, None, IfOk, string_bytes, refl, ap, subst, ◌∙◌}
use Rattle.std.specs.Option.{option_or}
use Rattle.nextest_rules.specs.Rules.{at_name}
use Rattle.nextest_tables.specs.Written.{Name}
use Rattle.nextest_load.specs.ScriptNames.{AreNamed, by_id, script_at}
use Rattle.nextest_load.proofs.scripts.place_scripts.Goals as goal

pub returns-clause-scripts : goal.returns-clause-scripts
returns-clause-scripts g c =
    let left = c.add_by_text-2.new.scripts in
    let empty : (name : Name) → script_at c.new-left.result name ≡ None = λ name. rw c.new-left.ensures.empty refl in
    let each : (name : Name) → script_at left name
    ≡ option_or (at_name name (by_id c.args.scripts.entries))
    (at_name name (by_id c.args.old_scripts.entries)) = λ name.
    c.in_ok-add_by_text-2.ensures.scripts name
    ∙ ap (λ o. option_or o (at_name name (by_id c.args.old_scripts.entries)))
    (c.in_ok-add_by_text.ensures.scripts name
    ∙ ap (λ o. option_or o (at_name name (by_id c.args.scripts.entries))) (empty name))
    in
    let P : (Name → Option g.row.V.Denot) → Type 0 = λ f. AreNamed (map string_bytes c.args.names.now) f
    → (name : Name) → IfOk c.in_order.result (λ placed. at_name name (by_id placed.entries) ≡ f name) in
    subst P (λ i name. each name i) c.in_order.ensures.scripts
