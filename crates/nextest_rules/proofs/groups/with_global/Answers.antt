use Rattle.std.proofs.Common.{◌≡◌, ◌||◌, string_bytes, ap, ◌∙◌}
use Rattle.std.specs.BTreeSet.{contains_text}
use Rattle.nextest_elements.specs.TestGroup.{global_text}
use Rattle.nextest_rules.proofs.Naming.{first_name}
use Rattle.nextest_rules.proofs.groups.with_global.Goals as goal

pub returns : goal.returns
unfolding global_text
returns c q =
    let named : string_bytes c.in_ok-from_str.field-0 ≡ global_text = c.in_ok-from_str.ensures.ok in
    c.in_ok-copy_names.ensures q
    ∙ ap (λ b. b || contains_text c.args.known.now q)
    (first_name c.new-all.result c.insert.new.self c.in_ok-from_str.field-0 global_text q
    c.new-all.ensures.empty named c.in_ok-insert.ensures.updates)
