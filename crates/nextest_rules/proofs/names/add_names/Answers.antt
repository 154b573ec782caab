use Rattle.std.proofs.Common.{◌||◌, map, sym, ap, ◌∙◌}
use Rattle.std.specs.BTreeSet.{contains_text}
use Rattle.nextest_tree.specs.Schema.{is_one_of}
use Rattle.nextest_rules.proofs.Naming.{next_name}
use Rattle.nextest_rules.proofs.names.add_names.Goals as goal

pub loop-key-preserved : goal.loop-key-preserved
loop-key-preserved g c q =
    let text = g.K.NameKey.text in
    let names = c.loop-key.names in
    let step = next_name names c.insert.new.self c.in_ok-from_str.field-0 (text c.in-Some.key.now)
    (map (λ e. text e.0) c.next.new.self) q
    (c.in_ok-from_str.ensures.ok ∙ c.as_name.ensures) c.in_ok-insert.ensures.updates in
    step ∙ ap (λ es. contains_text names q || is_one_of (map (λ e. text e.0) es) q)
    (sym c.in-Some.ensures.steps) ∙ c.loop-key.invariant q
