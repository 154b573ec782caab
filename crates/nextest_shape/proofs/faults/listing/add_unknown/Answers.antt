use Rattle.std.proofs.Common.{◌≡◌, ◌++◌, map, string_bytes, true, false, Some, sym, ap, ◌∙◌, arith}
use Rattle.std.proofs.lemmas.Grind.{common_steps}
use Rattle.nextest_tree.specs.Key.{key_text}
use Rattle.nextest_tree.specs.Node.{keys}
use Rattle.nextest_tree.specs.Schema.{at, below, is_one_of, names_of, unknown_field}
use Rattle.nextest_tree.specs.View.{entries_view}
use Rattle.nextest_tree.proofs.Trees.{keys-members}
use Rattle.nextest_shape.specs.Faults.Found.{Adds, found_view, path_text}
use Rattle.nextest_shape.specs.Faults.Places.{fields_view}
use Rattle.nextest_shape.proofs.faults.Adding.{left_more, left_none}
use Rattle.nextest_shape.proofs.faults.Listed.{unknown_keys, unknown_key}
use Rattle.nextest_shape.proofs.faults.listing.add_unknown.Goals as goal

pub loop-key-init : goal.loop-key-init
loop-key-init c =
    let of_keys = unknown_keys (names_of (fields_view c.args.fields.now)) (path_text c.args.path.now) in
    ap (λ ks. map found_view c.args.found.now.items ++ map (λ f. Some f) (of_keys ks))
    (ap (map string_bytes) (c.into_iter-key-iterator.ensures.into_iter_gives ∙ c.keys-key-items.ensures.rest)
    ∙ sym (keys-members c.args.members.now.entries))

pub loop-key-preserved-in-Continue-1 : goal.loop-key-preserved-in-Continue-1
loop-key-preserved-in-Continue-1 c =
    let l = c.loop-key in
    let names = names_of (fields_view c.args.fields.now) in
    let p = path_text c.args.path.now in
    let k = string_bytes c.in-Some.key.now in
    let next = map string_bytes c.next.new.self in
    let free : is_one_of (map key_text names) k ≡ false =
    rw (← c.as_str.ensures.value) (sym c.is_field.ensures ∙ grind (arith, common_steps, c.if-not-is_field.true)) in
    let parts : unknown_keys names p (map string_bytes l.key-iterator)
    ≡ at (below p k) (Some unknown_field) ++ unknown_keys names p next =
    ap (λ ks. unknown_keys names p (map string_bytes ks)) c.in-Some.ensures.steps ∙ unknown_key names p k next free in
    let added : Adds l.found.items c.add_unknown_key.new.found.items (at (below p k) (Some unknown_field)) =
    rw (← c.as_str-then-not-is_field.ensures.value) c.in_ok-add_unknown_key.ensures in
    left_more c.args.found.now.items l.found.items c.add_unknown_key.new.found.items
    (at (below p k) (Some unknown_field)) (unknown_keys names p next) _ _ l.invariant parts added

pub returns : goal.returns
returns c =
    let l = c.loop-key in
    let of_keys = unknown_keys (names_of (fields_view c.args.fields.now)) (path_text c.args.path.now) in
    left_none c.args.found.now.items l.found.items (of_keys (map string_bytes l.key-iterator))
    (of_keys (keys (entries_view c.args.members.now.entries))) l.invariant
    (ap (λ ks. of_keys (map string_bytes ks)) c.in-None.ensures.steps.0)
