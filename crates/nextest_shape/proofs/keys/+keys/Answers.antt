-- Of several shapes the first with keys has them, and a map has those of its fields or of its values.
use Rattle.std.proofs.Common.{◌≡◌, map, List, ℕ, Bor, length, ap, ◌∙◌, sym, arith, option_map, Some, None}
use Rattle.nextest_shape.specs.Keys.{key_texts, keys_at, first_keys_at}
use Rattle.nextest_shape.specs.Form.{a_map, Form}
use Rattle.nextest_shape.specs.View.{text_view, shape_view, fields_view, shapes_view}
use Rattle.nextest_shape.proofs.KeysAt.{keys_in_map, keys_of_map, first_here, no_texts, some_texts}
use Rattle.nextest_shape.proofs.Views.{shape_view-Map}
use Rattle.nextest_shape.proofs.keys.+keys.Goals as goal

abbrev texts : List (Bor (List ℕ)) → List (List ℕ)
texts bs = map (λ b. b.now) bs

pub first_keys-returns-then-not-is_empty : goal.first_keys-returns-then-not-is_empty
first_keys-returns-then-not-is_empty t c =
    let items = c.in_ok-keys.keys.items in
    let some : length items ≡ 0 → ⊥ = grind arith in
    let here = first_here c.deref-shape-items.result.now c.loop-shape.shape-index c.shape-item.result _ (texts items) _
    c.loop-shape-test.true c.shape-item.is c.in_ok-keys.ensures (some_texts items some) c.loop-shape.invariant in
    here ∙ ap (λ shapes. first_keys_at (shapes_view shapes) (texts c.args.path.now)) c.deref-shape-items.ensures.value

pub keys_of-returns-in-Some-3 : goal.keys_of-returns-in-Some-3
keys_of-returns-in-Some-3 t c =
    let form : Form =
    a_map (text_view c.in-Map.names) (fields_view c.in-Map.fields.items) (shape_view c.in-Map.values.value) in
    let is : shape_view c.args.shape.now ≡ form =
    ap shape_view c.in-Map.is ∙ shape_view-Map c.in-Map.names c.in-Map.fields c.in-Map.values in
    let found = ap (option_map (λ keys. texts keys.items)) (sym c.in-Some-3.is)
    ∙ c.in_ok-keys-in-Some-split_first-2.ensures
    in
    keys_in_map _ _ _ (shape_view c.in-Map.values.value) _ _ _ (Some (texts c.in-Some-3.keys.items)) is
    (ap texts c.in-Some-split_first-2.ensures.cases.0) found

pub keys_of-returns-in_ok-keys_of-in-None-3 : goal.keys_of-returns-in_ok-keys_of-in-None-3
keys_of-returns-in_ok-keys_of-in-None-3 t c =
    let form : Form =
    a_map (text_view c.in-Map.names) (fields_view c.in-Map.fields.items) (shape_view c.in-Map.values.value) in
    let is : shape_view c.args.shape.now ≡ form =
    ap shape_view c.in-Map.is ∙ shape_view-Map c.in-Map.names c.in-Map.fields c.in-Map.values in
    let found = ap (option_map (λ keys. texts keys.items)) (sym c.in-None-3.is)
    ∙ c.in_ok-keys-in-Some-split_first-2.ensures in
    let rest = texts c.in-Some-split_first-2.rest.now in
    let told : texts c.in_ok-keys_of-in-None-3.field-0.items ≡ keys_at (shape_view c.deref-in-None-3.result.now) rest =
    c.in_ok-keys_of-in-None-3.ensures in
    told ∙ ap (λ s. keys_at (shape_view s) rest) c.deref-in-None-3.ensures
    ∙ keys_in_map _ _ _ (shape_view c.in-Map.values.value) _ _ _ None is
    (ap texts c.in-Some-split_first-2.ensures.cases.0) found

pub keys_of-returns-in_ok-own_keys-in-None-split_first-2 :
    goal.keys_of-returns-in_ok-own_keys-in-None-split_first-2
keys_of-returns-in_ok-own_keys-in-None-split_first-2 t c =
    let form : Form =
    a_map (text_view c.in-Map.names) (fields_view c.in-Map.fields.items) (shape_view c.in-Map.values.value) in
    let is : shape_view c.args.shape.now ≡ form =
    ap shape_view c.in-Map.is ∙ shape_view-Map c.in-Map.names c.in-Map.fields c.in-Map.values in
    c.in_ok-own_keys-in-None-split_first-2.ensures
    ∙ ap (λ fields. key_texts (fields_view fields)) c.deref-in-None-split_first-2.ensures.value
    ∙ keys_of_map _ _ _ (shape_view c.in-Map.values.value) _ is
    (no_texts c.args.path.now c.in-None-split_first-2.ensures.cases)
