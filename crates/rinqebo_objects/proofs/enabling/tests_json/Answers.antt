use Rattle.std.proofs.Common.{◌≡◌, ◌∙◌, ◌++◌, ◌+◌, Global, List, Vec, ap, append-nil, drop, get_or, map, refl, sym}
use Rattle.nextest_engines.specs.Engines.{test_view}
use Rattle.nextest_scripts.specs.ScriptId.{script_text}
use Rattle.serde_json.proofs.Views.{view-Array}
use Rattle.serde_json.specs.Data.{Data, array}
use Rattle.serde_json.specs.View.{items_of, view}
use Rattle.serde_json.specs.declared.value.Value.{Value}
use Rattle.rinqebo_objects.specs.Enabling.{test_data}
use Rattle.rinqebo_objects.specs.Uses.{enabling_by}
use Rattle.rinqebo_objects.proofs.Gathered.{one_put}
use Rattle.rinqebo_objects.proofs.KnownUses.{enabling_here, enabling_none, enabling_past}
use Rattle.rinqebo_objects.proofs.enabling.tests_json.Goals as goal
use Rattle.rinqebo_objects.proofs.enabling.tests_json.Goals.{then-enables+in_ok-test_json+in_ok-push, else-enables}

pub loop-number-preserved : goal.loop-number-preserved
loop-number-preserved c =
    let id = script_text c.args.id.now in
    let tests = c.args.tests.now in
    let uses = c.args.uses.now in
    let n = c.loop-number.number in
    let views : Vec Value Global → List Data = λ list. map view list.items in
    let items : Vec Value Global → List Value = λ list. list.items in
    let old = c.loop-number.list in
    let left = enabling_by (drop (n + 1) uses) (map test_view (drop (n + 1) tests)) id in
    elim c.if-enables.branch [
      | then-enables+in_ok-test_json+in_ok-push w ↦
          one_put view test_data test_view w.in_ok-test_json.field-0 (get_or tests n _) w.in_ok-test_json.ensures
          old.items _ left _
          (ap (λ ts. views old ++ map test_data ts)
          (sym (enabling_here id test_view tests uses n (get_or tests n _) _ c.loop-number-test.true refl
          (sym c.enables.ensures ∙ w.if-enables.true)))
          ∙ c.loop-number.invariant)
          (ap items w.list-is ∙ w.in_ok-push.ensures.items)
      | else-enables w ↦
          ap (λ list. views list ++ map test_data left) w.list-is
          ∙ ap (λ ts. views old ++ map test_data ts)
          (sym (enabling_past id test_view tests uses n c.loop-number-test.true
          (sym c.enables.ensures ∙ w.if-enables.false)))
          ∙ c.loop-number.invariant
    ]

pub returns : goal.returns
returns c =
    let id = script_text c.args.id.now in
    let tests = c.args.tests.now in
    let uses = c.args.uses.now in
    let n = c.loop-number.number in
    let told = map view c.loop-number.list.items in
    view-Array c.loop-number.list
    ∙ ap (λ ds. array (items_of ds))
    (sym (append-nil told)
    ∙ ap (λ ts. told ++ map test_data ts) (sym (enabling_none id test_view tests uses n c.loop-number-test.false))
    ∙ c.loop-number.invariant)
