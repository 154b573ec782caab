use Rattle.std.proofs.Common.{◌≡◌, ◌<◌, ◌∙◌, Global, List, Vec, ap, arith, filter, length, map, subst, sym}
use Rattle.std.proofs.lemmas.List.{length-map, map-append, take_all}
use Rattle.filter_inputs.specs.Lists.ListView.{list_test_view}
use Rattle.filter_inputs.specs.declared.lists.list.ListedTest.{ListedTest}
use Rattle.filter_inputs.specs.Lists.Lists.{ListTest}
use Rattle.rinqebo_keys.proofs.KeyLists.{filter_more, filter_same}
use Rattle.rinqebo_load.specs.FoundTests.{is_named}
use Rattle.rinqebo_load.proofs.Elements.{seen_get}
use Rattle.rinqebo_load.proofs.find_test.named_tests.Goals as goal
use Rattle.rinqebo_load.proofs.find_test.named_tests.Goals.{then-is_named+in_ok-push, else-is_named}

pub loop-test-preserved : goal.loop-test-preserved
loop-test-preserved c =
    let tests = c.args.tests.now in
    let i = c.loop-test.test-index in
    let views : Vec ListedTest Global → List ListTest = λ v. map list_test_view v.items in
    let passes = is_named c.args.requested.now.binary c.args.requested.now.name.now in
    let below : i < length (map list_test_view tests) =
    omega (arith, c.loop-test-test.true, length-map tests list_test_view) in
    elim c.if-is_named.branch [
      | then-is_named+in_ok-push w ↦ filter_more passes (map list_test_view tests) i _ _ below
          (seen_get list_test_view tests i _ c.loop-test-test.true)
          (map list_test_view c.loop-test.named.items) (map list_test_view c.if-is_named.named.items)
          c.loop-test.invariant (sym c.is_named.ensures ∙ w.if-is_named.true)
          (ap views w.named-is ∙ ap (map list_test_view) w.in_ok-push.ensures.items
          ∙ map-append list_test_view c.loop-test.named.items _)
      | else-is_named w ↦ ap views w.named-is ∙ filter_same passes (map list_test_view tests) i _ _ below
          (seen_get list_test_view tests i _ c.loop-test-test.true)
          (map list_test_view c.loop-test.named.items) c.loop-test.invariant
          (sym c.is_named.ensures ∙ w.if-is_named.false)
    ]

pub returns : goal.returns
returns c =
    let tests = c.args.tests.now in
    subst (λ ts. map list_test_view c.loop-test.named.items
    ≡ filter (is_named c.args.requested.now.binary c.args.requested.now.name.now) ts)
    (take_all c.loop-test.test-index (map list_test_view tests)
    (omega (arith, c.loop-test-test.false, length-map tests list_test_view))) c.loop-test.invariant
