use Rattle.std.proofs.Common.{rules, ◌≡◌, ◌∙◌, Global, List, Vec, ap, arith, map, refl, true}
use Rattle.std.proofs.lemmas.List.{length-map}
use Rattle.rinqebo_origins.specs.RulePlaces.{place_view}
use Rattle.rinqebo_origins.specs.declared.rule_places.RulePlace.{RulePlace}
use Rattle.rinqebo_rules.proofs.OneList.{behind_more, distinct_all, first_more}
use Rattle.rinqebo_rules.proofs.distinct.are_distinct.Goals as goal
use Rattle.rinqebo_rules.proofs.distinct.are_distinct.Goals.{then-not-is_behind+else-is_of_some+in_ok-push, else-not-is_behind}

pub loop-place-preserved : goal.loop-place-preserved
loop-place-preserved c =
    let items : Vec RulePlace Global → List RulePlace = λ v. v.items in
    let places = c.args.places.now in
    let n = c.loop-place.place-index in
    let firsts = c.loop-place.firsts.items in
    elim c.if-not-is_behind.branch [
      | then-not-is_behind+else-is_of_some+in_ok-push w ↦
          first_more places n firsts _ _ c.loop-place-test.true c.place-item.is c.loop-place.last w.deref.result.now
          c.if-not-is_behind.firsts.items (ap items w.firsts-is ∙ w.in_ok-push.ensures.items) w.deref.ensures.value
          (w.is_of_some.ensures w.if-is_of_some.false) c.loop-place.invariant
      | else-not-is_behind w ↦
          let holds : c.is_behind.result ≡ true = search rules in
          behind_more places n firsts _ _ c.loop-place-test.true c.place-item.is c.loop-place.last c.if-not-is_behind.firsts.items
          (ap items w.firsts-is) (c.is_behind.ensures holds) c.loop-place.invariant
    ]

pub returns : goal.returns
returns c = λ known.
    distinct_all (map place_view c.args.places.now) c.loop-place.place-index _ _
    (omega (arith, c.loop-place-test.false, length-map c.args.places.now place_view)) c.loop-place.invariant
