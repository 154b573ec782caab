use Rattle.std.proofs.Common.{◌≡◌, ◌++◌, ◌∷◌, [], ℕ, List, Bor, None, true, refl, sym, ap, ◌∙◌, subst, string_bytes}
use Rattle.nextest_places.specs.declared.step.Step.TheVariants.{Key}
use Rattle.nextest_places.specs.Entries.{scan, waits}
use Rattle.nextest_places.specs.Ids.{AreStepsOf, lines_for, outcome_by}
use Rattle.nextest_places.specs.Index.{IsWalked, lines_behind}
use Rattle.nextest_places.specs.Marks.{fresh}
use Rattle.nextest_places.specs.Order.{IsPlace}
use Rattle.nextest_places.specs.Standing.{ids_view, key_path_view, stands_in}
use Rattle.nextest_places.proofs.IdPlaces.{AreKnown, own_place, place_behind, placed_next}
use Rattle.nextest_places.proofs.KeyPaths.{are_keys}
use Rattle.nextest_places.proofs.order.placed_ids.Goals as goal
use Rattle.nextest_places.proofs.order.placed_ids.Goals.{in-Some-get, in-None-get+in_ok-last-in-None-get}

pub of-requires : goal.of-requires
of-requires c =
    rw c.deref-4.ensures.value
    (are_keys (key_path_view c.args.path.now) c.in_ok-table.table.items c.in_ok-table.ensures)

pub loop-id-init : goal.loop-id-init
loop-id-init c =
    let known : AreKnown c.args.text.now c.in_ok-entries.low c.in_ok-found.found c.in_ok-fronts.fronts.items
    c.in_ok-fronts.rest c.args.ids.items = rw c.deref-5.ensures.value at c.in_ok-fronts.ensures in
    rw (c.new-placed.ensures.items, c.into_iter-id-iterator.ensures.into_iter_gives.0)
    (refl, tt, c.requires.stand, known)

pub loop-id-preserved : goal.loop-id-preserved
loop-id-preserved c =
    let path = key_path_view c.args.path.now in
    let text = c.args.text.now in
    let table = c.in_ok-table.table.items in
    let are : AreStepsOf path table = c.in_ok-table.ensures in
    let entries = c.in_ok-entries.entries.items in
    let low = c.in_ok-entries.low in
    let walked : IsWalked text entries low = c.in_ok-entries.ensures in
    let found = c.in_ok-found.found in
    let fronts = c.in_ok-fronts.fronts.items in
    let rest = c.in_ok-fronts.rest in
    let lines_are : (id : Bor (List ℕ)) → scan entries (waits (fresh (table ++ Key id ∷ [])))
    ≡ outcome_by (lines_for found id.now) (fresh (table ++ Key id ∷ [])) =
    rw (c.deref-3.ensures.value, c.deref-4.ensures.value) at c.in_ok-found.ensures in
    let s = c.in-Some.id in
    let id = c.deref-in-loop-id.result in
    let same : id.now ≡ string_bytes s = c.deref-in-loop-id.ensures in
    let left = c.next.new.self.rest.items in
    let inv = rw c.in-Some.ensures.steps.0 at c.loop-id.invariant in
    let stands : stands_in path text (string_bytes s) ≡ true = inv.2.0 in
    let last = c.match-get.last in
    let is : IsPlace path text (string_bytes s) last = elim c.match-get.branch [
      | in-Some-get w ↦
          rw w.last-is (subst (λ b. IsPlace path text b w.in-Some-get.lines.last) same
          (own_place path text table are entries low walked found lines_are id w.in-Some-get.lines
          w.in-Some-get.ensures (ap (stands_in path text) same ∙ stands)))
      | in-None-get+in_ok-last-in-None-get w ↦
          let key = w.deref-in-None-get-3.result in
          let key_is : key.now ≡ string_bytes s = w.deref-in-None-get-3.ensures in
          let none : None ≡ lines_for found key.now =
          w.in-None-get.ensures ∙ ap (lines_for found) (same ∙ sym key_is) in
          let at : w.in_ok-last-in-None-get.last ≡ (lines_behind fronts rest (table ++ Key key ∷ [])).last =
          rw (w.deref-in-None-get.ensures.value, w.deref-in-None-get-2.ensures.value) at w.in_ok-last-in-None-get.ensures
          in
          rw (w.last-is, at) (subst (λ b. IsPlace path text b (lines_behind fronts rest (table ++ Key key ∷ [])).last) key_is
          (place_behind path text table are entries low walked found lines_are key s left fronts rest key_is inv.3 none
          (ap (stands_in path text) key_is ∙ stands)))
    ] in
    rw c.in_ok-push.ensures.items
    (placed_next path text (ids_view c.args.ids) low found fronts rest c.loop-id.placed.items
    (record { id = s; last = last }) left inv.0 inv.1 inv.2 inv.3 is)
