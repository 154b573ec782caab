use Rattle.std.proofs.Common.{◌≡◌, ◌+◌, ◌∷◌, ◌++◌, [], ◌∙◌, Option, Some, None, true, false, is_some, cond, drop, nat_cmp, refl, sym, ap}
use Rattle.std.proofs.lemmas.Map.Text.{btree_map_updates_str}
use Rattle.std.specs.BTreeMap.{get_by}
use Rattle.std.specs.Cmp.Lexicographic.{slice_cmp}
use Rattle.std.specs.Option.{option_or}
use Rattle.std.specs.Str.{bytes_eq}
use Rattle.nextest_places.specs.declared.step.Step.TheVariants.{Key}
use Rattle.nextest_places.specs.Marks.{fresh}
use Rattle.nextest_places.proofs.IdAims.{keys_more, meets, next_entry, now_kept, passes, scan_over, still_kept}
use Rattle.nextest_places.proofs.id_lines.IdLines.of.Goals as goal
use Rattle.nextest_places.proofs.id_lines.IdLines.of.Goals.{in-Nothing, in-OneId+then-not-contains_key+in_ok-insert-in-OneId, in-OneId+else-not-contains_key}

none_from : {X : Type 0} (o : Option X) → false ≡ is_some o → o ≡ None
none_from None h = refl
none_from (Some x) h = cc

pub loop-entry-preserved : goal.loop-entry-preserved
loop-entry-preserved c = λ id.
    let entries = c.args.entries.now in
    let i = c.loop-entry.entry-index in
    let entry = c.entry-item.result in
    let path = c.args.table.now ++ Key id ∷ [] in
    let old = c.loop-entry.own in
    let o = get_by (λ k. slice_cmp nat_cmp id.now k.now) old in
    let here = c.loop-entry-test.true in
    elim c.match-ids_brought.branch [
      | in-Nothing w ↦
          rw w.own-is (
          next_entry entries i entry here c.entry-item.is o o (fresh path)
          (passes entry path o (keys_more c.args.table.now c.requires id) (w.in-Nothing.ensures c.requires id))
          ∙ c.loop-entry.invariant id
          )
      | in-OneId+then-not-contains_key+in_ok-insert-in-OneId w ↦
          let key = w.in-OneId.id.now in
          let new = get_by (λ k. slice_cmp nat_cmp id.now k.now) w.insert.new.self in
          let now : new ≡ cond (bytes_eq key id.now) (Some entry.lines) o =
          btree_map_updates_str key old w.insert.new.self (Some entry.lines) w.in_ok-insert-in-OneId.ensures.updates id.now
          in
          let none : id.now ≡ key → o ≡ None = λ same.
          none_from o (w.if-not-contains_key.ensures
          ∙ ap (λ n. is_some (get_by (λ k. slice_cmp nat_cmp n k.now) old)) (sym same)) in
          rw w.own-is (
          next_entry entries i entry here c.entry-item.is o new (fresh path)
          (now_kept entry path (keys_more c.args.table.now c.requires id) id.now key o (w.in-OneId.ensures c.requires id) new none now)
          ∙ c.loop-entry.invariant id
          )
      | in-OneId+else-not-contains_key w ↦
          let key = w.in-OneId.id.now in
          let some : id.now ≡ key → is_some o ≡ true = λ same.
          ap (λ n. is_some (get_by (λ k. slice_cmp nat_cmp n k.now) old)) same ∙ sym w.if-not-contains_key.ensures in
          rw w.own-is (
          next_entry entries i entry here c.entry-item.is o o (fresh path)
          (still_kept entry path (keys_more c.args.table.now c.requires id) id.now key o (w.in-OneId.ensures c.requires id) some)
          ∙ c.loop-entry.invariant id
          )
    ]

pub returns-in-AllIds : goal.returns-in-AllIds
returns-in-AllIds c = λ id.
    let entries = c.args.entries.now in
    let i = c.loop-entry.entry-index in
    let entry = c.entry-item.result in
    let path = c.args.table.now ++ Key id ∷ [] in
    let o = get_by (λ k. slice_cmp nat_cmp id.now k.now) c.loop-entry.own in
    let met = meets entry path o (c.in-AllIds.ensures c.requires id) in
    sym (c.loop-entry.invariant id)
    ∙ sym (next_entry entries i entry c.loop-entry-test.true c.entry-item.is o (option_or o (Some entry.lines))
    (fresh path) met)
    ∙ scan_over (drop (i + 1) entries) o entry.lines (fresh path)
