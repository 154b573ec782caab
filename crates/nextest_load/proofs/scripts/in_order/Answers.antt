use Rattle.std.proofs.Common.{◌≡◌, ◌∷◌, ◌++◌, ◌+◌, [], List, map, take, cond, None, Some, string_bytes, Global, refl, sym, ap, subst, ◌∙◌}
use Rattle.std.specs.BTreeMap.{get_by_text}
use Rattle.std.specs.Str.{bytes_eq}
use Rattle.std.proofs.lemmas.List.{map-append, take_more}
use Rattle.std.proofs.lemmas.Map.Text.{btree_map_updates_text}
use Rattle.nextest_scripts.specs.ScriptId.{script_text}
use Rattle.nextest_scripts.specs.declared.script_id.ScriptId.{ScriptId}
use Rattle.nextest_tables.specs.Written.{Name}
use Rattle.nextest_load.specs.ScriptNames.{script_at}
use Rattle.nextest_load.proofs.Placing.{Placed, placed_skip, placed_take}
use Rattle.nextest_load.proofs.scripts.in_order.Goals as goal
use Rattle.nextest_load.proofs.scripts.in_order.Goals.{in-Some+in_ok-insert, in_default}

pub loop-name-preserved : goal.loop-name-preserved
loop-name-preserved g c =
    let names = c.args.names.now in
    let i = c.loop-name.name-index in
    let name = c.name-item.result in
    let old = c.loop-name.left in
    let new = c.remove.new.self in
    let key : c.as_str.result.now ≡ string_bytes name = c.as_str.ensures.value in
    let taken : take (i + 1) names ≡ take i names ++ name ∷ [] =
    take_more names i name c.loop-name-test.true ∙ ap (λ n. take i names ++ n ∷ []) (sym c.name-item.is) in
    let seen : map (string_bytes {Z = Global}) (take (i + 1) names)
    ≡ map (string_bytes {Z = Global}) (take i names) ++ string_bytes name ∷ [] =
    ap (map (string_bytes {Z = Global})) taken ∙ map-append (string_bytes {Z = Global}) (take i names) (name ∷ [])
    in
    let gone : (q : Name) → get_by_text new q ≡ cond (bytes_eq (string_bytes name) q) None (get_by_text old q) = λ q.
    btree_map_updates_text c.as_str.result.now old new None c.remove.ensures.updates q
    ∙ ap (λ n. cond (bytes_eq n q) None (get_by_text old q)) key
    in
    let found : c.remove.result ≡ get_by_text old (string_bytes name) =
    c.remove.ensures.value ∙ ap (get_by_text old) key in
    let before = map (string_bytes {Z = Global}) (take i names) in
    let start = script_at c.args.left in
    let es = c.loop-name.scripts.entries in
    let Done = λ (ns : List Name) (placed : List (ScriptId × g.row.V.Denot)). Placed script_text ns start
    (get_by_text new) placed in
    elim c.match-remove.branch [
      | in-Some+in_ok-insert w ↦
          let there : get_by_text old (string_bytes name) ≡ Some (w.in-Some.id, w.in-Some.script) =
          sym found ∙ w.in-Some.is in
          let grown = ap (λ s. s.entries) w.scripts-is ∙ w.in_ok-insert.ensures.entries in
          let placed = placed_take script_text before start (get_by_text old) (get_by_text new) es
          (string_bytes name) gone c.loop-name.invariant _ (λ a b. refl) w.in-Some.id w.in-Some.script there in
          subst (λ ns. Done ns c.match-remove.scripts.entries) (sym seen)
          (subst (Done (before ++ string_bytes name ∷ [])) (sym grown) placed)
      | in_default w ↦
          let none : get_by_text old (string_bytes name) ≡ None = sym found ∙ w.in_default.is in
          let placed = placed_skip script_text before start (get_by_text old) (get_by_text new) es
          (string_bytes name) gone c.loop-name.invariant none in
          subst (λ ns. Done ns c.match-remove.scripts.entries) (sym seen)
          (subst (Done (before ++ string_bytes name ∷ [])) (sym (ap (λ s. s.entries) w.scripts-is)) placed)
    ]
