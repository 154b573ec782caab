use Rattle.std.proofs.Common.{◌≡◌, false, cond, Option, None, Some, IsSome, is_some, string_bytes, refl, sym, ap, ◌∙◌}
use Rattle.std.specs.BTreeMap.{get_by_text}
use Rattle.std.specs.Option.{option_or}
use Rattle.std.specs.Str.{bytes_eq}
use Rattle.std.proofs.lemmas.Map.Text.{btree_map_updates_text}
use Rattle.nextest_rules.specs.Rules.{at_name}
use Rattle.nextest_scripts.specs.ScriptId.{script_text}
use Rattle.nextest_tables.specs.Written.{Name}
use Rattle.nextest_load.specs.ScriptNames.{by_id, script_at}
use Rattle.nextest_load.proofs.Placing.{own_more, added_new, added_none}
use Rattle.nextest_load.proofs.scripts.add_by_text.Goals as goal

none_from : {X : Type 0} (o : Option X) → false ≡ is_some o → o ≡ None
none_from None h = refl
none_from (Some x) h = cc

pub loop-id-preserved-then-not-contains_key : goal.loop-id-preserved-then-not-contains_key
loop-id-preserved-then-not-contains_key g c =
    let old = c.loop-id.scripts in
    let new = c.insert.new.self in
    let id = c.in-Some.id in
    let script = c.in-Some.script in
    let key : string_bytes c.in_ok-text.text ≡ script_text id = c.in_ok-text.ensures.ok in
    let added : (q : Name) → get_by_text new q
    ≡ cond (bytes_eq (script_text id) q) (Some (id, script)) (get_by_text old q) = λ q.
    btree_map_updates_text (string_bytes c.in_ok-text.text) old new (Some (id, script)) c.in_ok-insert.ensures.updates q
    ∙ ap (λ n. cond (bytes_eq n q) (Some (id, script)) (get_by_text old q)) key
    in
    let none : get_by_text old (script_text id) ≡ None =
    none_from _ (c.if-not-contains_key.ensures
    ∙ ap (λ n. is_some (get_by_text old n)) (c.as_str.ensures.value ∙ key)) in
    record {
      own = own_more script_text (get_by_text old) (get_by_text new) id script c.loop-id.invariant.own added;
      all = λ name.
          added_new script_text (get_by_text old) (get_by_text new) id script none added name c.next.new.self
          ∙ ap (λ es. option_or (script_at old name) (at_name name (by_id es))) (sym c.in-Some.ensures.steps)
          ∙ c.loop-id.invariant.all name;
    }

pub loop-id-preserved : goal.loop-id-preserved
loop-id-preserved g c =
    let old = c.loop-id.scripts in
    let id = c.in-Some.id in
    let script = c.in-Some.script in
    let key : string_bytes c.in_ok-text.text ≡ script_text id = c.in_ok-text.ensures.ok in
    let some : IsSome (get_by_text old (script_text id)) =
    sym (c.if-not-contains_key.ensures ∙ ap (λ n. is_some (get_by_text old n)) (c.as_str.ensures.value ∙ key)) in
    record {
      own = c.loop-id.invariant.own;
      all = λ name.
          added_none script_text (get_by_text old) (get_by_text old) id script some name c.next.new.self
          ∙ ap (λ es. option_or (script_at old name) (at_name name (by_id es))) (sym c.in-Some.ensures.steps)
          ∙ c.loop-id.invariant.all name;
    }
