use Rattle.std.proofs.Common.{◌≡◌, ◌∙◌, ◌++◌, Bor, Global, List, Some, Vec, ap, arith, false, map, slice_get, sym, true}
use Rattle.std.proofs.lemmas.List.{length-map, take_all}
use Rattle.nextest_rules.specs.View.{script_rule_view}
use Rattle.nextest_scripts.specs.ScriptId.{script_text}
use Rattle.nextest_scripts.specs.declared.script_id.ScriptId.{ScriptId}
use Rattle.nextest_settings.specs.Queries.{is_enabled_for}
use Rattle.nextest_settings.specs.View.{meant_script_rule}
use Rattle.nextest_tables.specs.Written.{Name}
use Rattle.rinqebo_objects.proofs.Enabled.{enabled_more, enabled_same}
use Rattle.rinqebo_rules.proofs.KnownMore.{adds_nothing, holds_known}
use Rattle.rinqebo_rules.proofs.Marked.{mapped_at}
use Rattle.rinqebo_rules.specs.BinaryRules.{known_at}
use Rattle.rinqebo_rules.proofs.setup_rules.enabled_ids.Goals as goal
use Rattle.rinqebo_rules.proofs.setup_rules.enabled_ids.Goals.{then-is_known_to_hold+in_ok-add_script_ids, else-is_known_to_hold}

pub loop-number-preserved : goal.loop-number-preserved
loop-number-preserved g c = λ query before are id.
    let meant = meant_script_rule g.F.Filters.meaning in
    let rules = map meant c.args.rules.now in
    let n = c.loop-number.number in
    let rule = meant c.index-rules-number.result in
    let stands : slice_get rules n ≡ Some rule =
    mapped_at meant c.args.rules.now n _ _ c.loop-number-test.true c.index-rules-number.is in
    let views : Vec (Bor ScriptId) Global → List Name = λ ids. map (λ id. script_text id.now) ids.items in
    let old = views c.loop-number.ids in
    let so_far = c.loop-number.invariant query before are id in
    let found = known_at c.args.known.now n in
    let here = are n rule stands in
    elim c.if-is_known_to_hold.branch [
      | then-is_known_to_hold+in_ok-add_script_ids w ↦
          enabled_more query id rules n rule stands old _ so_far
          (ap views w.ids-is ∙ w.in_ok-add_script_ids.ensures
          ∙ ap (λ ids. old ++ ids)
          (w.setup.ensures ∙ ap (λ r. (script_rule_view r.now).writes.scripts.setup) w.rule.ensures))
          (holds_known query rule (known_at before n) found
          (sym c.is_known_to_hold.ensures ∙ w.if-is_known_to_hold.true) here)
      | else-is_known_to_hold w ↦
          enabled_same query id rules n rule stands old _ so_far (ap views w.ids-is)
          (adds_nothing query rule (known_at before n) id found
          (sym c.is_known_to_hold.ensures ∙ w.if-is_known_to_hold.false) here)
    ]

pub returns : goal.returns
returns g c = λ query before are id.
    let meant = meant_script_rule g.F.Filters.meaning in
    c.loop-number.invariant query before are id
    ∙ ap (λ rules. is_enabled_for query rules id)
    (take_all c.loop-number.number (map meant c.args.rules.now)
    (omega (arith, c.loop-number-test.false, length-map c.args.rules.now meant)))
