use Rattle.std.proofs.Common.{◌≡◌, ◌∙◌, ◌∷◌, ◌++◌, [], List, ℕ, ap, append_assoc, is_some, length, map, refl, None, sym}
use Rattle.std.proofs.lemmas.List.{length-map}
use Rattle.nextest_elements.specs.declared.test_group.TestGroup.TheVariants.{Global}
use Rattle.nextest_settings.specs.Deciding.{asked_from}
use Rattle.nextest_settings.specs.Engines.{test_query_by}
use Rattle.nextest_settings.specs.View.{meant_override, meant_script_rule}
use Rattle.nextest_settings.proofs.ValueBy.{values_shown, origins_shown, overrides_shown}
use Rattle.nextest_settings.proofs.evaluated.EvaluatedRules.open_settings_for.Goals as goal

pub returns-clause-values : goal.returns-clause-values
returns-clause-values g c = λ known fields values s.
    let F = g.F.Filters in
    let query = test_query_by F c.args.self.now.default_filter.expr.now c.args.query.now in
    values_shown {Src = g.row.Source.Denot} F.meaning
    (record {
      values = c.args.values;
      mode = c.args.mode;
      global_group = Global;
      winners =
          record { slots = c.open_winners.result };
      run_wrapper = c.run_wrapper.result;
      mark = None;
    })
    query (map (meant_override F.meaning) c.args.self.now.overrides.items)
    (map (meant_script_rule F.meaning) c.args.self.now.script_rules.items)
    ((rw c.deref.ensures.value at c.open_winners.ensures.winners) known)
    (rw c.deref-2.ensures.value at c.run_wrapper.ensures.id) fields values refl s

pub returns-clause-origins : goal.returns-clause-origins
returns-clause-origins g c = λ known s.
    let F = g.F.Filters in
    let query = test_query_by F c.args.self.now.default_filter.expr.now c.args.query.now in
    origins_shown {Src = g.row.Source.Denot} F.meaning
    (record {
      values = c.args.values;
      mode = c.args.mode;
      global_group = Global;
      winners =
          record { slots = c.open_winners.result };
      run_wrapper = c.run_wrapper.result;
      mark = None;
    })
    query (map (meant_override F.meaning) c.args.self.now.overrides.items)
    (map (meant_script_rule F.meaning) c.args.self.now.script_rules.items)
    ((rw c.deref.ensures.value at c.open_winners.ensures.winners) known)
    (rw c.deref-2.ensures.value at c.run_wrapper.ensures.id) s

pub returns-clause-overrides : goal.returns-clause-overrides
returns-clause-overrides g c = λ known s.
    let F = g.F.Filters in
    let query = test_query_by F c.args.self.now.default_filter.expr.now c.args.query.now in
    overrides_shown {Src = g.row.Source.Denot} F.meaning
    (record {
      values = c.args.values;
      mode = c.args.mode;
      global_group = Global;
      winners =
          record { slots = c.open_winners.result };
      run_wrapper = c.run_wrapper.result;
      mark = None;
    })
    query (map (meant_override F.meaning) c.args.self.now.overrides.items)
    (map (meant_script_rule F.meaning) c.args.self.now.script_rules.items)
    ((rw c.deref.ensures.value at c.open_winners.ensures.winners) known)
    (rw c.deref-2.ensures.value at c.run_wrapper.ensures.id) s

pub returns-clause-tally : goal.returns-clause-tally
returns-clause-tally g c =
    let F = g.F.Filters in
    let numbers = g.F.Tally.Tally.numbers in
    let self = c.args.self.now in
    let query = test_query_by F self.default_filter.expr.now c.args.query.now in
    let asked : ℕ → List ℕ = λ first. asked_from ((λ w. is_some w.scripts.run_wrapper) ∷ []) first query []
    (map (meant_script_rule F.meaning) self.script_rules.items) in
    let count : ℕ = length (map (meant_override F.meaning) self.overrides.items) in
    let found = c.open_winners.ensures.tally in
    let long : c.len.result ≡ count =
    c.len.ensures ∙ self.overrides.ok.0 ∙ sym (length-map self.overrides.items (meant_override F.meaning)) in (
      found.0,
      (rw c.deref-2.ensures.value at c.run_wrapper.ensures.tally)
          ∙ ap (λ (n : ℕ). numbers c.open_winners.new.tally ++ asked n) long
          ∙ ap (λ (ns : List ℕ). ns ++ asked count) found.1
          ∙ append_assoc (numbers c.args.tally.now) found.0 (asked count),
      found.2,
    )
