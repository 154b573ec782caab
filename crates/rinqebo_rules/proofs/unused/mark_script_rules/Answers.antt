use Rattle.std.proofs.Common.{◌≡◌, ◌∙◌, ◌+◌, ◌++◌, ◌∷◌, ◌||◌, [], Some, ap, arith, false, map, refl, slice_get, subst, sym, unwrap_or}
use Rattle.std.proofs.lemmas.List.{length-map}
use Rattle.nextest_settings.specs.Binaries.{IsKnownFor}
use Rattle.nextest_settings.specs.Deciding.{rule_holds}
use Rattle.nextest_settings.specs.Engines.{test_query_by}
use Rattle.nextest_settings.specs.View.{meant_script_rule}
use Rattle.rinqebo_rules.proofs.Evaluated.{evaluated_all, evaluated_more, get_behind_set, none_evaluated}
use Rattle.rinqebo_rules.proofs.Marked.{mapped_at, marks_more}
use Rattle.rinqebo_rules.proofs.Passing.{script_rule_shown}
use Rattle.rinqebo_rules.proofs.SetMarks.{all_set}
use Rattle.rinqebo_rules.specs.Unused.{is_used}
use Rattle.rinqebo_rules.proofs.unused.mark_script_rules.Goals as goal

pub loop-number-init : goal.loop-number-init
loop-number-init g c = record {
  marks = λ passed distinct known tests are. are;
  kept = λ m past. refl;
  evaluated = none_evaluated _ c.args.first (c.args.first + 0) _ (omega arith);
}

pub loop-number-preserved : goal.loop-number-preserved
loop-number-preserved g c =
    let F = g.F.Filters in
    let meant = meant_script_rule F.meaning in
    let rules = map meant c.args.rules.now in
    let n = c.loop-number.number in
    let rule = meant c.index-rules-number.result in
    let query = test_query_by F c.args.cx.now.default_filter.now c.args.query.now in
    let stands : slice_get rules n ≡ Some rule =
    mapped_at meant c.args.rules.now n _ _ c.loop-number-test.true c.index-rules-number.is in
    let so_far = c.loop-number.invariant in
    record {
      marks = λ passed distinct known tests are.
          let known_here : IsKnownFor query rule c.known_at-holds.result =
          subst (IsKnownFor query rule) (sym c.known_at-holds.ensures) (known n rule stands) in
          marks_more tests rules n rule query stands c.loop-number.used _ _
          (so_far.marks passed distinct known tests are)
          (c.is_script_rule_used-is_used.ensures.answer known_here
          (script_rule_shown query rules c.args.passed n rule c.args.are_distinct stands passed distinct
          c.shown_of_script-shown.result c.shown_of_script-shown.ensures.shown)
          ∙ ap (λ b. b || rule_holds query rule) c.is_marked-held.ensures)
          c.set_mark.ensures;
      kept = λ m past. ap (λ us. slice_get us m) c.set_mark.ensures
          ∙ get_behind_set c.loop-number.used n m _ (omega (arith, past)) ∙ so_far.kept m (omega (arith, past));
      evaluated = evaluated_more _ _ c.args.first (c.args.first + n) (c.args.first + (n + 1)) _ _ _ (omega arith)
          so_far.evaluated c.is_script_rule_used-is_used.ensures.tally
          (λ one. record {
            place = n;
            numbered = refl;
            rule = rule;
            stands = stands;
            is_open = record {
              unmarked = ap (λ found. unwrap_or found false) (sym (so_far.kept n (omega arith)))
                  ∙ sym c.is_marked-held.ensures ∙ one.unmarked;
              unknown = sym c.known_at-holds.ensures ∙ one.unknown;
              hidden = c.shown_of_script-shown.ensures.hidden one.hidden;
              asked = one.asked;
            };
          });
    }

pub returns-clause-marks : goal.returns-clause-marks
returns-clause-marks g c = λ passed distinct known tests are.
    let F = g.F.Filters in
    let query = test_query_by F c.args.cx.now.default_filter.now c.args.query.now in
    let rules = map (meant_script_rule F.meaning) c.args.rules.now in
    c.loop-number.invariant.marks passed distinct known tests are
    ∙ all_set (is_used (tests ++ query ∷ [])) (is_used tests) rules c.loop-number.number
    (omega (arith, c.loop-number-test.false, length-map c.args.rules.now (meant_script_rule F.meaning)))

pub returns-clause-tally : goal.returns-clause-tally
returns-clause-tally g c =
    evaluated_all _ c.args.first (c.args.first + c.loop-number.number) _ _ c.loop-number.invariant.evaluated
