use Rattle.std.proofs.Common.{◌≡◌, ◌∙◌, ◌+◌, ◌∷◌, [], Some, ap, arith, length, length-append, map, refl, slice_get, subst, sym}
use Rattle.std.proofs.lemmas.List.{length-map}
use Rattle.std.proofs.lemmas.Option.{slice_get_within}
use Rattle.nextest_settings.specs.Binaries.{IsKnownFor}
use Rattle.nextest_settings.specs.Engines.{test_query_by}
use Rattle.nextest_settings.specs.View.{meant_script_rule}
use Rattle.rinqebo_rules.proofs.Evaluated.{evaluated_all, evaluated_more, none_evaluated}
use Rattle.rinqebo_rules.proofs.KnownMore.{known_turn}
use Rattle.rinqebo_rules.proofs.Marked.{mapped_at}
use Rattle.rinqebo_rules.proofs.Passing.{script_rule_shown}
use Rattle.rinqebo_rules.specs.BinaryRules.{known_at}
use Rattle.rinqebo_rules.specs.SetupRules.{IsKnownMore}
use Rattle.rinqebo_rules.proofs.setup_rules.known_rules.Goals as goal

pub loop-number-init : goal.loop-number-init
loop-number-init g c = record {
  each = λ passed distinct known m rule below stands. absurd (omega (arith, below));
  long = ap length c.in_ok-more.ensures.items;
  evaluated = none_evaluated _ c.args.first (c.args.first + 0) _ (omega arith);
}

pub loop-number-preserved : goal.loop-number-preserved
loop-number-preserved g c =
    let F = g.F.Filters in
    let meant = meant_script_rule F.meaning in
    let rules = map meant c.args.rules.now in
    let n = c.loop-number.number in
    let rule = meant c.index-rules-number.result in
    let query = test_query_by F c.args.cx.now.default_filter.now c.args.query.now in
    let stands : slice_get rules n ≡ Some rule =
    mapped_at meant c.args.rules.now n _ _ c.loop-number-test.true c.index-rules-number.is in
    let so_far = c.loop-number.invariant in
    let old = c.loop-number.more.items in
    let known = c.args.known.now in
    let holds = c.known_of-holds.result in
    record {
      each = λ passed distinct knows.
          let known_here : IsKnownFor query rule c.known_at-here.result =
          subst (IsKnownFor query rule) (sym c.known_at-here.ensures) (knows n rule stands) in
          let here : IsKnownMore query rule (known_at known n) holds =
          subst (λ k. IsKnownMore query rule k holds) c.known_at-here.ensures
          (c.known_of-holds.ensures.answer known_here
          (script_rule_shown query rules c.args.passed n rule c.args.are_distinct stands passed distinct
          c.shown_of_script-shown.result c.shown_of_script-shown.ensures.shown)) in
          known_turn (λ m r found. IsKnownMore query r (known_at known m) found) rules n rule stands old _ holds
          so_far.long c.in_ok-push.ensures.items here (so_far.each passed distinct knows);
      long = ap length c.in_ok-push.ensures.items ∙ length-append old (holds ∷ []) ∙ ap (λ k. k + 1) so_far.long;
      evaluated = evaluated_more _ _ c.args.first (c.args.first + n) (c.args.first + (n + 1)) _ _ _ (omega arith)
          so_far.evaluated c.known_of-holds.ensures.tally
          (λ one. record {
            place = n;
            numbered = refl;
            rule = rule;
            stands = stands;
            is_open = record {
              names = one.names;
              unknown = sym c.known_at-here.ensures ∙ one.unknown;
              hidden = c.shown_of_script-shown.ensures.hidden one.hidden;
              asked = one.asked;
            };
          });
    }

pub returns-clause-known : goal.returns-clause-known
returns-clause-known g c = λ passed distinct knows n rule stands.
    let rules = map (meant_script_rule g.F.Filters.meaning) c.args.rules.now in
    c.loop-number.invariant.each passed distinct knows n rule
    (omega (
      arith,
      c.loop-number-test.false,
      length-map c.args.rules.now (meant_script_rule g.F.Filters.meaning),
      slice_get_within rules n rule stands,
    ))
    stands

pub returns-clause-tally : goal.returns-clause-tally
returns-clause-tally g c =
    evaluated_all _ c.args.first (c.args.first + c.loop-number.number) _ _ c.loop-number.invariant.evaluated
