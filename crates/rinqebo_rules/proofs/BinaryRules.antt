-- Rules of which a binary decides whether they hold.
use Rattle.std.proofs.Common.{◌≡◌, ◌∙◌, ℕ, [], Bool, List, Option, None, Some, IfSome, Bor, ap, map, option_and_then, option_map, refl, slice_get, subst, sym}
use Rattle.nextest_engines.specs.Engines.{Binary, Test}
use Rattle.nextest_load.specs.Closed.{BinaryMatch}
use Rattle.nextest_settings.specs.Binaries.{AreKnownFor, IsKnownFor, SpeakForTests, answered_binary, binary_answer}
use Rattle.nextest_settings.specs.Deciding.{QueryContext}
use Rattle.nextest_settings.specs.Platforms.{EvaluatedRule}
use Rattle.nextest_settings.specs.Profile.{EvaluatableModel}
use Rattle.nextest_settings.specs.Queries.{query_in}
use Rattle.nextest_settings.specs.declared.binary_answers.BinaryAnswers.{BinaryAnswers}
use Rattle.nextest_settings.proofs.KnownRules.{rules_known}
use Rattle.rinqebo_rules.specs.BinaryRules.{AreAnswersAt, AreKnownIn, known_overrides, known_script_rules}
use Rattle.rinqebo_rules.proofs.Passing.{zip_at}

-- what is known of the rule of a number
known_in : {M W : Type 0} (query : QueryContext M) (rules : List (EvaluatedRule M W)) (known : List (Option Bool))
    → AreKnownFor query rules known → AreKnownIn query rules known
known_in query rules known all n rule stands = by_place (slice_get known n) refl where
  by_place : (found : Option (Option Bool)) → slice_get known n ≡ found
      → IsKnownFor query rule (option_and_then (λ holds. holds) found)
  by_place None is = tt
  by_place (Some here) is = zip_at (IsKnownFor query) rules known n rule here all stands is

-- nothing is known
none_known : {M W : Type 0} (query : QueryContext M) (rules : List (EvaluatedRule M W)) → AreKnownIn query rules []
none_known query rules n rule stands = tt

module _ {M : Type 0} (holds : M → Test → M → Bool) (matches : BinaryMatch M) (speak : SpeakForTests holds matches)
    (profile : EvaluatableModel M) (test : Test) where
  abbrev default : M
  default = profile.default_filter.filter

  -- the answers of rules are so for each test of the binary
  so_for_test : {W : Type 0} (rules : List (EvaluatedRule M W)) (binary : Binary) (known : List (Option Bool))
      → binary ≡ test.binary → known ≡ map (binary_answer matches default binary) rules
      → AreKnownIn (query_in holds profile test) rules known
  so_for_test rules binary known same are =
      known_in (query_in holds profile test) rules known
      (subst (AreKnownFor (query_in holds profile test) rules)
      (sym (are ∙ ap (λ (b : Binary). map (binary_answer matches default b) rules) same))
      (rules_known holds matches speak default test rules))

  pub overrides_known : (answers : Option (Bor BinaryAnswers))
      → IfSome answers (λ known. AreAnswersAt matches profile test.binary known.now)
      → AreKnownIn (query_in holds profile test) profile.overrides
      (known_overrides (option_map (λ known. known.now) answers))
  overrides_known None are = none_known (query_in holds profile test) profile.overrides
  overrides_known (Some known) are =
      so_for_test profile.overrides (answered_binary known.now) known.now.overrides.items are.1 are.0.0

  pub script_rules_known : (answers : Option (Bor BinaryAnswers))
      → IfSome answers (λ known. AreAnswersAt matches profile test.binary known.now)
      → AreKnownIn (query_in holds profile test) profile.script_rules
      (known_script_rules (option_map (λ known. known.now) answers))
  script_rules_known None are = none_known (query_in holds profile test) profile.script_rules
  script_rules_known (Some known) are =
      so_for_test profile.script_rules (answered_binary known.now) known.now.script_rules.items are.1 are.0.1
