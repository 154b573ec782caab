-- Rules that are known at a binary.
use Rattle.std.proofs.Common.{◌≡◌, ◌∙◌, ◌&&◌, ℕ, zero, suc, List, [], ◌∷◌, Bool, true, false, IsTrue, Option, None, Some, if◌then◌else◌, map, option_map, refl, slice_get, subst, sym, ap}
use Rattle.std.proofs.lemmas.Option.{slice_get-map}
use Rattle.std.specs.List.{list_any}
use Rattle.nextest_engines.specs.Engines.{Test}
use Rattle.nextest_load.specs.Closed.{BinaryMatch}
use Rattle.nextest_settings.specs.Binaries.{AreKnownFor, IsKnownFor, SpeakForTests, binary_answer, filter_answer}
use Rattle.nextest_settings.specs.Deciding.{QueryContext, filter_holds, rule_holds}
use Rattle.nextest_settings.specs.Platforms.{EvaluatedRule, is_on}
use Rattle.nextest_settings.specs.Queries.{test_query}
use Rattle.nextest_settings.proofs.Listed.{listed, met}
use Rattle.rule_lists.specs.Lists.{AreKnown}

filter_known : {M : Type 0} (holds : M → Test → M → Bool) (matches : BinaryMatch M) → SpeakForTests holds matches
    → (default : M) (test : Test) (f : Option M) (b : Bool)
    → filter_answer matches default test.binary f ≡ Some b → filter_holds (λ m. holds m test default) f ≡ b
filter_known holds matches speak default test None true is = refl
filter_known holds matches speak default test None false is = absurd (cc)
filter_known holds matches speak default test (Some m) b is = speak m test default b is

module _ {M W : Type 0} (holds : M → Test → M → Bool) (matches : BinaryMatch M) (speak : SpeakForTests holds matches)
    (default : M) (test : Test) where
  known_by : (on : Bool) (rule : EvaluatedRule M W) (b : Bool)
      → (if on then filter_answer matches default test.binary rule.filter else Some false) ≡ Some b
      → (on && filter_holds (λ m. holds m test default) rule.filter) ≡ b
  known_by true rule b is = filter_known holds matches speak default test rule.filter b is
  known_by false rule true is = absurd (cc)
  known_by false rule false is = refl

  -- what is known of a rule at a binary is so for each of its tests
  pub rule_known : (rule : EvaluatedRule M W) (o : Option Bool) → binary_answer matches default test.binary rule ≡ o
      → IsKnownFor (test_query holds default test) rule o
  rule_known rule None is = tt
  rule_known rule (Some b) is = known_by (is_on rule test.binary.platform) rule b is

  pub rules_known : (rules : List (EvaluatedRule M W))
      → AreKnownFor (test_query holds default test) rules (map (binary_answer matches default test.binary) rules)
  rules_known [] = tt
  rules_known (rule ∷ rules) =
      (rule_known rule (binary_answer matches default test.binary rule) refl, rules_known rules)

-- what is known of the rule of a place
known_at : {M W : Type 0} (query : QueryContext M) (rules : List (EvaluatedRule M W)) (known : List (Option Bool))
    (k : ℕ) (rule : EvaluatedRule M W) (b : Bool) → AreKnownFor query rules known → slice_get rules k ≡ Some rule
    → slice_get known k ≡ Some (Some b) → rule_holds query rule ≡ b
known_at query [] known k rule b all here there = absurd (cc)
known_at query (r ∷ rules) [] k rule b all here there = absurd all
known_at query (r ∷ rules) (o ∷ known) zero rule b all here there =
    let same : r ≡ rule = cc in
    let is : o ≡ Some b = cc in
    subst (λ q. IsKnownFor query q (Some b)) same (subst (IsKnownFor query r) is all.0)
known_at query (r ∷ rules) (o ∷ known) (suc k) rule b all here there =
    known_at query rules known k rule b all.1 here there

-- rules as f shows them, and the things that they write
module _ {A M W T : Type 0} (f : A → EvaluatedRule M W) (writes : T → W → Bool) (query : QueryContext M) where
  off_unlisted : (x : A) → is_on (f x) query.platform ≡ false → (ts : List T)
      → list_any (λ t. t x) (map (listed f writes query) ts) ≡ false
  off_unlisted x off [] = refl
  off_unlisted x off (t ∷ ts) = rw (off, off_unlisted x off ts) refl

  listed_on : (x : A) (ts : List T) → IsTrue (list_any (λ t. t x) (map (listed f writes query) ts))
      → is_on (f x) query.platform ≡ true
  listed_on x ts some = by_platform (is_on (f x) query.platform) refl where
    by_platform : (on : Bool) → is_on (f x) query.platform ≡ on → is_on (f x) query.platform ≡ true
    by_platform true is = is
    by_platform false is = absurd (let bad : false ≡ true = sym (off_unlisted x is ts) ∙ some in cc)

  -- what is known of rules is so of their filters, where their platforms hold
  pub known_met : (ts : List T) (xs : List A) (known : List (Option Bool)) → AreKnownFor query (map f xs) known
      → AreKnown (map (listed f writes query) ts) (met f writes query) xs known
  known_met ts xs known all k x b here some there =
      ap (λ on. on && met f writes query x) (sym (listed_on x ts some))
      ∙ known_at query (map f xs) known k (f x) b all (slice_get-map f xs k ∙ ap (option_map f) here) there
