-- Which of the overrides that have a default filter decides.
use Rattle.std.proofs.Common.{◌≡◌, ◌∙◌, ◌&&◌, ◌||◌, ℕ, zero, suc, Bool, true, false, cond, List, [], ◌∷◌, Option, None, Some, ap, filter, find, is_some, map, option_map, refl, slice_get, sym}
use Rattle.std.specs.List.{cons_option, filter_map}
use Rattle.nextest_engines.specs.declared.queries.BuildPlatform.TheVariants.{Target}
use Rattle.nextest_engines.specs.declared.queries.BuildPlatforms.{BuildPlatforms}
use Rattle.nextest_rules.specs.Rules.{Compiled, WrittenFilter, OverrideUse, RuleId}
use Rattle.nextest_settings.specs.Chains.{FilterChoice, first_of}
use Rattle.nextest_settings.specs.Platforms.{platforms_hold, rule_on}
use Rattle.nextest_tree.specs.Schema.{first}
use Rattle.rinqebo_rules.specs.FilterRules.{FilterRule, filter_facts, filter_rule_on, filter_rules, has_default}
use Rattle.rinqebo_origins.specs.RulePlaces.{Place, id_place}
use Rattle.rinqebo_rules.specs.Runs.{filtering_id}
use Rattle.rinqebo_rules.specs.VerdictsBy.{decides_by, verdict_by, verdicts_by}
use Rattle.rinqebo_rules.specs.declared.verdict.RuleVerdict.{RuleVerdict}
use Rattle.rinqebo_rules.specs.declared.verdict.RuleVerdict.TheVariants.{Decides}

-- the first of some ids, one of which may be there
first_behind : (found : Option RuleId) (there : Bool) (id : RuleId) (ids : List RuleId)
    → found ≡ cond there (Some id) None
    → option_map id_place (first (cons_option found ids)) ≡ cond there (Some (id_place id)) (option_map id_place (first ids))
first_behind found true id ids is = ap (λ o. option_map id_place (first (cons_option o ids))) is
first_behind found false id ids is = ap (λ o. option_map id_place (first (cons_option o ids))) is

-- the place of the first of some rules that decides, one of which may be there
find_behind : (rule : FilterRule) (rules : List FilterRule) (holds : Bool) → rule.facts ≡ filter_facts holds
    → option_map (λ rule. rule.place) (find (λ rule. decides_by rule.facts) (rule ∷ rules))
    ≡ cond holds (Some rule.place) (option_map (λ rule. rule.place) (find (λ rule. decides_by rule.facts) rules))
find_behind rule rules true is =
    ap (λ facts. option_map (λ rule. rule.place)
    (cond (decides_by facts) (Some rule) (find (λ rule. decides_by rule.facts) rules))) is
find_behind rule rules false is =
    ap (λ facts. option_map (λ rule. rule.place)
    (cond (decides_by facts) (Some rule) (find (λ rule. decides_by rule.facts) rules))) is

-- the place of the first override that decides
abbrev found_place : List FilterRule → Option Place
found_place rules = option_map (λ rule. rule.place) (find (λ rule. decides_by rule.facts) rules)

module _ {M K P : Type 0} (meets : K → P → Option Bool) (platforms : BuildPlatforms P) where
  -- an override that is kept if it has a default filter
  found_behind : (default : Option (WrittenFilter M)) (rule : Compiled M K (OverrideUse M))
      (rules : List (Compiled M K (OverrideUse M)))
      → found_place (map (filter_rule_on meets platforms) (cond (is_some default) (rule ∷ rules) rules))
      ≡ cond (is_some default && platforms_hold meets platforms Target rule) (Some (id_place rule.writes.id))
      (found_place (map (filter_rule_on meets platforms) rules))
  found_behind None rule rules = refl
  found_behind (Some m) rule rules =
      find_behind (filter_rule_on meets platforms rule) (map (filter_rule_on meets platforms) rules)
      (platforms_hold meets platforms Target rule) refl

  -- the id of an override, if its default filter would count
  id_behind : (holds : Bool) (default : Option (WrittenFilter M)) (id : RuleId) (choice : WrittenFilter M → FilterChoice M)
      → option_map (λ choice. id) (cond holds (option_map choice default) None)
      ≡ cond (is_some default && holds) (Some id) None
  id_behind true None id choice = refl
  id_behind true (Some m) id choice = refl
  id_behind false None id choice = refl
  id_behind false (Some m) id choice = refl

  pub choice : (overrides : List (Compiled M K (OverrideUse M)))
      → found_place (filter_rules meets platforms overrides)
      ≡ option_map id_place (first_of filtering_id (map (rule_on meets platforms) overrides))
  choice [] = refl
  choice (rule ∷ rules) =
      let there = is_some rule.writes.default_filter && platforms_hold meets platforms Target rule in
      let place = id_place rule.writes.id in
      found_behind rule.writes.default_filter rule (filter has_default rules)
      ∙ ap (cond there (Some place)) (choice rules)
      ∙ sym (first_behind (filtering_id (rule_on meets platforms rule)) there rule.writes.id
      (filter_map filtering_id (map (rule_on meets platforms) rules))
      (id_behind (platforms_hold meets platforms Target rule) rule.writes.default_filter rule.writes.id _))

-- a verdict that decides has all for it
all_for : (on holds writes before : Bool) → verdict_by on holds writes before ≡ Decides
    → ((holds && writes) ≡ true) × (before ≡ false)
all_for false holds writes before is = absurd cc
all_for true false writes before is = absurd cc
all_for true true false before is = absurd cc
all_for true true true true is = absurd cc
all_for true true true false is = (refl, refl)

neither : (a b : Bool) → (a || b) ≡ false → (a ≡ false) × (b ≡ false)
neither true b is = absurd cc
neither false b is = (refl, is)

some_first : {X : Type 0} (b : Bool) (x : X) (o : Option X) → b ≡ true → cond b (Some x) o ≡ Some x
some_first true x o is = refl
some_first false x o is = absurd cc

not_first : {X : Type 0} (b : Bool) (x : X) (o : Option X) → b ≡ false → cond b (Some x) o ≡ o
not_first true x o is = absurd cc
not_first false x o is = refl

-- the rule with the verdict that it decides is the first that does
decided : (rules : List FilterRule) (n : ℕ) (before : Bool)
    → slice_get (verdicts_by before (map (λ rule. rule.facts) rules)) n ≡ Some Decides
    → (before ≡ false) × (find (λ rule. decides_by rule.facts) rules ≡ slice_get rules n)
decided [] n before is = absurd cc
decided (rule ∷ rules) zero before is =
    let verdict : verdict_by rule.facts.is_on rule.facts.holds rule.facts.writes before ≡ Decides = cc in
    let all = all_for rule.facts.is_on rule.facts.holds rule.facts.writes before verdict in
    (all.1, some_first (decides_by rule.facts) rule (find (λ rule. decides_by rule.facts) rules) all.0)
decided (rule ∷ rules) (suc n) before is =
    let rest = decided rules n (before || decides_by rule.facts) is in
    let none = neither before (decides_by rule.facts) rest.0 in
    (none.0, not_first (decides_by rule.facts) rule (find (λ rule. decides_by rule.facts) rules) none.1 ∙ rest.1)

pub first_decides : (rules : List FilterRule) (n : ℕ)
    → slice_get (verdicts_by false (map (λ rule. rule.facts) rules)) n ≡ Some Decides
    → find (λ rule. decides_by rule.facts) rules ≡ slice_get rules n
first_decides rules n is =
    let both = decided rules n false is in
    both.1
