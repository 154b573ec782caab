use Rattle.std.proofs.Common.{◌≡◌, ◌∙◌, ◌++◌, ap, sym, subst, option_map, Some, map}
use Rattle.std.proofs.Math.ListN.{length-map}
use Rattle.nextest_engines.specs.Engines.{binary_view}
use Rattle.nextest_rules.specs.Accepted.{IfWritten}
use Rattle.nextest_rules.specs.Rules.{at_name}
use Rattle.nextest_settings.specs.ListView.{list_wrapper_at}
use Rattle.nextest_settings.specs.Queries.{binary_query, list_wrapper_by, listed_by, list_wrapper_of, evaluated_for_list}
use Rattle.nextest_settings.specs.View.{KnowsListWrappers, meant_override, meant_script_rule}
use Rattle.nextest_tables.specs.FileTexts.{names_in, IsIn}
use Rattle.nextest_settings.specs.Profiles.Known.{evaluated_use}
use Rattle.nextest_settings.specs.Profiles.Meaning.{profile_meaning}
use Rattle.nextest_settings.proofs.profiles.EachRule.{each_before}
use Rattle.nextest_settings.proofs.profiles.ProfileMeaning.{means_rules}
use Rattle.nextest_settings.proofs.profiles.evaluatable.EvaluatableProfile.list_settings_for.Goals as goal

pub list_settings_for-requires-clause-known : goal.list_settings_for-requires-clause-known
list_settings_for-requires-clause-known g c =
    let there = each_before (λ named. IfWritten named.list_wrapper
    (IsIn (names_in c.self.inside.facts.scripts.wrapper))) evaluated_use
    c.self.inside.rules.script_rules.items c.self.invariant.0.list_wrappers in
    subst (λ scripts. KnowsListWrappers scripts c.self.inside.rules.script_rules.items) (sym c.scripts.ensures) there

pub list_settings_for-requires-clause-answers : goal.list_settings_for-requires-clause-answers
list_settings_for-requires-clause-answers g c = c.self.invariant.1

pub returns : goal.returns
returns g c =
    let meaning = g.F.Filters.meaning in
    let same = ap (profile_meaning meaning) (sym c.self.view_is)
    ∙ means_rules meaning c.self.inside.facts c.self.inside.rules in
    let binary = binary_view c.args.query.now in
    record {
      wrapper = subst (λ p. option_map Some (list_wrapper_at c.list_settings_for.result)
          ≡ option_map (λ id. at_name id p.facts.scripts.wrapper)
          (list_wrapper_of (binary_query g.F.Filters.holds_binary p.default_filter.filter binary) p)) (sym same)
          (subst (λ scripts. option_map Some (list_wrapper_at c.list_settings_for.result)
          ≡ option_map (λ id. at_name id scripts.wrapper)
          (list_wrapper_by (binary_query g.F.Filters.holds_binary
          (meaning c.self.inside.rules.default_filter.expr.now) binary)
          (map (meant_script_rule meaning) c.self.inside.rules.script_rules.items))) c.scripts.ensures
          c.list_settings_for.ensures.wrapper);
      tally = subst (λ p. g.F.Tally.Tally.numbers c.list_settings_for.new.tally
          ≡ g.F.Tally.Tally.numbers c.args.tally.now
          ++ evaluated_for_list (binary_query g.F.Filters.holds_binary p.default_filter.filter binary) p) (sym same)
          (subst (λ count. g.F.Tally.Tally.numbers c.list_settings_for.new.tally
          ≡ g.F.Tally.Tally.numbers c.args.tally.now
          ++ listed_by (binary_query g.F.Filters.holds_binary
          (meaning c.self.inside.rules.default_filter.expr.now) binary) count
          (map (meant_script_rule meaning) c.self.inside.rules.script_rules.items))
          (sym (length-map c.self.inside.rules.overrides.items (meant_override meaning)))
          c.list_settings_for.ensures.tally);
    }
