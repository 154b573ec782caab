use Rattle.std.proofs.Common.{◌≡◌, ◌∙◌, ◌++◌, ap, sym, subst, option_map, map}
use Rattle.std.proofs.Math.ListN.{length-map}
use Rattle.nextest_engines.specs.Engines.{binary_view}
use Rattle.nextest_settings.specs.Queries.{binary_query, listed_by, listing_rule, evaluated_for_list}
use Rattle.nextest_settings.specs.View.{meant_override, meant_script_rule, script_rule_ref_view}
use Rattle.nextest_settings.specs.Profiles.Meaning.{profile_meaning}
use Rattle.nextest_settings.proofs.profiles.ProfileMeaning.{means_rules}
use Rattle.nextest_settings.proofs.profiles.evaluatable.EvaluatableProfile.list_wrapper_rule.Goals as goal

pub list_wrapper_rule-requires : goal.list_wrapper_rule-requires
list_wrapper_rule-requires g c = c.self.invariant.1

pub returns : goal.returns
returns g c =
    let meaning = g.F.Filters.meaning in
    let same = ap (profile_meaning meaning) (sym c.self.view_is)
    ∙ means_rules meaning c.self.inside.facts c.self.inside.rules in
    let binary = binary_view c.args.query.now in
    record {
      rule = subst (λ p. option_map (λ rule. (script_rule_ref_view rule).writes) c.list_wrapper_rule.result
          ≡ option_map (λ rule. rule.writes)
          (listing_rule (binary_query g.F.Filters.holds_binary p.default_filter.filter binary) p.script_rules))
          (sym same) c.list_wrapper_rule.ensures.rule;
      tally = subst (λ p. g.F.Tally.Tally.numbers c.list_wrapper_rule.new.tally
          ≡ g.F.Tally.Tally.numbers c.args.tally.now
          ++ evaluated_for_list (binary_query g.F.Filters.holds_binary p.default_filter.filter binary) p) (sym same)
          (subst (λ count. g.F.Tally.Tally.numbers c.list_wrapper_rule.new.tally
          ≡ g.F.Tally.Tally.numbers c.args.tally.now
          ++ listed_by (binary_query g.F.Filters.holds_binary
          (meaning c.self.inside.rules.default_filter.expr.now) binary) count
          (map (meant_script_rule meaning) c.self.inside.rules.script_rules.items))
          (sym (length-map c.self.inside.rules.overrides.items (meant_override meaning)))
          c.list_wrapper_rule.ensures.tally);
    }
