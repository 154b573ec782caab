use Rattle.std.proofs.Common.{◌∙◌, ap, subst, sym, map}
use Rattle.nextest_inheritance.specs.Parents.{parents_in, with_default, HasOneChain, IsChain}
use Rattle.nextest_load.specs.Closed.{AnswersBinaries}
use Rattle.nextest_load.specs.Config.{config_parents}
use Rattle.nextest_rules.specs.Meaning as rules
use Rattle.nextest_settings.specs.Chains.{overrides_of, script_rules_of, nearest_filter}
use Rattle.nextest_settings.specs.View.{script_rule_ref_view}
use Rattle.nextest_sources.specs.InputFaults.{Each}
use Rattle.nextest_tables.specs.FileTexts.{names_in}
use Rattle.nextest_inheritance.specs.View.{borrowed_view}
use Rattle.nextest_settings.proofs.profiles.KnowsScripts.{fused, uses_of, knows_scripts, filters_answer}
use Rattle.nextest_settings.proofs.profiles.EachRule.{each_at}
use Rattle.nextest_settings.proofs.profiles.ParentsIn.{parents_written, parents_same, keys_same}
use Rattle.nextest_settings.proofs.profiles.early.EarlyProfile.new.Goals as goal

pub names_of-requires : goal.names_of-requires
names_of-requires g c =
    let config = c.args.config.now.config in
    let names = names_in config.profiles in
    let one = each_at (HasOneChain (parents_in (config_parents config)) names) names c.args.name.now
    c.requires c.profiles.ensures.closed.chains in
    let written = parents_same c.profiles.result.now.entries ∙ ap parents_written c.profiles.ensures.profiles in
    rw (written, keys_same config.profiles) one

pub new-requires : goal.new-requires
new-requires g c = (c.in_ok-names.ensures.chain, ap borrowed_view c.deref.ensures.value ∙ c.in_ok-names.ensures.is)

pub returns : goal.returns
returns g c =
    let chain = c.in_ok-names.ensures.chain in
    let config = c.args.config.now.config in
    let of_new = ap borrowed_view c.deref.ensures.value ∙ c.in_ok-names.ensures.is in
    let of_rules = ap borrowed_view c.deref-2.ensures.value ∙ c.in_ok-names.ensures.is in
    let of_filter = ap borrowed_view c.deref-3.ensures.value ∙ c.in_ok-names.ensures.is in
    let overrides = c.in_ok-rules_of.ensures.overrides ∙ (λ i. overrides_of (c.layers-layers.ensures i) (of_rules i)) in
    let script_rules = c.in_ok-rules_of.ensures.script_rules
    ∙ (λ i. script_rules_of (c.layers-layers.ensures i) (of_rules i)) in
    let nearest = c.nearest_filter.ensures ∙ (λ i. nearest_filter (c.layers-layers.ensures i) (of_filter i)) in
    record {
      chain = chain;
      is_chain = subst (λ written. IsChain (parents_in written) c.args.name.now chain)
          (parents_same c.profiles.result.now.entries ∙ ap parents_written c.profiles.ensures.profiles)
          c.in_ok-names.ensures.is_chain;
      is_profile = λ i. record {
        facts = c.in_ok-new.ensures chain of_new i;
        overrides = overrides i;
        script_rules = script_rules i;
        nearest_filter = nearest i;
        match_all = c.match_all.ensures i;
      };
    }

pub invariant_of-result : goal.invariant_of-result
invariant_of-result g c =
    let config = c.args.config.now.config in
    let scripts = c.args.config.now.scripts in
    let chain = c.in_ok-names.ensures.chain in
    let of_new = ap borrowed_view c.deref.ensures.value ∙ c.in_ok-names.ensures.is in
    let of_rules = ap borrowed_view c.deref-2.ensures.value ∙ c.in_ok-names.ensures.is in
    let script_rules = c.in_ok-rules_of.ensures.script_rules
    ∙ (λ i. script_rules_of (c.layers-layers.ensures i) (of_rules i)) in
    let uses = sym (fused (λ r. r.writes.scripts) script_rule_ref_view c.in_ok-rules_of.field-0.script_rules.items)
    ∙ ap uses_of script_rules in
    let there = ap (λ facts. facts.scripts) (c.in_ok-new.ensures chain of_new) in
    let rule = rules.script_rule_meaning g.F.Filters.meaning g.S.Specs.spec_meaning in
    let gathered = ap (map rule) (sym script_rules)
    ∙ fused rule script_rule_ref_view c.in_ok-rules_of.field-0.script_rules.items in (
      rw (uses, there) (knows_scripts g.F.Filters.meaning g.S.Specs.spec_meaning g.F.Filters.holds_binary
          config scripts c.profiles.ensures.closed (with_default chain)),
      subst (Each (AnswersBinaries g.F.Filters.holds_binary)) gathered
          (filters_answer g.F.Filters.meaning g.S.Specs.spec_meaning g.F.Filters.holds_binary config scripts
          c.profiles.ensures.closed (with_default chain)),
    )
