use Rattle.std.proofs.Common.{◌∙◌, [], false, ap, map, replicate, subst, sym}
use Rattle.std.proofs.lemmas.List.{length-map}
use Rattle.std.specs.List.{AllZip}
use Rattle.nextest_settings.specs.View.{meant_override, meant_script_rule}
use Rattle.rinqebo_rules.proofs.Marked.{none_used}
use Rattle.rinqebo_rules.proofs.NoneHold.{meant_overrides}
use Rattle.rinqebo_rules.proofs.ScriptRules.{meant_scripts}
use Rattle.rinqebo_rules.specs.Distinct.{AreDistinct}
use Rattle.rinqebo_rules.specs.Passed.{AreWritten, ids_of}
use Rattle.rinqebo_rules.specs.Unused.{is_used}
use Rattle.rinqebo_rules.proofs.unused.UsedRules.new.Goals as goal

pub returns : goal.returns
returns g c =
    let F = g.F.Filters in
    let profile = c.args.profile.now in
    let rules = c.rules-rules.result.now in
    let overrides = meant_overrides F.meaning profile rules.overrides.items c.rules-rules.ensures.overrides in
    let scripts = meant_scripts F.meaning profile rules.script_rules.items c.rules-rules.ensures.script_rules in
    record {
      overrides = c.in_ok-none_of.ensures
          ∙ ap (λ n. replicate n false) (c.len.ensures ∙ rules.overrides.ok.0 ∙ sym (length-map rules.overrides.items _))
          ∙ none_used _ ∙ ap (map (is_used [])) overrides;
      script_rules = c.in_ok-none_of-2.ensures
          ∙ ap (λ n. replicate n false)
          (c.len-2.ensures ∙ rules.script_rules.ok.0 ∙ sym (length-map rules.script_rules.items _))
          ∙ none_used _ ∙ ap (map (is_used [])) scripts;
      written = subst (λ os. AllZip (AreWritten c.args.mode) os c.in_ok-all_written.field-0.items)
          (ap (map (meant_override F.meaning)) c.deref.ensures.value ∙ overrides) c.in_ok-all_written.ensures;
      distinct_overrides = λ known. subst (λ os. AreDistinct (ids_of (λ w. w.id) os))
          (ap (map (meant_override F.meaning)) c.deref-2.ensures.value ∙ overrides)
          (c.in_ok-are_overrides_distinct.ensures known);
      distinct_script_rules = λ known. subst (λ os. AreDistinct (ids_of (λ w. w.id) os))
          (ap (map (meant_script_rule F.meaning)) c.deref-3.ensures.value ∙ scripts)
          (c.in_ok-are_script_rules_distinct.ensures known);
    }
