use Rattle.std.proofs.Common.{◌≡◌, ◌∙◌, ◌++◌, ◌∷◌, [], ℕ, List, ap, sym, subst, map, option_map, append_assoc}
use Rattle.std.proofs.lemmas.List.{map-append}
use Rattle.nextest_engines.specs.Readings.{readings_view}
use Rattle.nextest_sources.specs.Causes.{CompileFault, in_override}
use Rattle.nextest_sources.specs.Errors.{compile_cause_view, compile_error_view}
use Rattle.nextest_sources.specs.Sources.{source_view}
use Rattle.nextest_tables.specs.FileTexts.{OverrideText}
use Rattle.nextest_tables.specs.View.{override_view}
use Rattle.nextest_rules.specs.CompileFaults.{fault_in}
use Rattle.nextest_rules.specs.Meaning.{override_meaning}
use Rattle.nextest_rules.specs.Rules.{override_rule}
use Rattle.nextest_rules.specs.View.{override_rule_view}
use Rattle.nextest_rules.proofs.Compiling.{override_faults_from, override_rules_from}
use Rattle.nextest_rules.proofs.compile.profile.compile_overrides.Goals as goal

-- a rule that is pushed is the next one of those that are left
one_more : {X Y Z : Type 0} (f : Y → Z) (g : X → Y) (xs : List X) (x : X) (now : List X) (z : Z) (zs whole : List Z)
    → now ≡ xs ++ x ∷ [] → f (g x) ≡ z → map f (map g xs) ++ z ∷ zs ≡ whole → map f (map g now) ++ zs ≡ whole
one_more f g xs x now z zs whole pushed is so_far =
    ap (λ ys. map f (map g ys) ++ zs) pushed
    ∙ ap (λ ys. map f ys ++ zs) (map-append g xs (x ∷ []))
    ∙ ap (λ ys. ys ++ zs) (map-append f (map g xs) (g x ∷ []))
    ∙ append_assoc (map f (map g xs)) (f (g x) ∷ []) zs
    ∙ ap (λ y. map f (map g xs) ++ y ∷ zs) is
    ∙ so_far

pub loop-index-preserved : goal.loop-index-preserved
loop-index-preserved g c =
    let l = c.loop-index in
    let engines = readings_view g.F.Filters g.S.Specs c.args.pcx.now in
    let source = source_view c.args.source.now in
    let name = c.args.profile.now in
    let meaning = override_meaning g.F.Filters.meaning g.S.Specs.spec_meaning in
    let steps = c.in-Some.ensures.steps in
    let table = override_view c.in-Some.table in
    let left = map override_view c.next.new.self.iter.rest.items in
    let done = map meaning (map override_rule_view l.rules.items) in
    let all = override_rules_from engines source name 0 (map override_view c.args.tables.items) in
    let rule = override_rule engines (record { source = source; profile = name; index = l.index-iterator.count }) table in
    let before = map compile_error_view l.errors.items in
    let faults : ℕ → List OverrideText → List CompileFault = override_faults_from engines name in
    let so_far = rw steps.0.0 at l.invariant in (
      one_more meaning override_rule_view l.rules.items c.in_ok-rule.rule c.push.new.self.items rule
          (override_rules_from engines source name c.next.new.self.count left) all
          c.in_ok-push.ensures.items
          (c.in_ok-rule.ensures.rule ∙ ap (λ id. override_rule engines id table)
          (c.in_ok-id.ensures ∙ ap (λ i. record { source = source; profile = name; index = i }) steps.1))
          (subst (λ n. done ++ rule ∷ override_rules_from engines source name n left ≡ all)
          (sym steps.2) so_far.0),
      ap (λ es. es ++ faults c.next.new.self.count left) c.in_ok-add_error.ensures
          ∙ append_assoc before
          (fault_in name (in_override c.in-Some.index) (option_map compile_cause_view c.in_ok-rule.error))
          (faults c.next.new.self.count left)
          ∙ ap (λ es. before ++ es) (λ i. fault_in name (in_override (steps.1 i)) (c.in_ok-rule.ensures.error i)
          ++ faults (steps.2 i) left)
          ∙ so_far.1,
    )
