-- The script rules of a profile, by what they mean.
use Rattle.std.proofs.Common.{◌≡◌, ◌∙◌, ◌++◌, [], ◌∷◌, ℕ, Bor, List, map, None, Option, Some, ap, ap₂, append-nil, option_map, string_bytes, sym}
use Rattle.std.proofs.lemmas.List.{map-append}
use Rattle.std.specs.List.{cons_option}
use Rattle.nextest_engines.specs.Engines.{Binary}
use Rattle.nextest_load.specs.Closed.{BinaryMatch}
use Rattle.nextest_settings.specs.Profiles.Meaning.{profile_meaning}
use Rattle.nextest_rules.specs.declared.overrides.CompiledProfileScripts.{CompiledProfileScripts}
use Rattle.nextest_scripts.specs.ScriptId.{script_text}
use Rattle.nextest_scripts.specs.declared.script_id.ScriptId.{ScriptId}
use Rattle.nextest_settings.specs.Profile.{EvaluatableModel}
use Rattle.nextest_settings.specs.Queries.{list_wrapper_of}
use Rattle.nextest_settings.specs.View.{evaluated_script_rule_meaning, evaluated_script_rule_view, meant_script_rule}
use Rattle.nextest_settings.specs.declared.platforms.EvaluatedRule.{EvaluatedRule as EvaluatedRule'}
use Rattle.nextest_tables.specs.Written.{Name}
use Rattle.rinqebo_rules.proofs.ListedTests.{made_twice}
use Rattle.rinqebo_rules.specs.Scripts.{binary_in, wrapper_at, wrapper_view}
use Rattle.rinqebo_report.specs.declared.report.ListWrapper.{ListWrapper}

-- the script rules of a profile, by what their filters mean
pub meant_scripts : {F S E T N P M : Type 0} (f : E → M) (profile : EvaluatableModel E)
    (rules : List (EvaluatedRule' (CompiledProfileScripts F S E T N P)))
    → map evaluated_script_rule_view rules ≡ profile.script_rules
    → map (meant_script_rule f) rules ≡ (profile_meaning f profile).script_rules
meant_scripts f profile rules same =
    sym (made_twice (evaluated_script_rule_meaning f) evaluated_script_rule_view rules)
    ∙ ap (map (evaluated_script_rule_meaning f)) same

-- the list wrapper that a profile gives a binary, with the binary's id
pub wrapper_given : {M : Type 0} (matches : BinaryMatch M) (profile : EvaluatableModel M) (binary : Binary)
    (id : Option Name) → id ≡ list_wrapper_of (binary_in matches profile binary) profile
    → wrapper_at matches profile binary ≡ option_map (λ id. (binary.binary_id, id)) id
wrapper_given matches profile binary id is = ap (option_map (λ id. (binary.binary_id, id))) (sym is)

-- the wrapper that is found for a binary is reported
pub wrapper_more : (binary : List ℕ) (old new : List ListWrapper) (gives : Option (List ℕ × Name))
    (found : Option (Bor ScriptId)) (id : Bor ScriptId) (wrapper : ListWrapper) → new ≡ old ++ wrapper ∷ []
    → gives ≡ option_map (λ id. (binary, id)) (option_map (λ id. script_text id.now) found) → found ≡ Some id
    → string_bytes wrapper.binary ≡ binary → string_bytes wrapper.value ≡ script_text id.now
    → map wrapper_view new ≡ map wrapper_view old ++ cons_option gives []
wrapper_more binary old new gives found id wrapper put is some of_binary value =
    let told : gives ≡ Some (wrapper_view wrapper) =
    is ∙ ap (λ r. option_map (λ id. (binary, id)) (option_map (λ id. script_text id.now) r)) some
    ∙ ap₂ (λ b v. Some (b, v)) (sym of_binary) (sym value) in
    ap (map wrapper_view) put ∙ map-append wrapper_view old (wrapper ∷ [])
    ∙ ap (λ o. map wrapper_view old ++ cons_option o []) (sym told)

-- no wrapper is found for a binary
pub wrapper_none : (binary : List ℕ) (old new : List ListWrapper) (gives : Option (List ℕ × Name))
    (found : Option (Bor ScriptId)) → new ≡ old
    → gives ≡ option_map (λ id. (binary, id)) (option_map (λ id. script_text id.now) found) → found ≡ None
    → map wrapper_view new ≡ map wrapper_view old ++ cons_option gives []
wrapper_none binary old new gives found same is none =
    ap (map wrapper_view) same ∙ sym (append-nil (map wrapper_view old))
    ∙ ap (λ o. map wrapper_view old ++ cons_option o [])
    (sym (is ∙ ap (λ r. option_map (λ id. (binary, id)) (option_map (λ id. script_text id.now) r)) none))
