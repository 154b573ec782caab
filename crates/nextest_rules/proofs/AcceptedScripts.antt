-- The scripts that rules name have no fault exactly if they are known for their uses.
use Rattle.std.proofs.Common.{◌≡◌, ◌↔◌, ℕ, List, [], ◌∷◌, ◌++◌, map, Bool, true, false, not, ◌&&◌, ◌||◌, cond, IsTrue, IsSome, Option, Some, None, option_to_list, Result, Ok, Err, refl, sym, ap, ◌∙◌, inr}
use Rattle.std.specs.List.{enumerate_from}
use Rattle.std.specs.Result.{result_ok}
use Rattle.std.proofs.lemmas.Bool.{false≢true}
use Rattle.nextest_tree.specs.Schema.{is_one_of}
use Rattle.nextest_engines.specs.Engines.{RefusalText}
use Rattle.nextest_engines.specs.Readings.{Readings}
use Rattle.nextest_engines.specs.declared.queries.FiltersetKind.TheVariants.{DefaultFilter}
use Rattle.nextest_inheritance.specs.Names.{default_first}
use Rattle.nextest_scripts.specs.declared.script_type.ProfileScriptType.{ProfileScriptType}
use Rattle.nextest_scripts.specs.declared.script_type.ProfileScriptType.TheVariants as uses
use Rattle.nextest_sources.specs.Causes.{UnknownScript, WrongScript, bad_scripts}
use Rattle.nextest_sources.specs.InputFaults.{Each}
use Rattle.nextest_sources.specs.Sources.{Source}
use Rattle.nextest_tables.specs.FileTexts.{ScriptUse, ScriptRuleText, ProfileText, IsIn}
use Rattle.nextest_tables.specs.Written.{Name}
use Rattle.nextest_rules.specs.Accepted.{IfWritten, AreKnownScripts, ListsWithoutTests}
use Rattle.nextest_rules.specs.Definitions.{is_nonempty}
use Rattle.nextest_rules.specs.Known.{KnownNames, KnownSets, sets_of, known_scripts}
use Rattle.nextest_rules.specs.RuleFaults.{unknown_script, wrong_script, unknown_scripts_of, wrong_scripts_of, list_filter, list_filters_of, test_parts, list_filter_with, uses_of, serves, is_known_script, other_kind, rule_script_faults, script_faults_in}
use Rattle.nextest_rules.specs.Rules.{RuleId, Compiled, ScriptRuleUse, LayerProfile, meaning_of, script_rule, layer_profile, layer_of}
use Rattle.nextest_rules.specs.Steps.{script_cause_in, are_none}
use Rattle.nextest_rules.proofs.Passing.{iff_trans, iff_sym, iff_both, if_true_none, each_same, each_both, each_append, each_map, flat_none}
use Rattle.nextest_rules.proofs.EachPart.{each_in_order, each_numbered, filter_map_none, each_of_option, listed_none, either}

-- a use has no fault exactly if the script is known for it
pub use_serves : (known : KnownSets) (profile : Name) (u : Name × ProfileScriptType)
    → ((unknown_script known profile u.0 ≡ None) × (wrong_script known profile u ≡ None))
    ↔ IsTrue (serves known u.1 u.0)
use_serves known profile (id, way) = at (record { profile = profile; script = id })
    (record { profile = profile; script = id; attempted = way; actual = other_kind way })
    (is_known_script known id) (serves known way id) (serves_known known way id)
  where
    serves_known : (known : KnownSets) (way : ProfileScriptType) (id : Name) → IsTrue (serves known way id)
        → IsTrue (is_known_script known id)
    serves_known known uses.Setup id h = ap (λ b. b || known.wrapper_scripts id) h
    serves_known known uses.ListWrapper id h = (either (known.setup_scripts id) (known.wrapper_scripts id)).1 (inr h)
    serves_known known uses.RunWrapper id h = (either (known.setup_scripts id) (known.wrapper_scripts id)).1 (inr h)

    some_is_none : {X : Type 0} (x : X) → Some x ≡ None → ⊥
    some_is_none x h = cc

    at : (x : UnknownScript) (y : WrongScript) (b s : Bool) → (IsTrue s → IsTrue b)
        → ((cond {A = Option UnknownScript} b None (Some x) ≡ None)
        × (cond {A = Option WrongScript} (b && not s) (Some y) None ≡ None)) ↔ IsTrue s
    at x y true true only = (λ h. refl, λ h. (refl, refl))
    at x y true false only = (λ h. absurd (some_is_none y h.1), λ h. absurd (false≢true h))
    at x y false s only = (λ h. absurd (some_is_none x h.0), λ h. absurd (false≢true (only h)))

pub uses_serve : (known : KnownSets) (profile : Name) (us : List (Name × ProfileScriptType))
    → ((unknown_scripts_of known profile us ≡ []) × (wrong_scripts_of known profile us ≡ []))
    ↔ Each (λ u. IsTrue (serves known u.1 u.0)) us
uses_serve known profile us =
    let unknown = filter_map_none (λ u. unknown_script known profile u.0) us in
    let wrong = filter_map_none (wrong_script known profile) us in
    let both = each_both (λ u. unknown_script known profile u.0 ≡ None) (λ u. wrong_script known profile u ≡ None) us in
    iff_trans (iff_both unknown wrong) (iff_trans (iff_sym both)
    (each_same (λ u. (unknown_script known profile u.0 ≡ None) × (wrong_script known profile u ≡ None))
    (λ u. IsTrue (serves known u.1 u.0)) (use_serves known profile) us))

-- the scripts that a rule names are known for their uses
pub scripts_known : (known : KnownNames) (scripts : ScriptUse)
    → Each (λ u. IsTrue (serves (sets_of known) u.1 u.0)) (uses_of scripts) ↔ AreKnownScripts known scripts
scripts_known known scripts =
    let P : Name × ProfileScriptType → Type 0 = λ u. IsTrue (serves (sets_of known) u.1 u.0) in
    let setup = map (λ id. (id, uses.Setup)) scripts.setup in
    let lists = map (λ id. (id, uses.ListWrapper)) (option_to_list scripts.list_wrapper) in
    let runs = map (λ id. (id, uses.RunWrapper)) (option_to_list scripts.run_wrapper) in
    let outer = each_append P (setup ++ lists) runs in
    let inner = each_append P setup lists in
    let s = each_map (λ id. (id, uses.Setup)) P scripts.setup in
    let l = iff_trans (each_map (λ id. (id, uses.ListWrapper)) P (option_to_list scripts.list_wrapper))
    (each_of_option (IsIn known.wrapper_scripts) scripts.list_wrapper) in
    let r = iff_trans (each_map (λ id. (id, uses.RunWrapper)) P (option_to_list scripts.run_wrapper))
    (each_of_option (IsIn known.wrapper_scripts) scripts.run_wrapper) in (
      λ h. record {
        setup = s.0 (inner.0 (outer.0 h).0).0;
        list_wrapper =
            l.0 (inner.0 (outer.0 h).0).1;
        run_wrapper = r.0 (outer.0 h).1;
      },
      λ k. outer.1 (inner.1 (s.1 k.setup, l.1 k.list_wrapper), r.1 k.run_wrapper),
    )

pub some_same : {X : Type 0} {x y : X} → Some x ≡ Some y → x ≡ y
some_same h = cc

pub ok_same : {X Y : Type 0} {x y : X} (r : Result X Y) → r ≡ Ok x → r ≡ Ok y → x ≡ y
ok_same r a b = cc

pub none_is_some : {X Z : Type 0} {x : X} → None ≡ Some x → Z
none_is_some h = cc

pub err_is_ok : {X Y Z : Type 0} {x : X} {y : Y} (r : Result X Y) → r ≡ Err y → r ≡ Ok x → Z
err_is_ok r a b = cc

pub parts_at : {M : Type 0} (leaves : M → List (List ℕ)) (read : List ℕ → Result M RefusalText) (t : List ℕ)
    (r : Result M RefusalText) → read t ≡ r
    → (test_parts leaves (result_ok r) ≡ []) ↔ ((u : List ℕ) (m : M) → Some t ≡ Some u → read u ≡ Ok m → leaves m ≡ [])
parts_at leaves read t (Ok m) is = (
  λ h u n same reads. ap leaves (sym (ok_same (read t) is (ap read (some_same same) ∙ reads)))
      ∙ h,
  λ all. all t m refl is,
)
parts_at leaves read t (Err e) is =
    (λ h u n same reads. err_is_ok (read t) is (ap read (some_same same) ∙ reads), λ all. refl)

pub parts_none : {M : Type 0} (leaves : M → List (List ℕ)) (read : List ℕ → Result M RefusalText) (f : Option (List ℕ))
    → (test_parts leaves (meaning_of read f) ≡ []) ↔ ((t : List ℕ) (m : M) → f ≡ Some t → read t ≡ Ok m → leaves m ≡ [])
parts_none leaves read None = (λ h t m e. none_is_some e, λ h. refl)
parts_none leaves read (Some t) = parts_at leaves read t (read t) refl

pub with_none : (profile id : Name) (parts : List (List ℕ)) → (list_filter_with profile id parts ≡ None) ↔ (parts ≡ [])
with_none profile id [] = (λ h. refl, λ h. refl)
with_none profile id (x ∷ xs) = (λ h. cc, λ h. cc)

pub list_filter_none : {M : Type 0} (leaves : M → List (List ℕ)) (read : List ℕ → Result M RefusalText)
    (known : KnownNames) (profile : Name) (f : Option (List ℕ)) (wrapper : Option Name)
    → IfWritten wrapper (IsIn known.wrapper_scripts)
    → (list_filter leaves (sets_of known) profile (meaning_of read f) wrapper ≡ None)
    ↔ (IsSome wrapper → (t : List ℕ) (m : M) → f ≡ Some t → read t ≡ Ok m → leaves m ≡ [])
list_filter_none leaves read known profile f None is = (λ h some. absurd (false≢true some), λ h. refl)
list_filter_none leaves read known profile f (Some id) is =
    let there : is_known_script (sets_of known) id ≡ true =
    (either (is_one_of known.setup_scripts id) (is_one_of known.wrapper_scripts id)).1 (inr is) in
    let whole = iff_trans (with_none profile id (test_parts leaves (meaning_of read f))) (parts_none leaves read f) in
    let same : list_filter leaves (sets_of known) profile (meaning_of read f) (Some id)
    ≡ list_filter_with profile id (test_parts leaves (meaning_of read f)) =
    ap (λ b. cond b (list_filter_with profile id (test_parts leaves (meaning_of read f))) None) there in
    (λ h some. whole.0 (sym same ∙ h), λ h. same ∙ whole.1 (h refl))

-- a script rule names known scripts, and lists without tests
abbrev pub RuleNames : {M K P : Type 0} → Readings M K P → KnownNames → ScriptRuleText → Type 0
RuleNames engines known r = AreKnownScripts known r.scripts × ListsWithoutTests engines r

pub rule_scripts : {M K P : Type 0} (engines : Readings M K P) (known : KnownNames) (name : Name) (id : RuleId)
    (r : ScriptRuleText)
    → ((unknown_scripts_of (sets_of known) name (uses_of r.scripts) ≡ [])
    × ((wrong_scripts_of (sets_of known) name (uses_of r.scripts) ≡ [])
    × (list_filters_of engines.leaves (sets_of known) name (script_rule engines id r) ≡ [])))
    ↔ RuleNames engines known r
rule_scripts engines known name id r =
    let names = iff_trans (uses_serve (sets_of known) name (uses_of r.scripts)) (scripts_known known r.scripts) in
    let lists : AreKnownScripts known r.scripts
    → (list_filters_of engines.leaves (sets_of known) name (script_rule engines id r) ≡ [])
    ↔ ListsWithoutTests engines r =
    λ k. iff_trans (listed_none _)
    (list_filter_none engines.leaves (engines.read_filter DefaultFilter) known name r.filter
    r.scripts.list_wrapper k.list_wrapper) in (
      λ h. let k = names.0 (h.0, h.1.0) in (k, (lists k).0 h.1.1),
      λ k. let n = names.1 k.0 in
          (n.0, (n.1, (lists k.0).1 k.1)),
    )

pub profile_scripts : {M K P : Type 0} (engines : Readings M K P) (known : KnownNames) (source : Source)
    (name : Name) (p : ProfileText)
    → (((rule_script_faults engines.leaves (sets_of known) name
    (layer_profile engines source name p).script_rules).unknown_scripts ≡ [])
    × (((rule_script_faults engines.leaves (sets_of known) name
    (layer_profile engines source name p).script_rules).wrong_scripts ≡ [])
    × ((rule_script_faults engines.leaves (sets_of known) name
    (layer_profile engines source name p).script_rules).list_filters ≡ [])))
    ↔ Each (RuleNames engines known) p.script_rules
profile_scripts {M} {K} engines known source name p =
    let U : Compiled M K ScriptRuleUse → Type 0 = λ r. unknown_scripts_of (sets_of known) name (uses_of r.writes.scripts) ≡ [] in
    let W : Compiled M K ScriptRuleUse → Type 0 = λ r. wrong_scripts_of (sets_of known) name (uses_of r.writes.scripts) ≡ [] in
    let L : Compiled M K ScriptRuleUse → Type 0 = λ r. list_filters_of engines.leaves (sets_of known) name r ≡ [] in
    let rule : ℕ × ScriptRuleText → Compiled M K ScriptRuleUse =
    λ e. script_rule engines (record { source = source; profile = name; index = e.0 }) e.1 in
    let texts = enumerate_from 0 p.script_rules in
    let rules = map rule texts in
    let lists = iff_both (flat_none (λ r. unknown_scripts_of (sets_of known) name (uses_of r.writes.scripts)) rules)
    (iff_both (flat_none (λ r. wrong_scripts_of (sets_of known) name (uses_of r.writes.scripts)) rules)
    (flat_none (list_filters_of engines.leaves (sets_of known) name) rules)) in
    let later = iff_both (λ (h : Each U rules). h, λ (h : Each U rules). h) (iff_sym (each_both W L rules)) in
    iff_trans lists (iff_trans later (iff_trans (iff_sym (each_both U (λ r. W r × L r) rules))
    (iff_trans (each_map rule (λ r. U r × (W r × L r)) texts)
    (iff_trans (each_same (λ e. U (rule e) × (W (rule e) × L (rule e))) (λ e. RuleNames engines known e.1)
    (λ e. rule_scripts engines known name (record { source = source; profile = name; index = e.0 }) e.1) texts)
    (each_numbered (RuleNames engines known) 0 p.script_rules)))))

pub none_of_three : {X Y Z : Type 0} (u : List X) (w : List Y) (l : List Z)
    → (not (not (is_nonempty u || (is_nonempty w || is_nonempty l))) ≡ false)
    ↔ ((u ≡ []) × ((w ≡ []) × (l ≡ [])))
none_of_three [] [] [] = (λ h. (refl, (refl, refl)), λ h. refl)
none_of_three [] [] (z ∷ l) = (λ h. cc, λ h. absurd (cons_is_none h.1.1))
  where
    cons_is_none : {X : Type 0} {x : X} {xs : List X} → x ∷ xs ≡ [] → ⊥
    cons_is_none h = cc
none_of_three [] (y ∷ w) l = (λ h. cc, λ h. absurd (cons_is_none h.1.0))
  where
    cons_is_none : {X : Type 0} {x : X} {xs : List X} → x ∷ xs ≡ [] → ⊥
    cons_is_none h = cc
none_of_three (x ∷ u) w l = (λ h. cc, λ h. absurd (cons_is_none h.0))
  where
    cons_is_none : {X : Type 0} {x : X} {xs : List X} → x ∷ xs ≡ [] → ⊥
    cons_is_none h = cc

pub all_scripts : {M K P : Type 0} (engines : Readings M K P) (known : KnownNames) (source : Source)
    (profiles : List (Name × ProfileText))
    → (script_cause_in engines.leaves (sets_of known)
    (default_first (layer_of engines source profiles).profiles) ≡ None)
    ↔ Each (λ p. Each (RuleNames engines known) p.1.script_rules) profiles
all_scripts {M} {K} engines known source profiles =
    let layer = (layer_of engines source profiles).profiles in
    let order = default_first layer in
    let faults = script_faults_in engines.leaves (sets_of known) order in
    let U : Name × LayerProfile M K → Type 0 =
    λ p. (rule_script_faults engines.leaves (sets_of known) p.0 p.1.script_rules).unknown_scripts ≡ [] in
    let W : Name × LayerProfile M K → Type 0 =
    λ p. (rule_script_faults engines.leaves (sets_of known) p.0 p.1.script_rules).wrong_scripts ≡ [] in
    let L : Name × LayerProfile M K → Type 0 =
    λ p. (rule_script_faults engines.leaves (sets_of known) p.0 p.1.script_rules).list_filters ≡ [] in
    let lists = iff_both (flat_none
    (λ p. (rule_script_faults engines.leaves (sets_of known) p.0 p.1.script_rules).unknown_scripts) order)
    (iff_both (flat_none (λ p.
    (rule_script_faults engines.leaves (sets_of known) p.0 p.1.script_rules).wrong_scripts) order)
    (flat_none (λ p. (rule_script_faults engines.leaves (sets_of known) p.0 p.1.script_rules).list_filters) order)) in
    let later = iff_both (λ (h : Each U order). h, λ (h : Each U order). h) (iff_sym (each_both W L order)) in
    iff_trans (if_true_none (bad_scripts faults (known_scripts (sets_of known))) (not (are_none faults)))
    (iff_trans (none_of_three faults.unknown_scripts faults.wrong_scripts faults.list_filters)
    (iff_trans lists (iff_trans later (iff_trans (iff_sym (each_both U (λ p. W p × L p) order))
    (iff_trans (each_in_order (λ p. U p × (W p × L p)) layer)
    (iff_trans (each_map (λ p. (p.0, layer_profile engines source p.0 p.1)) (λ p. U p × (W p × L p)) profiles)
    (each_same (λ p. U (p.0, layer_profile engines source p.0 p.1)
    × (W (p.0, layer_profile engines source p.0 p.1) × L (p.0, layer_profile engines source p.0 p.1)))
    (λ p. Each (RuleNames engines known) p.1.script_rules) (λ p. profile_scripts engines known source p.0 p.1)
    profiles)))))))
