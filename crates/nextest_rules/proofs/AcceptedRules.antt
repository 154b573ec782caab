-- The rules of a source have no fault exactly if they are accepted.
use Rattle.std.proofs.Common.{◌≡◌, ◌↔◌, ⊎_elim, ℕ, List, [], ◌∷◌, ◌++◌, length, map, filter, flat_map, Bool, true, false, not, ◌&&◌, ◌||◌, cond, is_some, Option, Some, None, Result, Ok, Err, nat_cmp, refl, ap, subst, inl, inr}
use Rattle.std.specs.Cmp.Lexicographic.{slice_cmp}
use Rattle.std.specs.List.{enumerate_from}
use Rattle.std.specs.List.Sorted.{IsStrictlySortedBy}
use Rattle.std.specs.Map.{keys_of}
use Rattle.std.specs.Option.{option_or}
use Rattle.std.specs.Result.{result_err}
use Rattle.std.proofs.lemmas.Bool.{false≢true}
use Rattle.nextest_tree.specs.Schema.{is_one_of}
use Rattle.nextest_elements.specs.TestGroup.{custom_group_text}
use Rattle.nextest_elements.specs.declared.test_group.TestGroup.{TestGroup}
use Rattle.nextest_elements.specs.declared.test_group.TestGroup.TheVariants as groups
use Rattle.nextest_engines.specs.Engines.{RefusalText}
use Rattle.nextest_engines.specs.Readings.{Readings}
use Rattle.nextest_engines.specs.declared.queries.FiltersetKind.TheVariants.{OverrideFilter, DefaultFilter}
use Rattle.nextest_inheritance.specs.Faults.{is_known, AreSoundParents}
use Rattle.nextest_inheritance.specs.Names.{default_first}
use Rattle.nextest_inheritance.specs.Parents.{parents_in}
use Rattle.nextest_inheritance.proofs.Naming.{sound_parents}
use Rattle.nextest_sources.specs.Causes.{NameSet, CompileCause, RuleSection, in_default_filter, in_override, in_script_rule, two_filters, no_constraint, UnknownGroup, bad_parents, compile_refusals, unknown_groups}
use Rattle.nextest_sources.specs.InputFaults.{Each}
use Rattle.nextest_sources.specs.Sources.{Source}
use Rattle.nextest_sources.specs.Steps.{check, first_fault}
use Rattle.nextest_sources.specs.Warnings.{empty_sections}
use Rattle.nextest_tables.specs.FileTexts.{PlatformText, OverrideText, ScriptRuleText, ProfileText, FileText, names_in}
use Rattle.nextest_tables.specs.Written.{Name}
use Rattle.nextest_rules.specs.Accepted.{IsReadIfWritten, HasConstraint, OverrideCompiles, ScriptRuleCompiles, IsAmong, AreKnownScripts, ListsWithoutTests, IsAcceptedProfile, AreAcceptedRules}
use Rattle.nextest_rules.specs.CompileFaults.{refusal_of, refusal_cause, parse_cause, has_constraint, cause_if, override_cause, override_refusals, script_rule_cause, script_rule_refusals, default_filter_cause, fault_in, override_faults, script_rule_faults, profile_faults, compile_faults}
use Rattle.nextest_rules.specs.Known.{KnownNames, sets_of, with_global}
use Rattle.nextest_rules.specs.RuleFaults.{group_fault, unknown_groups_of, group_faults_in, names_none}
use Rattle.nextest_rules.specs.Rules.{LayerProfile, override_rule, layer_profile, layer_of}
use Rattle.nextest_rules.specs.Steps.{rule_steps, written_parents, parent_cause, compile_cause, group_cause_in, script_cause_in, empty_steps_of, empty_steps_in}
use Rattle.nextest_rules.proofs.Passing.{iff_trans, iff_both, both_pass, check_passes, warnings_pass, if_some_none, none_of_both, each_same, each_both, each_map, flat_none}
use Rattle.nextest_rules.proofs.EachPart.{each_in_order, each_numbered, filter_map_none, either}
use Rattle.nextest_rules.proofs.AcceptedScripts.{RuleNames, all_scripts}

-- ---- compilation

refused_at : {M : Type 0} (r : Result M RefusalText) → (result_err r ≡ None) ↔ ((m : M) × (r ≡ Ok m))
refused_at (Ok m) = (λ h. (m, refl), λ h. refl)
refused_at (Err e) = (λ h. cc, λ h. absurd (err_is_ok e h.0 h.1))
  where
    err_is_ok : {M : Type 0} (e : RefusalText) (m : M) → Err e ≡ Ok m → ⊥
    err_is_ok e m h = cc

-- a text is not refused exactly if it is read, if there is one
read_or_none : {M : Type 0} (read : List ℕ → Result M RefusalText) (t : Option (List ℕ))
    → (refusal_of read t ≡ None) ↔ IsReadIfWritten read t
read_or_none read None = (λ h. tt, λ h. refl)
read_or_none read (Some t) = refused_at (read t)

not_none : {X : Type 0} (x : X) → Some x ≡ None → ⊥
not_none x h = cc

no_refusal : (host target filter default : Option RefusalText)
    → (parse_cause host target filter default ≡ None)
    ↔ ((host ≡ None) × ((target ≡ None) × ((filter ≡ None) × (default ≡ None))))
no_refusal None None None None = (λ h. (refl, (refl, (refl, refl))), λ h. refl)
no_refusal None None None (Some d) = (λ h. cc, λ h. absurd (not_none d h.1.1.1))
no_refusal None None (Some f) default = (λ h. cc, λ h. absurd (not_none f h.1.1.0))
no_refusal None (Some t) filter default = (λ h. cc, λ h. absurd (not_none t h.1.0))
no_refusal (Some h) target filter default = (λ e. cc, λ e. absurd (not_none h e.0))

is_constrained : (platform : PlatformText) (filter : Option (List ℕ))
    → (has_constraint platform filter ≡ true) ↔ HasConstraint platform filter
is_constrained platform filter =
    let later = either (is_some platform.target) (is_some filter) in
    let first = either (is_some platform.host) (is_some platform.target || is_some filter) in (
      λ h. ⊎_elim inl (λ t. ⊎_elim (λ x. inr (inl x)) (λ x. inr (inr x)) (later.0 t)) (first.0 h),
      ⊎_elim (λ x. first.1 (inl x))
          (⊎_elim (λ x. first.1 (inr (later.1 (inl x)))) (λ x. first.1 (inr (later.1 (inr x))))),
    )

guarded : (b : Bool) (cause : CompileCause) (o : Option CompileCause)
    → (cond (not b) (Some cause) o ≡ None) ↔ ((b ≡ true) × (o ≡ None))
guarded true cause o = (λ h. (refl, h), λ p. p.1)
guarded false cause o = (λ h. cc, λ p. absurd (false≢true p.0))

either_cause : {X : Type 0} (a b : Option X) → (option_or a b ≡ None) ↔ ((a ≡ None) × (b ≡ None))
either_cause None b = (λ h. (refl, h), λ p. p.1)
either_cause (Some x) b = (λ h. cc, λ p. p.0)

not_both : (cause : CompileCause) (a b : Bool) → (cause_if cause (a && b) ≡ None) ↔ (¬ ((a ≡ true) × (b ≡ true)))
not_both cause true true = (λ h. cc, λ n. absurd (n (refl, refl)))
not_both cause true false = (λ h p. false≢true p.1, λ n. refl)
not_both cause false b = (λ h p. false≢true p.0, λ n. refl)

override_compiles : {M K P : Type 0} (engines : Readings M K P) (o : OverrideText)
    → (override_cause engines o ≡ None) ↔ OverrideCompiles engines o
override_compiles engines o =
    let texts = override_refusals engines o in
    let outer = guarded (has_constraint o.platform o.filter) (no_constraint (is_some o.default_filter))
    (option_or (refusal_cause texts) (cause_if two_filters (is_some o.filter && is_some o.default_filter))) in
    let inner = either_cause (refusal_cause texts)
    (cause_if two_filters (is_some o.filter && is_some o.default_filter)) in
    let read = no_refusal texts.host texts.target texts.filter texts.default_filter in
    let one = not_both two_filters (is_some o.filter) (is_some o.default_filter) in (
      λ h. record {
        constraint = (is_constrained o.platform o.filter).0 (outer.0 h).0;
        host = (read_or_none engines.read_spec o.platform.host).0 (read.0 (inner.0 (outer.0 h).1).0).0;
        target = (read_or_none engines.read_spec o.platform.target).0 (read.0 (inner.0 (outer.0 h).1).0).1.0;
        filter = (read_or_none (engines.read_filter OverrideFilter) o.filter).0
            (read.0 (inner.0 (outer.0 h).1).0).1.1.0;
        default_filter = (read_or_none (engines.read_filter DefaultFilter) o.default_filter).0
            (read.0 (inner.0 (outer.0 h).1).0).1.1.1;
        one_filter = one.0 (inner.0 (outer.0 h).1).1;
      },
      λ c. outer.1 (
        (is_constrained o.platform o.filter).1 c.constraint,
        inner.1 (
          read.1 (
            (read_or_none engines.read_spec o.platform.host).1 c.host,
            (
              (read_or_none engines.read_spec o.platform.target).1 c.target,
              (
                (read_or_none (engines.read_filter OverrideFilter) o.filter).1 c.filter,
                (read_or_none (engines.read_filter DefaultFilter) o.default_filter).1 c.default_filter,
              ),
            ),
          ),
          one.1 c.one_filter,
        ),
      ),
    )

script_rule_compiles : {M K P : Type 0} (engines : Readings M K P) (r : ScriptRuleText)
    → (script_rule_cause engines r ≡ None) ↔ ScriptRuleCompiles engines r
script_rule_compiles engines r =
    let texts = script_rule_refusals engines r in
    let outer = guarded (has_constraint r.platform r.filter) (no_constraint false) (refusal_cause texts) in
    let read = no_refusal texts.host texts.target texts.filter texts.default_filter in (
      λ h. record {
        constraint = (is_constrained r.platform r.filter).0 (outer.0 h).0;
        host = (read_or_none engines.read_spec r.platform.host).0 (read.0 (outer.0 h).1).0;
        target = (read_or_none engines.read_spec r.platform.target).0 (read.0 (outer.0 h).1).1.0;
        filter = (read_or_none (engines.read_filter DefaultFilter) r.filter).0
            (read.0 (outer.0 h).1).1.1.0;
      },
      λ c. outer.1 (
        (is_constrained r.platform r.filter).1 c.constraint,
        read.1 (
          (read_or_none engines.read_spec r.platform.host).1 c.host,
          (
            (read_or_none engines.read_spec r.platform.target).1 c.target,
            ((read_or_none (engines.read_filter DefaultFilter) r.filter).1 c.filter, refl),
          ),
        ),
      ),
    )

default_filter_compiles : {M K P : Type 0} (engines : Readings M K P) (t : Option (List ℕ))
    → (default_filter_cause engines t ≡ None) ↔ IsReadIfWritten (engines.read_filter DefaultFilter) t
default_filter_compiles engines t =
    let read = no_refusal None None None (refusal_of (engines.read_filter DefaultFilter) t) in (
      λ h. (read_or_none (engines.read_filter DefaultFilter) t).0 (read.0 h).1.1.1,
      λ c. read.1 (refl, (refl, (refl, (read_or_none (engines.read_filter DefaultFilter) t).1 c))),
    )

no_fault_in : (name : Name) (section : RuleSection) (o : Option CompileCause)
    → (fault_in name section o ≡ []) ↔ (o ≡ None)
no_fault_in name section None = (λ h. refl, λ h. refl)
no_fault_in name section (Some c) = (λ h. cc, λ h. cc)

numbered_faults : {X : Type 0} (name : Name) (section : ℕ → RuleSection) (cause : X → Option CompileCause) (xs : List X)
    → (flat_map (λ e. fault_in name (section e.0) (cause e.1)) (enumerate_from 0 xs) ≡ [])
    ↔ Each (λ x. cause x ≡ None) xs
numbered_faults name section cause xs =
    iff_trans (flat_none (λ e. fault_in name (section e.0) (cause e.1)) (enumerate_from 0 xs))
    (iff_trans (each_same (λ e. fault_in name (section e.0) (cause e.1) ≡ []) (λ e. cause e.1 ≡ None)
    (λ e. no_fault_in name (section e.0) (cause e.1)) (enumerate_from 0 xs))
    (each_numbered (λ x. cause x ≡ None) 0 xs))

-- what compiles of a profile
abbrev Compiles : {M K P : Type 0} → Readings M K P → ProfileText → Type 0
Compiles engines p =
    IsReadIfWritten (engines.read_filter DefaultFilter) p.default_filter
    × (Each (OverrideCompiles engines) p.overrides × Each (ScriptRuleCompiles engines) p.script_rules)

profile_compiles : {M K P : Type 0} (engines : Readings M K P) (name : Name) (p : ProfileText)
    → (profile_faults engines name p ≡ []) ↔ Compiles engines p
profile_compiles engines name p =
    let default = fault_in name in_default_filter (default_filter_cause engines p.default_filter) in
    let overrides = override_faults engines name p.overrides in
    let rules = script_rule_faults engines name p.script_rules in
    let outer = none_of_both (default ++ overrides) rules in
    let inner = none_of_both default overrides in
    let d = iff_trans (no_fault_in name _ (default_filter_cause engines p.default_filter))
    (default_filter_compiles engines p.default_filter) in
    let o = iff_trans (numbered_faults name in_override (override_cause engines) p.overrides)
    (each_same (λ x. override_cause engines x ≡ None) (OverrideCompiles engines)
    (override_compiles engines) p.overrides) in
    let s = iff_trans (numbered_faults name in_script_rule (script_rule_cause engines) p.script_rules)
    (each_same (λ x. script_rule_cause engines x ≡ None) (ScriptRuleCompiles engines)
    (script_rule_compiles engines) p.script_rules) in (
      λ h. let both = inner.0 (outer.0 h).0 in
          (d.0 both.0, (o.0 both.1, s.0 (outer.0 h).1)),
      λ c. outer.1 (inner.1 (d.1 c.0, o.1 c.1.0), s.1 c.1.1),
    )

all_compile : {M K P : Type 0} (engines : Readings M K P) (profiles : List (Name × ProfileText))
    → (compile_cause engines profiles ≡ None) ↔ Each (λ p. Compiles engines p.1) profiles
all_compile engines profiles =
    iff_trans (if_some_none compile_refusals (compile_faults engines profiles))
    (iff_trans (flat_none (λ p. profile_faults engines p.0 p.1) (default_first profiles))
    (iff_trans (each_in_order (λ p. profile_faults engines p.0 p.1 ≡ []) profiles)
    (each_same (λ p. profile_faults engines p.0 p.1 ≡ []) (λ p. Compiles engines p.1)
    (λ p. profile_compiles engines p.0 p.1) profiles)))

-- ---- groups

among : (names : List Name) (profile : Name) (o : Option TestGroup)
    → (group_fault (is_one_of names) profile o ≡ None) ↔ IsAmong names o
among names profile None = (λ h. tt, λ h. refl)
among names profile (Some groups.Global) = (λ h. tt, λ h. refl)
among names profile (Some (groups.Custom group)) =
    at (is_one_of names (custom_group_text group)) (record { profile = profile; group = custom_group_text group })
  where
    at : (b : Bool) (fault : UnknownGroup) → (cond {A = Option UnknownGroup} b None (Some fault) ≡ None) ↔ (b ≡ true)
    at true fault = (λ h. refl, λ h. refl)
    at false fault = (λ h. cc, λ h. cc)

profile_groups : {M K P : Type 0} (engines : Readings M K P) (names : List Name) (source : Source)
    (name : Name) (p : ProfileText)
    → (unknown_groups_of (is_one_of names) name (layer_profile engines source name p) ≡ [])
    ↔ Each (λ o. IsAmong names o.settings.test_group) p.overrides
profile_groups engines names source name p =
    let rule = λ (e : ℕ × OverrideText). override_rule engines
    (record { source = source; profile = name; index = e.0 }) e.1 in
    iff_trans (filter_map_none (λ r. group_fault (is_one_of names) name r.writes.settings.test_group)
    (map rule (enumerate_from 0 p.overrides)))
    (iff_trans (each_map rule (λ r. group_fault (is_one_of names) name r.writes.settings.test_group ≡ None)
    (enumerate_from 0 p.overrides))
    (iff_trans (each_numbered (λ o. group_fault (is_one_of names) name o.settings.test_group ≡ None) 0 p.overrides)
    (each_same (λ o. group_fault (is_one_of names) name o.settings.test_group ≡ None)
    (λ o. IsAmong names o.settings.test_group)
    (λ o. among names name o.settings.test_group) p.overrides)))

all_groups : {M K P : Type 0} (engines : Readings M K P) (known : KnownNames) (source : Source)
    (profiles : List (Name × ProfileText))
    → (group_cause_in (sets_of known).groups (default_first (layer_of engines source profiles).profiles) ≡ None)
    ↔ Each (λ p. Each (λ o. IsAmong known.groups o.settings.test_group) p.1.overrides) profiles
all_groups engines known source profiles =
    let layer = (layer_of engines source profiles).profiles in
    iff_trans (if_some_none (λ faults. unknown_groups faults (with_global (is_one_of known.groups)))
    (group_faults_in (is_one_of known.groups) (default_first layer)))
    (iff_trans (flat_none (λ p. unknown_groups_of (is_one_of known.groups) p.0 p.1) (default_first layer))
    (iff_trans (each_in_order (λ p. unknown_groups_of (is_one_of known.groups) p.0 p.1 ≡ []) layer)
    (iff_trans (each_map (λ p. (p.0, layer_profile engines source p.0 p.1))
    (λ p. unknown_groups_of (is_one_of known.groups) p.0 p.1 ≡ []) profiles)
    (each_same (λ p. unknown_groups_of (is_one_of known.groups) p.0 (layer_profile engines source p.0 p.1) ≡ [])
    (λ p. Each (λ o. IsAmong known.groups o.settings.test_group) p.1.overrides)
    (λ p. profile_groups engines known.groups source p.0 p.1) profiles))))

-- ---- the whole

quiet : {M K : Type 0} (source : Source) (order : List (Name × LayerProfile M K))
    → first_fault (empty_steps_in source order) ≡ None
quiet source [] = refl
quiet source (p ∷ order) =
    (both_pass (empty_steps_of source p.0 p.1) (empty_steps_in source order)).1 (
      warnings_pass (λ rules. empty_sections source p.0 (length rules))
          (filter (λ r. names_none r.writes.scripts) p.1.script_rules),
      quiet source order,
    )

parents_named : (profiles : List (Name × ProfileText)) → names_in profiles ≡ keys_of (written_parents profiles)
parents_named [] = refl
parents_named (p ∷ profiles) = ap (λ names. p.0 ∷ names) (parents_named profiles)

all_sound : (lower : NameSet) (profiles : List (Name × ProfileText))
    → IsStrictlySortedBy (slice_cmp nat_cmp) (names_in profiles)
    → (parent_cause lower profiles ≡ None)
    ↔ AreSoundParents (parents_in (written_parents profiles)) (is_known lower (written_parents profiles))
all_sound lower profiles sorted =
    let written = written_parents profiles in
    iff_trans (if_some_none bad_parents _)
    (sound_parents (is_known lower written) written
    (subst (λ names. IsStrictlySortedBy (slice_cmp nat_cmp) names) (parents_named profiles) sorted))

-- The rules of a source have no fault exactly if they are accepted.
pub accepted_rules : {M K P : Type 0} (engines : Readings M K P) (lower : NameSet) (known : KnownNames)
    (source : Source) (file : FileText)
    → IsStrictlySortedBy (slice_cmp nat_cmp) (names_in file.profiles)
    → (first_fault (rule_steps engines lower (sets_of known) source file) ≡ None)
    ↔ AreAcceptedRules engines lower known file
accepted_rules {M} {K} {P} engines lower known source file sorted =
    let order = default_first (layer_of engines source file.profiles).profiles in
    let scripts = script_cause_in engines.leaves (sets_of known) order in
    let last : (first_fault (empty_steps_in source order ++ check source scripts ∷ []) ≡ None) ↔ (scripts ≡ None) = (
      λ h. ((check_passes source scripts []).0
          ((both_pass (empty_steps_in source order) (check source scripts ∷ [])).0 h).1).0,
      λ h. (both_pass (empty_steps_in source order) (check source scripts ∷ [])).1
          (quiet source order, (check_passes source scripts []).1 (h, refl)),
    ) in
    let parts = iff_trans (check_passes source (parent_cause lower file.profiles) _)
    (iff_both (all_sound lower file.profiles sorted)
    (iff_trans (check_passes source (compile_cause engines file.profiles) _)
    (iff_both (all_compile engines file.profiles)
    (iff_trans (check_passes source (group_cause_in (sets_of known).groups order) _)
    (iff_both (all_groups engines known source file.profiles)
    (iff_trans last (all_scripts engines known source file.profiles))))))) in
    let C : Name × ProfileText → Type 0 = λ p. Compiles engines p.1 in
    let G : Name × ProfileText → Type 0 = λ p. Each (λ o. IsAmong known.groups o.settings.test_group) p.1.overrides in
    let S : Name × ProfileText → Type 0 = λ p. Each (RuleNames engines known) p.1.script_rules in
    let inner = each_both G S file.profiles in
    let outer = each_both C (λ p. G p × S p) file.profiles in
    let whole = each_same (λ p. C p × (G p × S p)) (λ p. IsAcceptedProfile engines known p.1)
    (λ p. accepted_profile p.1) file.profiles in (
      λ h. let p = parts.0 h in record { parents = p.0; profiles = whole.0 (outer.1 (p.1.0, inner.1 p.1.1)) },
      λ a. let each = outer.0 (whole.1 a.profiles) in parts.1 (a.parents, (each.0, inner.0 each.1)),
    )
  where
    accepted_profile : (p : ProfileText)
        → (Compiles engines p × (Each (λ o. IsAmong known.groups o.settings.test_group) p.overrides
        × Each (RuleNames engines known) p.script_rules))
        ↔ IsAcceptedProfile engines known p
    accepted_profile p =
        let rules = each_both (λ r. AreKnownScripts known r.scripts) (ListsWithoutTests engines) p.script_rules in (
          λ h. record {
            default_filter = h.0.0;
            overrides = h.0.1.0;
            script_rules = h.0.1.1;
            groups = h.1.0;
            scripts = (rules.0 h.1.1).0;
            lists = (rules.0 h.1.1).1;
          },
          λ a. ((a.default_filter, (a.overrides, a.script_rules)), (a.groups, rules.1 (a.scripts, a.lists))),
        )
