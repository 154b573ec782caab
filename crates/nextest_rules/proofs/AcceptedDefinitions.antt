-- What a source defines has no fault exactly if it is accepted.
use Rattle.std.proofs.Common.{◌≡◌, ◌↔◌, ◌⊎◌, ⊎_elim, List, [], ◌∷◌, ◌++◌, filter, Bool, true, false, not, ◌&&◌, IsTrue, None, refl, sym, inl, inr}
use Rattle.std.proofs.lemmas.Bool.{false≢true}
use Rattle.nextest_tree.specs.Schema.{is_one_of}
use Rattle.nextest_elements.specs.declared.experimental.ConfigExperimental.{ConfigExperimental}
use Rattle.nextest_elements.specs.declared.experimental.ConfigExperimental.TheVariants.{SetupScripts, WrapperScripts}
use Rattle.nextest_inheritance.specs.Names.{is_reserved}
use Rattle.nextest_sources.specs.Causes.{LoadCause, ill_named_groups, ill_named_scripts, both_script_keys, both_script_kinds, missing_features}
use Rattle.nextest_sources.specs.InputFaults.{Each}
use Rattle.nextest_sources.specs.Sources.{Source, SourceKind}
use Rattle.nextest_sources.specs.Steps.{check, first_fault}
use Rattle.nextest_sources.specs.Warnings.{deprecated_scripts, reserved_profiles}
use Rattle.nextest_tables.specs.FileTexts.{FileText, IsIn, names_in, setup_ids_of, new_ids_of, script_ids_of}
use Rattle.nextest_tables.specs.Written.{Name}
use Rattle.nextest_rules.specs.Accepted.{AreAcceptedDefinitions}
use Rattle.nextest_rules.specs.Definitions.{MayDefine, may_define, Features, forbidden_names, common_names, features_missing, is_nonempty, source_class, needs_feature}
use Rattle.nextest_rules.specs.Steps.{definition_steps, deprecated_steps, reserved_steps, group_name_cause, key_cause, feature_cause, kind_cause, script_name_cause, if_some}
use Rattle.nextest_rules.proofs.Owning.{may_define_law}
use Rattle.nextest_rules.proofs.Passing.{iff_trans, iff_both, both_pass, check_passes, warnings_pass, if_some_none, if_true_none, each_same, filter_none, not_false, is_false}

-- a source may define all names exactly if none is forbidden
may_define_all : (cause : List Name → LoadCause) (kind : SourceKind) (names : List Name)
    → (if_some cause (forbidden_names kind names) ≡ None) ↔ Each (MayDefine kind) names
may_define_all cause kind names =
    iff_trans (if_some_none cause (forbidden_names kind names))
    (iff_trans (filter_none (λ name. not (may_define kind name)) names)
    (each_same (λ name. not (may_define kind name) ≡ false) (MayDefine kind)
    (λ name. iff_trans (not_false (may_define kind name)) (may_define_law kind name)) names))

one_empty : {X Y : Type 0} (xs : List X) (ys : List Y)
    → ((is_nonempty xs && is_nonempty ys) ≡ false) ↔ ((xs ≡ []) ⊎ (ys ≡ []))
one_empty [] ys = (λ h. inl refl, λ h. refl)
one_empty (x ∷ xs) [] = (λ h. inr refl, λ h. refl)
one_empty (x ∷ xs) (y ∷ ys) = (λ h. cc, ⊎_elim (λ h. cc) (λ h. cc))

not_missing : (needs on : Bool) → ((needs && not on) ≡ false) ↔ (IsTrue needs → IsTrue on)
not_missing true true = (λ h n. refl, λ h. refl)
not_missing true false = (λ h n. sym h, λ h. sym (h refl))
not_missing false on = (λ h n. absurd (false≢true n), λ h. refl)

features_are_on : (features : Features) (file : FileText)
    → (features_missing features file ≡ [])
    ↔ ((feature : ConfigExperimental) → IsTrue (needs_feature file feature) → IsTrue (features feature))
features_are_on features file =
    let each = filter_none (λ feature. needs_feature file feature && not (features feature))
    (SetupScripts ∷ WrapperScripts ∷ []) in
    let setup = not_missing (needs_feature file SetupScripts) (features SetupScripts) in
    let wrapper = not_missing (needs_feature file WrapperScripts) (features WrapperScripts) in (
      λ h. both (setup.0 (each.0 h).0) (wrapper.0 (each.0 h).1.0),
      λ on. each.1
          (setup.1 (on SetupScripts), (wrapper.1 (on WrapperScripts), tt)),
    )
  where
    both : (IsTrue (needs_feature file SetupScripts) → IsTrue (features SetupScripts))
        → (IsTrue (needs_feature file WrapperScripts) → IsTrue (features WrapperScripts))
        → (feature : ConfigExperimental) → IsTrue (needs_feature file feature) → IsTrue (features feature)
    both s w SetupScripts = s
    both s w WrapperScripts = w

-- no id is common exactly if none is in the other list
none_common : (cause : List Name → LoadCause) (xs ys : List Name)
    → (if_some cause (common_names xs ys) ≡ None) ↔ Each (λ id. ¬ IsIn ys id) xs
none_common cause xs ys =
    iff_trans (if_some_none cause (common_names xs ys))
    (iff_trans (filter_none (is_one_of ys) xs)
    (each_same (λ id. is_one_of ys id ≡ false) (λ id. ¬ IsIn ys id) (λ id. is_false (is_one_of ys id)) xs))

-- What a source defines has no fault exactly if it is accepted.
pub accepted_definitions : (features : Features) (source : Source) (file : FileText)
    → (first_fault (definition_steps features source file) ≡ None) ↔ AreAcceptedDefinitions features source file
accepted_definitions features source file = (to, from)
  where
    parts : (first_fault (definition_steps features source file) ≡ None)
        ↔ ((group_name_cause source file ≡ None)
        × ((key_cause file ≡ None)
        × ((feature_cause features file ≡ None)
        × ((kind_cause file ≡ None) × (script_name_cause source file ≡ None)))))
    parts =
        let old_key = deprecated_steps source file in
        let later = check source (feature_cause features file) ∷ check source (kind_cause file)
        ∷ check source (script_name_cause source file) ∷ reserved_steps source file in
        let quiet : (first_fault (old_key ++ later) ≡ None) ↔ (first_fault later ≡ None) = (
          λ h. ((both_pass old_key later).0 h).1,
          λ h. (both_pass old_key later).1
              (warnings_pass (λ _. deprecated_scripts source) file.old_setup_scripts, h),
        ) in
        let last : (first_fault (check source (script_name_cause source file) ∷ reserved_steps source file)
        ≡ None) ↔ (script_name_cause source file ≡ None) = (
          λ h. ((check_passes source (script_name_cause source file) (reserved_steps source file)).0 h).0,
          λ h.
              (check_passes source (script_name_cause source file) (reserved_steps source file)).1
              (h, warnings_pass (reserved_profiles source) (filter is_reserved (names_in file.profiles))),
        ) in
        iff_trans (check_passes source (group_name_cause source file)
        (check source (key_cause file) ∷ old_key ++ later))
        (iff_both (λ h. h, λ h. h)
        (iff_trans (check_passes source (key_cause file) (old_key ++ later))
        (iff_both (λ h. h, λ h. h)
        (iff_trans quiet
        (iff_trans (check_passes source (feature_cause features file)
        (check source (kind_cause file) ∷ check source (script_name_cause source file)
        ∷ reserved_steps source file))
        (iff_both (λ h. h, λ h. h)
        (iff_trans (check_passes source (kind_cause file)
        (check source (script_name_cause source file) ∷ reserved_steps source file))
        (iff_both (λ h. h, λ h. h) last))))))))

    to : first_fault (definition_steps features source file) ≡ None → AreAcceptedDefinitions features source file
    to h = let p = parts.0 h in record {
      group_names = (may_define_all (λ names. ill_named_groups (source_class source.kind) (is_one_of names))
          source.kind (names_in file.groups)).0 p.0;
      script_names = (may_define_all (λ names. ill_named_scripts (source_class source.kind) (is_one_of names))
          source.kind (script_ids_of file)).0 p.1.1.1.1;
      one_key = (one_empty file.old_setup_scripts (new_ids_of file)).0
          ((if_true_none both_script_keys
          (is_nonempty file.old_setup_scripts && is_nonempty (new_ids_of file))).0 p.1.0);
      features_on = (features_are_on features file).0
          ((if_some_none missing_features (features_missing features file)).0 p.1.1.0);
      one_kind = (none_common (λ names. both_script_kinds (is_one_of names)) (setup_ids_of file)
          file.wrapper_scripts).0 p.1.1.1.0;
    }

    from : AreAcceptedDefinitions features source file → first_fault (definition_steps features source file) ≡ None
    from a = parts.1 (
      (may_define_all (λ names. ill_named_groups (source_class source.kind) (is_one_of names)) source.kind
          (names_in file.groups)).1 a.group_names,
      (
        (if_true_none both_script_keys
            (is_nonempty file.old_setup_scripts && is_nonempty (new_ids_of file))).1
            ((one_empty file.old_setup_scripts (new_ids_of file)).1 a.one_key),
        (
          (if_some_none missing_features (features_missing features file)).1
              ((features_are_on features file).1 a.features_on),
          (
            (none_common (λ names. both_script_kinds (is_one_of names)) (setup_ids_of file)
                file.wrapper_scripts).1 a.one_kind,
            (may_define_all (λ names. ill_named_scripts (source_class source.kind) (is_one_of names))
                source.kind (script_ids_of file)).1 a.script_names,
          ),
        ),
      ),
    )
