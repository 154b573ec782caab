-- The forms of profiles and of a whole file fit their schemas, over the table of defaults too.
use Rattle.std.proofs.Common.{◌≡◌, ℕ, List, [], ◌∷◌, true, false, Option, Some, None, Ordering, Less, Equal, Greater, codes, refl, ap, ◌∙◌}
use Rattle.std.specs.Option.{option_map_or}
use Rattle.std.specs.Ordering.{match_ordering}
use Rattle.nextest_tree.specs.declared.key.Key.TheVariants as keys
use Rattle.nextest_tree.specs.Key.{key_text}
use Rattle.nextest_tree.specs.Leaf.{any_key}
use Rattle.nextest_tree.specs.Node.{Node, table, array, text, int, bool, opaque, Entries, no_entries, entry, get}
use Rattle.nextest_tree.specs.Schema.{Schema, is_one_of, faults, unknown, map_of}
use Rattle.nextest_documents.specs.Merge.{over, entries_over}
use Rattle.nextest_documents.proofs.Laying.{cmp, equal_text, laid_over, get-entries_over}
use Rattle.nextest_elements.specs.Bench.{bench_fields, bench}
use Rattle.nextest_elements.specs.Junit.{a_junit, junit_fields}
use Rattle.nextest_elements.specs.SlowTimeout.{slow_fields, slow_timeout}
use Rattle.nextest_tables.specs.Defaults.{store_default, bench_default, junit_default, slow_default, profile_default, profiles_default, defaults, miri_name}
use Rattle.nextest_tables.specs.Tables.{store_fields, a_store, profile_fields, a_profile, file_fields, a_file, an_override, a_script_rule}
use Rattle.nextest_tables.specs.Written.{default_name}
use Rattle.nextest_tables.proofs.Free.{entry_free}
use Rattle.nextest_shape.specs.Accepts.{Accepts, MeetsAt}
use Rattle.nextest_shape.specs.FileForm.{slow_form, slow_words, profile_junit_form, profile_bench_form, profile_forms, profile_form, profiles_form, override_form, script_rule_form, store_form, file_form}
use Rattle.nextest_shape.specs.Form.{Form}
use Rattle.nextest_shape.proofs.Fits.{Fits, FitsOver, FitsUnder, FieldsFit, fits_struct, fits_struct_over, fits_or_over, fits_flat, fits_any, fits_list, entry_known}
use Rattle.nextest_shape.proofs.Leaves.{fits_text, fits_bool, fits_positive, fits_duration, fits_test_threads, fits_threads_required}
use Rattle.nextest_shape.proofs.Tables.{fits_flaky_result, fits_status_level, fits_final_status_level, fits_output, fits_skipped, fits_flaky_status, fits_slow_result, fits_slow, fits_leak, fits_retries, fits_fail_fast, fits_texts, fits_profile_junit, fits_profile_bench, fits_override, fits_script_rule, fits_groups, fits_setup_scripts, fits_scripts}

-- ---- a profile over a table without entries, and over nothing

alone : FieldsFit profile_fields no_entries (profile_forms true)
unfolding profile_fields
alone = (
  refl,
  tt,
  fits_text,
  (
    refl,
    tt,
    fits_retries,
    (
      refl,
      tt,
      fits_flaky_result,
      (
        refl,
        tt,
        fits_test_threads,
        (
          refl,
          tt,
          fits_threads_required,
          (
            refl,
            tt,
            fits_texts,
            (
              refl,
              tt,
              fits_status_level,
              (
                refl,
                tt,
                fits_final_status_level,
                (
                  refl,
                  tt,
                  fits_output,
                  (
                    refl,
                    tt,
                    fits_output,
                    (
                      refl,
                      tt,
                      fits_fail_fast,
                      (
                        refl,
                        tt,
                        fits_slow,
                        (
                          refl,
                          tt,
                          fits_duration,
                          (
                            refl,
                            tt,
                            fits_leak,
                            (
                              refl,
                              tt,
                              fits_list an_override override_form fits_override,
                              (
                                refl,
                                tt,
                                fits_list a_script_rule script_rule_form fits_script_rule,
                                (
                                  refl,
                                  tt,
                                  fits_profile_junit,
                                  (
                                    refl,
                                    tt,
                                    fits_any,
                                    (
                                      refl,
                                      tt,
                                      fits_profile_bench,
                                      (refl, tt, fits_text, tt),
                                    ),
                                  ),
                                ),
                              ),
                            ),
                          ),
                        ),
                      ),
                    ),
                  ),
                ),
              ),
            ),
          ),
        ),
      ),
    ),
  ),
)

fits_profile : Fits a_profile (profile_form true)
unfolding a_profile profile_form
fits_profile = fits_struct profile_fields _ alone

fits_profile_over_none : FitsOver a_profile (table no_entries) (profile_form true)
unfolding a_profile profile_form
fits_profile_over_none = fits_struct_over profile_fields no_entries _ alone

-- ---- the profile `default` over its defaults

slow_over : FitsOver slow_timeout slow_default (slow_form false slow_words)
unfolding key_text slow_default
slow_over =
    fits_or_over _ _ slow_fields _ _ _ _ fits_duration (
      refl,
      tt,
      fits_flat _ _ _ tt fits_duration,
      (
        refl,
        tt,
        fits_positive,
        (
          refl,
          tt,
          fits_duration,
          (refl, tt, fits_flat _ _ _ tt fits_slow_result, tt),
        ),
      ),
    )

period_default : Node
period_default = table (entry (key_text keys.Period) (text (codes "30y")) no_entries)

bench_slow_over : FitsOver slow_timeout period_default (slow_form false slow_words)
unfolding key_text period_default
bench_slow_over =
    fits_or_over _ _ slow_fields _ _ _ _ fits_duration (
      refl,
      tt,
      fits_flat _ _ _ tt fits_duration,
      (
        refl,
        tt,
        fits_positive,
        (
          refl,
          tt,
          fits_duration,
          (refl, tt, fits_slow_result, tt),
        ),
      ),
    )

bench_over : FitsOver bench bench_default (profile_bench_form false)
unfolding key_text bench_default period_default
bench_over =
    fits_struct_over bench_fields _ _
    (refl, tt, bench_slow_over, (refl, tt, fits_flat _ _ _ tt fits_duration, tt))

junit_over : FitsOver a_junit junit_default profile_junit_form
unfolding key_text a_junit junit_default
junit_over =
    fits_struct_over junit_fields _ _ (
      refl,
      tt,
      fits_text,
      (
        refl,
        tt,
        fits_flat _ _ _ tt fits_text,
        (
          refl,
          tt,
          fits_flat _ _ _ tt fits_bool,
          (
            refl,
            tt,
            fits_flat _ _ _ tt fits_bool,
            (
              refl,
              tt,
              fits_flat _ _ _ tt fits_skipped,
              (refl, tt, fits_flat _ _ _ tt fits_flaky_status, tt),
            ),
          ),
        ),
      ),
    )

fits_default : FitsOver a_profile profile_default (profile_form false)
unfolding key_text profile_fields a_profile profile_default profile_form
fits_default =
    fits_struct_over profile_fields _ _ (
      refl,
      tt,
      fits_text,
      (
        refl,
        tt,
        fits_flat _ _ _ tt fits_retries,
        (
          refl,
          tt,
          fits_flat _ _ _ tt fits_flaky_result,
          (
            refl,
            tt,
            fits_flat _ _ _ tt fits_test_threads,
            (
              refl,
              tt,
              fits_flat _ _ _ tt fits_threads_required,
              (
                refl,
                tt,
                fits_flat _ _ _ tt fits_texts,
                (
                  refl,
                  tt,
                  fits_flat _ _ _ tt fits_status_level,
                  (
                    refl,
                    tt,
                    fits_flat _ _ _ tt fits_final_status_level,
                    (
                      refl,
                      tt,
                      fits_flat _ _ _ tt fits_output,
                      (
                        refl,
                        tt,
                        fits_flat _ _ _ tt fits_output,
                        (
                          refl,
                          tt,
                          fits_flat _ _ _ tt fits_fail_fast,
                          (
                            refl,
                            tt,
                            slow_over,
                            (
                              refl,
                              tt,
                              fits_flat _ _ _ tt fits_duration,
                              (
                                refl,
                                tt,
                                fits_flat _ _ _ tt fits_leak,
                                (
                                  refl,
                                  tt,
                                  fits_list an_override override_form fits_override,
                                  (
                                    refl,
                                    tt,
                                    fits_list a_script_rule script_rule_form fits_script_rule,
                                    (
                                      refl,
                                      tt,
                                      junit_over,
                                      (
                                        refl,
                                        tt,
                                        fits_any,
                                        (
                                          refl,
                                          tt,
                                          bench_over,
                                          (refl, tt, fits_text, tt),
                                        ),
                                      ),
                                    ),
                                  ),
                                ),
                              ),
                            ),
                          ),
                        ),
                      ),
                    ),
                  ),
                ),
              ),
            ),
          ),
        ),
      ),
    )

-- ---- the profiles by name

-- the entries of the profiles by default
abbrev profile_entries : Entries
profile_entries = entry default_name profile_default (entry miri_name (table no_entries) no_entries)

-- a profile that lies over what is at its name by default, and is not `default`
other_over : (k : List ℕ) (o : Ordering) → cmp k default_name ≡ o → (k ≡ default_name → ⊥)
    → FitsUnder a_profile (match_ordering o (get k (entry miri_name (table no_entries) no_entries))
    (Some profile_default) (get k (entry miri_name (table no_entries) no_entries))) (profile_form true)
other_over k Less is differs = miri_over k (cmp k miri_name)
  where
    miri_over : (k : List ℕ) (o : Ordering)
        → FitsUnder a_profile (match_ordering o None (Some (table no_entries)) None) (profile_form true)
    miri_over k Less = fits_profile
    miri_over k Equal = fits_profile_over_none
    miri_over k Greater = fits_profile
other_over k Equal is differs = absurd (differs (equal_text k default_name is))
other_over k Greater is differs = miri_over k (cmp k miri_name)
  where
    miri_over : (k : List ℕ) (o : Ordering)
        → FitsUnder a_profile (match_ordering o None (Some (table no_entries)) None) (profile_form true)
    miri_over k Less = fits_profile
    miri_over k Equal = fits_profile_over_none
    miri_over k Greater = fits_profile

under_met : (s : Schema) (f : Form) (p q : List ℕ) (n : Node) (lower : Option Node) → FitsUnder s lower f
    → faults s p (option_map_or (λ d. over n d) lower n) ≡ []
    → unknown s q (option_map_or (λ d. over n d) lower n) ≡ [] → Accepts f n
under_met s f p q n None fit h u = fit.accepts p q n h u
under_met s f p q n (Some d) fit h u = fit.accepts p q n h u

-- a profile of the file over what is at its name by default
profile_met : (k : List ℕ) (n : Node) (f : Form) (p q : List ℕ) (es : Entries) → get k es ≡ Some n
    → FitsUnder a_profile (get k profile_entries) f
    → faults (map_of any_key a_profile) p (table (entries_over es profile_entries)) ≡ []
    → unknown (map_of any_key a_profile) q (table (entries_over es profile_entries)) ≡ [] → Accepts f n
profile_met k n f p q es there fit h u =
    let xs = entries_over es profile_entries in
    let laid : get k xs ≡ Some (option_map_or (λ d. over n d) (get k profile_entries) n) =
    get-entries_over k es profile_entries ∙ ap (λ o. laid_over o (get k profile_entries)) there in
    let free = entry_free any_key a_profile p k xs _ h laid in
    let known = entry_known any_key a_profile q k xs _ u laid in
    under_met a_profile f free.0 known.0 n (get k profile_entries) fit free.1 known.1

default_met : (o : Option Node) (f : Form) → ((n : Node) → o ≡ Some n → Accepts f n) → MeetsAt false (Accepts f) o
default_met None f each = refl
default_met (Some n) f each = each n refl

not_default : (k : List ℕ) → is_one_of (default_name ∷ []) k ≡ false → k ≡ default_name → ⊥
not_default k other same =
    let itself : is_one_of (default_name ∷ []) k ≡ true = rw same refl in
    cc

fits_profiles : FitsOver (map_of any_key a_profile) profiles_default profiles_form
unfolding key_text profiles_default profiles_form
fits_profiles = record { accepts = go }
  where
    go : (p q : List ℕ) (n : Node) → faults (map_of any_key a_profile) p (over n profiles_default) ≡ []
        → unknown (map_of any_key a_profile) q (over n profiles_default) ≡ [] → Accepts profiles_form n
    go p q (table es) h u = (
      (
        default_met (get default_name es) (profile_form false)
            (λ n there. profile_met default_name n (profile_form false) p q es there fits_default h u),
        tt,
      ),
      λ k n there. (
        tt,
        λ other. profile_met k n (profile_form true) p q es there
            (other_over k (cmp k default_name) refl (not_default k other)) h u,
      ),
    )
    go p q (array ns) h u = cc
    go p q (text t) h u = cc
    go p q (int z) h u = cc
    go p q (bool b) h u = cc
    go p q opaque h u = cc

-- ---- a whole file

fits_store : FitsOver a_store store_default store_form
unfolding key_text a_store store_default
fits_store = fits_struct_over store_fields _ _ (refl, tt, fits_flat _ _ _ tt fits_text, tt)

pub file_fits : FitsOver a_file defaults file_form
unfolding key_text a_file defaults file_form
file_fits =
    fits_struct_over file_fields _ _ (
      refl,
      tt,
      fits_store,
      (
        refl,
        tt,
        fits_any,
        (
          refl,
          tt,
          fits_any,
          (
            refl,
            tt,
            fits_groups,
            (
              refl,
              tt,
              fits_setup_scripts,
              (
                refl,
                tt,
                fits_scripts,
                (refl, tt, fits_profiles, tt),
              ),
            ),
          ),
        ),
      ),
    )
