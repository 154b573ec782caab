-- The forms of a file know all keys of its tables.
use Rattle.std.proofs.Common.{◌≡◌, ℕ, List, [], Bool, true, false, inl, inr, refl}
use Rattle.nextest_tree.specs.declared.key.Key.TheVariants as keys
use Rattle.nextest_tree.specs.Leaf.{a_text, any_key}
use Rattle.nextest_tree.specs.Node.{Node, table, Entries}
use Rattle.nextest_tree.specs.Schema.{Schema, unknown, map_of}
use Rattle.nextest_elements.specs.IdentifierReader.{identifier_cause, an_identifier}
use Rattle.nextest_elements.specs.TestGroup.{group_fields, group_config}
use Rattle.nextest_scripts.specs.Command.{command_fields, a_command}
use Rattle.nextest_scripts.specs.CommandLine.{a_command_line}
use Rattle.nextest_scripts.specs.EnvMap.{env_key_cause, an_env_map}
use Rattle.nextest_scripts.specs.SetupScript.{setup_junit_fields, a_setup_junit, setup_script_fields, a_setup_script}
use Rattle.nextest_scripts.specs.WrapperScript.{wrapper_script_fields, a_wrapper_script}
use Rattle.nextest_tables.specs.Tables.{platform_fields, a_platform, override_fields, an_override, script_ids, script_rule_fields, a_script_rule, profile_fields, a_profile, store_fields, a_store, scripts_fields, a_scripts_table, file_fields, a_file}
use Rattle.nextest_shape.specs.declared.shape.Pattern.TheVariants as patterns
use Rattle.nextest_shape.specs.Accepts.{Accepts}
use Rattle.nextest_shape.specs.FileForm.{stored_fields, platform_form, override_form, script_rule_form, profile_forms, profile_form, profiles_form, group_form, command_form, command_line_form, env_form, setup_script_form, wrapper_script_form, by_identifier, store_form, scripts_form, file_form, some_text, identifier_form, one_or_other}
use Rattle.nextest_shape.specs.Form.{Form, an_array, a_table, any_text, no_fields, of_pattern}
use Rattle.nextest_shape.proofs.Known.{KnowsAll, knows_struct, knows_or, knows_list, knows_items, knows_map, knows_map_but}
use Rattle.nextest_shape.proofs.KnownValues.{known_any, known_text, known_bool, known_duration, known_identifier, known_priority, known_test_threads, known_threads_required, known_test_group, known_flaky_result, known_status_level, known_final_status_level, known_output, known_relative_to, known_target_runner, known_slow, known_setup_timeout, known_leak, known_retries, known_fail_fast, known_texts, known_override_junit, known_profile_junit, known_override_bench, known_profile_bench}

-- ---- rules and profiles

known_platform : KnowsAll a_platform platform_form
unfolding a_platform
known_platform =
    knows_or _ _ platform_fields _ _ _ (known_text _) (λ es a. a)
    (refl, known_text _, (refl, known_text _, tt))

known_override : KnowsAll an_override override_form
unfolding an_override override_fields override_form
known_override =
    knows_struct override_fields _ (
      refl,
      known_platform,
      (
        refl,
        known_text _,
        (
          refl,
          known_priority _,
          (
            refl,
            known_text _,
            (
              refl,
              known_threads_required _,
              (
                refl,
                known_texts,
                (
                  refl,
                  known_retries,
                  (
                    refl,
                    known_flaky_result _,
                    (
                      refl,
                      known_slow true _,
                      (
                        refl,
                        known_leak,
                        (
                          refl,
                          known_test_group _,
                          (
                            refl,
                            known_output _,
                            (
                              refl,
                              known_output _,
                              (
                                refl,
                                known_override_junit,
                                (refl, known_override_bench, tt),
                              ),
                            ),
                          ),
                        ),
                      ),
                    ),
                  ),
                ),
              ),
            ),
          ),
        ),
      ),
    )

identifiers : (q : List ℕ) (n : Node) → unknown an_identifier q n ≡ []
unfolding an_identifier
identifiers q n = refl

known_script_ids : KnowsAll script_ids (one_or_other identifier_form (an_array 0 identifier_form))
unfolding script_ids
known_script_ids = knows_items _ _ _ identifier_form identifier_form 0 identifiers (λ ns a. a) (known_identifier _)

known_script_rule : KnowsAll a_script_rule script_rule_form
unfolding a_script_rule script_rule_form
known_script_rule =
    knows_struct script_rule_fields _ (
      refl,
      known_platform,
      (
        refl,
        known_text _,
        (
          refl,
          known_script_ids,
          (
            refl,
            known_identifier _,
            (refl, known_identifier _, tt),
          ),
        ),
      ),
    )

known_profile : (r : Bool) → KnowsAll a_profile (profile_form r)
unfolding profile_fields a_profile profile_form
known_profile r =
    knows_struct profile_fields (profile_forms r) (
      refl,
      known_text _,
      (
        refl,
        known_retries,
        (
          refl,
          known_flaky_result _,
          (
            refl,
            known_test_threads _,
            (
              refl,
              known_threads_required _,
              (
                refl,
                known_texts,
                (
                  refl,
                  known_status_level _,
                  (
                    refl,
                    known_final_status_level _,
                    (
                      refl,
                      known_output _,
                      (
                        refl,
                        known_output _,
                        (
                          refl,
                          known_fail_fast,
                          (
                            refl,
                            known_slow r _,
                            (
                              refl,
                              known_duration _,
                              (
                                refl,
                                known_leak,
                                (
                                  refl,
                                  knows_list an_override override_form 0 known_override,
                                  (
                                    refl,
                                    knows_list a_script_rule script_rule_form 0 known_script_rule,
                                    (
                                      refl,
                                      known_profile_junit,
                                      (
                                        refl,
                                        known_any _,
                                        (
                                          refl,
                                          known_profile_bench r,
                                          (refl, known_text _, tt),
                                        ),
                                      ),
                                    ),
                                  ),
                                ),
                              ),
                            ),
                          ),
                        ),
                      ),
                    ),
                  ),
                ),
              ),
            ),
          ),
        ),
      ),
    )

known_profiles : KnowsAll (map_of any_key a_profile) profiles_form
unfolding profiles_form
known_profiles =
    knows_map_but any_key any_text keys.Default a_profile (profile_form false) (profile_form true)
    (known_profile false) (known_profile true)

-- ---- groups and scripts

known_group : KnowsAll group_config group_form
known_group = knows_struct group_fields _ (refl, known_test_threads _, tt)

known_line : KnowsAll a_command_line command_line_form
unfolding a_command_line
known_line = knows_items _ a_text _ _ some_text 1 (λ q n. refl) (λ ns a. a) (known_text _)

known_env : KnowsAll an_env_map env_form
unfolding an_env_map
known_env = knows_map env_key_cause (of_pattern patterns.EnvironmentKey) a_text some_text (known_text _)

line_is_no_table : (es : Entries) → Accepts command_line_form (table es) → ⊥
line_is_no_table es (inl a) = a
line_is_no_table es (inr (inl b)) = b
line_is_no_table es (inr (inr c)) = c

known_command : KnowsAll a_command command_form
unfolding a_command command_form
known_command =
    knows_or _ _ command_fields _ command_line_form _ known_line line_is_no_table
    (refl, known_line, (refl, known_env, (refl, known_relative_to _, tt)))

known_setup_junit : KnowsAll a_setup_junit (a_table (stored_fields no_fields))
known_setup_junit = knows_struct setup_junit_fields _ (refl, known_bool _, (refl, known_bool _, tt))

known_setup_script : KnowsAll a_setup_script setup_script_form
unfolding a_setup_script setup_script_form
known_setup_script =
    knows_struct setup_script_fields _ (
      refl,
      known_command,
      (
        refl,
        known_setup_timeout true _,
        (
          refl,
          known_leak,
          (
            refl,
            known_bool _,
            (
              refl,
              known_bool _,
              (refl, known_setup_junit, tt),
            ),
          ),
        ),
      ),
    )

known_wrapper_script : KnowsAll a_wrapper_script wrapper_script_form
unfolding a_wrapper_script wrapper_script_form
known_wrapper_script =
    knows_struct wrapper_script_fields _ (refl, known_command, (refl, known_target_runner _, tt))

by_id : (s : Schema) (f : Form) → KnowsAll s f → KnowsAll (map_of identifier_cause s) (by_identifier f)
by_id s f all = knows_map identifier_cause (of_pattern patterns.Identifier) s f all

known_scripts : KnowsAll a_scripts_table scripts_form
unfolding a_scripts_table
known_scripts =
    knows_struct scripts_fields _ (
      refl,
      by_id a_setup_script setup_script_form known_setup_script,
      (refl, by_id a_wrapper_script wrapper_script_form known_wrapper_script, tt),
    )

known_store : KnowsAll a_store store_form
unfolding a_store
known_store = knows_struct store_fields _ (refl, known_text _, tt)

-- ---- a whole file

pub file_known : KnowsAll a_file file_form
unfolding a_file file_form
file_known =
    knows_struct file_fields _ (
      refl,
      known_store,
      (
        refl,
        known_any _,
        (
          refl,
          known_any _,
          (
            refl,
            by_id group_config group_form known_group,
            (
              refl,
              by_id a_setup_script setup_script_form known_setup_script,
              (
                refl,
                known_scripts,
                (refl, known_profiles, tt),
              ),
            ),
          ),
        ),
      ),
    )
