-- What the forms of a file accept has only faults of what is missing or out of range.
use Rattle.std.proofs.Common.{true, refl, Bool, false, inl, inr}
use Rattle.nextest_tree.specs.Leaf.{a_text, any_key}
use Rattle.nextest_tree.specs.Schema.{Schema, map_of}
use Rattle.nextest_elements.specs.IdentifierReader.{identifier_cause}
use Rattle.nextest_elements.specs.TestGroup.{group_fields, group_config}
use Rattle.nextest_scripts.specs.Command.{command_fields, a_command}
use Rattle.nextest_scripts.specs.EnvMap.{env_key_cause, an_env_map}
use Rattle.nextest_scripts.specs.SetupScript.{setup_junit_fields, a_setup_junit, setup_script_fields, a_setup_script}
use Rattle.nextest_scripts.specs.WrapperScript.{wrapper_script_fields, a_wrapper_script}
use Rattle.nextest_tables.specs.Tables.{platform_fields, a_platform, override_fields, an_override, script_ids, script_rule_fields, a_script_rule, scripts_fields, a_scripts_table, profile_fields, a_profile, store_fields, a_store, file_fields, a_file}
use Rattle.nextest_shape.specs.FileForm.{stored_fields, platform_form, override_form, script_rule_form, group_form, command_form, env_form, setup_script_form, wrapper_script_form, by_identifier, scripts_form, some_text, identifier_form, one_or_other, profile_forms, profile_form, profiles_form, command_line_form, store_form, file_form}
use Rattle.nextest_shape.specs.Form.{Form, no_fields, an_array, a_table, of_pattern, any_text}
use Rattle.nextest_tree.specs.Node.{table, Entries}
use Rattle.nextest_shape.specs.Accepts.{Accepts}
use Rattle.nextest_shape.specs.declared.shape.Pattern.TheVariants as patterns
use Rattle.nextest_tree.specs.declared.key.Key.TheVariants as keys
use Rattle.nextest_shape.proofs.Mild.{MildAll, mild_any, mild_struct, mild_or, mild_list, mild_items, mild_map, mild_map_but}
use Rattle.nextest_shape.proofs.MildLeaves.{mild_text, mild_bool, mild_priority, mild_test_threads, mild_threads_required, mild_duration, mild_identifier, mild_test_group, identifier_mild, env_mild, mild_command_line}
use Rattle.nextest_shape.proofs.MildValues.{mild_flaky_result, mild_status_level, mild_final_status_level, mild_output, mild_relative_to, mild_target_runner, mild_slow, mild_setup_timeout, mild_leak, mild_retries, mild_fail_fast, mild_texts, mild_override_junit, mild_profile_junit, mild_override_bench, mild_profile_bench}

-- ---- rules and profiles

mild_platform : MildAll a_platform platform_form
unfolding a_platform
mild_platform =
    mild_or _ _ platform_fields _ _ _ mild_text (λ es a. a) (λ es. tt)
    (refl, mild_text, (refl, mild_text, tt))

mild_override : MildAll an_override override_form
unfolding an_override override_fields override_form
mild_override =
    mild_struct override_fields _ (
      refl,
      mild_platform,
      (
        refl,
        mild_text,
        (
          refl,
          mild_priority,
          (
            refl,
            mild_text,
            (
              refl,
              mild_threads_required,
              (
                refl,
                mild_texts,
                (
                  refl,
                  mild_retries,
                  (
                    refl,
                    mild_flaky_result,
                    (
                      refl,
                      mild_slow true,
                      (
                        refl,
                        mild_leak,
                        (
                          refl,
                          mild_test_group,
                          (
                            refl,
                            mild_output,
                            (
                              refl,
                              mild_output,
                              (
                                refl,
                                mild_override_junit,
                                (refl, mild_override_bench, tt),
                              ),
                            ),
                          ),
                        ),
                      ),
                    ),
                  ),
                ),
              ),
            ),
          ),
        ),
      ),
    )

mild_script_ids : MildAll script_ids (one_or_other identifier_form (an_array 0 identifier_form))
unfolding script_ids
mild_script_ids = mild_items _ _ _ identifier_form identifier_form 0 mild_identifier (λ ns a. a) (λ ns. tt)
    mild_identifier

mild_script_rule : MildAll a_script_rule script_rule_form
unfolding a_script_rule script_rule_form
mild_script_rule =
    mild_struct script_rule_fields _ (
      refl,
      mild_platform,
      (
        refl,
        mild_text,
        (
          refl,
          mild_script_ids,
          (
            refl,
            mild_identifier,
            (refl, mild_identifier, tt),
          ),
        ),
      ),
    )

mild_profile : (r : Bool) → MildAll a_profile (profile_form r)
unfolding profile_fields a_profile profile_form
mild_profile r =
    mild_struct profile_fields (profile_forms r) (
      refl,
      mild_text,
      (
        refl,
        mild_retries,
        (
          refl,
          mild_flaky_result,
          (
            refl,
            mild_test_threads,
            (
              refl,
              mild_threads_required,
              (
                refl,
                mild_texts,
                (
                  refl,
                  mild_status_level,
                  (
                    refl,
                    mild_final_status_level,
                    (
                      refl,
                      mild_output,
                      (
                        refl,
                        mild_output,
                        (
                          refl,
                          mild_fail_fast,
                          (
                            refl,
                            mild_slow r,
                            (
                              refl,
                              mild_duration,
                              (
                                refl,
                                mild_leak,
                                (
                                  refl,
                                  mild_list an_override override_form 0 mild_override,
                                  (
                                    refl,
                                    mild_list a_script_rule script_rule_form 0 mild_script_rule,
                                    (
                                      refl,
                                      mild_profile_junit,
                                      (
                                        refl,
                                        mild_any _,
                                        (
                                          refl,
                                          mild_profile_bench r,
                                          (refl, mild_text, tt),
                                        ),
                                      ),
                                    ),
                                  ),
                                ),
                              ),
                            ),
                          ),
                        ),
                      ),
                    ),
                  ),
                ),
              ),
            ),
          ),
        ),
      ),
    )

mild_profiles : MildAll (map_of any_key a_profile) profiles_form
unfolding profiles_form
mild_profiles =
    mild_map_but any_key any_text keys.Default a_profile (profile_form false) (profile_form true) (λ k h. tt)
    (mild_profile false) (mild_profile true)

-- ---- groups and scripts

mild_group : MildAll group_config group_form
mild_group = mild_struct group_fields _ (refl, mild_test_threads, tt)

mild_env : MildAll an_env_map env_form
unfolding an_env_map
mild_env = mild_map env_key_cause (of_pattern patterns.EnvironmentKey) a_text some_text env_mild mild_text

line_is_no_table : (es : Entries) → Accepts command_line_form (table es) → ⊥
line_is_no_table es (inl a) = a
line_is_no_table es (inr (inl b)) = b
line_is_no_table es (inr (inr c)) = c

mild_command : MildAll a_command command_form
unfolding a_command command_form
mild_command =
    mild_or _ _ command_fields _ command_line_form _ mild_command_line line_is_no_table (λ es. tt)
    (refl, mild_command_line, (refl, mild_env, (refl, mild_relative_to, tt)))

mild_setup_junit : MildAll a_setup_junit (a_table (stored_fields no_fields))
mild_setup_junit = mild_struct setup_junit_fields _ (refl, mild_bool, (refl, mild_bool, tt))

mild_setup_script : MildAll a_setup_script setup_script_form
unfolding a_setup_script setup_script_form
mild_setup_script =
    mild_struct setup_script_fields _ (
      refl,
      mild_command,
      (
        refl,
        mild_setup_timeout,
        (
          refl,
          mild_leak,
          (
            refl,
            mild_bool,
            (
              refl,
              mild_bool,
              (refl, mild_setup_junit, tt),
            ),
          ),
        ),
      ),
    )

mild_wrapper_script : MildAll a_wrapper_script wrapper_script_form
unfolding a_wrapper_script wrapper_script_form
mild_wrapper_script =
    mild_struct wrapper_script_fields _ (refl, mild_command, (refl, mild_target_runner, tt))

by_id : (s : Schema) (f : Form) → MildAll s f → MildAll (map_of identifier_cause s) (by_identifier f)
by_id s f all = mild_map identifier_cause (of_pattern patterns.Identifier) s f identifier_mild all

mild_scripts : MildAll a_scripts_table scripts_form
unfolding a_scripts_table
mild_scripts =
    mild_struct scripts_fields _ (
      refl,
      by_id a_setup_script setup_script_form mild_setup_script,
      (refl, by_id a_wrapper_script wrapper_script_form mild_wrapper_script, tt),
    )

mild_store : MildAll a_store store_form
unfolding a_store
mild_store = mild_struct store_fields _ (refl, mild_text, tt)

-- ---- a whole file

pub file_mild : MildAll a_file file_form
unfolding a_file file_form
file_mild =
    mild_struct file_fields _ (
      refl,
      mild_store,
      (
        refl,
        mild_any _,
        (
          refl,
          mild_any _,
          (
            refl,
            by_id group_config group_form mild_group,
            (
              refl,
              by_id a_setup_script setup_script_form mild_setup_script,
              (
                refl,
                mild_scripts,
                (refl, mild_profiles, tt),
              ),
            ),
          ),
        ),
      ),
    )
