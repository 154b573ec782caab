-- A profile below which sources write nothing but its parent.
use Rattle.std.proofs.Common.{◌≡◌, ◌≢◌, inl, inr, ◌∙◌, ℕ, List, [], ◌∷◌, map, true, false, Option, None, Some, IsSome, is_some, option_map, option_and_then, unwrap_or, Ordering, Less, Equal, Greater, nat_cmp, sym, ap, subst, refl}
use Rattle.std.proofs.lemmas.Map.Lookups.{exact_bytes}
use Rattle.std.proofs.lemmas.Slice.Eq.{bytes_eq-Decides}
use Rattle.std.specs.Cmp.Lexicographic.{slice_cmp}
use Rattle.std.specs.Str.{bytes_eq}
use Rattle.std.specs.Ordering.{match_ordering}
use Rattle.nextest_documents.specs.Merge.{over, merged}
use Rattle.nextest_documents.proofs.Laying.{laid_over, get-entries_over}
use Rattle.nextest_elements.specs.FlakyResult.{flaky_result_at}
use Rattle.nextest_elements.specs.StatusLevel.{status_level_at, final_status_level_at}
use Rattle.nextest_elements.specs.TestOutputDisplay.{test_output_display_at}
use Rattle.nextest_elements.specs.TestThreads.{test_threads_at}
use Rattle.nextest_elements.specs.ThreadsRequired.{threads_required_at}
use Rattle.nextest_sources.specs.InputFaults.{Each}
use Rattle.nextest_sources.specs.Inputs.{SourceText}
use Rattle.nextest_tables.specs.Defaults.{miri_name, defaults, profiles_default}
use Rattle.nextest_tables.specs.FileTexts.{override_text, script_rule_text, each_node}
use Rattle.nextest_tables.specs.Texts.{at_key, policy_in, arguments_in, slow_in, leak_in, global_in, max_fail_in, report_in, bench_in, fields_in}
use Rattle.nextest_tables.specs.Written.{Name, default_name}
use Rattle.nextest_tree.specs.declared.key.Key.{Key}
use Rattle.nextest_tree.specs.declared.key.Key.TheVariants as keys
use Rattle.nextest_tree.specs.Key.{key_text}
use Rattle.nextest_tree.specs.Leaf.{leaf_at}
use Rattle.nextest_tree.specs.Node.{Node, table, no_nodes, no_entries, get, as_array, as_text, member_of}
use Rattle.nextest_load.specs.Agreement.{node_of_profile, WritesOnlyParent}
use Rattle.nextest_load.specs.Config.{MergedProfile}
use Rattle.nextest_load.specs.Trees.{tree_in, own_tree, merged_tree}
use Rattle.nextest_load.proofs.Keeping.{IfThere, some_either}
use Rattle.nextest_load.proofs.ProfileNodes.{merged_node, parent_node}
use Rattle.nextest_load.proofs.RulesOfNode.{HasNoRules}
use Rattle.nextest_load.proofs.Under.{Leads, profile_over, leads_over, defaults_lead}

-- nothing is there but the parent
abbrev pub OnlyAt : Option Node → Type 0
OnlyAt o = (key : List ℕ) → IsSome (option_and_then (member_of key) o) → key ≡ key_text keys.Inherits

only_both : (a c : Node) → OnlyAt (Some a) → OnlyAt (Some c) → OnlyAt (Some (over a c))
only_both (table xs) (table ys) ha hc key h =
    elim (some_either (get key xs) (get key ys) (rw (get-entries_over key xs ys) at h))
    [ inl x ↦ ha key x | inr y ↦ hc key y ]
only_both a c ha hc key h = ha key h

only_laid : (o r : Option Node) → OnlyAt o → OnlyAt r → OnlyAt (laid_over o r)
only_laid None r ho hr = hr
only_laid (Some a) None ho hr = ho
only_laid (Some a) (Some c) ho hr = only_both a c ho hr

module _ (name : Name) where
  -- the defaults have nothing below it, but for `default`
  found_default : (o : Ordering) (d : Node) (rest : Option Node) → (o ≡ Equal → ⊥) → OnlyAt rest
      → OnlyAt (match_ordering o rest (Some d) rest)
  found_default Less d rest other h = h
  found_default Equal d rest other h = absurd (other refl)
  found_default Greater d rest other h = h

  found_empty : (o : Ordering) → OnlyAt (match_ordering o None (Some (table no_entries)) None)
  found_empty Less key h = absurd cc
  found_empty Equal key h = absurd cc
  found_empty Greater key h = absurd cc

  pub defaults_only : name ≢ default_name → OnlyAt (node_of_profile name defaults)
  unfolding defaults profiles_default key_text
  defaults_only other =
      found_default (slice_cmp nat_cmp name default_name) _ _ (λ e. other (exact_bytes name default_name e))
      (found_empty (slice_cmp nat_cmp name miri_name))

  only_over : (a c : Node) → Leads a → Leads c → OnlyAt (node_of_profile name a)
      → OnlyAt (node_of_profile name c) → OnlyAt (node_of_profile name (over a c))
  only_over a c la lc ha hc =
      subst OnlyAt (sym (profile_over name a c la lc))
      (only_laid (node_of_profile name a) (node_of_profile name c) ha hc)

  pub own_only : name ≢ default_name → (s : SourceText) → Leads (tree_in s)
      → WritesOnlyParent name (tree_in s) → OnlyAt (node_of_profile name (own_tree s))
  own_only other s leads only = only_over (tree_in s) defaults leads defaults_lead only (defaults_only other)

  merged_over : (ss : List SourceText) (base : Node) → Leads base → OnlyAt (node_of_profile name base)
      → Each (λ s. Leads (tree_in s)) ss → Each (λ s. WritesOnlyParent name (tree_in s)) ss
      → OnlyAt (node_of_profile name (merged base (map tree_in ss)))
  merged_over [] base leads only all_lead all_only = only
  merged_over (s ∷ ss) base leads only all_lead all_only =
      merged_over ss (over (tree_in s) base) (leads_over (tree_in s) base all_lead.0 leads)
      (only_over (tree_in s) base all_lead.0 leads all_only.0 only) all_lead.1 all_only.1

  pub merged_only : name ≢ default_name → (ss : List SourceText) → Each (λ s. Leads (tree_in s)) ss
      → Each (λ s. WritesOnlyParent name (tree_in s)) ss → OnlyAt (node_of_profile name (merged_tree ss))
  merged_only other ss all_lead all_only = merged_over ss defaults defaults_lead (defaults_only other) all_lead all_only

-- two texts that are not equal by the test are two texts
pub apart : (a b : List ℕ) → bytes_eq a b ≡ false → a ≡ b → ⊥
apart a b unequal same =
    let yes : bytes_eq a b ≡ true = (bytes_eq-Decides a b).1 same in
    let bad : true ≡ false = sym yes ∙ unequal in absurd cc

-- what such a node says
module _ (n : Node) (only : OnlyAt (Some n)) where
  no_such : (k : Key) (o : Option Node) → at_key k n ≡ o → (key_text k ≡ key_text keys.Inherits → ⊥) → o ≡ None
  no_such k None is apart = refl
  no_such k (Some x) is apart = absurd (apart (only (key_text k) (ap is_some is)))

  absent : (k : Key) → (key_text k ≡ key_text keys.Inherits → ⊥) → at_key k n ≡ None
  absent k apart = no_such k (at_key k n) refl apart

  pub no_fields : fields_in n ≡ fields_in (table no_entries)
  unfolding key_text
  no_fields = λ i. record {
    retries = option_and_then policy_in (absent keys.Retries (apart _ _ refl) i);
    flaky_result = leaf_at flaky_result_at (absent keys.FlakyResult (apart _ _ refl) i);
    test_threads = leaf_at test_threads_at (absent keys.TestThreads (apart _ _ refl) i);
    threads_required = leaf_at threads_required_at (absent keys.ThreadsRequired (apart _ _ refl) i);
    run_extra_args = option_and_then arguments_in (absent keys.RunExtraArgs (apart _ _ refl) i);
    status_level = leaf_at status_level_at (absent keys.StatusLevel (apart _ _ refl) i);
    final_status_level = leaf_at final_status_level_at (absent keys.FinalStatusLevel (apart _ _ refl) i);
    failure_output = leaf_at test_output_display_at (absent keys.FailureOutput (apart _ _ refl) i);
    success_output = leaf_at test_output_display_at (absent keys.SuccessOutput (apart _ _ refl) i);
    max_fail = option_and_then max_fail_in (absent keys.FailFast (apart _ _ refl) i);
    slow_timeout = option_and_then slow_in (absent keys.SlowTimeout (apart _ _ refl) i);
    global_timeout = option_and_then global_in (absent keys.GlobalTimeout (apart _ _ refl) i);
    leak_timeout = option_and_then leak_in (absent keys.LeakTimeout (apart _ _ refl) i);
    junit = option_and_then report_in (absent keys.Junit (apart _ _ refl) i);
    bench = option_and_then bench_in (absent keys.Bench (apart _ _ refl) i);
  }

  pub has_no_rules : HasNoRules n
  unfolding key_text
  has_no_rules = record {
    overrides = ap (λ o. each_node override_text (unwrap_or (option_and_then as_array o) no_nodes))
        (absent keys.Overrides (apart _ _ refl));
    script_rules = ap (λ o. each_node script_rule_text (unwrap_or (option_and_then as_array o) no_nodes))
        (absent keys.Scripts (apart _ _ refl));
    default_filter = ap (option_and_then as_text) (absent keys.DefaultFilter (apart _ _ refl));
  }

pub only_has_none : (o : Option Node) → OnlyAt o → IfThere HasNoRules o
only_has_none None only = tt
only_has_none (Some n) only = has_no_rules n only

-- the merged node of a profile with a parent writes no field
pub only_parent_fields : (parent : Name) (o : Option Node) → OnlyAt o → parent_node o ≡ Some parent
    → option_map (λ (r : MergedProfile). r.fields) (merged_node o) ≡ Some (fields_in (table no_entries))
only_parent_fields parent None only has = absurd cc
only_parent_fields parent (Some n) only has = ap Some (no_fields n only)
