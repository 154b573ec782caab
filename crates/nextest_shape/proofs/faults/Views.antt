-- Places as the schemas that they mean, and their faults.
use Rattle.std.proofs.Common.{◌≡◌, ℕ, List, [], ◌∷◌, ◌++◌, Vec, Box, Global, Option, Some, None, rules, refl, sym, ap, ◌∙◌}
use Rattle.nextest_tree.specs.Node.{Node, table, array, text, int, bool, opaque, Nodes, Entries, as_table, as_array}
use Rattle.nextest_tree.specs.Schema.{FaultCause, Schema, any, leaf, fields, map_of, items_of, Fields, field, append_fields, at, faults, wrong_kind}
use Rattle.nextest_tree.specs.Schema as schemas
use Rattle.nextest_tree.specs.Leaf.{a_text, a_bool}
use Rattle.nextest_elements.specs.IdentifierReader.{an_identifier}
use Rattle.nextest_elements.specs.Nanoseconds.{a_duration}
use Rattle.nextest_elements.specs.FlakyResult.{a_flaky_result}
use Rattle.nextest_elements.specs.Junit.{a_report_skip_policy, a_junit_flaky_fail_status}
use Rattle.nextest_elements.specs.LeakTimeout.{a_leak_result}
use Rattle.nextest_elements.specs.MaxFail.{a_limit}
use Rattle.nextest_elements.specs.Positive.{a_positive}
use Rattle.nextest_elements.specs.RetryPolicy.{a_backoff, a_count}
use Rattle.nextest_elements.specs.SlowTimeout.{a_slow_result}
use Rattle.nextest_elements.specs.StatusLevel.{a_status_level, a_final_status_level}
use Rattle.nextest_elements.specs.TestGroup.{a_test_group}
use Rattle.nextest_elements.specs.TestOutputDisplay.{a_test_output_display}
use Rattle.nextest_elements.specs.TestPriority.{a_priority}
use Rattle.nextest_elements.specs.TestThreads.{a_test_threads}
use Rattle.nextest_elements.specs.ThreadsRequired.{a_threads_required}
use Rattle.nextest_scripts.specs.Command.{a_relative_to}
use Rattle.nextest_scripts.specs.SetupScript.{a_setup_result}
use Rattle.nextest_scripts.specs.WrapperScript.{a_target_runner}
use Rattle.nextest_shape.specs.declared.faults.across.Across.{Across}
use Rattle.nextest_shape.specs.declared.faults.across.AcrossItems.{AcrossItems}
use Rattle.nextest_shape.specs.declared.faults.across.Names.{Names}
use Rattle.nextest_shape.specs.declared.faults.leaf.Leaf.{Leaf}
use Rattle.nextest_shape.specs.declared.faults.leaf.Leaf.TheVariants as leaves
use Rattle.nextest_shape.specs.declared.faults.place.Field.{Field}
use Rattle.nextest_shape.specs.declared.faults.place.Others.{Others}
use Rattle.nextest_shape.specs.declared.faults.place.Place as places
use Rattle.nextest_shape.specs.declared.faults.place.Place.{Place}
use Rattle.nextest_shape.specs.Faults.Places.{across_test, fields_view, items_test, leaf_schema, leaf_test, names_test, need_test, others_view, place_view}

-- some fields, and then others
pub fields_view-append : (xs ys : List (Field Place))
    → fields_view (xs ++ ys) ≡ append_fields (fields_view xs) (fields_view ys)
fields_view-append [] ys = refl
fields_view-append (x ∷ xs) ys =
    ap (field x.key (need_test x.need) (place_view x.place)) (fields_view-append xs ys)

view-Anything : place_view places.Anything ≡ any
view-Anything = search (rules, places.the_lemmas)

-- the schema of a single value has its test
schema-test : (l : Leaf) → leaf_schema l ≡ leaf (leaf_test l)
unfolding a_text a_bool a_duration an_identifier a_test_group a_flaky_result a_status_level a_final_status_level a_test_output_display a_priority a_test_threads a_threads_required a_positive a_limit a_count a_backoff a_leak_result a_slow_result a_setup_result a_report_skip_policy a_junit_flaky_fail_status a_relative_to a_target_runner
schema-test leaves.Text = refl
schema-test leaves.Boolean = refl
schema-test leaves.Duration = refl
schema-test leaves.Identifier = refl
schema-test leaves.TestGroup = refl
schema-test leaves.FlakyResult = refl
schema-test leaves.StatusLevel = refl
schema-test leaves.FinalStatusLevel = refl
schema-test leaves.Output = refl
schema-test leaves.Priority = refl
schema-test leaves.TestThreads = refl
schema-test leaves.ThreadsRequired = refl
schema-test leaves.Positive = refl
schema-test leaves.Limit = refl
schema-test leaves.Count = refl
schema-test leaves.Backoff = refl
schema-test leaves.LeakResult = refl
schema-test leaves.SlowResult = refl
schema-test leaves.SetupResult = refl
schema-test leaves.ReportSkipped = refl
schema-test leaves.FlakyFailStatus = refl
schema-test leaves.RelativeTo = refl
schema-test leaves.TargetRunner = refl
schema-test leaves.CommandLine = refl
schema-test leaves.Table = refl
schema-test leaves.Array = refl

view-Leaf : (l : Leaf) → place_view (places.Leaf l) ≡ leaf_schema l
view-Leaf l = search (rules, places.the_lemmas)

view-Table : (how : Others) (other : Box Place Global) (fs : Vec (Field Place) Global) (across : Across)
    → place_view (places.Table how other fs across)
    ≡ fields (others_view how) (place_view other.value) (fields_view fs.items) (across_test across)
view-Table how other fs across = search (rules, places.the_lemmas)

view-Map : (names : Names) (values : Box Place Global)
    → place_view (places.Map names values) ≡ map_of (names_test names) (place_view values.value)
view-Map names values = search (rules, places.the_lemmas)

view-List : (other items : Box Place Global) (across : AcrossItems)
    → place_view (places.List other items across)
    ≡ items_of (place_view other.value) (place_view items.value) (items_test across)
view-List other items across = search (rules, places.the_lemmas)

-- the node that has these entries
table_of : (n : Node) (es : Entries) → Some es ≡ as_table n → n ≡ table es
table_of (table fs) es is = cc
table_of (array ns) es is = absurd (cc)
table_of (text t) es is = absurd (cc)
table_of (int z) es is = absurd (cc)
table_of (bool b) es is = absurd (cc)
table_of opaque es is = absurd (cc)

-- the node that has these items
array_of : (n : Node) (ns : Nodes) → Some ns ≡ as_array n → n ≡ array ns
array_of (table es) ns is = absurd (cc)
array_of (array ms) ns is = cc
array_of (text t) ns is = absurd (cc)
array_of (int z) ns is = absurd (cc)
array_of (bool b) ns is = absurd (cc)
array_of opaque ns is = absurd (cc)

-- what a function of a schema, a path and a node gives at a place
module _ {A : Type 0} (f : Schema → List ℕ → Node → A) (place : Place) (p : List ℕ) where
  pub of_anything : (n : Node) → place ≡ places.Anything → f any p n ≡ f (place_view place) p n
  of_anything n is = sym (ap (λ s. f s p n) (ap place_view is ∙ view-Anything))

  pub of_leaf : (l : Leaf) (n : Node) → place ≡ places.Leaf l → f (leaf (leaf_test l)) p n ≡ f (place_view place) p n
  of_leaf l n is = sym (ap (λ s. f s p n) (ap place_view is ∙ view-Leaf l ∙ schema-test l))

  pub at_table : (how : Others) (other : Box Place Global) (fs : Vec (Field Place) Global) (across : Across)
      (n : Node) → place ≡ places.Table how other fs across
      → f (fields (others_view how) (place_view other.value) (fields_view fs.items) (across_test across)) p n
      ≡ f (place_view place) p n
  at_table how other fs across n is =
      sym (ap (λ s. f s p n) (ap place_view is ∙ view-Table how other fs across))

  pub at_map : (names : Names) (values : Box Place Global) (n : Node) → place ≡ places.Map names values
      → f (map_of (names_test names) (place_view values.value)) p n ≡ f (place_view place) p n
  at_map names values n is = sym (ap (λ s. f s p n) (ap place_view is ∙ view-Map names values))

  pub at_list : (other items : Box Place Global) (across : AcrossItems) (n : Node)
      → place ≡ places.List other items across
      → f (items_of (place_view other.value) (place_view items.value) (items_test across)) p n
      ≡ f (place_view place) p n
  at_list other items across n is = sym (ap (λ s. f s p n) (ap place_view is ∙ view-List other items across))

  pub of_table : (how : Others) (other : Box Place Global) (fs : Vec (Field Place) Global) (across : Across)
      (n : Node) (es : Entries) → place ≡ places.Table how other fs across → Some es ≡ as_table n
      → f (fields (others_view how) (place_view other.value) (fields_view fs.items) (across_test across)) p (table es)
      ≡ f (place_view place) p n
  of_table how other fs across n es is there =
      at_table how other fs across (table es) is ∙ ap (f (place_view place) p) (sym (table_of n es there))

  pub of_map : (names : Names) (values : Box Place Global) (n : Node) (es : Entries)
      → place ≡ places.Map names values → Some es ≡ as_table n
      → f (map_of (names_test names) (place_view values.value)) p (table es) ≡ f (place_view place) p n
  of_map names values n es is there =
      at_map names values (table es) is ∙ ap (f (place_view place) p) (sym (table_of n es there))

  pub of_list : (other items : Box Place Global) (across : AcrossItems) (n : Node) (ns : Nodes)
      → place ≡ places.List other items across → Some ns ≡ as_array n
      → f (items_of (place_view other.value) (place_view items.value) (items_test across)) p (array ns)
      ≡ f (place_view place) p n
  of_list other items across n ns is there =
      at_list other items across (array ns) is ∙ ap (f (place_view place) p) (sym (array_of n ns there))

module _ (place : Place) (p : List ℕ) where
  other_table : (how : schemas.Others) (s : Schema) (fs : Fields) (across : Entries → Option FaultCause) (n : Node)
      → as_table n ≡ None → faults s p n ≡ faults (fields how s fs across) p n
  other_table how s fs across (table es) none = absurd (cc)
  other_table how s fs across (array ns) none = refl
  other_table how s fs across (text t) none = refl
  other_table how s fs across (int z) none = refl
  other_table how s fs across (bool b) none = refl
  other_table how s fs across opaque none = refl

  pub of_no_table : (how : Others) (other : Box Place Global) (fs : Vec (Field Place) Global) (across : Across)
      (n : Node) → place ≡ places.Table how other fs across → as_table n ≡ None
      → faults (place_view other.value) p n ≡ faults (place_view place) p n
  of_no_table how other fs across n is none =
      other_table (others_view how) (place_view other.value) (fields_view fs.items) (across_test across) n none
      ∙ at_table faults place p how other fs across n is

  other_map : (test : List ℕ → Option FaultCause) (s : Schema) (n : Node) → as_table n ≡ None
      → at p (Some wrong_kind) ≡ faults (map_of test s) p n
  other_map test s (table es) none = absurd (cc)
  other_map test s (array ns) none = refl
  other_map test s (text t) none = refl
  other_map test s (int z) none = refl
  other_map test s (bool b) none = refl
  other_map test s opaque none = refl

  pub of_no_map : (names : Names) (values : Box Place Global) (n : Node) → place ≡ places.Map names values
      → as_table n ≡ None → at p (Some wrong_kind) ≡ faults (place_view place) p n
  of_no_map names values n is none =
      other_map (names_test names) (place_view values.value) n none ∙ at_map faults place p names values n is

  other_list : (s items : Schema) (across : Nodes → Option FaultCause) (n : Node) → as_array n ≡ None
      → faults s p n ≡ faults (items_of s items across) p n
  other_list s items across (table es) none = refl
  other_list s items across (array ns) none = absurd (cc)
  other_list s items across (text t) none = refl
  other_list s items across (int z) none = refl
  other_list s items across (bool b) none = refl
  other_list s items across opaque none = refl

  pub of_no_list : (other items : Box Place Global) (across : AcrossItems) (n : Node)
      → place ≡ places.List other items across → as_array n ≡ None
      → faults (place_view other.value) p n ≡ faults (place_view place) p n
  of_no_list other items across n is none =
      other_list (place_view other.value) (place_view items.value) (items_test across) n none
      ∙ at_list faults place p other items across n is
