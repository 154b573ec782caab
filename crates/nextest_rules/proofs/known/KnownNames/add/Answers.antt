use Rattle.std.proofs.Common.{Some, refl, ap, string_bytes}
use Rattle.std.specs.BTreeSet.{contains_text}
use Rattle.std.proofs.lemmas.Result.{on_ok_weaker}
use Rattle.nextest_elements.specs.TestGroup.{custom_group_text}
use Rattle.nextest_tables.specs.FileTexts.{names_in, setup_ids_of}
use Rattle.nextest_tables.specs.View.{file_table_view, profile_view}
use Rattle.nextest_rules.specs.Known.{known_to, sets_of}
use Rattle.nextest_rules.proofs.Knowing.{keys_named, set_more, two_more, same_sets}
use Rattle.nextest_rules.proofs.known.KnownNames.add.Goals as goal

pub returns : goal.returns
returns c below was =
    let old = c.args.self.now in
    let file = c.args.file.now in
    let f = file_table_view file in
    let groups = set_more (λ f. names_in f.groups) below f (contains_text old.groups)
    (contains_text c.add_names.new.names) _
    (ap (λ k. k.groups) was) c.in_ok-add_names.ensures
    (keys_named custom_group_text (λ g. Some g) file.test_groups.entries) in
    let setup = set_more setup_ids_of below f (contains_text old.setup_scripts)
    (contains_text c.add_names-3.new.names) _
    (ap (λ k. k.setup_scripts) was)
    (two_more (contains_text old.setup_scripts) (contains_text c.add_names-2.new.names)
    (contains_text c.add_names-3.new.names) _ _ c.in_ok-add_names-2.ensures c.in_ok-add_names-3.ensures) refl in
    let wrapper = set_more (λ f. f.wrapper_scripts) below f (contains_text old.wrapper_scripts)
    (contains_text c.add_names-4.new.names) _
    (ap (λ k. k.wrapper_scripts) was) c.in_ok-add_names-4.ensures refl in
    on_ok_weaker c.add_names-5.result
    (λ more. same_sets _ (sets_of (known_to below f)) groups setup wrapper
    (set_more (λ f. names_in f.profiles) below f (contains_text old.profiles) (contains_text c.add_names-5.new.names) _
    (ap (λ k. k.profiles) was) more (keys_named string_bytes profile_view file.profiles.entries)))
    c.add_names-5.ensures
