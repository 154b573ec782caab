use Rattle.std.proofs.Common.{◌≡◌, ◌++◌, map, string_bytes, Global, IsSome, true, sym, ap, subst, ◌∙◌}
use Rattle.std.specs.Option.{option_or}
use Rattle.std.proofs.lemmas.List.{map-append}
use Rattle.nextest_rules.specs.Rules.{at_name}
use Rattle.nextest_places.specs.Standing.{ids_view}
use Rattle.nextest_scripts.specs.ScriptTexts.{setup_script_view, wrapper_script_view}
use Rattle.nextest_tables.specs.Written.{Name}
use Rattle.nextest_tree.specs.Schema.{is_one_of}
use Rattle.nextest_load.specs.ScriptNames.{AreIdsOf, tables_scripts_view}
use Rattle.nextest_load.specs.Scripts.{sections_at, setup_path, old_setup_path, setup_sections, wrapper_sections}
use Rattle.nextest_load.proofs.Defining.{ids_of_both}
use Rattle.nextest_load.proofs.MergedScripts.{each_named, placed_seen, order_seen, lone_named, lone_seen, setup_named, wrappers_named}
use Rattle.nextest_load.proofs.scripts.script_config.Goals as goal

pub returns : goal.returns
returns c ss are spelled =
    let file = tables_scripts_view c.args.script c.args.scripts in
    let names = ids_view c.args.names.setup in
    let old_names = ids_view c.args.names.old_setup in
    let all : map (string_bytes {Z = Global}) c.deref.result.now ≡ names ++ old_names =
    ap (map (string_bytes {Z = Global})) (c.deref.ensures.value ∙ c.in_ok-append.ensures.items)
    ∙ map-append (string_bytes {Z = Global}) c.args.names.setup.items c.args.names.old_setup.items
    in
    let ids : AreIdsOf (setup_sections ss) (map (string_bytes {Z = Global}) c.deref.result.now) =
    subst (AreIdsOf (setup_sections ss)) (sym all)
    (ids_of_both (sections_at setup_path ss) (sections_at old_setup_path ss) names old_names are.setup
    are.old_setup)
    in
    let named : (q : Name) → IsSome (option_or (at_name q file.new_setup) (at_name q file.old_setup))
    → is_one_of (map (string_bytes {Z = Global}) c.deref.result.now) q ≡ true = λ q some.
    ap (λ ns. is_one_of ns q) all ∙ setup_named ss file names old_names spelled are.setup are.old_setup q some
    in
    let wrappers : map (string_bytes {Z = Global}) c.deref-2.result.now ≡ ids_view c.args.names.wrapper =
    ap (map (string_bytes {Z = Global})) c.deref-2.ensures.value in
    let wrapper_ids : AreIdsOf (wrapper_sections ss) (map (string_bytes {Z = Global}) c.deref-2.result.now) =
    subst (AreIdsOf (wrapper_sections ss)) (sym wrappers) are.wrapper in
    let wrapper_named : (q : Name) → IsSome (at_name q file.wrapper)
    → is_one_of (map (string_bytes {Z = Global}) c.deref-2.result.now) q ≡ true = λ q some.
    ap (λ ns. is_one_of ns q) wrappers
    ∙ wrappers_named ss file (ids_view c.args.names.wrapper) spelled are.wrapper q some
    in
    let new_scripts = c.args.scripts.setup.entries in
    let old_scripts = c.args.script.entries in
    let wrapper_scripts = c.args.scripts.wrapper.entries in
    record {
      file = file;
      in_merged_tree = spelled;
      setup = λ id. placed_seen setup_script_view (map (string_bytes {Z = Global}) c.deref.result.now)
          new_scripts old_scripts c.in_ok-setup.setup.entries id
          (c.in_ok-setup.ensures.scripts
          (each_named setup_script_view _ new_scripts old_scripts c.in_ok-setup.setup.entries named) id);
      wrapper = λ id. lone_seen wrapper_script_view (map (string_bytes {Z = Global}) c.deref-2.result.now)
          wrapper_scripts c.new.result.entries c.in_ok-wrapper.wrapper.entries c.new.ensures.empty id
          (c.in_ok-wrapper.ensures.scripts
          (lone_named wrapper_script_view _ wrapper_scripts c.new.result.entries
          c.in_ok-wrapper.wrapper.entries c.new.ensures.empty wrapper_named) id);
      setup_order = order_seen setup_script_view _ new_scripts old_scripts c.in_ok-setup.setup.entries
          (setup_sections ss) ids c.in_ok-setup.ensures.order;
      wrapper_order = order_seen wrapper_script_view _ wrapper_scripts c.new.result.entries
          c.in_ok-wrapper.wrapper.entries (wrapper_sections ss) wrapper_ids c.in_ok-wrapper.ensures.order;
    }
