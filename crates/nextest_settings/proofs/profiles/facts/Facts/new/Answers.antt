use Rattle.std.proofs.Common.{◌≡◌, ◌∙◌, ap, refl, Some, map, string_bytes}
use Rattle.nextest_inheritance.specs.Parents.{parents_in}
use Rattle.nextest_settings.specs.Chains.{fields_of}
use Rattle.nextest_settings.specs.Profile.{store_dir_of}
use Rattle.nextest_settings.specs.View.{fields_ref_view}
use Rattle.nextest_inheritance.specs.View.{borrowed_view}
use Rattle.nextest_settings.proofs.profiles.EndsComplete.{ends_complete}
use Rattle.nextest_settings.proofs.profiles.ParentsIn.{parents_written, parents_same, parent_there}
use Rattle.nextest_settings.proofs.profiles.facts.Facts.new.Goals as goal

pub values_of-values-requires : goal.values_of-values-requires
values_of-values-requires g c =
    let profiles = c.args.config.now.config.profiles in
    let written : map fields_ref_view c.in_ok-fields.fields.items
    ≡ fields_of profiles (borrowed_view c.args.names.now) =
    c.in_ok-fields.ensures ∙ ap (λ ps. fields_of ps (borrowed_view c.args.names.now))
    c.profiles-profiles.ensures.profiles in
    let ends = ends_complete profiles c.profiles-profiles.ensures.closed.defaults
    (borrowed_view c.args.names.now) c.requires in
    rw (c.deref.ensures.value, written) ends

pub returns : goal.returns
returns g c = λ chain is.
    let config = c.args.config.now.config in
    let name = c.args.name.now in
    let parent = c.parent_of.ensures
    ∙ ap (λ written. parents_in written name)
    (parents_same c.profiles-profiles.result.now.entries
    ∙ ap parents_written c.profiles-profiles.ensures.profiles) ∙ parent_there config.profiles name in
    let store : Some (string_bytes c.in_ok-join_paths.field-0)
    ≡ store_dir_of c.args.workspace_root.now config.store_dir name =
    rw (← c.store_dir.ensures, c.in_ok-join_paths.ensures, c.deref-2.ensures, c.in_ok-store_dir.ensures) refl in
    let fields = c.in_ok-fields.ensures
    ∙ ap (λ ps. fields_of ps (borrowed_view c.args.names.now)) c.profiles-profiles.ensures.profiles
    ∙ ap (fields_of config.profiles) is in
    λ i. record {
      name = name;
      parent = parent i;
      store_dir = store i;
      groups = c.test_groups.ensures i;
      scripts = c.scripts.ensures i;
      fields = fields i;
    }
