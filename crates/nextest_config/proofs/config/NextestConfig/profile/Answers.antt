use Rattle.std.proofs.Common.{◌≡◌, ◌∙◌, ap, sym, is_some, true, false}
use Rattle.std.proofs.lemmas.Map.Lookups.{exact_bytes}
use Rattle.nextest_load.specs.ConfigView.{merged_profile_view}
use Rattle.nextest_tables.specs.FileTexts.{names_in}
use Rattle.nextest_tables.specs.View.{by_name}
use Rattle.nextest_tree.specs.Schema.{is_one_of}
use Rattle.nextest_config.proofs.IsNotFound.{known_in, names_of_view, some_found}
use Rattle.nextest_config.proofs.IsProfileOf.{moved}
use Rattle.nextest_config.proofs.config.NextestConfig.profile.Goals as goal

pub new-requires : goal.new-requires
new-requires g c =
    let es = c.profiles-profiles.result.now.entries in
    let same : c.deref-in-Some.result.now ≡ c.args.name.now =
    c.deref-in-Some.ensures ∙ sym (exact_bytes _ _ c.in-Some.ensures.same_key) in
    let there : is_one_of (names_in (by_name merged_profile_view es)) c.args.name.now ≡ true =
    sym (known_in merged_profile_view es c.args.name.now)
    ∙ some_found (λ p. p.1.now) c.get_key_value.result _ c.get_key_value.ensures.value ∙ ap is_some c.in-Some.is in
    rw (same, ← c.profiles-profiles.ensures.profiles) there

pub returns-in_ok-new-in-Some-clause-known : goal.returns-in_ok-new-in-Some-clause-known
returns-in_ok-new-in-Some-clause-known g c =
    let es = c.profiles-profiles.result.now.entries in
    let there : is_one_of (names_in (by_name merged_profile_view es)) c.args.name.now ≡ true =
    sym (known_in merged_profile_view es c.args.name.now)
    ∙ some_found (λ p. p.1.now) c.get_key_value.result _ c.get_key_value.ensures.value ∙ ap is_some c.in-Some.is in
    rw (← c.self.view_is, ← c.profiles-profiles.ensures.profiles) there

pub returns-in_ok-new-in-Some-clause-found : goal.returns-in_ok-new-in-Some-clause-found
returns-in_ok-new-in-Some-clause-found g c =
    let same : c.deref-in-Some.result.now ≡ c.args.name.now =
    c.deref-in-Some.ensures ∙ sym (exact_bytes _ _ c.in-Some.ensures.same_key) in
    rw (← c.self.view_is) (moved _ _ _ _ _ c.deref.ensures same c.in_ok-new-in-Some.ensures)

pub returns-in_ok-names_of_profiles-in-None-clause-missing : goal.returns-in_ok-names_of_profiles-in-None-clause-missing
returns-in_ok-names_of_profiles-in-None-clause-missing g c =
    let es = c.profiles-profiles.result.now.entries in
    let absent : is_one_of (names_in (by_name merged_profile_view es)) c.args.name.now ≡ false =
    sym (known_in merged_profile_view es c.args.name.now)
    ∙ some_found (λ p. p.1.now) c.get_key_value.result _ c.get_key_value.ensures.value ∙ ap is_some c.in-None.is in
    rw (← c.self.view_is, ← c.profiles-profiles.ensures.profiles) (record {
      same = c.in_ok-from_str-in-None.ensures.ok;
      absent = absent;
      all = c.in_ok-names_of_profiles-in-None.ensures.all ∙ sym (names_of_view merged_profile_view es);
      ascending = c.in_ok-names_of_profiles-in-None.ensures.ascending;
    })
