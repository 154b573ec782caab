use Rattle.std.proofs.Common.{◌≡◌, ◌∙◌, ap, false, is_some, subst, sym, true}
use Rattle.std.proofs.lemmas.Map.Lookups.{exact_bytes}
use Rattle.nextest_config.proofs.IsNotFound.{known_in, some_found}
use Rattle.nextest_load.specs.ConfigView.{merged_profile_view}
use Rattle.nextest_tables.specs.FileTexts.{names_in}
use Rattle.nextest_tree.specs.Schema.{is_one_of}
use Rattle.rinqebo_session.proofs.named.known_name.Goals as goal

pub returns-in-Some : goal.returns-in-Some
returns-in-Some c =
    let name = c.args.name.now in
    let same : c.as_str.result.now ≡ name = c.as_str.ensures.value ∙ sym (exact_bytes _ _ c.in-Some.ensures.same_key) in
    let there = sym (known_in merged_profile_view c.profiles.result.now.entries name)
    ∙ some_found (λ p. p.1.now) c.get_key_value.result _ c.get_key_value.ensures.value ∙ ap is_some c.in-Some.is in
    (same, rw same (subst (λ profiles. is_one_of (names_in profiles) name ≡ true) c.profiles.ensures.profiles there))

pub returns-in-None : goal.returns-in-None
returns-in-None c =
    let name = c.args.name.now in
    let absent = sym (known_in merged_profile_view c.profiles.result.now.entries name)
    ∙ some_found (λ p. p.1.now) c.get_key_value.result _ c.get_key_value.ensures.value ∙ ap is_some c.in-None.is in
    subst (λ profiles. is_one_of (names_in profiles) name ≡ false) c.profiles.ensures.profiles absent
