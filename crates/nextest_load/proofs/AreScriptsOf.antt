-- The scripts of sources stay where their merged trees agree on all that is outside of profiles.
use Rattle.std.proofs.Common.{◌≡◌, ◌≢◌, ◌∙◌, List, option_and_then, unwrap_or, refl, sym, ap, subst}
use Rattle.std.specs.Option.{option_or}
use Rattle.nextest_rules.specs.Rules.{at_name}
use Rattle.nextest_scripts.specs.ScriptTexts.{SpellsSetupScript, SpellsWrapperScript}
use Rattle.nextest_scripts.proofs.SpellsSetupScript.{same_setup}
use Rattle.nextest_scripts.proofs.SpellsWrapperScript.{same_wrapper}
use Rattle.nextest_sources.specs.Inputs.{SourceText}
use Rattle.nextest_tables.specs.FileTexts.{scripts_table}
use Rattle.nextest_tables.specs.Scripts.{SpellByName}
use Rattle.nextest_tables.specs.Texts.{entries_at}
use Rattle.nextest_tables.specs.Written.{Name}
use Rattle.nextest_tables.proofs.SpellByName.{same_scripts}
use Rattle.nextest_tree.specs.declared.key.Key.TheVariants as keys
use Rattle.nextest_tree.specs.Key.{key_text}
use Rattle.nextest_tree.specs.Node.{table, no_entries, as_table}
use Rattle.nextest_load.specs.Config.{ScriptTables}
use Rattle.nextest_load.specs.Scripts.{AreScriptsOf}
use Rattle.nextest_load.specs.Trees.{merged_tree}
use Rattle.nextest_load.proofs.Agreement.{Alike}
use Rattle.nextest_load.proofs.WritesOnlyParent.{apart}

scripts_stay : key_text keys.Scripts ≢ key_text keys.Profile
unfolding key_text
scripts_stay = apart (key_text keys.Scripts) (key_text keys.Profile) refl

script_stays : key_text keys.Script ≢ key_text keys.Profile
unfolding key_text
script_stays = apart (key_text keys.Script) (key_text keys.Profile) refl

module _ (names : List Name) (ss ts : List SourceText) (whole : Alike names (merged_tree ss) (merged_tree ts))
    (a b : ScriptTables) (sa : AreScriptsOf ss a) (sb : AreScriptsOf ts b) where
  wrapper_entries : entries_at keys.Wrapper (scripts_table (merged_tree ss))
      ≡ entries_at keys.Wrapper (scripts_table (merged_tree ts))
  wrapper_entries = ap (λ o. entries_at keys.Wrapper (unwrap_or o (table no_entries)))
      (whole.elsewhere (key_text keys.Scripts) scripts_stay)

  new_entries : entries_at keys.Setup (scripts_table (merged_tree ss))
      ≡ entries_at keys.Setup (scripts_table (merged_tree ts))
  new_entries = ap (λ o. entries_at keys.Setup (unwrap_or o (table no_entries)))
      (whole.elsewhere (key_text keys.Scripts) scripts_stay)

  old_entries : entries_at keys.Script (merged_tree ss) ≡ entries_at keys.Script (merged_tree ts)
  old_entries = ap (λ o. unwrap_or (option_and_then as_table o) no_entries)
      (whole.elsewhere (key_text keys.Script) script_stays)

  -- the same wrapper script under each id
  pub wrappers_stay : (id : Name) → at_name id a.wrapper ≡ at_name id b.wrapper
  wrappers_stay id =
      let there : SpellByName SpellsWrapperScript (entries_at keys.Wrapper (scripts_table (merged_tree ts)))
      sa.file.wrapper =
      subst (λ es. SpellByName SpellsWrapperScript es sa.file.wrapper) wrapper_entries sa.in_merged_tree.wrapper
      in
      sa.wrapper id ∙ ap (at_name id)
      (same_scripts SpellsWrapperScript same_wrapper _ sa.file.wrapper sb.file.wrapper there
      sb.in_merged_tree.wrapper) ∙ sym (sb.wrapper id)

  -- the same setup script under each id
  pub setups_stay : (id : Name) → at_name id a.setup ≡ at_name id b.setup
  setups_stay id =
      let new = same_scripts SpellsSetupScript same_setup _ sa.file.new_setup sb.file.new_setup
      (subst (λ es. SpellByName SpellsSetupScript es sa.file.new_setup) new_entries
      sa.in_merged_tree.new_setup) sb.in_merged_tree.new_setup in
      let old = same_scripts SpellsSetupScript same_setup _ sa.file.old_setup sb.file.old_setup
      (subst (λ es. SpellByName SpellsSetupScript es sa.file.old_setup) old_entries
      sa.in_merged_tree.old_setup) sb.in_merged_tree.old_setup in
      sa.setup id ∙ (λ i. option_or (at_name id (new i)) (at_name id (old i))) ∙ sym (sb.setup id)
