-- What a configuration keeps of the merged tree.
use Rattle.std.proofs.Common.{◌≡◌, List, [], ◌∷◌, ◌++◌, ◌||◌, map, String, Global, string_bytes, None, refl, ap, ◌∙◌}
use Rattle.std.proofs.lemmas.List.Folds.{list_any-append}
use Rattle.std.specs.Str.{bytes_eq}
use Rattle.nextest_inheritance.specs.View.{parents_view}
use Rattle.nextest_rules.specs.Steps.{written_parents}
use Rattle.nextest_sources.specs.Endings.{Ending, passed, error_view, Found, Ran}
use Rattle.nextest_sources.specs.InputFaults.{fault_at_source}
use Rattle.nextest_sources.specs.Sources.{Source}
use Rattle.nextest_sources.specs.Steps.{check}
use Rattle.nextest_sources.specs.Warnings.{Warning}
use Rattle.nextest_sources.specs.declared.error.ConfigParseError.{ConfigParseError}
use Rattle.nextest_sources.proofs.Runs.{ran_check, ran_first, ran_next}
use Rattle.nextest_rules.specs.Steps.{parent_cause}
use Rattle.nextest_tables.specs.FileTexts.{ProfileText, file_text}
use Rattle.nextest_tables.specs.View.{by_name}
use Rattle.nextest_tables.specs.Written.{Name}
use Rattle.nextest_tree.specs.Node.{Node}
use Rattle.nextest_tree.specs.Schema.{is_one_of}
use Rattle.nextest_load.specs.ConfigView.{merged_profile_view}
use Rattle.nextest_load.specs.Merged.{parent_in, profiles_of}
use Rattle.nextest_load.specs.Steps.{element_cause, no_profiles, tree_steps}
use Rattle.nextest_load.specs.declared.loaded_config.MergedProfile.{MergedProfile}

-- profiles that are seen have the parents that they write
parents_are : (es : List (String Global × MergedProfile))
    → parents_view parent_in es ≡ map (λ p. (p.0, p.1.parent)) (by_name merged_profile_view es)
parents_are [] = refl
parents_are (e ∷ es) = ap (λ ps. (string_bytes e.0, parent_in e.1) ∷ ps) (parents_are es)

pub parents_of : (ps : List (Name × ProfileText)) → map (λ p. (p.0, p.1.parent)) (profiles_of ps) ≡ written_parents ps
parents_of [] = refl
parents_of (p ∷ ps) = ap (λ qs. (p.0, p.1.parent) ∷ qs) (parents_of ps)

pub parents_seen : (es : List (String Global × MergedProfile)) (ps : List (Name × ProfileText))
    → by_name merged_profile_view es ≡ profiles_of ps → parents_view parent_in es ≡ written_parents ps
parents_seen es ps same = parents_are es ∙ ap (map (λ p. (p.0, p.1.parent))) same ∙ parents_of ps

-- the names of two lists
pub one_of_both : (xs ys : List Name) (id : Name) → is_one_of (xs ++ ys) id ≡ (is_one_of xs id || is_one_of ys id)
one_of_both xs ys id = list_any-append (λ name. bytes_eq name id) xs ys

module _ (repository : Source) (n : Node) (told : List Warning) where
  -- the merged tree ended a load: by its elements
  pub elements_ended : (e : ConfigParseError)
      → Found (fault_at_source repository (element_cause n)) (error_view e)
      → Ran (tree_steps repository n) told told (error_view e)
  elements_ended e found = ran_first (check repository (element_cause n) ∷ []) _ told told e
      (ran_check repository (element_cause n) told told (error_view e) refl found)

  -- or it ended as its parents did
  pub parents_ended : (o : Ending) → fault_at_source repository (element_cause n) ≡ None
      → Found (fault_at_source repository (parent_cause no_profiles (file_text n).profiles)) o
      → Ran (tree_steps repository n) told told o
  parents_ended o passes found =
      let parents = parent_cause no_profiles (file_text n).profiles in
      ran_next (check repository (element_cause n) ∷ []) (check repository parents ∷ []) told told told o
      (ran_check repository (element_cause n) told told passed refl passes)
      (ran_check repository parents told told o refl found)
