-- What is kept of a table beside its rules, and that the rules are those of the whole table.
use Rattle.std.proofs.Common.{◌≡◌, List, [], ◌∷◌, ◌++◌, filter, Bool, true, false, not, cond, Option, None, Some, IfSome, String, Global, refl, sym, ap, subst, ◌∙◌}
use Rattle.std.specs.BTreeMap.{BTreeMap}
use Rattle.std.specs.List.{flat_map}
use Rattle.std.proofs.lemmas.List.{map-append}
use Rattle.nextest_engines.specs.Readings.{Readings}
use Rattle.nextest_inheritance.specs.Faults.{inheritance_faults}
use Rattle.nextest_inheritance.specs.Names.{default_first, is_default}
use Rattle.nextest_rules.specs.CompileFaults.{compile_faults, profile_faults}
use Rattle.nextest_rules.specs.Known.{KnownSets, known_to, sets_of}
use Rattle.nextest_rules.specs.Rules.{LayerProfile, layer_of, layer_profile}
use Rattle.nextest_rules.specs.Steps.{name_steps, if_some, rule_steps, written_parents}
use Rattle.nextest_sources.specs.Causes.{LoadCause, NameSet, bad_parents, compile_refusals}
use Rattle.nextest_sources.specs.Inputs.{SourceText}
use Rattle.nextest_sources.specs.Sources.{Source}
use Rattle.nextest_sources.specs.Steps.{check}
use Rattle.nextest_sources.specs.InputFaults.{fault_at_source}
use Rattle.nextest_tables.specs.Complete.{HasCompleteDefault, IsMergedTree}
use Rattle.nextest_tables.specs.FileTexts.{FileText, ProfileText, names_in, setup_ids_of, file_text}
use Rattle.nextest_tables.specs.Scripts.{AreFileScripts, file_scripts_view}
use Rattle.nextest_tables.specs.View.{by_name, file_table_view}
use Rattle.nextest_tables.specs.Written.{Name}
use Rattle.nextest_tables.specs.declared.file_table.FileTable.{FileTable}
use Rattle.nextest_tree.specs.Node.{Node}
use Rattle.nextest_tree.specs.Schema.{is_one_of}
use Rattle.nextest_load.specs.ConfigView.{merged_profile_view}
use Rattle.nextest_load.specs.Kept.{IsKept, IsKeptOf, all_without_fields, kept_view, profiles_alone, without_fields, without_profiles}
use Rattle.nextest_load.specs.Loading.{tree_so_far}
use Rattle.nextest_load.specs.Merged.{profiles_of, tables_of}
use Rattle.nextest_load.specs.Steps.{element_cause, profiles_in}
use Rattle.nextest_load.specs.Trees.{merged_tree, own_tree}
use Rattle.nextest_load.specs.declared.kept.KeptTable.{KeptTable}
use Rattle.nextest_load.specs.declared.loaded_config.MergedProfile.{MergedProfile}
use Rattle.nextest_load.proofs.Wholes.{has_defaults}

-- profiles have their parents without their fields too
parents_without : (ps : List (Name × ProfileText)) → written_parents (all_without_fields ps) ≡ written_parents ps
parents_without [] = refl
parents_without (p ∷ ps) = ap (λ qs. (p.0, p.1.parent) ∷ qs) (parents_without ps)

names_without : (ps : List (Name × ProfileText)) → names_in (all_without_fields ps) ≡ names_in ps
names_without [] = refl
names_without (p ∷ ps) = ap (λ names. p.0 ∷ names) (names_without ps)

chosen_without : (b : Bool) (p : Name × ProfileText) (qs rs : List (Name × ProfileText)) → qs ≡ all_without_fields rs
    → cond b ((p.0, without_fields p.1) ∷ qs) qs ≡ all_without_fields (cond b (p ∷ rs) rs)
chosen_without true p qs rs h = ap (λ es. (p.0, without_fields p.1) ∷ es) h
chosen_without false p qs rs h = h

filter_without : (test : Name → Bool) (ps : List (Name × ProfileText))
    → filter (λ e. test e.0) (all_without_fields ps) ≡ all_without_fields (filter (λ e. test e.0) ps)
filter_without test [] = refl
filter_without test (p ∷ ps) = chosen_without (test p.0) p _ (filter (λ e. test e.0) ps) (filter_without test ps)

order_without : (ps : List (Name × ProfileText))
    → default_first (all_without_fields ps) ≡ all_without_fields (default_first ps)
order_without ps =
    (λ i. filter_without is_default ps i ++ filter_without (λ name. not (is_default name)) ps i)
    ∙ sym (map-append (λ p. (p.0, without_fields p.1)) (filter (λ e. is_default e.0) ps)
    (filter (λ e. not (is_default e.0)) ps))

module _ {M K P : Type 0} (engines : Readings M K P) where
  faults_without : (ps : List (Name × ProfileText))
      → flat_map (λ p. profile_faults engines p.0 p.1) (all_without_fields ps)
      ≡ flat_map (λ p. profile_faults engines p.0 p.1) ps
  faults_without [] = refl
  faults_without (p ∷ ps) = ap (λ fs. profile_faults engines p.0 p.1 ++ fs) (faults_without ps)

  -- what compiles doesn't ask for fields
  all_faults_without : (ps : List (Name × ProfileText))
      → compile_faults engines (all_without_fields ps) ≡ compile_faults engines ps
  all_faults_without ps = ap (flat_map (λ p. profile_faults engines p.0 p.1)) (order_without ps)
      ∙ faults_without (default_first ps)

  profiles_without : (source : Source) (ps : List (Name × ProfileText))
      → (layer_of engines source (all_without_fields ps)).profiles ≡ (layer_of engines source ps).profiles
  profiles_without source [] = refl
  profiles_without source (p ∷ ps) =
      let first : Name × LayerProfile M K = (p.0, layer_profile engines source p.0 p.1) in
      ap (λ ls. first ∷ ls) (profiles_without source ps)

  -- and nor do the rules
  pub layer_without : (source : Source) (ps : List (Name × ProfileText))
      → layer_of engines source (all_without_fields ps) ≡ layer_of engines source ps
  layer_without source ps = λ i. record { source = source; profiles = profiles_without source ps i }

  -- so profiles without their fields have the same steps
  pub steps_without : (lower : NameSet) (known : KnownSets) (source : Source) (f : FileText)
      → rule_steps engines lower known source (profiles_alone (all_without_fields f.profiles))
      ≡ rule_steps engines lower known source f
  steps_without lower known source f = λ i.
      check source (if_some bad_parents (inheritance_faults lower (parents_without f.profiles i)))
      ∷ check source (if_some compile_refusals (all_faults_without f.profiles i))
      ∷ name_steps engines.leaves known source (default_first (layer_without source f.profiles i).profiles)

spread : {X : Type 0} (g : FileText → List X) (below : List FileText) (a b c : FileText)
    → g a ++ (g b ++ []) ≡ g c ++ [] → flat_map g ((below ++ a ∷ []) ++ b ∷ []) ≡ flat_map g (below ++ c ∷ [])
spread g [] a b c h = h
spread g (f ∷ below) a b c h = ap (λ xs. g f ++ xs) (spread g below a b c h)

-- a table that goes in two parts, its profiles last, makes the same names known
pub known_in_parts : (below : List FileText) (f : FileText)
    → known_to (below ++ without_profiles f ∷ []) (profiles_alone (all_without_fields f.profiles)) ≡ known_to below f
known_in_parts below f =
    let a = without_profiles f in
    let b = profiles_alone (all_without_fields f.profiles) in
    λ i. record {
      groups = spread (λ file. names_in file.groups) below a b f refl i;
      setup_scripts = spread setup_ids_of below a b f refl i;
      wrapper_scripts = spread (λ file. file.wrapper_scripts) below a b f refl i;
      profiles = spread (λ file. names_in file.profiles) below a b f
          (ap (λ names. names ++ []) (names_without f.profiles)) i;
    }

nothing_more : {X : Type 0} (g : FileText → List X) (below : List FileText) (a : FileText) → g a ≡ []
    → flat_map g (below ++ a ∷ []) ≡ flat_map g below
nothing_more g [] a h = ap (λ xs. xs ++ []) h
nothing_more g (f ∷ below) a h = ap (λ xs. g f ++ xs) (nothing_more g below a h)

-- a table without profiles adds none
pub no_more_profiles : (below : List FileText) (f : FileText)
    → profiles_in (below ++ without_profiles f ∷ []) ≡ profiles_in below
no_more_profiles below f =
    ap is_one_of (nothing_more (λ file. names_in file.profiles) below (without_profiles f) refl)

-- a check that found nothing had no cause
pub no_cause_found : (source : Source) (cause : Option LoadCause) → fault_at_source source cause ≡ None → cause ≡ None
no_cause_found source None h = refl
no_cause_found source (Some c) h = cc

-- what is kept of a table that a tree was read to
pub kept_is : (n : Node) (table : FileTable) (kept : KeptTable) → element_cause n ≡ None
    → file_table_view table ≡ file_text n → AreFileScripts n (file_scripts_view table)
    → ((files : List Node) → IsMergedTree files n → HasCompleteDefault (file_table_view table))
    → IsKeptOf table kept → IsKept n kept
kept_is n table kept sound value scripts complete of = record {
  no_fault = sound;
  means = of.means ∙ ap tables_of value;
  scripts = subst (AreFileScripts n) (sym of.scripts) scripts;
  defaults = λ files merged.
      has_defaults (file_table_view table) (kept_view kept).profiles (ap (λ t. t.profiles) of.means)
      (complete files merged);
}

-- if anything was
pub kept_if : (n : Node) (table : FileTable) → element_cause n ≡ None → file_table_view table ≡ file_text n
    → AreFileScripts n (file_scripts_view table)
    → ((files : List Node) → IsMergedTree files n → HasCompleteDefault (file_table_view table))
    → (kept : Option KeptTable) → IfSome kept (IsKeptOf table) → IfSome kept (IsKept n)
kept_if n table sound value scripts complete None of = tt
kept_if n table sound value scripts complete (Some kept) of = kept_is n table kept sound value scripts complete of

-- the parts of a table that are kept
pub parts_kept : (table rest : FileTable) (profiles : BTreeMap (String Global) MergedProfile)
    → file_table_view rest ≡ without_profiles (file_table_view table)
    → file_scripts_view rest ≡ file_scripts_view table
    → by_name merged_profile_view profiles.entries ≡ profiles_of (file_table_view table).profiles
    → IsKeptOf table (record { rest = rest; profiles = profiles })
parts_kept table rest profiles is scripts kept = record {
  means = λ i. record { store_dir = (is i).store_dir; profiles = kept i; groups = (is i).groups };
  scripts = scripts;
}

-- what is kept of the lowest source
pub lowest_kept : (ss : List SourceText) (s : SourceText) (kept : Option KeptTable) → None ≡ tree_so_far ss
    → IfSome kept (IsKept (own_tree s)) → IfSome kept (IsKept (merged_tree (ss ++ s ∷ [])))
lowest_kept [] s kept none is = is
lowest_kept (t ∷ ss) s kept none is = cc

module _ {M K P : Type 0} (engines : Readings M K P) where
  -- the steps of a table that goes in two parts, its profiles last, are those of the whole table
  pub steps_in_parts : (below : List FileText) (f ruled : FileText) (source : Source)
      → ruled ≡ profiles_alone (all_without_fields f.profiles)
      → rule_steps engines (profiles_in (below ++ without_profiles f ∷ []))
      (sets_of (known_to (below ++ without_profiles f ∷ []) ruled)) source ruled
      ≡ rule_steps engines (profiles_in below) (sets_of (known_to below f)) source f
  steps_in_parts below f ruled source is =
      let alone = profiles_alone (all_without_fields f.profiles) in
      let both = below ++ without_profiles f ∷ [] in
      ap (λ t. rule_steps engines (profiles_in both) (sets_of (known_to both t)) source t) is
      ∙ (λ i. rule_steps engines (no_more_profiles below f i) (sets_of (known_in_parts below f i)) source alone)
      ∙ steps_without engines (profiles_in below) (sets_of (known_to below f)) source f
