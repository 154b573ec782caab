-- In a file without fault, tables stand where profiles, groups and scripts are defined.
use Rattle.std.proofs.Common.{◌≡◌, ℕ, List, [], ◌∷◌, Bool, true, false, Option, None, Some}
use Rattle.nextest_elements.specs.TestGroup.{group_config}
use Rattle.nextest_scripts.specs.SetupScript.{a_setup_script}
use Rattle.nextest_scripts.specs.WrapperScript.{a_wrapper_script}
use Rattle.nextest_tables.specs.Tables.{a_scripts_table, scripts_fields, file_fields, a_profile, a_file}
use Rattle.nextest_tables.proofs.Free.{struct_free}
use Rattle.nextest_elements.specs.IdentifierReader.{identifier_cause}
use Rattle.nextest_tree.specs.declared.key.Key.{Key}
use Rattle.nextest_tree.specs.declared.key.Key.TheVariants as keys
use Rattle.nextest_tree.specs.Key.{key_text}
use Rattle.nextest_tree.specs.Leaf.{any_key}
use Rattle.nextest_tree.specs.Node.{Node, table, array, text, int, bool, opaque, get}
use Rattle.nextest_tree.specs.Schema.{FaultCause, Schema, map_of, below, faults, field_faults}
use Rattle.nextest_load.proofs.Keeping.{IfThere, IsTable, LeadsAlong}

map_table : (test : List ℕ → Option FaultCause) (s : Schema) (p : List ℕ) (n : Node)
    → faults (map_of test s) p n ≡ [] → IsTable n
map_table test s p (table es) h = tt
map_table test s p (array ns) h = cc
map_table test s p (text t) h = cc
map_table test s p (int z) h = cc
map_table test s p (bool b) h = cc
map_table test s p opaque h = cc

-- what is at a field without fault
map_field : (k : Key) (must : Bool) (test : List ℕ → Option FaultCause) (s : Schema) (p : List ℕ)
    (o : Option Node) → field_faults k must (faults (map_of test s)) p o ≡ [] → IfThere IsTable o
unfolding field_faults
map_field k must test s p None h = tt
map_field k must test s p (Some n) h = map_table test s (below p (key_text k)) n h

-- tables lead to setup scripts and to wrapper scripts under `scripts`
abbrev ScriptsLead : Node → Type 0
ScriptsLead n = LeadsAlong (key_text keys.Setup ∷ []) n × LeadsAlong (key_text keys.Wrapper ∷ []) n

scripts_lead : (p : List ℕ) (n : Node) → faults a_scripts_table p n ≡ [] → ScriptsLead n
unfolding a_scripts_table
scripts_lead p (table es) h =
    let free = struct_free scripts_fields p es h in (
      (tt, map_field keys.Setup false identifier_cause a_setup_script p (get (key_text keys.Setup) es) free.0),
      (tt, map_field keys.Wrapper false identifier_cause a_wrapper_script p (get (key_text keys.Wrapper) es) free.1.0),
    )
scripts_lead p (array ns) h = cc
scripts_lead p (text t) h = cc
scripts_lead p (int z) h = cc
scripts_lead p (bool b) h = cc
scripts_lead p opaque h = cc

scripts_field : (p : List ℕ) (o : Option Node)
    → field_faults keys.Scripts false (faults a_scripts_table) p o ≡ [] → IfThere ScriptsLead o
unfolding field_faults
scripts_field p None h = tt
scripts_field p (Some n) h = scripts_lead (below p (key_text keys.Scripts)) n h

first_lead : (o : Option Node) → IfThere ScriptsLead o → IfThere (LeadsAlong (key_text keys.Setup ∷ [])) o
first_lead None h = tt
first_lead (Some n) h = h.0

second_lead : (o : Option Node) → IfThere ScriptsLead o → IfThere (LeadsAlong (key_text keys.Wrapper ∷ [])) o
second_lead None h = tt
second_lead (Some n) h = h.1

-- Tables lead to the profiles, to the groups and to all scripts of a tree.
pub record LeadsToNames (n : Node) : Type 0 where
  pub profiles : LeadsAlong (key_text keys.Profile ∷ []) n
  pub groups : LeadsAlong (key_text keys.TestGroups ∷ []) n
  pub old_setup : LeadsAlong (key_text keys.Script ∷ []) n
  pub new_setup : LeadsAlong (key_text keys.Scripts ∷ key_text keys.Setup ∷ []) n
  pub wrapper : LeadsAlong (key_text keys.Scripts ∷ key_text keys.Wrapper ∷ []) n

-- so they do in a file without fault
pub readable_leads : (n : Node) → faults a_file [] n ≡ [] → LeadsToNames n
unfolding a_file
readable_leads (table es) h =
    let free = struct_free file_fields [] es h in
    let scripts = scripts_field [] (get (key_text keys.Scripts) es) free.1.1.1.1.1.0 in record {
      profiles = (
        tt,
        map_field keys.Profile true any_key a_profile [] (get (key_text keys.Profile) es)
            free.1.1.1.1.1.1.0,
      );
      groups = (
        tt,
        map_field keys.TestGroups false identifier_cause group_config []
            (get (key_text keys.TestGroups) es) free.1.1.1.0,
      );
      old_setup = (
        tt,
        map_field keys.Script false identifier_cause a_setup_script []
            (get (key_text keys.Script) es) free.1.1.1.1.0,
      );
      new_setup = (tt, first_lead (get (key_text keys.Scripts) es) scripts);
      wrapper = (tt, second_lead (get (key_text keys.Scripts) es) scripts);
    }
readable_leads (array ns) h = cc
readable_leads (text t) h = cc
readable_leads (int z) h = cc
readable_leads (bool b) h = cc
readable_leads opaque h = cc
