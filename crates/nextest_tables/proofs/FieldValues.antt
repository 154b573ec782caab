-- What a field that may be absent spells, which is empty where it is absent.
use Rattle.std.proofs.Common.{ℕ, List, [], Option, Some, None, option_and_then, unwrap_or, String, Global, Vec, BTreeMap, string_bytes, ◌≡◌}
use Rattle.nextest_tree.specs.declared.key.Key.TheVariants as keys
use Rattle.nextest_tree.specs.Key.{key_text}
use Rattle.nextest_tree.specs.Leaf.{IsText}
use Rattle.nextest_tree.specs.Node.{Node, table, array, text, int, bool, opaque, no_nodes, no_entries, as_array, as_table, as_text, get}
use Rattle.nextest_tree.specs.Reads.{IsOptional, IsList, IsMap, InArray, InTable}
use Rattle.nextest_tables.specs.FileTexts.{text_at_key}
use Rattle.nextest_tables.specs.Values.{AreScripts, IsStore}
use Rattle.nextest_tables.specs.declared.file_table.ScriptsTable.{ScriptsTable}
use Rattle.nextest_tables.specs.declared.file_table.StoreTable.{StoreTable}

-- the items of an array that is there
pub list_there : {X : Type 0} (P : Node → X → Type 0) (o : Option Node) (v : Vec X Global)
    → IsOptional (λ n v. InArray (λ ns xs. IsList P ns xs) n v.items) o (Some v)
    → IsList P (unwrap_or (option_and_then as_array o) no_nodes) v.items
list_there P (Some (array ns)) v h = h
list_there P (Some (table es)) v h = absurd h
list_there P (Some (text t)) v h = absurd h
list_there P (Some (int z)) v h = absurd h
list_there P (Some (bool b)) v h = absurd h
list_there P (Some opaque) v h = absurd h
list_there P None v h = absurd h

-- and none of one that is absent
pub list_absent : {X : Type 0} (P : Node → X → Type 0) (o : Option Node)
    → IsOptional (λ n (v : Vec X Global). InArray (λ ns xs. IsList P ns xs) n v.items) o None
    → IsList P (unwrap_or (option_and_then as_array o) no_nodes) []
list_absent P None h = tt
list_absent P (Some n) h = absurd h

-- the entries of a table that is there
pub map_there : {K X : Type 0} (t : K → List ℕ) (P : Node → X → Type 0) (o : Option Node) (m : BTreeMap K X)
    → IsOptional (λ n m. InTable (λ es xs. IsMap t P es xs) n m.entries) o (Some m)
    → IsMap t P (unwrap_or (option_and_then as_table o) no_entries) m.entries
map_there t P (Some (table es)) m h = h
map_there t P (Some (array ns)) m h = absurd h
map_there t P (Some (text s)) m h = absurd h
map_there t P (Some (int z)) m h = absurd h
map_there t P (Some (bool b)) m h = absurd h
map_there t P (Some opaque) m h = absurd h
map_there t P None m h = absurd h

-- and none of one that is absent
pub map_absent : {K X : Type 0} (t : K → List ℕ) (P : Node → X → Type 0) (o : Option Node)
    → IsOptional (λ n (m : BTreeMap K X). InTable (λ es xs. IsMap t P es xs) n m.entries) o None
    → IsMap t P (unwrap_or (option_and_then as_table o) no_entries) []
map_absent t P None h = tt
map_absent t P (Some n) h = absurd h

-- the scripts of a table that is there
pub scripts_there : (o : Option Node) (x : ScriptsTable) → IsOptional (InTable AreScripts) o (Some x)
    → AreScripts (unwrap_or (option_and_then as_table o) no_entries) x
scripts_there (Some (table es)) x h = h
scripts_there (Some (array ns)) x h = absurd h
scripts_there (Some (text s)) x h = absurd h
scripts_there (Some (int z)) x h = absurd h
scripts_there (Some (bool b)) x h = absurd h
scripts_there (Some opaque) x h = absurd h
scripts_there None x h = absurd h

-- and none of one that is absent
pub scripts_absent : (o : Option Node) (x : ScriptsTable)
    → IsOptional {X = ScriptsTable} (InTable AreScripts) o None → x.setup.entries ≡ []
    → x.wrapper.entries ≡ [] → AreScripts (unwrap_or (option_and_then as_table o) no_entries) x
scripts_absent None x h a b = record { setup = rw a tt; wrapper = rw b tt }
scripts_absent (Some n) x h a b = absurd h

-- the directory of a store
dir_there : (o : Option Node) (s : String Global) → IsOptional IsText o (Some s)
    → Some (string_bytes s) ≡ option_and_then as_text o
dir_there (Some (text t)) s h = cc
dir_there (Some (table es)) s h = cc
dir_there (Some (array ns)) s h = cc
dir_there (Some (int z)) s h = cc
dir_there (Some (bool b)) s h = cc
dir_there (Some opaque) s h = cc
dir_there None s h = absurd h

pub store_there : (o : Option Node) (x : StoreTable) → IsOptional (InTable IsStore) o (Some x)
    → Some (string_bytes x.dir) ≡ option_and_then (text_at_key keys.Dir) o
store_there (Some (table es)) x h = dir_there (get (key_text keys.Dir) es) x.dir h
store_there (Some (array ns)) x h = absurd h
store_there (Some (text s)) x h = absurd h
store_there (Some (int z)) x h = absurd h
store_there (Some (bool b)) x h = absurd h
store_there (Some opaque) x h = absurd h
store_there None x h = absurd h
