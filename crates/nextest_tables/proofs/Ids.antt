-- The ids of scripts that a node spells: one, or a list of them.
use Rattle.std.proofs.Common.{◌≡◌, ℕ, List, [], ◌∷◌, map, Bool, true, false, cond, Option, Some, None, Ok, Err, refl, ap}
use Rattle.nextest_tree.specs.Node.{Node, table, array, text, int, bool, opaque, Nodes, no_nodes, node, as_text}
use Rattle.nextest_tree.specs.Reads.{IsOptional, IsList}
use Rattle.nextest_tree.specs.Schema.{FaultCause, bad_value}
use Rattle.nextest_elements.specs.Identifier.{is_identifier}
use Rattle.nextest_elements.specs.IdentifierReader.{identifier_expected}
use Rattle.nextest_scripts.specs.declared.script_id.ScriptId.{ScriptId}
use Rattle.nextest_scripts.specs.ScriptId.{script_text}
use Rattle.nextest_scripts.specs.ScriptIdReader.{IsScriptId}
use Rattle.nextest_tables.specs.FileTexts.{ids_in, ids_at}
use Rattle.nextest_tables.specs.Texts.{texts_in}

by_test : (b : Bool) (s t : List ℕ) (c : FaultCause) → cond b (Ok s) (Err c) ≡ Ok t → t ≡ s
by_test true s t c h = cc
by_test false s t c h = cc

-- the text of an id is the one that spells it
pub id_text : (n : Node) (id : ScriptId) → IsScriptId n id → Some (script_text id) ≡ as_text n
id_text (text s) id h = ap Some (by_test (is_identifier s) s (script_text id) (bad_value s identifier_expected) h)
id_text (table es) id h = cc
id_text (array ns) id h = cc
id_text (int z) id h = cc
id_text (bool b) id h = cc
id_text opaque id h = cc

-- one id
pub one_id : (s : List ℕ) (id : ScriptId) → IsScriptId (text s) id → script_text id ∷ [] ≡ ids_in (text s)
one_id s id h = ap (λ t. t ∷ []) (by_test (is_identifier s) s (script_text id) (bad_value s identifier_expected) h)

each_id : (ns : Nodes) (ids : List ScriptId) → IsList IsScriptId ns ids → Some (map script_text ids) ≡ texts_in ns
each_id no_nodes [] h = refl
each_id (node n ns) (id ∷ ids) h = let t = id_text n id h.0 in let ts = each_id ns ids h.1 in rw (← t, ← ts) refl
each_id no_nodes (id ∷ ids) h = absurd h
each_id (node n ns) [] h = absurd h

-- a list of ids
pub ids_are : (ns : Nodes) (ids : List ScriptId) → IsList IsScriptId ns ids → map script_text ids ≡ ids_in (array ns)
ids_are ns ids h = let e = each_id ns ids h in rw (← e) refl

-- ids that are there, and none where they are absent
pub ids_there : (o : Option Node) (ids : List ScriptId)
    → IsOptional (λ n ids. map script_text ids ≡ ids_in n) o (Some ids) → map script_text ids ≡ ids_at o
ids_there (Some n) ids h = h
ids_there None ids h = absurd h

pub ids_absent : (o : Option Node)
    → IsOptional {X = List ScriptId} (λ n ids. map script_text ids ≡ ids_in n) o None → [] ≡ ids_at o
ids_absent None h = refl
ids_absent (Some n) h = absurd h
