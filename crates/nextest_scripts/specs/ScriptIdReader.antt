-- Ids of scripts as values.
use Rattle.nextest_tree.specs.Node.{Node}
use Rattle.nextest_elements.specs.IdentifierReader.{IsIdentifierAt}
use Rattle.nextest_scripts.specs.declared.script_id.ScriptId.{ScriptId}

-- The node spells the id of a script: an identifier.
abbrev pub IsScriptId : Node → ScriptId → Type 0
IsScriptId n id = IsIdentifierAt n id.0
