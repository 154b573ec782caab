-- The ids of scripts.
use Rattle.std.specs.Prelude.{ℕ, List, ◌++◌, Option, Some, None, codes}
use Rattle.std.specs.Fmt.{decimal}
use Rattle.uuid.specs.Text.{hyphenated_text, lower}
use Rattle.nextest_elements.specs.IdentifierText.{identifier_text}
use Rattle.nextest_scripts.specs.declared.script_id.ScriptId.{ScriptId}

-- The text of a script's id.
abbrev pub script_text : ScriptId → List ℕ
script_text id = identifier_text id.0

-- What follows an id: `@stress-` and the index, where one is given.
abbrev pub stress_text : Option ℕ → List ℕ
stress_text None = codes ""
stress_text (Some index) = codes "@stress-" ++ decimal index

-- The id of a script within a run: the run's uuid, hyphenated and in lower case, a colon, the
-- script's id, and the stress index.
abbrev pub unique_text : List ℕ → List ℕ → Option ℕ → List ℕ
unique_text run script stress =
    ((hyphenated_text lower run ++ codes ":") ++ script) ++ stress_text stress
