-- A node spells one wrapper script at most.
use Rattle.std.proofs.Common.{◌≡◌, ◌∙◌, ℕ, List, [], ◌∷◌, map, Option, None, Some, Ok, String, Global, string_bytes, chars, refl, sym, ap}
use lib.Utf8.{encodes}
use Rattle.std.proofs.lemmas.Option.{same_Some}
use Rattle.std.proofs.lemmas.Str.{encodes-chars, IsUtf8-string_bytes}
use Rattle.nextest_scripts.specs.Command.{IsCommand, IsEnvAt, line_of}
use Rattle.nextest_scripts.specs.CommandLine.{IsCommandLine}
use Rattle.nextest_scripts.specs.EnvMap.{env_view}
use Rattle.nextest_scripts.specs.ScriptTexts.{WrapperScriptText, SpellsWrapperScript, command_view, wrapper_script_view}
use Rattle.nextest_scripts.specs.WrapperScript.{IsWrapperScript}
use Rattle.nextest_scripts.specs.declared.command.ScriptCommand.{ScriptCommand}
use Rattle.nextest_scripts.specs.declared.env_map.ScriptCommandEnvMap.{ScriptCommandEnvMap}
use Rattle.nextest_scripts.specs.declared.wrapper_script.WrapperScriptConfig.{WrapperScriptConfig}
use Rattle.nextest_scripts.proofs.ShellSplits.{splits_read}
use Rattle.nextest_tree.specs.declared.key.Key.TheVariants as keys
use Rattle.nextest_tree.specs.Key.{key_text}
use Rattle.nextest_tree.specs.Leaf.{IsText}
use Rattle.nextest_tree.specs.Node.{Node, table, array, text, int, bool, opaque, Nodes, no_nodes, node, Entries, no_entries, entry, get}
use Rattle.nextest_tree.specs.Reads.{IsOptional, IsList, IsMap}

abbrev Texts : Type 0
Texts = List (String Global)

-- the bytes of words, by their characters
bytes_of : (ws : Texts) → map encodes (map (λ w. chars (string_bytes w)) ws) ≡ map string_bytes ws
bytes_of [] = refl
bytes_of (w ∷ ws) = λ i. encodes-chars (string_bytes w) (IsUtf8-string_bytes w) i ∷ bytes_of ws i

same_words : (xs ys : Texts) → map (λ w. chars (string_bytes w)) xs ≡ map (λ w. chars (string_bytes w)) ys
    → map string_bytes xs ≡ map string_bytes ys
same_words xs ys same = sym (bytes_of xs) ∙ ap (map encodes) same ∙ bytes_of ys

same_text : (n : Node) (x y : String Global) → IsText n x → IsText n y → string_bytes x ≡ string_bytes y
same_text n x y hx hy = let both : Ok (string_bytes x) ≡ Ok (string_bytes y) = sym hx ∙ hy in cc

same_texts : (ns : Nodes) (xs ys : Texts) → IsList IsText ns xs → IsList IsText ns ys
    → map string_bytes xs ≡ map string_bytes ys
same_texts no_nodes [] [] hx hy = refl
same_texts no_nodes [] (y ∷ ys) hx hy = absurd hy
same_texts no_nodes (x ∷ xs) ys hx hy = absurd hx
same_texts (node n ns) [] ys hx hy = absurd hx
same_texts (node n ns) (x ∷ xs) [] hx hy = absurd hy
same_texts (node n ns) (x ∷ xs) (y ∷ ys) hx hy = λ i. same_text n x y hx.0 hy.0 i ∷ same_texts ns xs ys hx.1 hy.1 i

same_line : (n : Node) (x y : ScriptCommand) → IsCommandLine n (line_of x) → IsCommandLine n (line_of y)
    → map string_bytes (x.program ∷ x.args.items) ≡ map string_bytes (y.program ∷ y.args.items)
same_line (text line) x y hx hy =
    same_words (x.program ∷ x.args.items) (y.program ∷ y.args.items)
    (same_Some _ _ (sym (splits_read hx) ∙ splits_read hy))
same_line (array ns) x y hx hy = same_texts ns (x.program ∷ x.args.items) (y.program ∷ y.args.items) hx hy
same_line (table es) x y hx hy = absurd hx
same_line (int z) x y hx hy = absurd hx
same_line (bool b) x y hx hy = absurd hx
same_line opaque x y hx hy = absurd hx

same_line_at : (o : Option Node) (x y : ScriptCommand) → IsOptional IsCommandLine o (Some (line_of x))
    → IsOptional IsCommandLine o (Some (line_of y))
    → map string_bytes (x.program ∷ x.args.items) ≡ map string_bytes (y.program ∷ y.args.items)
same_line_at None x y hx hy = absurd hx
same_line_at (Some n) x y hx hy = same_line n x y hx hy

abbrev Pairs : Type 0
Pairs = List (String Global × String Global)

abbrev pairs_view : Pairs → List (List ℕ × List ℕ)
pairs_view es = map (λ e. (string_bytes e.0, string_bytes e.1)) es

same_pairs : (es : Entries) (xs ys : Pairs) → IsMap string_bytes IsText es xs
    → IsMap string_bytes IsText es ys → pairs_view xs ≡ pairs_view ys
same_pairs no_entries [] [] hx hy = refl
same_pairs no_entries [] (y ∷ ys) hx hy = absurd hy
same_pairs no_entries (x ∷ xs) ys hx hy = absurd hx
same_pairs (entry k n es) [] ys hx hy = absurd hx
same_pairs (entry k n es) (x ∷ xs) [] hx hy = absurd hy
same_pairs (entry k n es) (x ∷ xs) (y ∷ ys) hx hy =
    λ i. ((hx.0 ∙ sym hy.0) i, same_text n x.1 y.1 hx.1 hy.1 i) ∷ same_pairs es xs ys hx.2 hy.2 i

same_env : (o : Option Node) (x y : ScriptCommandEnvMap) → IsEnvAt o x → IsEnvAt o y → env_view x ≡ env_view y
same_env None x y hx hy = hx ∙ sym hy
same_env (Some (table es)) x y hx hy = same_pairs es x.0.entries y.0.entries hx hy
same_env (Some (array ns)) x y hx hy = absurd hx
same_env (Some (text t)) x y hx hy = absurd hx
same_env (Some (int z)) x y hx hy = absurd hx
same_env (Some (bool b)) x y hx hy = absurd hx
same_env (Some opaque) x y hx hy = absurd hx

abbrev first_word : List (List ℕ) → List ℕ
first_word [] = []
first_word (w ∷ ws) = w

abbrev other_words : List (List ℕ) → List (List ℕ)
other_words [] = []
other_words (w ∷ ws) = ws

by_words : (x y : ScriptCommand)
    → map string_bytes (x.program ∷ x.args.items) ≡ map string_bytes (y.program ∷ y.args.items)
    → env_view x.env ≡ env_view y.env → x.relative_to ≡ y.relative_to → command_view x ≡ command_view y
by_words x y words env relative =
    λ i. record { program = first_word (words i); args = other_words (words i); env = env i; relative_to = relative i }

same_command : (n : Node) (x y : ScriptCommand) → IsCommand n x → IsCommand n y → command_view x ≡ command_view y
same_command (table es) x y hx hy =
    by_words x y (same_line_at (get (key_text keys.CommandLine) es) x y hx.command_line hy.command_line)
    (same_env (get (key_text keys.Env) es) x.env y.env hx.env hy.env) (hx.relative_to ∙ sym hy.relative_to)
same_command n x y hx hy =
    by_words x y (same_line n x y hx.command_line hy.command_line) (hx.env ∙ sym hy.env)
    (hx.relative_to ∙ sym hy.relative_to)

pub same_command_at : (o : Option Node) (x y : ScriptCommand) → IsOptional IsCommand o (Some x)
    → IsOptional IsCommand o (Some y) → command_view x ≡ command_view y
same_command_at None x y hx hy = absurd hx
same_command_at (Some n) x y hx hy = same_command n x y hx hy

same_config : (es : Entries) (x y : WrapperScriptConfig) → IsWrapperScript es x → IsWrapperScript es y
    → wrapper_script_view x ≡ wrapper_script_view y
same_config es x y hx hy =
    let command = same_command_at (get (key_text keys.Command) es) x.command y.command hx.command hy.command in
    λ i. record { command = command i; target_runner = (hx.target_runner ∙ sym hy.target_runner) i }

-- a node spells one wrapper script at most
pub same_wrapper : (n : Node) (x y : WrapperScriptText) → SpellsWrapperScript n x → SpellsWrapperScript n y → x ≡ y
same_wrapper (table es) x y hx hy = sym hx.same ∙ same_config es hx.config hy.config hx.spells hy.spells ∙ hy.same
same_wrapper (array ns) x y hx hy = absurd hx.spells
same_wrapper (text t) x y hx hy = absurd hx.spells
same_wrapper (int z) x y hx hy = absurd hx.spells
same_wrapper (bool b) x y hx hy = absurd hx.spells
same_wrapper opaque x y hx hy = absurd hx.spells
