-- What the scripts that were read show of their tables.
use Rattle.std.proofs.Common.{ℕ, List, [], ◌∷◌, map, refl}
use Rattle.nextest_tree.specs.declared.key.Key.TheVariants as keys
use Rattle.nextest_tree.specs.Key.{key_text}
use Rattle.nextest_tree.specs.Node.{Node, table, array, text, int, bool, opaque, Entries, no_entries, entry, get}
use Rattle.nextest_tree.specs.Reads.{IsMap, InTable}
use Rattle.nextest_scripts.specs.ScriptId.{script_text}
use Rattle.nextest_scripts.specs.ScriptTexts.{setup_script_view, wrapper_script_view, SpellsSetupScript, SpellsWrapperScript}
use Rattle.nextest_scripts.specs.SetupScript.{IsSetupScript}
use Rattle.nextest_scripts.specs.WrapperScript.{IsWrapperScript}
use Rattle.nextest_tables.specs.Scripts.{SpellByName, AreFileScripts, file_scripts_view}
use Rattle.nextest_tables.specs.Values.{IsFile}
use Rattle.nextest_tables.specs.declared.file_table.FileTable.{FileTable}
use Rattle.nextest_tables.proofs.FileViews.{under_scripts}

-- values by name, each seen by itself
by_text : {K X Y : Type 0} (t : K → List ℕ) (P : Node → X → Type 0) (show : X → Y) (Q : Node → Y → Type 0)
    → ((n : Node) (x : X) → P n x → Q n (show x))
    → (es : Entries) (xs : List (K × X)) → IsMap t P es xs → SpellByName Q es (map (λ e. (t e.0, show e.1)) xs)
by_text t P show Q each no_entries [] h = tt
by_text t P show Q each (entry k n es) (x ∷ xs) h = (h.0, each n x.1 h.1, by_text t P show Q each es xs h.2)
by_text t P show Q each no_entries (x ∷ xs) h = absurd h
by_text t P show Q each (entry k n es) [] h = absurd h

scripts_of_file : (es : Entries) (x : FileTable) → IsFile es x → AreFileScripts (table es) (file_scripts_view x)
scripts_of_file es x h =
    let scripts = get (key_text keys.Scripts) es in
    let new_setup = by_text script_text (InTable IsSetupScript) setup_script_view SpellsSetupScript
    (λ n c is. record { config = c; spells = is; same = refl }) _ x.scripts.setup.entries h.scripts.setup in
    let wrapper = by_text script_text (InTable IsWrapperScript) wrapper_script_view SpellsWrapperScript
    (λ n c is. record { config = c; spells = is; same = refl }) _ x.scripts.wrapper.entries h.scripts.wrapper in
    record {
      new_setup = rw (under_scripts keys.Setup scripts) at new_setup;
      old_setup = by_text script_text (InTable IsSetupScript) setup_script_view SpellsSetupScript
          (λ n c is. record { config = c; spells = is; same = refl }) _ x.script.entries h.script;
      wrapper = rw (under_scripts keys.Wrapper scripts) at wrapper;
    }

pub scripts_are : (n : Node) (x : FileTable) → InTable IsFile n x → AreFileScripts n (file_scripts_view x)
scripts_are (table es) x h = scripts_of_file es x h
scripts_are (array ns) x h = absurd h
scripts_are (text t) x h = absurd h
scripts_are (int z) x h = absurd h
scripts_are (bool b) x h = absurd h
scripts_are opaque x h = absurd h
