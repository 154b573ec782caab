-- A node spells one setup script at most.
use Rattle.std.proofs.Common.{◌≡◌, ◌∙◌, ℕ, Option, None, Some, Ok, refl, sym, ap}
use Rattle.std.proofs.lemmas.Option.{same_Some}
use Rattle.nextest_elements.specs.LeakTimeout.{leak_of, IsLeakTimeout}
use Rattle.nextest_elements.specs.declared.leak_timeout.LeakTimeout.{LeakTimeout}
use Rattle.nextest_scripts.specs.ScriptTexts.{SetupScriptText, SpellsSetupScript, setup_script_view}
use Rattle.nextest_scripts.specs.SetupScript.{IsSetupTimeout, setup_timeout_of, IsSetupScript}
use Rattle.nextest_scripts.specs.declared.setup_script.SetupScriptConfig.{SetupScriptConfig}
use Rattle.nextest_scripts.specs.declared.setup_timeout.SetupScriptSlowTimeout.{SetupScriptSlowTimeout}
use Rattle.nextest_elements.specs.Nanoseconds.{duration_at}
use Rattle.nextest_tree.specs.declared.key.Key.TheVariants as keys
use Rattle.nextest_tree.specs.Key.{key_text}
use Rattle.nextest_tree.specs.Leaf.{Spells}
use Rattle.nextest_tree.specs.Node.{Node, table, array, text, int, bool, opaque, Entries, get}
use Rattle.nextest_tree.specs.Reads.{IsOptional}
use Rattle.nextest_scripts.proofs.SpellsWrapperScript.{same_command_at}

same_optional : {X : Type 0} (P : Node → X → Type 0) → ((n : Node) (x y : X) → P n x → P n y → x ≡ y)
    → (o : Option Node) (x y : Option X) → IsOptional P o x → IsOptional P o y → x ≡ y
same_optional P one None None None hx hy = refl
same_optional P one None None (Some y) hx hy = absurd hy
same_optional P one None (Some x) y hx hy = absurd hx
same_optional P one (Some n) None y hx hy = absurd hx
same_optional P one (Some n) (Some x) None hx hy = absurd hy
same_optional P one (Some n) (Some x) (Some y) hx hy = ap Some (one n x y hx hy)

same_period : (n : Node) (p q : ℕ) → Spells duration_at n p → Spells duration_at n q → p ≡ q
same_period n p q hp hq = let both : Ok p ≡ Ok q = sym hp ∙ hq in cc

same_timeout : (n : Node) (x y : SetupScriptSlowTimeout) → IsSetupTimeout n x → IsSetupTimeout n y → x ≡ y
same_timeout (table es) x y hx hy = same_Some x y (sym hx ∙ hy)
same_timeout n x y hx hy = hx.2 ∙ ap setup_timeout_of (same_period n hx.0 hy.0 hx.1 hy.1) ∙ sym hy.2

same_leak : (n : Node) (x y : LeakTimeout) → IsLeakTimeout n x → IsLeakTimeout n y → x ≡ y
same_leak (table es) x y hx hy = same_Some x y (sym hx ∙ hy)
same_leak n x y hx hy = hx.2 ∙ ap leak_of (same_period n hx.0 hy.0 hx.1 hy.1) ∙ sym hy.2

same_config : (es : Entries) (x y : SetupScriptConfig) → IsSetupScript es x → IsSetupScript es y
    → setup_script_view x ≡ setup_script_view y
same_config es x y hx hy =
    let command = same_command_at (get (key_text keys.Command) es) x.command y.command hx.command hy.command in
    let slow = same_optional IsSetupTimeout same_timeout (get (key_text keys.SlowTimeout) es) x.slow_timeout
    y.slow_timeout hx.slow_timeout hy.slow_timeout in
    let leak = same_optional IsLeakTimeout same_leak (get (key_text keys.LeakTimeout) es) x.leak_timeout
    y.leak_timeout hx.leak_timeout hy.leak_timeout in
    λ i. record {
      command = command i;
      slow_timeout = slow i;
      leak_timeout = leak i;
      capture_stdout = (hx.capture_stdout ∙ sym hy.capture_stdout) i;
      capture_stderr = (hx.capture_stderr ∙ sym hy.capture_stderr) i;
      junit = (hx.junit ∙ sym hy.junit) i;
    }

-- a node spells one setup script at most
pub same_setup : (n : Node) (x y : SetupScriptText) → SpellsSetupScript n x → SpellsSetupScript n y → x ≡ y
same_setup (table es) x y hx hy = sym hx.same ∙ same_config es hx.config hy.config hx.spells hy.spells ∙ hy.same
same_setup (array ns) x y hx hy = absurd hx.spells
same_setup (text t) x y hx hy = absurd hx.spells
same_setup (int z) x y hx hy = absurd hx.spells
same_setup (bool b) x y hx hy = absurd hx.spells
same_setup opaque x y hx hy = absurd hx.spells
