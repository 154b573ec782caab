-- What is at the name of a profile, where trees are laid over one another.
use Rattle.std.proofs.Common.{◌≡◌, ◌∙◌, ℕ, List, [], ◌∷◌, Option, None, Some, option_and_then, refl, sym, ap}
use Rattle.nextest_documents.specs.Merge.{over}
use Rattle.nextest_documents.proofs.Laying.{laid_over, get-entries_over}
use Rattle.nextest_sources.specs.InputFaults.{Each}
use Rattle.nextest_sources.specs.Inputs.{SourceText}
use Rattle.nextest_tables.specs.Defaults.{defaults}
use Rattle.nextest_tables.specs.Tables.{a_file}
use Rattle.nextest_tables.specs.Texts.{at_key}
use Rattle.nextest_tables.specs.Written.{Name}
use Rattle.nextest_tables.proofs.Defaulting.{no_faults}
use Rattle.nextest_tree.specs.declared.key.Key.TheVariants as keys
use Rattle.nextest_tree.specs.Key.{key_text}
use Rattle.nextest_tree.specs.Node.{Node, member_of}
use Rattle.nextest_tree.specs.Schema.{faults}
use Rattle.nextest_load.specs.Agreement.{node_of_profile}
use Rattle.nextest_load.specs.Trees.{tree_in, own_tree}
use Rattle.nextest_load.proofs.Closing.{AllReadable}
use Rattle.nextest_load.proofs.Keeping.{IfThere, IsTable, KeyPath, LeadsAlong, Laid, united, replaced, laid, leads_alone}
use Rattle.nextest_load.proofs.Leading.{readable_leads}

-- tables lead to the profiles of a tree
abbrev pub Leads : Node → Type 0
Leads n = LeadsAlong (key_text keys.Profile ∷ []) n

member_laid : (k : List ℕ) (n m : Node) → Laid n m → IsTable n → IsTable m
    → member_of k (over n m) ≡ laid_over (member_of k n) (member_of k m)
member_laid k n m (united {xs = xs} {ys = ys}) tn tm = get-entries_over k xs ys
member_laid k n m (replaced e apart) tn tm = absurd (apart tn tm)

-- the member of a key, where a table is laid over another
pub member_over : (k : List ℕ) (n m : Node) → IsTable n → IsTable m
    → member_of k (over n m) ≡ laid_over (member_of k n) (member_of k m)
member_over k n m tn tm = member_laid k n m (laid n m) tn tm

laid_none : (o : Option Node) → laid_over o None ≡ o
laid_none None = refl
laid_none (Some n) = refl

member_in : (k : List ℕ) (o r : Option Node) → IfThere IsTable o → IfThere IsTable r
    → option_and_then (member_of k) (laid_over o r)
    ≡ laid_over (option_and_then (member_of k) o) (option_and_then (member_of k) r)
member_in k None r ho hr = refl
member_in k (Some n) None ho hr = sym (laid_none (member_of k n))
member_in k (Some n) (Some m) ho hr = member_over k n m ho hr

-- what is at the name of a profile, where a tree is laid over another
pub profile_over : (name : Name) (n m : Node) → Leads n → Leads m
    → node_of_profile name (over n m) ≡ laid_over (node_of_profile name n) (node_of_profile name m)
profile_over name n m ln lm =
    ap (option_and_then (member_of name)) (member_over (key_text keys.Profile) n m ln.0 lm.0)
    ∙ member_in name (at_key keys.Profile n) (at_key keys.Profile m) ln.1 lm.1

-- tables that lead along a path go on doing so
over_end : (n m : Node) → Laid n m → IsTable n → IsTable m → IsTable (over n m)
over_end n m (united {xs = xs} {ys = ys}) tn tm = tt
over_end n m (replaced e apart) tn tm = absurd (apart tn tm)

over_at : (P : Node → Type 0) (o r : Option Node) → ((n m : Node) → P n → P m → P (over n m)) → IfThere P o
    → IfThere P r → IfThere P (laid_over o r)
over_at P None r ih ho hr = hr
over_at P (Some n) None ih ho hr = ho
over_at P (Some n) (Some m) ih ho hr = ih n m ho hr

over_more : (k : List ℕ) (path : KeyPath) (n m : Node) → Laid n m
    → ((x y : Node) → LeadsAlong path x → LeadsAlong path y → LeadsAlong path (over x y))
    → LeadsAlong (k ∷ path) n → LeadsAlong (k ∷ path) m → LeadsAlong (k ∷ path) (over n m)
over_more k path n m (united {xs = xs} {ys = ys}) ih ln lm =
    (tt, rw (get-entries_over k xs ys) (over_at (LeadsAlong path) _ _ ih ln.1 lm.1))
over_more k path n m (replaced e apart) ih ln lm = absurd (apart ln.0 lm.0)

leads_along : (path : KeyPath) (n m : Node) → LeadsAlong path n → LeadsAlong path m → LeadsAlong path (over n m)
leads_along [] n m ln lm = over_end n m (laid n m) ln lm
leads_along (k ∷ path) n m ln lm = over_more k path n m (laid n m) (leads_along path) ln lm

pub leads_over : (n m : Node) → Leads n → Leads m → Leads (over n m)
leads_over n m ln lm = leads_along (key_text keys.Profile ∷ []) n m ln lm

-- the defaults lead to their profiles, and so does a source without fault
pub defaults_lead : Leads defaults
defaults_lead = (readable_leads defaults no_faults).profiles

pub source_leads : (s : SourceText) → faults a_file [] (own_tree s) ≡ [] → Leads (tree_in s)
source_leads s fine = leads_alone (key_text keys.Profile ∷ []) (tree_in s) defaults
    (readable_leads (own_tree s) fine).profiles

pub sources_lead : (ss : List SourceText) → AllReadable ss → Each (λ s. Leads (tree_in s)) ss
sources_lead [] fine = tt
sources_lead (s ∷ ss) fine = (source_leads s fine.0, sources_lead ss fine.1)

-- what a source has at the name of a profile over the defaults
pub own_profile : (name : Name) (s : SourceText) → Leads (tree_in s)
    → node_of_profile name (own_tree s) ≡ laid_over (node_of_profile name (tree_in s)) (node_of_profile name defaults)
own_profile name s leads = profile_over name (tree_in s) defaults leads defaults_lead
