-- Sources that are loaded one above another.
use Rattle.std.proofs.Common.{◌≡◌, List, [], ◌∷◌, ◌++◌, map, None, Some, Result, Ok, Err, IsErrAnd, IfSome, option_map, refl, sym, ap, subst, ◌∙◌, append-nil}
use Rattle.std.specs.List.{flat_map}
use Rattle.std.proofs.lemmas.List.{map-append}
use Rattle.nextest_documents.specs.Merge.{over, merged}
use Rattle.nextest_engines.specs.Readings.{Readings}
use Rattle.nextest_rules.specs.Definitions.{Features}
use Rattle.nextest_rules.specs.Known.{known_names, known_to, sets_of}
use Rattle.nextest_rules.specs.KnownView.{known_view}
use Rattle.nextest_rules.specs.Meaning.{layer_meaning}
use Rattle.nextest_rules.specs.View.{layer_view}
use Rattle.nextest_rules.specs.declared.overrides.LayerRules.{LayerRules}
use Rattle.nextest_sources.specs.Endings.{Ending, passed, no_memory, error_view, ending, Found, Ran}
use Rattle.nextest_sources.specs.InputFaults.{outcome_cause, fault_at_source}
use Rattle.nextest_sources.specs.Inputs.{Input, SourceText, source_texts_of}
use Rattle.nextest_sources.specs.Steps.{LoadStep, check}
use Rattle.nextest_sources.specs.Warnings.{Warning}
use Rattle.nextest_sources.specs.declared.error.ConfigParseError.{ConfigParseError}
use Rattle.nextest_sources.proofs.Runs.{ran_check, ran_first, ran_memory, ran_next}
use Rattle.nextest_tables.specs.Defaults.{defaults}
use Rattle.nextest_tree.specs.Node.{Node}
use Rattle.nextest_tree.specs.View.{tree_view}
use Rattle.nextest_load.specs.Kept.{IsKept}
use Rattle.nextest_load.specs.Loading.{HasLoaded, source_layer, tree_so_far}
use Rattle.nextest_load.specs.ScriptNames.{AreScriptNames}
use Rattle.nextest_load.specs.Steps.{source_steps, one_input_steps}
use Rattle.nextest_load.specs.Trees.{tree_in, own_tree, own_file, merged_tree}
use Rattle.nextest_load.specs.declared.load.LoadedLayers.{LoadedLayers}

-- the highest layer is laid last
pub merged_last : (base : Node) (layers : List Node) (layer : Node)
    → merged base (layers ++ layer ∷ []) ≡ over layer (merged base layers)
merged_last base [] layer = refl
merged_last base (l ∷ layers) layer = merged_last (over l base) layers layer

-- a source above others
pub source_laid : (ss : List SourceText) (s : SourceText) (below tree laid : Node)
    → Some below ≡ tree_so_far ss → tree ≡ tree_in s → laid ≡ over tree below → Some laid ≡ tree_so_far (ss ++ s ∷ [])
source_laid [] s below tree laid so_far is over_is = cc
source_laid (t ∷ ss) s below tree laid so_far is over_is =
    let tree_below : below ≡ merged_tree (t ∷ ss) = cc in
    ap (λ n. Some n)
    (over_is ∙ (λ i. over (is i) (tree_below i))
    ∙ sym (merged_last defaults (map tree_in (t ∷ ss)) (tree_in s))
    ∙ ap (merged defaults) (sym (map-append tree_in (t ∷ ss) (s ∷ []))))

-- the lowest source
pub lowest_laid : (ss : List SourceText) (s : SourceText) (own : Node) → None ≡ tree_so_far ss
    → own ≡ own_tree s → Some own ≡ tree_so_far (ss ++ s ∷ [])
lowest_laid [] s own so_far is = ap (λ n. Some n) is
lowest_laid (t ∷ ss) s own so_far is = cc

-- memory ran out after some steps
pub ran_spent : {old new : List Warning} (steps : List LoadStep) (e : ConfigParseError)
    → error_view e ≡ no_memory → Ran steps old new passed → Ran steps old new (error_view e)
ran_spent {old} {new} steps e memory ran =
    let spent = ran_next steps [] old new new (error_view e) ran (ran_memory [] new new e memory refl) in
    subst (λ (all : List LoadStep). Ran all old new (error_view e)) (append-nil steps) spent

-- and that ended a call
pub ran_out : {T : Type 0} {old new : List Warning} (steps : List LoadStep) (r : Result T ConfigParseError)
    → IsErrAnd r (λ e. error_view e ≡ no_memory) → Ran steps old new passed → Ran steps old new (ending r)
ran_out steps (Ok x) h ran = absurd h
ran_out steps (Err e) h ran = ran_spent steps e h ran

module _ {M K P : Type 0} (engines : Readings M K P) (features : Features) (below : List SourceText) (i : Input) where
  -- an input ended a load by its outcome
  pub outcome_ended : (told : List Warning) (e : ConfigParseError)
      → Found (fault_at_source i.source (outcome_cause i.source.kind i.outcome)) (error_view e)
      → Ran (one_input_steps engines features below i) told told (error_view e)
  outcome_ended told e found =
      let cause = outcome_cause i.source.kind i.outcome in
      ran_first (check i.source cause ∷ [])
      (flat_map (source_steps engines features below) (source_texts_of i)) told told e
      (ran_check i.source cause told told (error_view e) refl found)

  -- it gave no text
  pub no_text_given : (told : List Warning)
      → fault_at_source i.source (outcome_cause i.source.kind i.outcome) ≡ None → source_texts_of i ≡ []
      → Ran (one_input_steps engines features below i) told told passed
  no_text_given told found none =
      let cause = outcome_cause i.source.kind i.outcome in
      rw none (ran_check i.source cause told told passed refl found)

  -- or it ended as its source did
  pub source_ended : {old new : List Warning} {o : Ending} (s : SourceText)
      → fault_at_source i.source (outcome_cause i.source.kind i.outcome) ≡ None → source_texts_of i ≡ s ∷ []
      → Ran (source_steps engines features below s) old new o → Ran (one_input_steps engines features below i) old new o
  source_ended {old} {new} {o} s found one ran =
      let cause = outcome_cause i.source.kind i.outcome in
      let only : flat_map (source_steps engines features below) (source_texts_of i)
      ≡ source_steps engines features below s = rw one (append-nil (source_steps engines features below s)) in
      ran_next (check i.source cause ∷ [])
      (flat_map (source_steps engines features below) (source_texts_of i)) old old new o
      (ran_check i.source cause old old passed refl found)
      (subst (λ (steps : List LoadStep). Ran steps old new o) (sym only) ran)

module _ {F S E T N Q M K P : Type 0} (meaning : E → M) (spec_meaning : N → K) (engines : Readings M K P) where
  -- one source more was loaded
  pub loaded_more : (below texts : List SourceText) (s : SourceText) (old new : LoadedLayers F S E T N Q)
      (rules : LayerRules F S E T N Q) → texts ≡ s ∷ [] → HasLoaded meaning spec_meaning engines below old
      → known_view new.known ≡ sets_of (known_to (map own_file below) (own_file s))
      → IfSome new.defaults (λ tree. tree_view tree ≡ defaults)
      → option_map tree_view new.merged ≡ tree_so_far (below ++ s ∷ [])
      → IfSome new.kept (IsKept (merged_tree (below ++ s ∷ [])))
      → new.layers.items ≡ old.layers.items ++ rules ∷ []
      → layer_meaning meaning spec_meaning (layer_view rules) ≡ source_layer engines s
      → AreScriptNames (below ++ s ∷ []) new.names
      → HasLoaded meaning spec_meaning engines (below ++ texts) new
  loaded_more below texts s old new rules one was known given_back merged kept layers layer names =
      let seen = λ (l : LayerRules F S E T N Q). layer_meaning meaning spec_meaning (layer_view l) in
      let all : HasLoaded meaning spec_meaning engines (below ++ s ∷ []) new = record {
        known = known ∙ ap (λ fs. sets_of (known_names fs)) (sym (map-append own_file below (s ∷ [])));
        defaults = given_back;
        merged = merged;
        kept = kept;
        layers = ap (map seen) layers ∙ map-append seen old.layers.items (rules ∷ [])
            ∙ (λ j. was.layers j ++ layer j ∷ []) ∙ sym (map-append (source_layer engines) below (s ∷ []));
        names = names;
      } in
      subst (λ (ts : List SourceText). HasLoaded meaning spec_meaning engines (below ++ ts) new) (sym one) all
