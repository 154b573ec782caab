-- Inputs that are loaded in turn, the lowest first.
use Rattle.std.proofs.Common.{◌≡◌, ℕ, ◌+◌, List, [], ◌∷◌, ◌++◌, map, take, drop, refl, sym, ap, subst, ◌∙◌, append-nil, append_assoc}
use Rattle.std.specs.List.{flat_map}
use Rattle.std.proofs.lemmas.List.{map-append}
use Rattle.std.proofs.lemmas.List.Concat.{flat_map-append}
use Rattle.nextest_engines.specs.Readings.{Readings}
use Rattle.nextest_rules.specs.Definitions.{Features}
use Rattle.nextest_sources.specs.Endings.{passed, error_view, Ran}
use Rattle.nextest_sources.specs.Inputs.{SourceText, source_texts_of}
use Rattle.nextest_sources.specs.InputsView.{input_view}
use Rattle.nextest_sources.specs.Steps.{LoadStep}
use Rattle.nextest_sources.specs.Warnings.{Warning}
use Rattle.nextest_sources.specs.declared.error.ConfigParseError.{ConfigParseError}
use Rattle.nextest_sources.specs.declared.inputs.SourceInput.{SourceInput}
use Rattle.nextest_sources.proofs.Runs.{ran_first, ran_next, ran_none}
use Rattle.nextest_load.specs.Loading.{HasLoaded}
use Rattle.nextest_load.specs.Steps.{one_input_steps, input_steps}
use Rattle.nextest_load.specs.declared.load.LoadedLayers.{LoadedLayers}

-- the sources of the inputs before one
abbrev pub sources_before : ℕ → List SourceInput → List SourceText
sources_before i inputs = flat_map source_texts_of (map input_view (take i inputs))

-- The inputs before one passed, and their sources are loaded.
pub record HaveRun {F S E T N Q M K P : Type 0} (meaning : E → M) (spec_meaning : N → K)
    (engines : Readings M K P) (features : Features) (inputs : List SourceInput) (i : ℕ) (old now : List Warning)
    (loaded : LoadedLayers F S E T N Q) : Type 0 where
  pub done : List LoadStep
  pub splits : input_steps engines features [] (map input_view inputs) ≡ done
      ++ input_steps engines features (sources_before i inputs) (map input_view (drop i inputs))
  pub ran : Ran done old now passed
  pub sources : HasLoaded meaning spec_meaning engines (sources_before i inputs) loaded

module _ {F S E T N Q M K P : Type 0} (meaning : E → M) (spec_meaning : N → K) (engines : Readings M K P)
    (features : Features) (inputs : List SourceInput) where
  -- none yet
  pub runs_start : (told : List Warning) (loaded : LoadedLayers F S E T N Q)
      → HasLoaded meaning spec_meaning engines [] loaded
      → HaveRun meaning spec_meaning engines features inputs 0 told told loaded
  runs_start told loaded has = record { done = []; splits = refl; ran = ran_none told told refl; sources = has }

  -- an input ended the load
  pub runs_stop : {i : ℕ} {old now new : List Warning} {loaded : LoadedLayers F S E T N Q}
      (input : SourceInput) (e : ConfigParseError) → drop i inputs ≡ input ∷ drop (i + 1) inputs
      → HaveRun meaning spec_meaning engines features inputs i old now loaded
      → Ran (one_input_steps engines features (sources_before i inputs) (input_view input)) now new (error_view e)
      → Ran (input_steps engines features [] (map input_view inputs)) old new (error_view e)
  runs_stop {i} {old} {now} {new} input e next so_far ran =
      let here = one_input_steps engines features (sources_before i inputs) (input_view input) in
      let after = λ (is : List SourceInput). input_steps engines features (sources_before i inputs)
      (map input_view is) in
      let ended : Ran (after (drop i inputs)) now new (error_view e) = rw next (ran_first here _ now new e ran) in
      rw so_far.splits (ran_next so_far.done (after (drop i inputs)) old now new (error_view e) so_far.ran ended)

  -- or it passed
  pub runs_next : {i : ℕ} {old now new : List Warning} {loaded more : LoadedLayers F S E T N Q}
      (input : SourceInput) → drop i inputs ≡ input ∷ drop (i + 1) inputs
      → take (i + 1) inputs ≡ take i inputs ++ input ∷ []
      → HaveRun meaning spec_meaning engines features inputs i old now loaded
      → Ran (one_input_steps engines features (sources_before i inputs) (input_view input)) now new passed
      → HasLoaded meaning spec_meaning engines (sources_before i inputs ++ source_texts_of (input_view input))
      more → HaveRun meaning spec_meaning engines features inputs (i + 1) old new more
  runs_next {i} {old} {now} {new} {loaded} {more} input next taken so_far ran has =
      let below = sources_before i inputs in
      let here = one_input_steps engines features below (input_view input) in
      let rest = λ (ss : List SourceText). input_steps engines features ss (map input_view (drop (i + 1) inputs)) in
      let texts = source_texts_of (input_view input) in
      let with_texts : sources_before (i + 1) inputs ≡ below ++ texts =
      ap (λ is. flat_map source_texts_of (map input_view is)) taken
      ∙ ap (flat_map source_texts_of) (map-append input_view (take i inputs) (input ∷ []))
      ∙ flat_map-append source_texts_of (map input_view (take i inputs)) (input_view input ∷ [])
      ∙ ap (λ ts. below ++ ts) (append-nil texts)
      in record {
        done = so_far.done ++ here;
        splits = so_far.splits ∙ ap
            (λ is. so_far.done ++ input_steps engines features below (map input_view is)) next
            ∙ sym (append_assoc so_far.done here (rest (below ++ texts)))
            ∙ ap (λ ss. (so_far.done ++ here) ++ rest ss) (sym with_texts);
        ran = ran_next so_far.done here old now new passed so_far.ran ran;
        sources = rw with_texts has;
      }

  -- all passed
  pub runs_end : {i : ℕ} {old now : List Warning} {loaded : LoadedLayers F S E T N Q} → drop i inputs ≡ []
      → HaveRun meaning spec_meaning engines features inputs i old now loaded
      → Ran (input_steps engines features [] (map input_view inputs)) old now passed
  runs_end {i} {old} {now} none so_far =
      let nothing : input_steps engines features [] (map input_view inputs) ≡ so_far.done =
      so_far.splits ∙ ap (λ is. so_far.done
      ++ input_steps engines features (sources_before i inputs) (map input_view is)) none
      ∙ append-nil so_far.done in
      rw nothing so_far.ran

  -- and all sources are loaded
  pub runs_loaded : {i : ℕ} {old now : List Warning} {loaded : LoadedLayers F S E T N Q}
      → take i inputs ≡ inputs → HaveRun meaning spec_meaning engines features inputs i old now loaded
      → HasLoaded meaning spec_meaning engines (flat_map source_texts_of (map input_view inputs)) loaded
  runs_loaded {i} {old} {now} {loaded} all so_far =
      subst (λ (is : List SourceInput). HasLoaded meaning spec_meaning engines
      (flat_map source_texts_of (map input_view is)) loaded) all so_far.sources
