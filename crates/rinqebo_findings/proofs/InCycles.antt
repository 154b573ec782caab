-- Profiles that inherit in cycles.
use Rattle.std.proofs.Common.{◌≡◌, ◌∙◌, ◌++◌, ℕ, List, [], ◌∷◌, codes, map, None, Option, Some, slice_get, String, Global, string_bytes, refl, sym, ap}
use Rattle.std.proofs.lemmas.List.{append_assoc, append-nil}
use Rattle.rinqebo_report.specs.declared.codes.code.Code.{Code}
use Rattle.rinqebo_report.specs.declared.codes.code.Code.TheVariants.{InheritanceCycle}
use Rattle.rinqebo_report.specs.declared.finding.Finding.{Finding}
use Rattle.rinqebo_request.specs.declared.files.layers.Layer.{Layer}
use Rattle.rinqebo_faults.specs.Words.{backquoted}
use Rattle.rinqebo_findings.specs.Each.{AreOfEach}
use Rattle.rinqebo_findings.specs.Later.{AddsLater, cycle_fault, IsLaterFinding, of_file, parent_fault}
use Rattle.rinqebo_findings.specs.LaterWords.{AreCycleSteps, IsCycleStep, IsCycleText, Said, Says, says, says_cycle}
use Rattle.rinqebo_findings.specs.Words.{Words, words_of}

-- a cycle of no profiles
pub no_cycle : (cycle : List (String Global)) → None ≡ slice_get cycle 0
    → of_file InheritanceCycle (says_cycle (map string_bytes cycle)) ≡ cycle_fault (map string_bytes cycle)
no_cycle [] is = refl
no_cycle (first ∷ cycle) is = cc

-- a cycle with a first profile
pub at_first : (cycle : List (String Global)) (first : String Global) → Some first ≡ slice_get cycle 0
    → parent_fault InheritanceCycle (string_bytes first) (says_cycle (map string_bytes cycle))
    ≡ cycle_fault (map string_bytes cycle)
at_first [] first is = cc
at_first (other ∷ cycle) first is =
    let same : first ≡ other = cc in
    let profiles = map string_bytes (other ∷ cycle) in
    ap (λ (name : String Global). parent_fault InheritanceCycle (string_bytes name) (says_cycle profiles)) same

-- a profile of a cycle in words, with those for a place
pub step_said : (profile place shown words : List ℕ)
    → words ≡ codes "`" ++ (profile ++ (codes "`" ++ (place ++ codes " -> "))) → place ≡ shown
    → words ≡ backquoted profile ++ (shown ++ codes " -> ")
step_said profile place shown words is same =
    is ∙ ap (λ front. codes "`" ++ (profile ++ (codes "`" ++ (front ++ codes " -> ")))) same
    ∙ ap (λ behind. codes "`" ++ behind) (sym (append_assoc profile (codes "`") (shown ++ codes " -> ")))

module _ (layers : List Layer) (source : Option ℕ) where
  -- the words for one more profile of a cycle
  pub steps_more : (profiles : List (List ℕ)) (profile words step : List ℕ)
      → AreCycleSteps layers source profiles words → IsCycleStep layers source profile step
      → AreCycleSteps layers source (profiles ++ profile ∷ []) (words ++ step)
  steps_more [] profile words step none is =
      (step, [], ap (λ front. front ++ step) none ∙ sym (append-nil step), is, refl)
  steps_more (first ∷ profiles) profile words step are is = (
    are.0,
    are.1 ++ step,
    ap (λ front. front ++ step) are.2 ∙ append_assoc are.0 are.1 step,
    are.3,
    steps_more profiles profile are.1 step are.4 is,
  )

  reworded_each : (code : Code) (said other : Said) (found : List Finding)
      → ((words : Words) → Says layers source said words → Says layers source other words)
      → AreOfEach (IsLaterFinding layers source) (of_file code said ∷ []) found
      → AreOfEach (IsLaterFinding layers source) (of_file code other ∷ []) found
  reworded_each code said other [] same are = are
  reworded_each code said other (finding ∷ found) same are =
      (record { about = are.0.about; place = are.0.place; says = same (words_of finding) are.0.says }, are.1)

  -- a finding about a whole file that says one thing says another
  pub reworded : (code : Code) (said other : Said) (old new : List Finding)
      → ((words : Words) → Says layers source said words → Says layers source other words)
      → AddsLater layers source (of_file code said ∷ []) old new
      → AddsLater layers source (of_file code other ∷ []) old new
  reworded code said other old new same adds =
      record { more = adds.more; whole = adds.whole; are = reworded_each code said other adds.more same adds.are }

  -- a finding that says the text of a cycle
  pub cycle_said : (profiles : List (List ℕ)) (text : List ℕ) → IsCycleText layers source profiles text
      → (words : Words) → Says layers source (says text None None) words
      → Says layers source (says_cycle profiles) words
  cycle_said profiles text is words said = record { text = text; is_text = is; says = said }
