-- Findings of what later checks refuse, one after another.
use Rattle.std.proofs.Common.{◌≡◌, ◌≤◌, ◌+◌, ℕ, List, [], ◌∷◌, ◌++◌, length, map, take, Option, None, Some, option_map, refl, sym, ap, ◌∙◌, subst, append_assoc, append-nil}
use Rattle.std.specs.Prelude.{flat_map}
use Rattle.std.proofs.lemmas.List.{take_all}
use Rattle.std.proofs.lemmas.Grind.{flat_map-append}
use Rattle.nextest_places.specs.Spans.Paths.{path_step, PathStep}
use Rattle.nextest_places.specs.declared.step.Step.{Step}
use Rattle.rinqebo_report.specs.Codes.Codes.{code_word}
use Rattle.rinqebo_report.specs.declared.codes.code.Code.{Code}
use Rattle.rinqebo_report.specs.declared.finding.Finding.{Finding}
use Rattle.rinqebo_report.specs.declared.finding.Level.TheVariants as levels
use Rattle.rinqebo_report.specs.declared.origin.FilePlace.{FilePlace}
use Rattle.rinqebo_request.specs.declared.files.layers.Layer.{Layer}
use Rattle.rinqebo_request.specs.declared.files.places.SpanPart.{SpanPart}
use Rattle.rinqebo_findings.specs.Later.{AddsLater, at, IsErrorOn, IsFileError, IsLaterFinding, LaterFault, of_file, whole_place}
use Rattle.rinqebo_findings.specs.LaterWords.{Said, Says}
use Rattle.rinqebo_findings.specs.Placed.{IsPlacedAt}
use Rattle.rinqebo_findings.specs.Subjects.{error_at, IsErrorAt, subject}
use Rattle.rinqebo_findings.specs.Words.{words_of}
use Rattle.rinqebo_findings.proofs.Each.{of_both}

-- the source of the place of a whole source
pub whole_source : (source : Option ℕ) → option_map (λ (place : FilePlace). place.source) (option_map whole_place source) ≡ source
whole_source None = refl
whole_source (Some n) = refl

module _ (layers : List Layer) (source : Option ℕ) where
  -- nothing is added
  pub adds_none : (findings : List Finding) → AddsLater layers source [] findings findings
  adds_none findings = record { more = []; whole = sym (append-nil findings); are = tt }

  -- the finding of a fault is added
  pub adds_one : (fault : LaterFault) (finding : Finding) (old new : List Finding)
      → new ≡ old ++ finding ∷ [] → IsLaterFinding layers source fault finding
      → AddsLater layers source (fault ∷ []) old new
  adds_one fault finding old new whole is = record { more = finding ∷ []; whole = whole; are = (is, tt) }

  -- the finding of a fault at a path is added
  pub adds_part : (part : SpanPart) (code : Code) (path : List Step) (said : Said) (finding : Finding)
      (old new : List Finding)
      → subject finding ≡ error_at code path → IsPlacedAt part layers source path finding.place
      → Says layers source said (words_of finding) → new ≡ old ++ finding ∷ []
      → AddsLater layers source (at part code (map path_step path) said ∷ []) old new
  adds_part part code path said finding old new about place says whole =
      let is : IsErrorAt layers source code part path finding =
      record { about = about; place = place } in
      let on : IsErrorOn layers source code part (map path_step path) said finding =
      record { steps = path; are = refl; is = is; says = says } in
      adds_one (at part code (map path_step path) said) finding old new whole on

  -- the finding of a fault of a whole source is added
  pub adds_file : (code : Code) (said : Said) (finding : Finding) (old new : List Finding)
      → subject finding ≡ record { level = levels.Error; code = code_word code; path = None }
      → option_map (λ (place : FilePlace). place.source) finding.place ≡ source
      → Says layers source said (words_of finding) → new ≡ old ++ finding ∷ []
      → AddsLater layers source (of_file code said ∷ []) old new
  adds_file code said finding old new about place says whole =
      let is : IsFileError layers source code said finding =
      record { about = about; place = place; says = says } in
      adds_one (of_file code said) finding old new whole is

  -- the same faults
  pub adds_same : (faults others : List LaterFault) (old new : List Finding) → faults ≡ others
      → AddsLater layers source faults old new → AddsLater layers source others old new
  adds_same faults others old new same h = subst (λ fs. AddsLater layers source fs old new) same h

  -- the fault at the same path
  pub adds_at : (part : SpanPart) (code : Code) (path other : List PathStep) (said : Said)
      (old new : List Finding)
      → path ≡ other → AddsLater layers source (at part code path said ∷ []) old new
      → AddsLater layers source (at part code other said ∷ []) old new
  adds_at part code path other said old new same h =
      subst (λ p. AddsLater layers source (at part code p said ∷ []) old new) same h

  -- the fault of which the same is said
  pub adds_said : (part : SpanPart) (code : Code) (path : List PathStep) (said other : Said)
      (old new : List Finding)
      → said ≡ other → AddsLater layers source (at part code path said ∷ []) old new
      → AddsLater layers source (at part code path other ∷ []) old new
  adds_said part code path said other old new same h =
      subst (λ s. AddsLater layers source (at part code path s ∷ []) old new) same h

  -- the findings of some faults are added, and then those of others
  pub adds_both : (faults others : List LaterFault) (old mid new : List Finding)
      → AddsLater layers source faults old mid → AddsLater layers source others mid new
      → AddsLater layers source (faults ++ others) old new
  adds_both faults others old mid new h k =
      record {
        more = h.more ++ k.more;
        whole = k.whole ∙ ap (λ xs. xs ++ k.more) h.whole ∙ append_assoc old h.more k.more;
        are = of_both (IsLaterFinding layers source) faults others h.more k.more h.are k.are;
      }

  -- the findings of the faults of one more thing are added
  pub adds_next : {X : Type 0} (of : X → List LaterFault) (xs : List X) (place : ℕ) (x : X)
      (old mid new : List Finding) → take (place + 1) xs ≡ take place xs ++ x ∷ []
      → AddsLater layers source (flat_map of (take place xs)) old mid
      → AddsLater layers source (of x) mid new
      → AddsLater layers source (flat_map of (take (place + 1) xs)) old new
  adds_next of xs place x old mid new more h k =
      adds_same (flat_map of (take place xs) ++ of x) (flat_map of (take (place + 1) xs)) old new
      (sym (ap (flat_map of) more ∙ flat_map-append of (take place xs) (x ∷ [])
      ∙ ap (λ fs. flat_map of (take place xs) ++ fs) (append-nil (of x))))
      (adds_both (flat_map of (take place xs)) (of x) old mid new h k)

  -- those of all
  pub adds_all : {X : Type 0} (of : X → List LaterFault) (xs : List X) (place : ℕ)
      (old new : List Finding) → length xs ≤ place
      → AddsLater layers source (flat_map of (take place xs)) old new
      → AddsLater layers source (flat_map of xs) old new
  adds_all of xs place old new no_more h =
      subst (λ ys. AddsLater layers source (flat_map of ys) old new) (take_all place xs no_more) h

  -- those of one more thing before the rest
  pub adds_first : {X : Type 0} (of : X → List LaterFault) (xs rest : List X) (x : X)
      (old mid new : List Finding) → xs ≡ x ∷ rest
      → AddsLater layers source (of x) old mid → AddsLater layers source (flat_map of rest) mid new
      → AddsLater layers source (flat_map of xs) old new
  adds_first of xs rest x old mid new is h k =
      adds_same (flat_map of (x ∷ rest)) (flat_map of xs) old new (ap (flat_map of) (sym is))
      (adds_both (of x) (flat_map of rest) old mid new h k)
