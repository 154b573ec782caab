-- Findings of warnings.
use Rattle.std.proofs.Common.{◌≡◌, ◌≤◌, ◌+◌, ℕ, true, List, [], ◌∷◌, ◌++◌, length, map, take, Option, refl, sym, ap, ◌∙◌, subst, append_assoc, append-nil}
use Rattle.std.proofs.lemmas.List.{map-append, take_all}
use Rattle.std.proofs.lemmas.List.Elements.{filter-append}
use Rattle.nextest_places.specs.Spans.Paths.{path_step, PathStep}
use Rattle.nextest_places.specs.declared.step.Step.{Step}
use Rattle.nextest_sources.specs.Warnings.{Warning, unknown_keys, reserved_profiles, deprecated_scripts, empty_sections}
use Rattle.nextest_sources.specs.WarningsView.{warning_view}
use Rattle.nextest_sources.specs.declared.warnings.ConfigWarning.{ConfigWarning}
use Rattle.rinqebo_report.specs.declared.codes.code.Code.{Code}
use Rattle.rinqebo_report.specs.declared.finding.Finding.{Finding}
use Rattle.rinqebo_request.specs.declared.files.layers.Layer.{Layer}
use Rattle.rinqebo_findings.specs.Each.{AreOfEach}
use Rattle.rinqebo_findings.specs.Subjects.{subject}
use Rattle.rinqebo_findings.specs.Warnings.{is_other, other_warnings, ReportWarning, ReportWarnings, WarnsAt, WarnsOf}

-- the finding of one thing
pub of_one : {X : Type 0} (IsOf : X → Finding → Type 0) (x : X) (finding : Finding) (found : List Finding)
    → found ≡ finding ∷ [] → IsOf x finding → AreOfEach IsOf (x ∷ []) found
of_one IsOf x finding found whole is = subst (AreOfEach IsOf (x ∷ [])) (sym whole) (is, tt)

-- the warnings about other things are those of some warnings, and of the others
pub others_split : (xs ys : List ConfigWarning) → other_warnings (map warning_view (xs ++ ys))
    ≡ other_warnings (map warning_view xs) ++ other_warnings (map warning_view ys)
others_split xs ys =
    ap other_warnings (map-append warning_view xs ys)
    ∙ filter-append is_other (map warning_view xs) (map warning_view ys)

module _ (layers : List Layer) where
  -- a finding that warns of a key, with more of what it says
  pub warns_of : (source : Option ℕ) (code : Code) (path : List PathStep) {steps : List Step}
      {found : Finding} (shown : Finding) → WarnsAt layers source code steps found
      → subject shown ≡ subject found → shown.place ≡ found.place → map path_step steps ≡ path
      → WarnsOf layers source code path shown
  warns_of source code path {steps = steps} {found = found} shown h same_subject same_place are =
      let warns : WarnsAt layers source code steps shown =
      record {
        about = same_subject ∙ h.about;
        place = rw same_place h.place;
      } in
      record { steps = steps; are = are; warns = warns }

  -- the findings of one warning
  pub reports_one : (warning : Warning) (own : List Finding) → ReportWarning layers warning own
      → ReportWarnings layers (warning ∷ []) own
  reports_one warning own h = (own, [], sym (append-nil own), h, refl)

  -- the findings of some warnings, and then of others
  reports_both : (warnings others : List Warning) (found more : List Finding)
      → ReportWarnings layers warnings found → ReportWarnings layers others more
      → ReportWarnings layers (warnings ++ others) (found ++ more)
  reports_both [] others found more h k =
      subst (λ fs. ReportWarnings layers others (fs ++ more)) (sym h) k
  reports_both (warning ∷ warnings) others found more h k = (
    h.0,
    h.1 ++ more,
    ap (λ fs. fs ++ more) h.2 ∙ append_assoc h.0 h.1 more,
    h.3,
    reports_both warnings others h.1 more h.4 k,
  )

  -- the findings of one warning, unless it is about unknown keys
  pub reports_other : (warning : Warning) (own : List Finding) → is_other warning ≡ true
      → ReportWarning layers warning own → ReportWarnings layers (other_warnings (warning ∷ [])) own
  reports_other (unknown_keys source keys) own is h = cc
  reports_other (reserved_profiles source names) own is h =
      reports_one (reserved_profiles source names) own h
  reports_other (deprecated_scripts source) own is h = reports_one (deprecated_scripts source) own h
  reports_other (empty_sections source profile count) own is h =
      reports_one (empty_sections source profile count) own h

  -- the findings up to one more warning
  pub reports_next : (h : List ConfigWarning → List Warning)
      → ((xs ys : List ConfigWarning) → h (xs ++ ys) ≡ h xs ++ h ys)
      → (warnings : List ConfigWarning) (place : ℕ) (warning : ConfigWarning)
      → (found own all : List Finding) → take (place + 1) warnings ≡ take place warnings ++ warning ∷ []
      → all ≡ found ++ own → ReportWarnings layers (h (take place warnings)) found
      → ReportWarnings layers (h (warning ∷ [])) own
      → ReportWarnings layers (h (take (place + 1) warnings)) all
  reports_next h split warnings place warning found own all more whole before here =
      subst (λ ws. ReportWarnings layers ws all)
      (sym (ap h more ∙ split (take place warnings) (warning ∷ [])))
      (subst (ReportWarnings layers (h (take place warnings) ++ h (warning ∷ []))) (sym whole)
      (reports_both (h (take place warnings)) (h (warning ∷ [])) found own before here))

  -- the findings of all
  pub reports_all : (h : List ConfigWarning → List Warning) (warnings : List ConfigWarning) (place : ℕ)
      (found : List Finding) → length warnings ≤ place
      → ReportWarnings layers (h (take place warnings)) found → ReportWarnings layers (h warnings) found
  reports_all h warnings place found no_more reported =
      subst (λ ws. ReportWarnings layers (h ws) found) (take_all place warnings no_more) reported
