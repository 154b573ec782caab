-- Findings of values.
use Rattle.std.proofs.Common.{◌≡◌, ℕ, List, [], ◌∷◌, ◌++◌, codes, map, Bool, false, Option, None, Some, is_some, String, inr, refl, sym, ap, ◌∙◌, subst}
use Rattle.std.specs.Borrow.{Bor}
use Rattle.std.specs.Option.{option_copied}
use Rattle.std.specs.declared.alloc.Global.{Global}
use Rattle.std.proofs.lemmas.List.{append_assoc, append-nil, map-append}
use Rattle.nextest_places.specs.Spans.Paths.{path_step}
use Rattle.nextest_places.specs.Spans.Paths as paths
use Rattle.nextest_places.specs.declared.step.Step.{Step}
use Rattle.nextest_places.specs.declared.step.Step.TheVariants as steps
use Rattle.nextest_tree.specs.declared.fault.ElementCause.{ElementCause}
use Rattle.nextest_tree.specs.declared.fault.ElementCause.TheVariants as causes
use Rattle.rinqebo_report.specs.declared.codes.code.Code.TheVariants.{MaxDelayBelowDelay}
use Rattle.rinqebo_request.specs.Files.Origins.{IsPartPlace}
use Rattle.rinqebo_request.specs.declared.files.layers.Layer.{Layer}
use Rattle.rinqebo_request.specs.declared.files.places.SpanPart.{SpanPart}
use Rattle.rinqebo_request.specs.declared.files.places.SpanPart.TheVariants as parts
use Rattle.rinqebo_report.specs.declared.finding.Finding.{Finding}
use Rattle.rinqebo_report.specs.declared.origin.FilePlace.{FilePlace}
use Rattle.rinqebo_findings.specs.Placed.{IsOnLines, IsPlaceIn, IsPlacedAt, file_and_lines}
use Rattle.rinqebo_findings.specs.Subjects.{IsDelaysError, IsElementFinding, IsErrorAt, IsGivenFinding, IsStrayFor, IsValueFinding, error_at, subject}
use Rattle.rinqebo_findings.specs.Words.{delays_words, IsDelaysNote, SaysDelays, with_note, Words}
use Rattle.rinqebo_findings.specs.Written.{text_at}

-- a place of a known source
pub placed_in : (part : SpanPart) (layers : List Layer) (source : Option ℕ) (n : ℕ) (path : List Step)
    (place : FilePlace) → source ≡ Some n → IsPartPlace part layers n path place
    → IsPlaceIn part layers source path (Some place)
placed_in part layers source n path place is there =
    subst (λ s. IsPlaceIn part layers s path (Some place)) (sym is) there

-- there is no place of a source that is not known
pub placed_nowhere : (part : SpanPart) (layers : List Layer) (source : Option ℕ) (path : List Step) → source ≡ None
    → IsPlaceIn part layers source path None
placed_nowhere part layers source path is = subst (λ s. IsPlaceIn part layers s path None) (sym is) refl

-- what is not there
pub not_some : {A : Type 0} (o : Option A) (b : Bool) → b ≡ is_some o → b ≡ false → o ≡ None
not_some (Some x) b same unset = cc
not_some None b same unset = refl

-- what is behind a reference, if there is one
pub copied_there : (o : Option (Bor (List ℕ))) → is_some o ≡ is_some (option_copied o)
copied_there (Some x) = refl
copied_there None = refl

-- a place in another file
pub placed_elsewhere : (part : SpanPart) (layers : List Layer) (source : Option ℕ) (path : List Step)
    (given : Option FilePlace) (own place : FilePlace) → given ≡ Some own → own.lines ≡ None
    → (other : ℕ) × IsPartPlace part layers other path place → IsPlaceIn part layers source path given
    → IsPlacedAt part layers source path (Some place)
placed_elsewhere part layers source path given own place is unwritten there own_is =
    inr (record {
      own = own;
      own_is = subst (IsPlaceIn part layers source path) is own_is;
      unwritten = unwritten;
      other = there.0;
      elsewhere = there.1;
    })

module _ (layers : List Layer) (source : Option ℕ) where
  -- the finding of a value that is not out of range
  pub given_here : (cause : ElementCause) (path : List Step) (finding : Finding)
      → (cause ≡ causes.OutOfRange → ⊥) → IsValueFinding layers source cause path finding
      → IsGivenFinding layers source cause path finding
  given_here causes.WrongKind path finding other is = is
  given_here (causes.Missing key) path finding other is = is
  given_here (causes.BadValue given expected) path finding other is = is
  given_here causes.OutOfRange path finding other is = absurd (other refl)
  given_here causes.UnknownField path finding other is = is
  given_here causes.Memory path finding other is = is

  -- the finding of a value that lacks no key
  pub other_here : (cause : ElementCause) (path : List Step) (stray : Option (Bor (List ℕ))) (finding : Finding)
      → ((key : String Global) → cause ≡ causes.Missing key → ⊥)
      → IsGivenFinding layers source cause path finding
      → IsElementFinding layers source cause path stray finding
  other_here causes.WrongKind path stray finding other is = is
  other_here (causes.Missing key) path stray finding other is = absurd (other key refl)
  other_here (causes.BadValue given expected) path stray finding other is = is
  other_here causes.OutOfRange path stray finding other is = is
  other_here causes.UnknownField path stray finding other is = is
  other_here causes.Memory path stray finding other is = is

  -- a table that lacks no key has none in its place
  pub no_stray_for : (cause : ElementCause) (path : List Step)
      → ((key : String Global) → cause ≡ causes.Missing key → ⊥) → IsStrayFor layers source cause path None
  no_stray_for causes.WrongKind path other = refl
  no_stray_for (causes.Missing key) path other = absurd (other key refl)
  no_stray_for (causes.BadValue given expected) path other = refl
  no_stray_for causes.OutOfRange path other = refl
  no_stray_for causes.UnknownField path other = refl
  no_stray_for causes.Memory path other = refl

  -- delays that do not agree, at their table
  pub delays_here : (table : List Step) (finding : Finding)
      → subject finding ≡ error_at MaxDelayBelowDelay table
      → IsPlacedAt parts.Value layers source table finding.place
      → IsDelaysError layers source table finding
  delays_here table finding about place =
      let same : table ≡ table ++ [] = sym (append-nil table) in
      record {
        rest = [];
        about = about ∙ ap (error_at MaxDelayBelowDelay) same;
        place = record {
          value = finding.place;
          value_is = subst (λ path. IsPlacedAt parts.Value layers source path finding.place) same place;
          same = refl;
        };
      }

  -- delays that do not agree, at one of them
  pub delays_of : (path : List Step) (found shown : Finding)
      → IsErrorAt layers source MaxDelayBelowDelay parts.Value path found → subject shown ≡ subject found
      → file_and_lines shown.place ≡ file_and_lines found.place → IsDelaysError layers source path shown
  delays_of path found shown is same_subject same_lines =
      let same : path ≡ path ++ [] = sym (append-nil path) in
      record {
        rest = [];
        about = same_subject ∙ is.about ∙ ap (error_at MaxDelayBelowDelay) same;
        place = record {
          value = found.place;
          value_is = subst (λ p. IsPlacedAt parts.Value layers source p found.place) same is.place;
          same = same_lines;
        };
      }

  -- delays that do not agree, which values of a table have
  pub delays_above : (table rest path : List Step) (finding : Finding) → path ≡ table ++ rest
      → IsDelaysError layers source path finding → IsDelaysError layers source table finding
  delays_above table rest path finding path_is is =
      let same : path ++ is.rest ≡ table ++ (rest ++ is.rest) =
      ap (λ p. p ++ is.rest) path_is ∙ append_assoc table rest is.rest in
      record {
        rest = rest ++ is.rest;
        about = is.about ∙ ap (error_at MaxDelayBelowDelay) same;
        place = subst (λ p. IsOnLines layers source p finding.place) same is.place;
      }

  -- what a finding says of the delays of a table
  pub delays_said : (table last first : List Step) (max least : Bor (List ℕ)) (words : Words)
      (most few note : Option (List ℕ)) → last ≡ table ++ steps.Key max ∷ [] → max.now ≡ codes "max-delay"
      → first ≡ table ++ steps.Key least ∷ [] → least.now ≡ codes "delay"
      → text_at layers source last ≡ most → text_at layers source first ≡ few
      → IsDelaysNote layers source last first most few note
      → words ≡ with_note (delays_words most few) note → SaysDelays layers source table words
  delays_said table last first max least words most few note last_is max_is first_is least_is most_is few_is note_is says =
      record {
        last = last;
        last_is = ap (map path_step) last_is ∙ map-append path_step table (steps.Key max ∷ [])
            ∙ ap (λ key. map path_step table ++ paths.key key ∷ []) max_is;
        first = first;
        first_is = ap (map path_step) first_is ∙ map-append path_step table (steps.Key least ∷ [])
            ∙ ap (λ key. map path_step table ++ paths.key key ∷ []) least_is;
        note = note;
        is_note = subst (λ m. IsDelaysNote layers source last first m (text_at layers source first) note) (sym most_is)
            (subst (λ f. IsDelaysNote layers source last first most f note) (sym few_is) note_is);
        says = says ∙ ap (λ m. with_note (delays_words m few) note) (sym most_is)
            ∙ ap (λ f. with_note (delays_words (text_at layers source last) f) note) (sym few_is);
      }
