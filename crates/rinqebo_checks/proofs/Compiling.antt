-- Findings of what does not compile.
use Rattle.std.proofs.Common.{◌≡◌, ◌<◌, ◌≤◌, ℕ, List, [], ◌∷◌, ◌++◌, length, Option, None, refl, ap, ◌∙◌, append-nil, arith, length-append}
use Rattle.nextest_places.specs.Spans.Paths.{PathStep}
use Rattle.rinqebo_report.specs.declared.codes.code.Code.{Code}
use Rattle.rinqebo_report.specs.declared.finding.Finding.{Finding}
use Rattle.rinqebo_request.specs.declared.files.layers.Layer.{Layer}
use Rattle.rinqebo_request.specs.declared.files.places.SpanPart.{SpanPart}
use Rattle.rinqebo_findings.specs.Compile.{or_else}
use Rattle.rinqebo_findings.specs.Each.{AreOfEach}
use Rattle.rinqebo_findings.specs.Later.{AddsLater, at, IsLaterFinding, LaterFault}
use Rattle.rinqebo_findings.specs.LaterWords.{says, says_alone}
use Rattle.rinqebo_findings.proofs.Later.{adds_both}

module _ (layers : List Layer) (source : Option ℕ) where
  no_more : (more : List Finding) → AreOfEach (IsLaterFinding layers source) [] more → more ≡ []
  no_more [] are = refl
  no_more (finding ∷ more) are = absurd are

  some_more : (fault : LaterFault) (faults : List LaterFault) (more : List Finding)
      → AreOfEach (IsLaterFinding layers source) (fault ∷ faults) more → 0 < length more
  some_more fault faults [] are = absurd are
  some_more fault faults (finding ∷ more) are = omega arith

  -- findings of some texts are added
  pub texts_alone : (faults : List LaterFault) (other : LaterFault) (old new : List Finding)
      → length old < length new → AddsLater layers source faults old new
      → AddsLater layers source (or_else faults other) old new
  texts_alone [] other old new longer h =
      let same : new ≡ old = h.whole ∙ ap (λ more. old ++ more) (no_more h.more h.are) ∙ append-nil old in
      absurd (omega (arith, ap length same))
  texts_alone (fault ∷ faults) other old new longer h = h

  -- there are no findings of texts, and that of another fault is added
  pub texts_none : (faults : List LaterFault) (other : LaterFault) (old mid new : List Finding)
      → length mid ≤ length old → AddsLater layers source faults old mid
      → AddsLater layers source (other ∷ []) mid new
      → AddsLater layers source (or_else faults other) old new
  texts_none [] other old mid new no_longer h k =
      adds_both layers source [] (other ∷ []) old mid new h k
  texts_none (fault ∷ faults) other old mid new no_longer h k =
      let some : 0 < length h.more = some_more fault faults h.more h.are in
      absurd (omega (arith, ap length h.whole, length-append old h.more))

  -- a finding that says a message says some message
  some_message : (part : SpanPart) (code : Code) (path : List PathStep) (message : List ℕ) (more : List Finding)
      → AreOfEach (IsLaterFinding layers source) (at part code path (says message None None) ∷ []) more
      → AreOfEach (IsLaterFinding layers source) (at part code path says_alone ∷ []) more
  some_message part code path message [] are = absurd are
  some_message part code path message (finding ∷ more) are =
      let on = are.0 in
      (record { steps = on.steps; are = on.are; is = on.is; says = (message, on.says) }, are.1)

  -- the finding is added of a fault with a message alone
  pub adds_alone : (part : SpanPart) (code : Code) (path : List PathStep) (message : List ℕ) (old new : List Finding)
      → AddsLater layers source (at part code path (says message None None) ∷ []) old new
      → AddsLater layers source (at part code path says_alone ∷ []) old new
  adds_alone part code path message old new h =
      record { more = h.more; whole = h.whole; are = some_message part code path message h.more h.are }
