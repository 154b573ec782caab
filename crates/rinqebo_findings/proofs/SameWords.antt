-- Findings of later checks of which the same is said.
use Rattle.std.proofs.Common.{◌≡◌, ℕ, List, [], ◌∷◌, ◌++◌, codes, Option, true, false, refl}
use Rattle.nextest_places.specs.Spans.Paths.{PathStep}
use Rattle.nextest_tree.specs.Schema.{is_one_of}
use Rattle.rinqebo_report.specs.declared.codes.code.Code.{Code}
use Rattle.rinqebo_report.specs.declared.finding.Finding.{Finding}
use Rattle.rinqebo_request.specs.declared.files.layers.Layer.{Layer}
use Rattle.rinqebo_request.specs.declared.files.places.SpanPart.{SpanPart}
use Rattle.rinqebo_findings.specs.Later.{AddsLater, at}
use Rattle.rinqebo_findings.specs.LaterWords.{group_names, Said, says, says_none_of}
use Rattle.rinqebo_findings.proofs.Later.{adds_at, adds_said}

-- the same message, the same that is expected, and the same help
pub same_says : (message other : List ℕ) (expected wanted help advice : Option (List ℕ))
    → message ≡ other → expected ≡ wanted → help ≡ advice
    → says message expected help ≡ says other wanted advice
same_says message other expected wanted help advice m e h = cc

-- the same message of the same name and of the same known ones
pub same_none_of : (message other name word : List ℕ) (known names : List (List ℕ))
    → message ≡ other → name ≡ word → known ≡ names
    → says_none_of message name known ≡ says_none_of other word names
same_none_of message other name word known names m n k = cc

-- the fault at the same path of which the same is said
pub adds_as : (layers : List Layer) (source : Option ℕ) (part : SpanPart) (code : Code)
    (path other : List PathStep) (said words : Said) (old new : List Finding)
    → path ≡ other → said ≡ words
    → AddsLater layers source (at part code path said ∷ []) old new
    → AddsLater layers source (at part code other words ∷ []) old new
adds_as layers source part code path other said words old new same is h =
    adds_said layers source part code other said words old new is
    (adds_at layers source part code path other said old new same h)

-- the global group is known already
pub has_global : (known : List (List ℕ)) → is_one_of known (codes "@global") ≡ true
    → known ≡ group_names known
has_global known is = rw is refl

-- the global group is one more
pub lacks_global : (known : List (List ℕ)) → is_one_of known (codes "@global") ≡ false
    → known ++ codes "@global" ∷ [] ≡ group_names known
lacks_global known is = rw is refl
