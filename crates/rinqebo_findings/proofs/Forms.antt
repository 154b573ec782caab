-- Findings of what nextest refuses in files, one after another.
use Rattle.std.proofs.Common.{◌≡◌, ◌+◌, ◌<◌, ℕ, Bool, true, false, List, [], ◌∷◌, ◌++◌, length, map, drop, get_or, Option, Some, if◌then◌else◌, refl, sym, ap, ◌∙◌, subst, append_assoc, append-nil}
use Rattle.std.proofs.lemmas.List.{drop_more, map-append}
use Rattle.nextest_places.specs.Spans.Paths.{path_step, PathStep}
use Rattle.nextest_places.specs.declared.step.Step.{Step}
use Rattle.nextest_places.specs.declared.step.Step.TheVariants as steps
use Rattle.nextest_tree.specs.Node.{array, as_bool, as_text, bool, int, Node, opaque, table, text}
use Rattle.nextest_tree.specs.View.{nodes_view, tree_view}
use Rattle.nextest_tree.specs.declared.tree.Tree.{Tree}
use Rattle.rinqebo_report.specs.declared.codes.code.Code.{Code}
use Rattle.rinqebo_report.specs.declared.finding.Finding.{Finding}
use Rattle.rinqebo_request.specs.declared.files.layers.Layer.{Layer}
use Rattle.rinqebo_request.specs.declared.files.places.SpanPart.{SpanPart}
use Rattle.rinqebo_findings.specs.Each.{AreOfEach}
use Rattle.rinqebo_findings.specs.Later.{AddsLater, at, IsLaterFinding}
use Rattle.rinqebo_findings.specs.LaterWords.{Said}
use Rattle.rinqebo_findings.specs.NextestForms.{AddsForms, each_position, FormFault, IsFormError, IsFormFinding, key_in, refused}
use Rattle.rinqebo_findings.specs.Placed.{IsPlacedAt}
use Rattle.rinqebo_findings.specs.Subjects.{error_at, subject}
use Rattle.rinqebo_findings.proofs.Each.{of_both}

module _ (layers : List Layer) (source : Option ℕ) where
  -- nothing is added
  pub forms_none : (findings : List Finding) → AddsForms layers source [] findings findings
  forms_none findings = record { more = []; whole = sym (append-nil findings); are = tt }

  -- the finding of a fault is added
  pub forms_one : (fault : FormFault) (finding : Finding) (old new : List Finding)
      → new ≡ old ++ finding ∷ [] → IsFormFinding layers source fault finding
      → AddsForms layers source (fault ∷ []) old new
  forms_one fault finding old new whole is =
      record { more = finding ∷ []; whole = whole; are = (is, tt) }

  -- the finding of one fault is an error
  one_refused : (part : SpanPart) (code : Code) (path : List PathStep) (said : Said) (more : List Finding)
      → AreOfEach (IsLaterFinding layers source) (at part code path said ∷ []) more
      → AreOfEach (IsFormFinding layers source) (refused part code path ∷ []) more
  one_refused part code path said [] h = absurd h
  one_refused part code path said (finding ∷ []) h =
      let on = h.0 in
      (record { steps = on.steps; are = on.are; is = on.is }, tt)
  one_refused part code path said (finding ∷ other ∷ more) h = absurd h.1

  -- the error of a fault is added
  pub forms_later : (part : SpanPart) (code : Code) (path : List PathStep) (said : Said) (old new : List Finding)
      → AddsLater layers source (at part code path said ∷ []) old new
      → AddsForms layers source (refused part code path ∷ []) old new
  forms_later part code path said old new h =
      record { more = h.more; whole = h.whole; are = one_refused part code path said h.more h.are }

  -- an error at a path is added
  pub forms_at : (part : SpanPart) (code : Code) (path : List Step) (finding : Finding) (old new : List Finding)
      → subject finding ≡ error_at code path → IsPlacedAt part layers source path finding.place
      → new ≡ old ++ finding ∷ [] → AddsForms layers source (refused part code (map path_step path) ∷ []) old new
  forms_at part code path finding old new about place whole =
      let is : IsFormError layers source part code (map path_step path) finding =
      record { steps = path; are = refl; is = record { about = about; place = place } } in
      forms_one (refused part code (map path_step path)) finding old new whole is

  -- the same faults
  pub forms_same : (faults others : List FormFault) (old new : List Finding) → faults ≡ others
      → AddsForms layers source faults old new → AddsForms layers source others old new
  forms_same faults others old new same h =
      subst (λ fs. AddsForms layers source fs old new) same h

  -- the findings of some faults are added, and then those of others
  pub forms_both : (faults others : List FormFault) (old mid new : List Finding)
      → AddsForms layers source faults old mid → AddsForms layers source others mid new
      → AddsForms layers source (faults ++ others) old new
  forms_both faults others old mid new h k =
      record {
        more = h.more ++ k.more;
        whole = k.whole ∙ ap (λ xs. xs ++ k.more) h.whole ∙ append_assoc old h.more k.more;
        are = of_both (IsFormFinding layers source) faults others h.more k.more h.are k.are;
      }

  -- the findings of the faults that are left make those of all
  abbrev pub Left : List Finding → List Finding → (rest all : List FormFault) → Type 0
  Left old now rest all =
      (new : List Finding) → AddsForms layers source rest now new → AddsForms layers source all old new

  -- some of those that are left are added
  pub left_more : (old now mid : List Finding) (own rest left all : List FormFault)
      → Left old now left all → left ≡ own ++ rest → AddsForms layers source own now mid
      → Left old mid rest all
  left_more old now mid own rest left all is parts added =
      λ new h. is new (forms_same (own ++ rest) left now new (sym parts)
      (forms_both own rest now mid new added h))

  -- none is left
  pub left_none : (old now : List Finding) (left all : List FormFault) → Left old now left all → left ≡ []
      → AddsForms layers source all old now
  left_none old now left all is none = is now (forms_same [] left now now (sym none) (forms_none now))

-- ---- values

-- one of two lists, by a test
pub when : (test : Bool) (one other : List FormFault) → test ≡ true
    → one ≡ (if test then one else other)
when test one other is = rw is refl

pub unless : (test : Bool) (one other : List FormFault) → test ≡ false
    → other ≡ (if test then one else other)
unless test one other is = rw is refl

-- the path of a key of a table
pub key_path : (path longer : List Step) (key : _) → longer ≡ path ++ steps.Key key ∷ []
    → map path_step longer ≡ key_in (map path_step path) key.now
key_path path longer key is = ap (map path_step) is ∙ map-append path_step path (steps.Key key ∷ [])

-- a node that is a text
pub text_is : (given : Node) (t : List ℕ) → Some t ≡ as_text given → text t ≡ given
text_is (table others) t is = cc
text_is (array others) t is = cc
text_is (text other) t is = let same : t ≡ other = cc in ap text same
text_is (int z) t is = cc
text_is (bool b) t is = cc
text_is opaque t is = cc

-- a node that is a boolean
pub bool_is : (given : Node) (b : Bool) → Some b ≡ as_bool given → bool b ≡ given
bool_is (table others) b is = cc
bool_is (array others) b is = cc
bool_is (text t) b is = cc
bool_is (int z) b is = cc
bool_is (bool other) b is = let same : b ≡ other = cc in ap bool same
bool_is opaque b is = cc

-- one item, and those behind it
pub position_next : (faults : ℕ → Node → List FormFault) (items : List Tree) (i : ℕ) (item : Tree)
    → i < length items → item ≡ get_or items i item
    → each_position faults i (nodes_view (drop i items))
    ≡ faults i (tree_view item) ++ each_position faults (i + 1) (nodes_view (drop (i + 1) items))
position_next faults items i item within is =
    let here : drop i items ≡ item ∷ drop (i + 1) items =
    drop_more items i item within ∙ ap (λ t. t ∷ drop (i + 1) items) (sym is) in
    ap (λ ts. each_position faults i (nodes_view ts)) here
