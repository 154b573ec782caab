-- Findings that report faults.
use Rattle.std.proofs.Common.{◌≡◌, ◌<◌, ◌≤◌, ℕ, List, [], ◌∷◌, ◌++◌, ◌+◌, length, map, take, get_or, None, Some, String, inl, inr, refl, sym, ap, ◌∙◌, subst, arith}
use Rattle.std.proofs.lemmas.List.{append_assoc, append-nil, length-take, map-append, take_all, take_more}
use Rattle.std.proofs.lemmas.List.Elements.{All-push}
use Rattle.std.specs.List.{All}
use Rattle.std.specs.declared.alloc.Global.{Global}
use Rattle.nextest_documents.specs.Merge.{over}
use Rattle.nextest_places.specs.declared.step.Step.{Step}
use Rattle.nextest_shape.specs.declared.faults.found.FoundFault.{FoundFault}
use Rattle.nextest_shape.specs.Faults.Found.{Adds, found_view, refused_at}
use Rattle.nextest_tables.specs.Defaults.{defaults}
use Rattle.nextest_tables.specs.Tables.{a_file}
use Rattle.nextest_tree.specs.declared.fault.ElementCause.TheVariants as causes
use Rattle.nextest_tree.specs.declared.fault.ElementCause.{ElementCause}
use Rattle.nextest_tree.specs.Node.{Node}
use Rattle.nextest_tree.specs.Schema as schema
use Rattle.rinqebo_report.specs.declared.finding.Finding.{Finding}
use Rattle.rinqebo_request.specs.declared.files.layers.Layer.{Layer}
use Rattle.rinqebo_checks.specs.declared.value_faults.ValueFault.{ValueFault}
use Rattle.rinqebo_checks.specs.Faults.{HasStray, IsFindingOf, IsInPlace, IsJoined, IsKeyFinding, IsStrayBelow, ReportDocument, ReportFiles, ReportValues, ReportFaults, document_in}

module _ {Fault : Type 0} (IsOf : Fault → Finding → Type 0) (Joined : Fault → Type 0) where
  -- one more fault, which is joined
  with_joined : (faults : List Fault) (findings : List Finding) (fault : Fault)
      → Joined fault → ReportFaults IsOf Joined faults findings → ReportFaults IsOf Joined (faults ++ fault ∷ []) findings
  with_joined [] [] fault is reported = (is, tt)
  with_joined [] (x ∷ xs) fault is reported = absurd reported
  with_joined (f ∷ fs) [] fault is reported = (reported.0, with_joined fs [] fault is reported.1)
  with_joined (f ∷ fs) (x ∷ xs) fault is reported =
      elim reported [
        | inl t ↦ inl (t.0, with_joined fs (x ∷ xs) fault is t.1)
        | inr t ↦ inr (t.0, with_joined fs xs fault is t.1)
      ]

  -- one more fault, with a finding of its own
  with_one : (faults : List Fault) (findings : List Finding) (fault : Fault) (finding : Finding)
      → IsOf fault finding → ReportFaults IsOf Joined faults findings
      → ReportFaults IsOf Joined (faults ++ fault ∷ []) (findings ++ finding ∷ [])
  with_one [] [] fault finding is reported = inr (is, tt)
  with_one [] (x ∷ xs) fault finding is reported = absurd reported
  with_one (f ∷ fs) [] fault finding is reported = inl (reported.0, with_one fs [] fault finding is reported.1)
  with_one (f ∷ fs) (x ∷ xs) fault finding is reported =
      elim reported [
        | inl t ↦ inl (t.0, with_one fs (x ∷ xs) fault finding is t.1)
        | inr t ↦ inr (t.0, with_one fs xs fault finding is t.1)
      ]

  up_to_next : (faults : List Fault) (place : ℕ) (fault : Fault) (findings : List Finding)
      → place < length faults → fault ≡ get_or faults place fault
      → ReportFaults IsOf Joined (take place faults ++ fault ∷ []) findings → ReportFaults IsOf Joined (take (place + 1) faults) findings
  up_to_next faults place fault findings within is reported =
      subst (λ fs. ReportFaults IsOf Joined fs findings)
      (sym (take_more faults place fault within ∙ ap (λ f. take place faults ++ f ∷ []) (sym is))) reported

  -- the findings of the faults up to one that is joined
  pub next_joined : (faults : List Fault) (place : ℕ) (fault : Fault) (findings : List Finding)
      → place < length faults → fault ≡ get_or faults place fault → Joined fault
      → ReportFaults IsOf Joined (take place faults) findings → ReportFaults IsOf Joined (take (place + 1) faults) findings
  next_joined faults place fault findings within is joined reported =
      up_to_next faults place fault findings within is (with_joined (take place faults) findings fault joined reported)

  -- the findings of the faults up to one that has a finding of its own
  pub next_own : (faults : List Fault) (place : ℕ) (fault : Fault) (findings all : List Finding)
      (finding : Finding) → place < length faults → fault ≡ get_or faults place fault
      → all ≡ findings ++ finding ∷ [] → IsOf fault finding
      → ReportFaults IsOf Joined (take place faults) findings → ReportFaults IsOf Joined (take (place + 1) faults) all
  next_own faults place fault findings all finding within is all_is own reported =
      up_to_next faults place fault all within is
      (subst (ReportFaults IsOf Joined (take place faults ++ fault ∷ [])) (sym all_is)
      (with_one (take place faults) findings fault finding own reported))

  -- the findings of all faults
  pub up_to_end : (faults : List Fault) (place : ℕ) (findings : List Finding) → length faults ≤ place
      → ReportFaults IsOf Joined (take place faults) findings → ReportFaults IsOf Joined faults findings
  up_to_end faults place findings no_more reported =
      subst (λ fs. ReportFaults IsOf Joined fs findings) (take_all place faults no_more) reported

-- a fault that is not that of a table which lacks a key has no stray key
pub no_stray_below : (tree : Node) (cause : ElementCause) (path : List Step)
    → ((key : String Global) → cause ≡ causes.Missing key → ⊥) → IsStrayBelow tree path cause None
no_stray_below tree causes.WrongKind path other = refl
no_stray_below tree (causes.Missing key) path other = absurd (other key refl)
no_stray_below tree (causes.BadValue given expected) path other = refl
no_stray_below tree causes.OutOfRange path other = refl
no_stray_below tree causes.UnknownField path other = refl
no_stray_below tree causes.Memory path other = refl

-- one more fault of those that are left
pub faults_more : (made all : List ValueFault) (fault : ValueFault) (left rest found : List FoundFault)
    → all ≡ made ++ fault ∷ [] → left ≡ fault.fault ∷ rest → map (λ f. f.fault) made ++ left ≡ found
    → map (λ f. f.fault) all ++ rest ≡ found
faults_more made all fault left rest found all_is left_is so_far =
    ap (λ fs. map (λ (f : ValueFault). f.fault) fs ++ rest) all_is
    ∙ ap (λ fs. fs ++ rest) (map-append (λ (f : ValueFault). f.fault) made (fault ∷ []))
    ∙ append_assoc (map (λ (f : ValueFault). f.fault) made) (fault.fault ∷ []) rest
    ∙ ap (λ fs. map (λ (f : ValueFault). f.fault) made ++ fs) (sym left_is) ∙ so_far

-- one more fault, with its stray key
pub strays_more : (tree : Node) (made all : List ValueFault) (fault : ValueFault) → all ≡ made ++ fault ∷ []
    → All (HasStray tree) made → HasStray tree fault → All (HasStray tree) all
strays_more tree made all fault all_is strays has =
    subst (All (HasStray tree)) (sym all_is) (All-push (HasStray tree) made fault strays has)

-- the findings of the values of a document over the defaults, and of its unknown keys
pub of_values_found : (layers : List Layer) (source : ℕ) (document laid : Node) (found keys keys_given : List FoundFault)
    (made given again : List ValueFault) (of_faults of_keys findings : List Finding) → laid ≡ over document defaults
    → Adds [] found (schema.faults a_file [] laid) → Adds [] keys (refused_at (schema.unknown a_file [] laid))
    → map (λ f. f.fault) made ≡ found → All (HasStray laid) made → given ≡ made → again ≡ made → keys_given ≡ keys
    → ReportFaults (IsFindingOf layers source) (IsJoined given) given of_faults
    → ReportFaults (λ key. IsKeyFinding layers source key.path.items) (λ key. IsInPlace again key.path.items) keys_given of_keys
    → findings ≡ of_faults ++ of_keys → ReportValues layers source document findings
of_values_found layers source document laid found keys keys_given made given again of_faults of_keys findings laid_is are_all are_keys same strays same_made same_again same_keys reported keys_reported whole =
    record {
      found = given;
      are_all = subst (λ fs. Adds [] fs (schema.faults a_file [] (over document defaults)))
          (sym (ap (map (λ f. f.fault)) same_made ∙ same))
          (subst (λ node. Adds [] found (schema.faults a_file [] node)) laid_is are_all);
      have_strays = subst (All (HasStray (over document defaults))) (sym same_made)
          (subst (λ node. All (HasStray node) made) laid_is strays);
      of_faults = of_faults;
      reported = reported;
      keys = keys;
      are_all_keys = subst (λ node. Adds [] keys (refused_at (schema.unknown a_file [] node))) laid_is are_keys;
      of_keys = of_keys;
      keys_reported = subst
          (λ fs. ReportFaults (λ key. IsKeyFinding layers source key.path.items) (λ key. IsInPlace fs key.path.items) keys of_keys)
          (same_again ∙ sym same_made)
          (subst (λ ks. ReportFaults (λ key. IsKeyFinding layers source key.path.items) (λ key. IsInPlace again key.path.items) ks of_keys)
          same_keys keys_reported);
      whole = whole;
    }

module _ (all : List Layer) where
  -- one more file
  pub with_file : (source : ℕ) (layers : List Layer) (findings own : List Finding) (layer : Layer)
      → ReportFiles all source layers findings → ReportDocument all (source + length layers) (document_in layer) own
      → ReportFiles all source (layers ++ layer ∷ []) (findings ++ own)
  with_file source [] findings own layer reported of_own = (
    own,
    [],
    ap (λ fs. fs ++ own) reported ∙ sym (append-nil own),
    subst (λ n. ReportDocument all n (document_in layer) own) (omega arith) of_own,
    refl,
  )
  with_file source (l ∷ ls) findings own layer reported of_own = (
    reported.0,
    reported.1 ++ own,
    ap (λ fs. fs ++ own) reported.2 ∙ append_assoc reported.0 reported.1 own,
    reported.3,
    with_file (source + 1) ls reported.1 own layer reported.4
        (subst (λ n. ReportDocument all n (document_in layer) own) (omega arith) of_own),
  )

  -- the findings of the files up to one, and of this one
  pub with_next_file : (layers : List Layer) (place : ℕ) (layer : Layer) (findings own whole : List Finding)
      → place < length layers → layer ≡ get_or layers place layer → whole ≡ findings ++ own
      → ReportFiles all 0 (take place layers) findings → ReportDocument all place (document_in layer) own
      → ReportFiles all 0 (take (place + 1) layers) whole
  with_next_file layers place layer findings own whole within is whole_is reported of_own =
      let more : take (place + 1) layers ≡ take place layers ++ layer ∷ [] =
      take_more layers place layer within ∙ ap (λ l. take place layers ++ l ∷ []) (sym is) in
      let at : place ≡ 0 + length (take place layers) = omega (arith, length-take place layers) in
      subst (λ ls. ReportFiles all 0 ls whole) (sym more)
      (subst (ReportFiles all 0 (take place layers ++ layer ∷ [])) (sym whole_is)
      (with_file 0 (take place layers) findings own layer reported
      (subst (λ n. ReportDocument all n (document_in layer) own) at of_own)))

  -- the findings of all files
  pub with_all_files : (layers : List Layer) (place : ℕ) (findings : List Finding) → length layers ≤ place
      → ReportFiles all 0 (take place layers) findings → ReportFiles all 0 layers findings
  with_all_files layers place findings no_more reported =
      subst (λ ls. ReportFiles all 0 ls findings) (take_all place layers no_more) reported

none_of : {X Y : Type 0} (f : X → Y) (xs : List X) → map f xs ≡ [] → xs ≡ []
none_of f [] is = refl
none_of f (x ∷ xs) is = absurd (cc)

-- there are no faults of a document that has none
pub none_found : (document laid : Node) (found : List FoundFault) (made given : List ValueFault)
    → laid ≡ over document defaults → Adds [] found (schema.faults a_file [] laid)
    → map (λ f. f.fault) made ≡ found → given ≡ made → schema.faults a_file [] (over document defaults) ≡ []
    → given ≡ []
none_found document laid found made given laid_is are_all same same_given none =
    let no_faults : schema.faults a_file [] laid ≡ [] = ap (schema.faults a_file []) laid_is ∙ none in
    let no_found : found ≡ [] = none_of found_view found (are_all ∙ ap (map (λ f. Some f)) no_faults) in
    same_given ∙ none_of (λ f. f.fault) made (same ∙ no_found)
