-- The texts with which durations are reported are those of a file.
use Rattle.std.proofs.Common.{◌≡◌, ◌∙◌, ℕ, Bool, true, false, cond, List, [], ◌∷◌, Option, None, Some, MatchOption, IfSome, String, Global, map, option_map, option_and_then, slice_get, string_bytes, refl, sym, ap, subst}
use Rattle.std.proofs.lemmas.List.Elements.{recursion_from_All}
use Rattle.std.specs.List.{AllByRecursion}
use Rattle.nextest_tree.specs.Node.{Node}
use Rattle.rinqebo_request.specs.Files.Layers.{layer_tree}
use Rattle.rinqebo_request.specs.declared.files.layers.Layer.{Layer}
use Rattle.rinqebo_laws.specs.Shown.{ShownOrigin, SourcePart, built_in, default_table, origin_shown, outside, part_of, scalar_text, under_profile, value_texts}
use Rattle.rinqebo_report.specs.declared.origin.Origin.{Origin}
use Rattle.rinqebo_report.specs.declared.origin.Origin.TheVariants as kinds
use Rattle.rinqebo_report.specs.declared.value.Scalar.{Scalar}
use Rattle.rinqebo_report.specs.declared.value.Scalar.TheVariants as scalars
use Rattle.rinqebo_report.specs.declared.value.TableMember.{TableMember}
use Rattle.rinqebo_report.specs.declared.value.Value.{Value}
use Rattle.rinqebo_report.specs.declared.value.Value.TheVariants as values
use Rattle.rinqebo_origins.specs.AsWritten.{IsMemberAsWritten, IsScalarAsWritten, IsValueAsWritten, WritesDuration, are_defaults, member_text, node_alone, node_at, origin_node}
use Rattle.rinqebo_origins.specs.Origins.{PathStep, profile_steps}
use Rattle.rinqebo_origins.specs.Reported.{boolean, field_view, scalar, scalar_view, value_view}

-- ---- values that are as one node writes them

texts_by : (found : Option (List ℕ)) (n m : ℕ) (a b : Option (String Global)) → n ≡ m
    → MatchOption a ((written : List ℕ) → WritesDuration found n written → ⊥)
    (λ written. WritesDuration found n (string_bytes written))
    → MatchOption b ((written : List ℕ) → WritesDuration found m written → ⊥)
    (λ written. WritesDuration found m (string_bytes written))
    → option_map string_bytes a ≡ option_map string_bytes b
texts_by found n m None None same one other = refl
texts_by found n m None (Some b) same one other =
    absurd (one (string_bytes b) (subst (λ k. WritesDuration found k (string_bytes b)) (sym same) other))
texts_by found n m (Some a) None same one other =
    absurd (other (string_bytes a) (subst (λ k. WritesDuration found k (string_bytes a)) same one))
texts_by found n m (Some a) (Some b) same one other = sym one.is_there ∙ other.is_there

scalar_texts : (found : Option (List ℕ)) (a b : Scalar) → scalar_view a ≡ scalar_view b → IsScalarAsWritten found a
    → IsScalarAsWritten found b → scalar_text a ≡ scalar_text b
scalar_texts found (scalars.Duration a) (scalars.Duration b) same one other =
    let times : a.nanoseconds ≡ b.nanoseconds = cc in
    texts_by found a.nanoseconds b.nanoseconds a.written b.written times one other
scalar_texts found (scalars.Duration a) (scalars.Boolean b) same one other = absurd cc
scalar_texts found (scalars.Duration a) (scalars.Integer b) same one other = absurd cc
scalar_texts found (scalars.Duration a) (scalars.Text b) same one other = absurd cc
scalar_texts found (scalars.Boolean a) (scalars.Duration b) same one other = absurd cc
scalar_texts found (scalars.Boolean a) (scalars.Boolean b) same one other = refl
scalar_texts found (scalars.Boolean a) (scalars.Integer b) same one other = refl
scalar_texts found (scalars.Boolean a) (scalars.Text b) same one other = refl
scalar_texts found (scalars.Integer a) (scalars.Duration b) same one other = absurd cc
scalar_texts found (scalars.Integer a) (scalars.Boolean b) same one other = refl
scalar_texts found (scalars.Integer a) (scalars.Integer b) same one other = refl
scalar_texts found (scalars.Integer a) (scalars.Text b) same one other = refl
scalar_texts found (scalars.Text a) (scalars.Duration b) same one other = absurd cc
scalar_texts found (scalars.Text a) (scalars.Boolean b) same one other = refl
scalar_texts found (scalars.Text a) (scalars.Integer b) same one other = refl
scalar_texts found (scalars.Text a) (scalars.Text b) same one other = refl

field_texts : (found : Option Node) (fs gs : List TableMember) → map field_view fs ≡ map field_view gs
    → AllByRecursion (IsMemberAsWritten found) fs → AllByRecursion (IsMemberAsWritten found) gs
    → map (λ f. scalar_text f.value) fs ≡ map (λ f. scalar_text f.value) gs
field_texts found [] [] same one other = refl
field_texts found [] (g ∷ gs) same one other = absurd cc
field_texts found (f ∷ fs) [] same one other = absurd cc
field_texts found (f ∷ fs) (g ∷ gs) same one other =
    let first : field_view f ≡ field_view g = cc in
    let rest : map field_view fs ≡ map field_view gs = cc in
    let keys : string_bytes f.key ≡ string_bytes g.key = ap (λ v. v.key) first in
    let text : scalar_text f.value ≡ scalar_text g.value =
    scalar_texts (option_and_then (member_text (string_bytes f.key)) found) f.value g.value (ap (λ v. v.value) first) one.0
    (subst (λ k. IsScalarAsWritten (option_and_then (member_text k) found) g.value) (sym keys) other.0) in
    let texts = field_texts found fs gs rest one.1 other.1 in
    λ i. text i ∷ texts i

each_text : (found : Option Node) (a b : Value) → value_view a ≡ value_view b → IsValueAsWritten found a
    → IsValueAsWritten found b → value_texts a ≡ value_texts b
each_text found (values.Scalar a) (values.Scalar b) same one other =
    let views : scalar_view a ≡ scalar_view b = cc in
    ap (λ t. t ∷ []) (scalar_texts _ a b views one other)
each_text found (values.Texts a) (values.Texts b) same one other = refl
each_text found (values.Table a) (values.Table b) same one other =
    let views : map field_view a.items ≡ map field_view b.items = cc in
    field_texts found a.items b.items views (recursion_from_All (IsMemberAsWritten found) a.items one)
    (recursion_from_All (IsMemberAsWritten found) b.items other)
each_text found (values.Scalar a) (values.Texts b) same one other = absurd cc
each_text found (values.Scalar a) (values.Table b) same one other = absurd cc
each_text found (values.Texts a) (values.Scalar b) same one other = absurd cc
each_text found (values.Texts a) (values.Table b) same one other = absurd cc
each_text found (values.Table a) (values.Scalar b) same one other = absurd cc
each_text found (values.Table a) (values.Texts b) same one other = absurd cc

-- values that are the same, and are reported as one node writes them, have the same texts
pub texts_alike : (found : Option Node) (a b : Option Value) → option_map value_view a ≡ option_map value_view b
    → IfSome a (IsValueAsWritten found) → IfSome b (IsValueAsWritten found)
    → option_map value_texts a ≡ option_map value_texts b
texts_alike found None None same one other = refl
texts_alike found None (Some b) same one other = absurd cc
texts_alike found (Some a) None same one other = absurd cc
texts_alike found (Some a) (Some b) same one other =
    let views : value_view a ≡ value_view b = cc in ap Some (each_text found a b views one other)

-- whether something is so has no text
pub boolean_texts : (value : Option Value) (b : Bool) → option_map value_view value ≡ Some (scalar (boolean b))
    → option_map value_texts value ≡ Some (None ∷ [])
boolean_texts None b is = absurd cc
boolean_texts (Some (values.Scalar (scalars.Boolean c))) b is = refl
boolean_texts (Some (values.Scalar (scalars.Integer c))) b is = refl
boolean_texts (Some (values.Scalar (scalars.Text c))) b is = refl
boolean_texts (Some (values.Scalar (scalars.Duration c))) b is = absurd cc
boolean_texts (Some (values.Texts c)) b is = absurd cc
boolean_texts (Some (values.Table c)) b is = absurd cc

-- ---- the node of origins

abbrev shown_defaults : List ShownOrigin → Bool
shown_defaults [] = true
shown_defaults (default_table ∷ []) = true
shown_defaults origins = false

defaults_shown : (origins : List Origin) → are_defaults origins ≡ shown_defaults (map origin_shown origins)
defaults_shown [] = refl
defaults_shown (kinds.BuiltIn ∷ []) = refl
defaults_shown (kinds.DefaultTable ∷ []) = refl
defaults_shown (kinds.Written o ∷ []) = refl
defaults_shown (kinds.File o ∷ []) = refl
defaults_shown (kinds.BuiltIn ∷ (p ∷ origins)) = refl
defaults_shown (kinds.DefaultTable ∷ (p ∷ origins)) = refl
defaults_shown (kinds.Written o ∷ (p ∷ origins)) = refl
defaults_shown (kinds.File o ∷ (p ∷ origins)) = refl

module _ (layers : List Layer) (steps : List PathStep) where
  abbrev node_in : Option SourcePart → Option Node
  node_in None = None
  node_in (Some it) = node_at steps (node_at (profile_steps it.profile it.part)
      (option_and_then layer_tree (slice_get layers it.source)))

  abbrev shown_part : ShownOrigin → Option SourcePart
  shown_part built_in = None
  shown_part default_table = None
  shown_part (under_profile profile part source lines) = Some (record { profile = profile; part = part; source = source })
  shown_part (outside source lines) = None

  part_shown : (origin : Origin) → part_of origin ≡ shown_part (origin_shown origin)
  part_shown kinds.BuiltIn = refl
  part_shown kinds.DefaultTable = refl
  part_shown (kinds.Written o) = refl
  part_shown (kinds.File o) = refl

  -- what an origin has at some steps is that of its part of a profile
  node_of_part : (origin : Origin) → origin_node layers steps origin ≡ node_in (part_of origin)
  node_of_part kinds.BuiltIn = refl
  node_of_part kinds.DefaultTable = refl
  node_of_part (kinds.Written o) = refl
  node_of_part (kinds.File o) = refl

  -- origins in the same part have the same there
  pub same_node : (a b : Origin) → part_of a ≡ part_of b → origin_node layers steps a ≡ origin_node layers steps b
  same_node a b same = node_of_part a ∙ ap node_in same ∙ sym (node_of_part b)

  -- origins that are shown alike have the same there
  pub same_alone : (xs ys : List Origin) → map origin_shown xs ≡ map origin_shown ys
      → node_alone layers steps xs ≡ node_alone layers steps ys
  same_alone [] [] same = refl
  same_alone [] (y ∷ ys) same = absurd cc
  same_alone (x ∷ xs) [] same = absurd cc
  same_alone (x ∷ xs) (y ∷ ys) same =
      let first : origin_shown x ≡ origin_shown y = cc in
      let rest : map origin_shown xs ≡ map origin_shown ys = cc in
      let defaults : are_defaults xs ≡ are_defaults ys =
      defaults_shown xs ∙ ap shown_defaults rest ∙ sym (defaults_shown ys) in
      let node : origin_node layers steps x ≡ origin_node layers steps y =
      same_node x y (part_shown x ∙ ap shown_part first ∙ sym (part_shown y)) in
      λ i. cond (defaults i) (node i) None
