-- The layers of a session are different files, with texts of characters.
use Rattle.std.proofs.Common.{◌≡◌, ◌≢◌, ◌⊎◌, inl, inr, ◌∙◌, ℕ, zero, suc, List, [], ◌∷◌, ◌++◌, Option, None, Some, IfSome, map, option_map, option_and_then, reverse, slice_get, refl, sym, ap, subst, append_assoc}
use Rattle.std.proofs.lemmas.List.{reverse-append}
use Rattle.std.proofs.lemmas.Str.{IsUtf8-string_bytes}
use Rattle.std.specs.List.{AllByRecursion}
use Rattle.std.specs.Option.{option_map_or}
use Rattle.std.specs.Str.{IsUtf8}
use Rattle.nextest_sources.specs.InputFaults.{HaveOneFileEach}
use Rattle.nextest_sources.specs.Sources.{Source, SourceKind, ToolFile, explicit_file, discovered_file, organisation_file, tool_file, tool_file_view}
use Rattle.nextest_sources.specs.declared.sources.FileInput.{FileInput}
use Rattle.nextest_sources.specs.declared.sources.ReadOutcome.{ReadOutcome}
use Rattle.nextest_sources.specs.declared.sources.ReadOutcome.TheVariants as outcomes
use Rattle.nextest_sources.specs.declared.sources.ToolConfigFile.{ToolConfigFile}
use Rattle.nextest_elements.specs.IdentifierText.{tool_name_text}
use Rattle.rinqebo_request.specs.Files.Layers.{LayerRead, file_layer, layer_view, layers_read, organisation_layers, repository_layer, text_read, tool_layer}
use Rattle.rinqebo_request.specs.Files.Origins.{IsFileAt}
use Rattle.rinqebo_request.specs.declared.files.gathering.Gathered.{Gathered}
use Rattle.rinqebo_request.specs.declared.files.layers.Layer.{Layer}
use Rattle.rinqebo_laws.proofs.Ranges.{AreFiles, HasCharacters}
use Rattle.rinqebo_load.specs.Accepted.{AreAccepted}
use Rattle.rinqebo_load.specs.SessionOf.{IsSessionOf}
use Rattle.rinqebo_load.specs.Sessions.{files_view}
use Rattle.rinqebo_load.specs.declared.session.Session.{Session}
use Rattle.rinqebo_request.specs.declared.request.Request.{Request}

-- what brings the file of a layer, if it is one
abbrev brought : LayerRead → Option SourceKind
brought layer = option_map (λ file. file.kind) layer.file

-- a layer is not brought by this
abbrev NotBy : SourceKind → LayerRead → Type 0
NotBy kind layer = brought layer ≢ Some kind

-- a layer is brought by nothing, or by what brings none of the others
abbrev IsApart : LayerRead → List LayerRead → Type 0
IsApart layer others = (kind : SourceKind) → brought layer ≡ Some kind → AllByRecursion (NotBy kind) others

-- no two layers are brought by the same
abbrev AreApart : List LayerRead → Type 0
AreApart [] = Unit {0}
AreApart (layer ∷ layers) = IsApart layer layers × AreApart layers

-- ---- at places

not_at : (kind : SourceKind) (layers : List LayerRead) (n : ℕ) → AllByRecursion (NotBy kind) layers
    → option_and_then brought (slice_get layers n) ≡ Some kind → ⊥
not_at kind [] n none is = absurd cc
not_at kind (layer ∷ layers) zero none is = none.0 is
not_at kind (layer ∷ layers) (suc n) none is = not_at kind layers n none.1 is

one_by : (layers : List LayerRead) (kind : SourceKind) (n m : ℕ) → AreApart layers
    → option_and_then brought (slice_get layers n) ≡ Some kind
    → option_and_then brought (slice_get layers m) ≡ Some kind → n ≡ m
one_by [] kind n m apart one other = absurd cc
one_by (layer ∷ layers) kind zero zero apart one other = refl
one_by (layer ∷ layers) kind zero (suc m) apart one other = absurd (not_at kind layers m (apart.0 kind one) other)
one_by (layer ∷ layers) kind (suc n) zero apart one other = absurd (not_at kind layers n (apart.0 kind other) one)
one_by (layer ∷ layers) kind (suc n) (suc m) apart one other = ap suc (one_by layers kind n m apart.1 one other)

-- a layer at a place, as it was read
file_there : (layers : List Layer) (n : ℕ) (file : Source) → IsFileAt layers file n
    → option_and_then brought (slice_get (map layer_view layers) n) ≡ Some file.kind
file_there [] n file is = absurd cc
file_there (layer ∷ layers) zero file is = ap (option_map (λ file. file.kind)) is
file_there (layer ∷ layers) (suc n) file is = file_there layers n file is

-- ---- lists of layers

all_joined : (P : LayerRead → Type 0) (xs ys : List LayerRead) → AllByRecursion P xs → AllByRecursion P ys
    → AllByRecursion P (xs ++ ys)
all_joined P [] ys one other = other
all_joined P (x ∷ xs) ys one other = (one.0, all_joined P xs ys one.1 other)

-- none of the layers is brought by what brings one of others
abbrev AreOthers : List LayerRead → List LayerRead → Type 0
AreOthers xs ys = AllByRecursion (λ x. IsApart x ys) xs

apart_joined : (xs ys : List LayerRead) → AreApart xs → AreApart ys → AreOthers xs ys → AreApart (xs ++ ys)
apart_joined [] ys one other across = other
apart_joined (x ∷ xs) ys one other across =
    ((λ kind is. all_joined (NotBy kind) xs ys (one.0 kind is) (across.0 kind is)), apart_joined xs ys one.1 other across.1)

-- ---- the files of tools

-- a tool's file is brought by another tool
abbrev OtherTool : List ℕ → ToolConfigFile → Type 0
OtherTool name tool = tool_name_text tool.tool ≢ name

abbrev HaveOneEach : List ToolConfigFile → Type 0
HaveOneEach [] = Unit {0}
HaveOneEach (tool ∷ tools) = AllByRecursion (OtherTool (tool_name_text tool.tool)) tools × HaveOneEach tools

others_differ : (files : List ToolFile) (t : ToolFile) (between : List ToolFile) (rest : List ToolConfigFile)
    → HaveOneFileEach files → files ≡ t ∷ (between ++ map tool_file_view rest)
    → AllByRecursion (OtherTool t.tool) rest
others_differ files t between [] one is = tt
others_differ files t between (u ∷ rest) one is = (
  (λ same. one [] between (map tool_file_view rest) t (tool_file_view u) is (sym same)),
  others_differ files t (between ++ tool_file_view u ∷ []) rest one
      (is ∙ ap (λ more. t ∷ more) (sym (append_assoc between (tool_file_view u ∷ []) (map tool_file_view rest)))),
)

one_each : (tools : List ToolConfigFile) → HaveOneFileEach (map tool_file_view tools) → HaveOneEach tools
one_each [] one = tt
one_each (tool ∷ tools) one = (
  others_differ (map tool_file_view (tool ∷ tools)) (tool_file_view tool) [] tools one refl,
  one_each tools (λ before between after t u is.
      one (tool_file_view tool ∷ before) between after t u (ap (λ more. tool_file_view tool ∷ more) is)),
)

tools_joined : (P : ToolConfigFile → Type 0) (xs ys : List ToolConfigFile) → AllByRecursion P xs → AllByRecursion P ys
    → AllByRecursion P (xs ++ ys)
tools_joined P [] ys one other = other
tools_joined P (x ∷ xs) ys one other = (one.0, tools_joined P xs ys one.1 other)

tools_reversed : (P : ToolConfigFile → Type 0) (xs : List ToolConfigFile) → AllByRecursion P xs
    → AllByRecursion P (reverse xs)
tools_reversed P [] all = tt
tools_reversed P (x ∷ xs) all =
    subst (AllByRecursion P) (sym (reverse-append (x ∷ []) xs)) (tools_joined P (reverse xs) (x ∷ []) (tools_reversed P xs all.1) (all.0, tt))

each_before : (xs : List ToolConfigFile) (y : ToolConfigFile) → HaveOneEach xs
    → AllByRecursion (OtherTool (tool_name_text y.tool)) xs → HaveOneEach (xs ++ y ∷ [])
each_before [] y one other = (tt, tt)
each_before (x ∷ xs) y one other = (
  tools_joined (OtherTool (tool_name_text x.tool)) xs (y ∷ []) one.0 ((λ same. other.0 (sym same)), tt),
  each_before xs y one.1 other.1,
)

each_reversed : (tools : List ToolConfigFile) → HaveOneEach tools → HaveOneEach (reverse tools)
each_reversed [] one = tt
each_reversed (tool ∷ tools) one =
    subst HaveOneEach (sym (reverse-append (tool ∷ []) tools))
    (each_before (reverse tools) tool (each_reversed tools one.1)
    (tools_reversed (OtherTool (tool_name_text tool.tool)) tools one.0))

one_name : (kind : SourceKind) (name other : List ℕ) → Some (tool_file name) ≡ Some kind
    → Some (tool_file other) ≡ Some kind → other ≡ name
one_name kind name other one two = cc

other_tools : (kind : SourceKind) (name : List ℕ) (tools : List ToolConfigFile) → Some (tool_file name) ≡ Some kind
    → AllByRecursion (OtherTool name) tools → AllByRecursion (NotBy kind) (map tool_layer tools)
other_tools kind name [] is all = tt
other_tools kind name (tool ∷ tools) is all =
    ((λ same. all.0 (one_name kind name (tool_name_text tool.tool) is same)), other_tools kind name tools is all.1)

tools_apart : (tools : List ToolConfigFile) → HaveOneEach tools → AreApart (map tool_layer tools)
tools_apart [] one = tt
tools_apart (tool ∷ tools) one =
    ((λ kind is. other_tools kind (tool_name_text tool.tool) tools is one.0), tools_apart tools one.1)

-- ---- all layers of a session

-- what brings the repository's file
repository_kind : (gathered : Gathered) → (brought (repository_layer gathered) ≡ Some explicit_file)
    ⊎ (brought (repository_layer gathered) ≡ Some discovered_file)
repository_kind gathered = by_choice gathered.config_file where
  by_choice : (o : Option FileInput) → (brought (option_map_or (file_layer (Some explicit_file)) o
      (file_layer (Some discovered_file) gathered.paths.shared)) ≡ Some explicit_file)
      ⊎ (brought (option_map_or (file_layer (Some explicit_file)) o
      (file_layer (Some discovered_file) gathered.paths.shared)) ≡ Some discovered_file)
  by_choice None = inr refl
  by_choice (Some file) = inl refl

tool_not_repository : (kind : SourceKind) (name : List ℕ) (layer : LayerRead) → Some (tool_file name) ≡ Some kind
    → (brought layer ≡ Some explicit_file) ⊎ (brought layer ≡ Some discovered_file) → NotBy kind layer
tool_not_repository kind name layer is (inl e) same = absurd cc
tool_not_repository kind name layer is (inr e) same = absurd cc

organisation_not_repository : (kind : SourceKind) (layer : LayerRead) → Some organisation_file ≡ Some kind
    → (brought layer ≡ Some explicit_file) ⊎ (brought layer ≡ Some discovered_file) → NotBy kind layer
organisation_not_repository kind layer is (inl e) same = absurd cc
organisation_not_repository kind layer is (inr e) same = absurd cc

tool_not_organisation : (kind : SourceKind) (name : List ℕ) → Some (tool_file name) ≡ Some kind
    → Some organisation_file ≡ Some kind → ⊥
tool_not_organisation kind name is same = absurd cc

organisation_apart : (o : Option FileInput) → AreApart (organisation_layers o)
organisation_apart None = tt
organisation_apart (Some file) = ((λ kind is. tt), tt)

tool_and_organisation : (kind : SourceKind) (name : List ℕ) (o : Option FileInput) → Some (tool_file name) ≡ Some kind
    → AllByRecursion (NotBy kind) (organisation_layers o)
tool_and_organisation kind name None is = tt
tool_and_organisation kind name (Some file) is = (tool_not_organisation kind name is, tt)

tools_others : (tools : List ToolConfigFile) (o : Option FileInput)
    → AreOthers (map tool_layer tools) (organisation_layers o)
tools_others [] o = tt
tools_others (tool ∷ tools) o =
    ((λ kind is. tool_and_organisation kind (tool_name_text tool.tool) o is), tools_others tools o)

tools_repository : (tools : List ToolConfigFile) (gathered : Gathered)
    → AreOthers (map tool_layer tools) (repository_layer gathered ∷ [])
tools_repository [] gathered = tt
tools_repository (tool ∷ tools) gathered = (
  (λ kind is. (
    tool_not_repository kind (tool_name_text tool.tool) (repository_layer gathered) is
        (repository_kind gathered),
    tt,
  )),
  tools_repository tools gathered,
)

organisation_repository : (o : Option FileInput) (gathered : Gathered)
    → AreOthers (organisation_layers o) (repository_layer gathered ∷ [])
organisation_repository None gathered = tt
organisation_repository (Some file) gathered =
    ((λ kind is. (organisation_not_repository kind (repository_layer gathered) is (repository_kind gathered), tt)), tt)

none_brings : (kind : SourceKind) (layers : List LayerRead) → None ≡ Some kind → AllByRecursion (NotBy kind) layers
none_brings kind layers is = absurd cc

read_apart : (gathered : Gathered) → HaveOneEach gathered.tools.items → AreApart (layers_read gathered)
read_apart gathered one =
    let tools = reverse gathered.tools.items in
    let organisation = organisation_layers gathered.organisation_file in
    let front = apart_joined (map tool_layer tools) organisation (tools_apart tools (each_reversed gathered.tools.items one))
    (organisation_apart gathered.organisation_file) (tools_others tools gathered.organisation_file) in
    let across = all_joined (λ layer. IsApart layer (repository_layer gathered ∷ [])) (map tool_layer tools) organisation
    (tools_repository tools gathered) (organisation_repository gathered.organisation_file gathered) in (
      (λ kind is. none_brings kind ((map tool_layer tools ++ organisation) ++ repository_layer gathered ∷ []) is),
      apart_joined (map tool_layer tools ++ organisation) (repository_layer gathered ∷ []) front ((λ kind is. tt), tt) across,
    )

-- a file is one layer of a session
one_layer : (request : Request) (gathered : Gathered) (session : Session) → IsSessionOf request gathered session
    → AreAccepted session → (file : Source) (n m : ℕ) → IsFileAt session.layers.items file n
    → IsFileAt session.layers.items file m → n ≡ m
one_layer request gathered session is accepted file n m one other =
    let tools : HaveOneFileEach (map tool_file_view gathered.tools.items) =
    subst (λ g. HaveOneFileEach (files_view g).tools) is.read accepted.tools in
    let apart : AreApart (map layer_view session.layers.items) =
    subst AreApart (sym is.layers) (read_apart gathered (one_each gathered.tools.items tools)) in
    one_by (map layer_view session.layers.items) file.kind n m apart (file_there session.layers.items n file one)
    (file_there session.layers.items m file other)

-- ---- texts

-- the text of a layer as it was read, if it has one, is one of characters
abbrev ReadsCharacters : LayerRead → Type 0
ReadsCharacters layer = IfSome layer.text IsUtf8

text_characters : (outcome : ReadOutcome) → IfSome (text_read outcome) IsUtf8
text_characters (outcomes.Text text) = IsUtf8-string_bytes text
text_characters outcomes.NotFound = tt
text_characters outcomes.NotADirectory = tt
text_characters (outcomes.Failed message) = tt

tools_characters : (tools : List ToolConfigFile) → AllByRecursion ReadsCharacters (map tool_layer tools)
tools_characters [] = tt
tools_characters (tool ∷ tools) = (text_characters tool.config_file.outcome, tools_characters tools)

organisation_characters : (o : Option FileInput) → AllByRecursion ReadsCharacters (organisation_layers o)
organisation_characters None = tt
organisation_characters (Some file) = (text_characters file.outcome, tt)

repository_characters : (o : Option FileInput) (shared : FileInput)
    → ReadsCharacters (option_map_or (file_layer (Some explicit_file)) o (file_layer (Some discovered_file) shared))
repository_characters None shared = text_characters shared.outcome
repository_characters (Some file) shared = text_characters file.outcome

read_characters : (gathered : Gathered) → AllByRecursion ReadsCharacters (layers_read gathered)
read_characters gathered =
    let tools = map tool_layer (reverse gathered.tools.items) in
    let organisation = organisation_layers gathered.organisation_file in (
      tt,
      all_joined ReadsCharacters (tools ++ organisation) (repository_layer gathered ∷ [])
          (all_joined ReadsCharacters tools organisation (tools_characters (reverse gathered.tools.items))
          (organisation_characters gathered.organisation_file))
          (repository_characters gathered.config_file gathered.paths.shared, tt),
    )

have_characters : (layers : List Layer) → AllByRecursion ReadsCharacters (map layer_view layers)
    → AllByRecursion HasCharacters layers
have_characters [] all = tt
have_characters (layer ∷ layers) all = (all.0, have_characters layers all.1)

-- the layers of a session are files
pub are_files : (request : Request) (gathered : Gathered) (session : Session) → IsSessionOf request gathered session
    → AreAccepted session → AreFiles session.layers.items
are_files request gathered session is accepted = record {
  one = λ file n m one other. one_layer request gathered session is accepted file n m one other;
  characters = have_characters session.layers.items
      (subst (AllByRecursion ReadsCharacters) (sym is.layers) (read_characters gathered));
}
