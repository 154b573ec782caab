-- What is read in place of files.
use Rattle.std.proofs.Common.{◌≡◌, ◌<◌, ◌≤◌, ◌+◌, ◌-◌, ℕ, suc, Bool, true, false, List, [], ◌∷◌, ◌++◌, Option, None, Some, length, map, drop, get_or, option_map, sym, ap, ◌∙◌, add-one, arith, if◌then◌else◌}
use Rattle.std.proofs.Math.ListN.{drop_of_length-le}
use Rattle.std.proofs.Math.Seq.{drop-cons}
use Rattle.std.proofs.lemmas.List.{append_assoc, append-nil, length-drop, length-map, map-append}
use Rattle.nextest_sources.specs.Inputs.{LoadInputs}
use Rattle.nextest_sources.specs.Sources.{InputFile, Outcome, ToolFile, text, tool_file_view}
use Rattle.nextest_sources.specs.declared.sources.ToolConfigFile.{ToolConfigFile}
use Rattle.rinqebo_checks.specs.ReadAgain.{ReadingView, edited_document_text, file_again, files_again, text_in_place, text_or, tool_again, tools_again}
use Rattle.rinqebo_findings.specs.Sources.{document_at}
use Rattle.rinqebo_request.specs.declared.files.layers.Layer.{Layer}

abbrev file_of : List ℕ → Outcome → InputFile
file_of path outcome = record { path = path; outcome = outcome }

-- files with the same path and outcome
pub same_file : (path path' : List ℕ) (outcome outcome' : Outcome) → path ≡ path' → outcome ≡ outcome'
    → file_of path outcome ≡ file_of path' outcome'
same_file path path' outcome outcome' p o = ap (λ q. file_of q outcome) p ∙ ap (file_of path') o

abbrev tool_of : List ℕ → InputFile → ToolFile
tool_of tool file = record { tool = tool; file = file }

-- files of the same tool
pub same_tool : (tool tool' : List ℕ) (file file' : InputFile) → tool ≡ tool' → file ≡ file'
    → tool_of tool file ≡ tool_of tool' file'
same_tool tool tool' file file' t f = ap (λ u. tool_of u file) t ∙ ap (tool_of tool') f

module _ (reading : ReadingView) (layers : List Layer) where
  abbrev in_place : ℕ → Bool → Option (List ℕ)
  in_place place unread =
      if unread then Some []
      else option_map (edited_document_text reading.edits place) (document_at layers (Some place))

  -- nothing is read of a source that is not read
  pub not_read : (place : ℕ) → reading.unread place ≡ true → Some [] ≡ text_in_place reading layers place
  not_read place unread = sym (ap (in_place place) unread)

  -- the document of another one is read, if it is one
  pub document_read : (place : ℕ) (t : Option (List ℕ)) → reading.unread place ≡ false
      → t ≡ option_map (edited_document_text reading.edits place) (document_at layers (Some place))
      → t ≡ text_in_place reading layers place
  document_read place t read is = is ∙ sym (ap (in_place place) read)

  -- a text is read
  pub text_read : (place : ℕ) (t : List ℕ) (outcome : Outcome) → Some t ≡ text_in_place reading layers place
      → text t ≡ text_or (text_in_place reading layers place) outcome
  text_read place t outcome is = ap (λ o. text_or o outcome) is

  -- what was read is read
  pub outcome_read : (place : ℕ) (copy outcome : Outcome) → copy ≡ outcome
      → None ≡ text_in_place reading layers place → copy ≡ text_or (text_in_place reading layers place) outcome
  outcome_read place copy outcome same is = same ∙ ap (λ o. text_or o outcome) is

  abbrev after : ToolConfigFile → List ToolFile → ℕ → Bool → List ToolFile
  after tool others place unread =
      if unread then others else tool_again reading layers place (tool_file_view tool) ∷ others

  module _ (tools : List ToolConfigFile) where
    abbrev from : ℕ → List ToolFile
    from index = tools_again reading layers (map tool_file_view (drop index tools))

    -- what is read of all tools
    pub none_read : (read : List ToolConfigFile) → read ≡ []
        → map tool_file_view read ++ from 0 ≡ tools_again reading layers (map tool_file_view tools)
    none_read read none = ap (λ ts. map tool_file_view ts ++ from 0) none

    module _ (index : ℕ) (tool : ToolConfigFile) (within : index < length tools)
        (is : tool ≡ get_or tools index tool) where
      first : drop index tools ≡ tool ∷ drop (index + 1) tools
      first =
          drop-cons tools index tool within ∙ ap (λ t. t ∷ drop (suc index) tools) (sym is)
          ∙ ap (λ k. tool ∷ drop k tools) (sym (add-one index))

      place_of : length (map tool_file_view (drop (index + 1) tools)) + 1 ≡ length tools - index
      place_of =
          let mapped = length-map (drop (index + 1) tools) tool_file_view in
          let left = length-drop (index + 1) tools in
          omega arith

      step : from index ≡ after tool (from (index + 1)) (length tools - index) (reading.unread (length tools - index))
      step =
          ap (λ ts. tools_again reading layers (map tool_file_view ts)) first
          ∙ ap (λ place. after tool (from (index + 1)) place (reading.unread place)) place_of

      -- the file of a tool is not read
      pub tool_not_read : (read : List ToolFile) (all : List ToolFile)
          → reading.unread (length tools - index) ≡ true → read ++ from index ≡ all
          → read ++ from (index + 1) ≡ all
      tool_not_read read all unread so_far =
          sym (ap (λ ts. read ++ ts) (step ∙ ap (after tool (from (index + 1)) (length tools - index)) unread))
          ∙ so_far

      -- the file of a tool is read
      pub tool_read : (read more : List ToolConfigFile) (own : ToolConfigFile) (all : List ToolFile)
          → reading.unread (length tools - index) ≡ false → more ≡ read ++ own ∷ []
          → tool_file_view own ≡ tool_again reading layers (length tools - index) (tool_file_view tool)
          → map tool_file_view read ++ from index ≡ all
          → map tool_file_view more ++ from (index + 1) ≡ all
      tool_read read more own all unread whole is_own so_far =
          let rest = from (index + 1) in
          let front = map tool_file_view read in
          ap (λ ts. map tool_file_view ts ++ rest) whole
          ∙ ap (λ ts. ts ++ rest) (map-append tool_file_view read (own ∷ []))
          ∙ append_assoc front (tool_file_view own ∷ []) rest
          ∙ ap (λ t. front ++ t ∷ rest) is_own
          ∙ sym (ap (λ ts. front ++ ts) (step ∙ ap (after tool rest (length tools - index)) unread))
          ∙ so_far

    -- all tools are read
    pub tools_read : (index : ℕ) (read all : List ToolFile) → length tools ≤ index
        → read ++ from index ≡ all → read ≡ all
    tools_read index read all no_more so_far =
        sym (append-nil read)
        ∙ sym (ap (λ ts. read ++ tools_again reading layers (map tool_file_view ts)) (drop_of_length-le tools no_more))
        ∙ so_far

abbrev inputs_with : InputFile → Option InputFile → Option InputFile → List ToolFile → LoadInputs
inputs_with shared explicit organisation tools =
    record { shared = shared; explicit = explicit; organisation = organisation; tools = tools }

-- all files are read
pub files_read : (reading : ReadingView) (layers given : List Layer) (files : LoadInputs) (own above : ℕ)
    (shared : InputFile) (explicit organisation : Option InputFile) (tools : List ToolFile) → given ≡ layers
    → own ≡ length given - 1 → above ≡ length files.tools + 1 → shared ≡ file_again reading given own files.shared
    → explicit ≡ option_map (file_again reading given own) files.explicit
    → organisation ≡ option_map (file_again reading given above) files.organisation
    → tools ≡ tools_again reading given files.tools
    → inputs_with shared explicit organisation tools ≡ files_again reading layers files
files_read reading layers given files own above shared explicit organisation tools same own_is above_is s e o t =
    ap (λ f. inputs_with f explicit organisation tools) s
    ∙ ap (λ f. inputs_with (file_again reading given own files.shared) f organisation tools) e
    ∙ ap
    (λ f. inputs_with (file_again reading given own files.shared)
    (option_map (file_again reading given own) files.explicit) f tools) o
    ∙ ap
    (inputs_with (file_again reading given own files.shared)
    (option_map (file_again reading given own) files.explicit)
    (option_map (file_again reading given above) files.organisation)) t
    ∙ ap
    (λ place. inputs_with (file_again reading given place files.shared)
    (option_map (file_again reading given place) files.explicit)
    (option_map (file_again reading given above) files.organisation) (tools_again reading given files.tools)) own_is
    ∙ ap
    (λ place. inputs_with (file_again reading given (length given - 1) files.shared)
    (option_map (file_again reading given (length given - 1)) files.explicit)
    (option_map (file_again reading given place) files.organisation) (tools_again reading given files.tools)) above_is
    ∙ ap (λ ls. files_again reading ls files) same
