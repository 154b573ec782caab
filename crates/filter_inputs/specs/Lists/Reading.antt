-- The list of tests in a text, or its fault.
use Rattle.std.specs.Prelude.{◌≡◌, ℕ, List, None, Some, MatchOption}
use Rattle.serde_json.specs.Data.{Data}
use Rattle.serde_json.specs.Read.{read}
use Rattle.filter_inputs.specs.Lists.Demands.{Fault, not_json, demands, first_fault}
use Rattle.filter_inputs.specs.Lists.Lists.{TestList, IsListOf}

-- A list is the one in a text: the text is JSON that meets all demands, and has this list.
pub record IsListIn (text : List ℕ) (list : TestList) : Type 0 where
  pub document : Data
  pub is_json : read text ≡ Some document
  pub demands_met : first_fault (demands document) ≡ None
  pub is_list : IsListOf document list

-- A fault is that of a text: the text isn't JSON, or the fault is that of the first demand that it
-- doesn't meet.
abbrev pub IsFaultIn : List ℕ → Fault → Type 0
IsFaultIn text fault = MatchOption (read text) (fault ≡ not_json)
    (λ document. first_fault (demands document) ≡ Some fault)
