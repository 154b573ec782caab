use Rattle.std.proofs.Common.{◌≡◌, [], None, subst, arith}
use Rattle.std.proofs.lemmas.Result.{IfOk-weaker}
use Rattle.json.specs.Lex.{tokens}
use Rattle.json.specs.Json.{value}
use Rattle.serde_json.specs.Data.{Members, object}
use Rattle.filter_inputs.specs.Lists.Demands.{demands, first_fault}
use Rattle.filter_inputs.specs.Lists.ListView.{list_view}
use Rattle.filter_inputs.specs.Lists.Lists.{IsListOf}
use Rattle.filter_inputs.specs.Lists.Parts.{AreListParts}
use Rattle.filter_inputs.specs.Lists.Reading.{IsListIn}
use Rattle.filter_inputs.specs.Lists.Tokens.{IsValueIn}
use Rattle.filter_inputs.proofs.lists.Parts.{if_ok_both}
use Rattle.filter_inputs.proofs.lists.ReadTokens.{whole_read}
use Rattle.filter_inputs.proofs.lists.list_reader.list_with.Goals as goal

pub returns : goal.returns
returns c =
    let found = c.in_ok-parts.ensures.ok in
    let parts = c.in_ok-parts.parts in
    let text = c.args.text.now in
    let end = c.list_parts.new.reader in
    let none : end ≡ [] = grind arith in
    let from : c.in_ok-reader.reader ≡ tokens text = grind arith in
    let whole : IsValueIn 127 (tokens text) [] (object found.0) =
    subst (λ ts. IsValueIn 127 ts [] (object found.0)) from
    (subst (λ rest. IsValueIn 127 c.in_ok-reader.reader rest (object found.0)) none
    (c.in_ok-depth.ensures.is found.0 end found.1)) in
    IfOk-weaker c.list_by_parts.result
    (λ list. ((document : Members) → AreListParts document parts.members.entries parts.binaries
    → IsListOf (object document) (list_view list))
    × ((document : Members) → AreListParts document parts.members.entries parts.binaries
    → first_fault (demands (object document)) ≡ None))
    (λ list. IsListIn text (list_view list))
    (λ list each. record {
      document = object found.0;
      is_json = whole_read (value 127 (tokens text)) (object found.0) whole;
      demands_met = each.1 found.0 found.2;
      is_list = each.0 found.0 found.2;
    })
    (if_ok_both c.list_by_parts.result _ _ c.list_by_parts.ensures.ok c.list_by_parts.ensures.met)
