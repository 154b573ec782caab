-- A document has no float, so that its text is known.
use Rattle.std.proofs.Common.{◌∙◌, ◌∷◌, ◌++◌, [], ap}
use Rattle.serde_json.specs.View.{view}
use Rattle.serde_json.specs.Written.{has_float}
use Rattle.rinqebo_changes.proofs.WholeDiffs.{whole_diff}
use Rattle.rinqebo_changes.proofs.json_page.diff_json.Goals as goal

pub returns : goal.returns
returns c =
    let is = c.in_ok-document.ensures in record {
      document = view c.in_ok-document.document;
      is_document = is;
      is_text = c.in_ok-push_str.ensures.bytes ∙ ap (λ t. t ++ 10 ∷ [])
          (c.in_ok-text.ensures.text (ap has_float is.is_data ∙ whole_diff c.args.diff.now is.groups));
    }
