use Rattle.std.proofs.Common.{refl, subst}
use Rattle.std.specs.List.{AllZip}
use Rattle.rinqebo_request.specs.Requests.{IsToolNamed}
use Rattle.rinqebo_request.proofs.Choosing.{texts_or}
use Rattle.rinqebo_request.proofs.words.files.Goals as goal

pub returns : goal.returns
returns c =
    record {
      root = c.value.ensures;
      config_file = refl;
      organisation = c.value-2.ensures;
      tools = subst (λ values. AllZip IsToolNamed values c.in_ok-tool_files.field-0.items)
          (texts_or c.values.result _ c.unwrap_or.result _ refl c.unwrap_or.ensures c.values.ensures) c.in_ok-tool_files.ensures;
    }
