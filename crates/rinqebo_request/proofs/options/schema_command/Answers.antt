use Rattle.std.proofs.Common.{◌∙◌, ap, codes}
use Rattle.std.proofs.lemmas.Result.{IfOk-weaker}
use Rattle.clap.specs.Simple.{app_of_fields, new_app}
use Rattle.rinqebo_request.specs.ArgumentTable.{IsCommand}
use Rattle.rinqebo_request.proofs.Adding.{after, none, whole}
use Rattle.rinqebo_request.proofs.options.schema_command.Goals as goal

pub returns : goal.returns
returns c =
    let start : IsCommand (new_app (codes "schema")) c.after_help.result =
    record {
      is = ap app_of_fields c.after_help.ensures ∙ ap app_of_fields c.about.ensures ∙ c.new.ensures.app;
      own = ap (λ f. f.has_globals) c.after_help.ensures ∙ ap (λ f. f.has_globals) c.about.ensures ∙ c.new.ensures.local;
    } in
    IfOk-weaker c.arg.result _ _
    (λ _ adds. whole _ _ _ _ start (after _ _ _ _ _ _ (none c.after_help.result) c.flag.ensures adds)) c.arg.ensures
