use Rattle.std.proofs.Common.{◌∙◌, ap, codes, refl}
use Rattle.std.proofs.lemmas.Result.{IfOk-weaker}
use Rattle.clap.specs.Simple.{app_of_fields, new_app}
use Rattle.rinqebo_request.specs.ArgumentTable.{IsCommand}
use Rattle.rinqebo_request.proofs.Adding.{after, none, then, whole}
use Rattle.rinqebo_request.proofs.options.check_command.Goals as goal

pub returns : goal.returns
returns c =
    let start : IsCommand (new_app (codes "check")) c.after_help.result =
    record {
      is = ap app_of_fields c.after_help.ensures ∙ ap app_of_fields c.about.ensures ∙ c.new.ensures.app;
      own = ap (λ f. f.has_globals) c.after_help.ensures ∙ ap (λ f. f.has_globals) c.about.ensures ∙ c.new.ensures.local;
    } in
    let file = after _ _ _ _ _ _ (none c.after_help.result) c.word.ensures c.in_ok-arg.ensures in
    let path = after _ _ _ _ _ _ file c.option.ensures c.in_ok-arg-2.ensures in
    let deny = after _ _ _ _ _ _ path c.option-2.ensures c.in_ok-arg-3.ensures in
    let warnings = after _ _ _ _ _ _ deny c.flag.ensures c.in_ok-arg-4.ensures in
    let explain = after _ _ _ _ _ _ warnings c.option-3.ensures c.in_ok-arg-5.ensures in
    let listed = after _ _ _ _ _ _ explain c.flag-2.ensures c.in_ok-command.ensures in
    let files = then _ _ _ _ _ listed c.in_ok-command-2.ensures in
    IfOk-weaker c.with_output.result _ _
    (λ _ output. (
      record { formats = _; colours = output.0; modes = output.0 },
      record { formats_are = refl; colours_are = output.1 },
      whole _ _ _ _ start (then _ _ _ _ _ files output.2),
    ))
    c.with_output.ensures
