use Rattle.std.proofs.Common.{◌∙◌, ap, codes, refl}
use Rattle.std.proofs.lemmas.Result.{IfOk-weaker}
use Rattle.clap.specs.Simple.{app_of_fields, new_app}
use Rattle.rinqebo_request.specs.ArgumentTable.{IsCommand}
use Rattle.rinqebo_request.proofs.Adding.{after, needing, none, then, whole}
use Rattle.rinqebo_diff.proofs.options.diff_command.Goals as goal

pub returns : goal.returns
returns c =
    let start : IsCommand (new_app (codes "diff")) c.after_help.result =
    record {
      is = ap app_of_fields c.after_help.ensures ∙ ap app_of_fields c.about.ensures ∙ c.new.ensures.app;
      own = ap (λ f. f.has_globals) c.after_help.ensures ∙ ap (λ f. f.has_globals) c.about.ensures ∙ c.new.ensures.local;
    } in
    let list = after _ _ _ _ _ _ (none c.after_help.result) (needing _ _ _ c.word-list.ensures c.required.ensures) c.in_ok-arg.ensures in
    let keys = after _ _ _ _ _ _ list c.keys.ensures c.in_ok-arg-2.ensures in
    let all = after _ _ _ _ _ _ keys c.flag.ensures c.in_ok-arg-3.ensures in
    let origins = after _ _ _ _ _ _ all c.flag-2.ensures c.in_ok-command.ensures in
    let profile = c.in_ok-command-2.ensures in
    let tests = then _ _ _ _ _ origins profile.2 in
    let files = then _ _ _ _ _ tests c.in_ok-command-3.ensures in
    let platforms = then _ _ _ _ _ files c.in_ok-command-4.ensures in
    let right = c.in_ok-command-5.ensures in
    let both = then _ _ _ _ _ platforms right.2 in
    IfOk-weaker c.with_output.result _ _
    (λ _ output. (
      record {
        left = record { formats = _; colours = output.0; modes = profile.0 };
        right_modes = right.0;
      },
      record {
        left_are = record { others_are = record { formats_are = refl; colours_are = output.1 }; modes_are = profile.1 };
        right_are = right.1;
      },
      whole _ _ _ _ start (then _ _ _ _ _ both output.2),
    ))
    c.with_output.ensures
