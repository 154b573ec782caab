use Rattle.std.proofs.Common.{◌∙◌, ◌+◌, ap, length, map, sym}
use Rattle.std.proofs.lemmas.List.{length-map}
use Rattle.nextest_sources.specs.Sources.{tool_file_view}
use Rattle.rinqebo_load.specs.Sessions.{files_view}
use Rattle.rinqebo_checks.specs.ReadAgain.{reading_view, tools_again}
use Rattle.rinqebo_checks.proofs.ReadAgain.{files_read}
use Rattle.rinqebo_checks.proofs.edited_files.Reading.files.Goals as goal

pub returns : goal.returns
returns c =
    let reading = reading_view c.args.self.now in
    let layers = c.as_slice-layers.result.now in
    let gathered = c.args.session.now.gathered.now in
    files_read reading c.args.session.now.layers.items layers (files_view gathered) _ _ _ _ _ _
    c.as_slice-layers.ensures.value c.saturating_sub-own.ensures
    (c.organisation_place-organisation.ensures
    ∙ ap (λ tools. length tools + 1) c.deref.ensures.value
    ∙ ap (λ n. n + 1) (sym (length-map gathered.tools.items tool_file_view)))
    c.in_ok-shared.ensures c.in_ok-config_file.ensures c.in_ok-organisation_file.ensures
    (c.in_ok-tools.ensures
    ∙ ap (λ tools. tools_again reading layers (map tool_file_view tools)) c.deref-2.ensures.value)
