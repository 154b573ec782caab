use Rattle.std.proofs.Common.{◌∙◌, ap, map, option_map, refl, string_bytes, subst}
use Rattle.std.specs.List.{AllZip}
use Rattle.nextest_sources.specs.Sources.{file_view, outcome_view, tool_file_view}
use Rattle.rinqebo_request.specs.Files.Gathering.{input_left, IsListText, IsNamedFile, IsOwnFile, IsToolFile}
use Rattle.rinqebo_request.specs.Files.Gathering.{IsNoList, of_host_cfg, of_list, of_memory, of_metadata, of_root, of_rustc_version, of_target_cfg}
use Rattle.rinqebo_request.specs.declared.files.gathering.GatherFault.TheVariants as faults
use Rattle.rinqebo_request.proofs.files.Passing.{passed}
use Rattle.rinqebo_request.proofs.files.gathering.gather.Goals as goal

pub returns-clause-files : goal.returns-clause-files
returns-clause-files g c =
    let gives = g.R.FileReader.MayGive c.args.files.now in
    let options = c.args.request.now.files in
    let input = outcome_view c.args.input in
    let list = option_map string_bytes c.in_ok-list.list in
    record {
      own = subst (λ root. IsOwnFile gives root options.config_file (file_view c.in_ok-shared.shared))
          c.as_str.ensures.value c.in_ok-shared.ensures;
      named = subst (λ left. IsNamedFile gives options.config_file left
          (option_map file_view c.in_ok-config_file.config_file))
          (c.in_ok-list.ensures.left ∙ ap (λ named. input_left named input) c.list-named.ensures)
          c.in_ok-config_file.ensures;
      organisation = c.in_ok-organisation_file.ensures;
      tools = subst (λ named. AllZip (IsToolFile gives) named (map tool_file_view c.in_ok-tools.tools.items))
          c.deref.ensures.value c.in_ok-tools.ensures;
      rustc_version = c.in_ok-rustc_version.ensures.ok;
      host_cfg = c.in_ok-host_cfg.ensures.ok;
      target_cfg = c.in_ok-target_cfg.ensures.ok;
      metadata = c.in_ok-metadata.ensures.ok;
      list = subst (λ named. IsListText gives named input list) c.list-named.ensures c.in_ok-list.ensures.text;
    }

pub returns-in_err-root-clause-cause : goal.returns-in_err-root-clause-cause
returns-in_err-root-clause-cause g c =
    passed _ c.from_residual.result c.in_err-root.field-0.0 c.from_residual.ensures.1 (of_root c.in_err-root.ensures.err)

pub returns-in_err-rustc_version-clause-cause : goal.returns-in_err-rustc_version-clause-cause
returns-in_err-rustc_version-clause-cause g c =
    passed _ c.from_residual-in_err-rustc_version.result c.in_err-rustc_version.field-0.0 c.from_residual-in_err-rustc_version.ensures.1 (of_rustc_version c.in_err-rustc_version.ensures.err)

pub returns-in_err-host_cfg-clause-cause : goal.returns-in_err-host_cfg-clause-cause
returns-in_err-host_cfg-clause-cause g c =
    passed _ c.from_residual-in_err-host_cfg.result c.in_err-host_cfg.field-0.0 c.from_residual-in_err-host_cfg.ensures.1 (of_host_cfg c.in_err-host_cfg.ensures.err)

pub returns-in_err-target_cfg-clause-cause : goal.returns-in_err-target_cfg-clause-cause
returns-in_err-target_cfg-clause-cause g c =
    passed _ c.from_residual-in_err-target_cfg.result c.in_err-target_cfg.field-0.0 c.from_residual-in_err-target_cfg.ensures.1 (of_target_cfg c.in_err-target_cfg.ensures.err)

pub returns-in_err-metadata-clause-cause : goal.returns-in_err-metadata-clause-cause
returns-in_err-metadata-clause-cause g c =
    passed _ c.from_residual-in_err-metadata.result c.in_err-metadata.field-0.0 c.from_residual-in_err-metadata.ensures.1 (of_metadata c.in_err-metadata.ensures.err)

pub returns-in_err-list-clause-cause : goal.returns-in_err-list-clause-cause
returns-in_err-list-clause-cause g c =
    passed _ c.from_residual-in_err-list.result c.in_err-list.field-0.0 c.from_residual-in_err-list.ensures.1
    (of_list (subst (λ named. IsNoList (g.R.FileReader.MayGive c.args.files.now) named (outcome_view c.args.input) c.in_err-list.field-0.0)
    c.list-named.ensures c.in_err-list.ensures.err))

pub returns-in_err-shared-clause-cause : goal.returns-in_err-shared-clause-cause
returns-in_err-shared-clause-cause g c = passed _ c.from_residual-in_err-shared.result faults.Memory c.from_residual-in_err-shared.ensures.1 (of_memory refl)

pub returns-in_err-config_file-clause-cause : goal.returns-in_err-config_file-clause-cause
returns-in_err-config_file-clause-cause g c = passed _ c.from_residual-in_err-config_file.result faults.Memory c.from_residual-in_err-config_file.ensures.1 (of_memory refl)

pub returns-in_err-organisation_file-clause-cause : goal.returns-in_err-organisation_file-clause-cause
returns-in_err-organisation_file-clause-cause g c = passed _ c.from_residual-in_err-organisation_file.result faults.Memory c.from_residual-in_err-organisation_file.ensures.1 (of_memory refl)

pub returns-in_err-tools-clause-cause : goal.returns-in_err-tools-clause-cause
returns-in_err-tools-clause-cause g c = passed _ c.from_residual-in_err-tools.result faults.Memory c.from_residual-in_err-tools.ensures.1 (of_memory refl)
