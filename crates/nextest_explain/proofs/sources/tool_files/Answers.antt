use Rattle.std.proofs.Common.{◌∙◌, map, subst}
use Rattle.std.proofs.lemmas.List.{take_all}
use Rattle.std.specs.List.{AllZip}
use Rattle.nextest_sources.specs.Sources.{tool_file_view}
use Rattle.nextest_explain.specs.Files.{IsToolFile}
use Rattle.nextest_explain.proofs.NamedFiles.{files_more}
use Rattle.nextest_explain.proofs.sources.tool_files.Goals as goal

pub loop-named-preserved : goal.loop-named-preserved
loop-named-preserved g c =
    files_more (IsToolFile (g.R.FileReader.MayGive c.args.files.now)) tool_file_view
    c.deref-named-items.result.now c.loop-named.named-index c.named-item.result _ c.loop-named-test.true
    c.named-item.is c.loop-named.read.items c.push.new.self.items c.in_ok-tool_file.field-0
    c.loop-named.invariant c.in_ok-tool_file.ensures c.in_ok-push.ensures.items

pub returns : goal.returns
returns g c =
    let all = take_all c.loop-named.named-index c.deref-named-items.result.now c.loop-named-test.false
    ∙ c.deref-named-items.ensures.value in
    subst (λ named. AllZip (IsToolFile (g.R.FileReader.MayGive c.args.files.now)) named
    (map tool_file_view c.loop-named.read.items)) all c.loop-named.invariant
