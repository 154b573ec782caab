use Rattle.std.proofs.Common.{map, subst}
use Rattle.std.proofs.lemmas.List.{take_all}
use Rattle.std.specs.List.{AllZip}
use Rattle.nextest_sources.specs.Sources.{tool_file_view}
use Rattle.rinqebo_request.specs.Files.Gathering.{IsToolFile}
use Rattle.rinqebo_request.proofs.files.Reading.{files_more}
use Rattle.rinqebo_request.proofs.files.gathering.tool_files.Goals as goal

pub loop-named-preserved : goal.loop-named-preserved
loop-named-preserved g c =
    files_more (IsToolFile (g.R.FileReader.MayGive c.args.files.now)) tool_file_view c.args.tools.now
    c.loop-named.named-index c.named-item.result _ c.loop-named-test.true c.named-item.is c.loop-named.read.items
    c.push.new.self.items c.in_ok-tool_file.field-0 c.loop-named.invariant c.in_ok-tool_file.ensures
    c.in_ok-push.ensures.items

pub returns : goal.returns
returns g c =
    subst (λ named. AllZip (IsToolFile (g.R.FileReader.MayGive c.args.files.now)) named
    (map tool_file_view c.loop-named.read.items))
    (take_all c.loop-named.named-index c.args.tools.now c.loop-named-test.false) c.loop-named.invariant
