use Rattle.std.proofs.Common.{refl, sym}
use Rattle.rinqebo_load.specs.HostLines.{host_of_line}
use Rattle.rinqebo_load.proofs.Elements.{first_here, none_at_all, none_more}
use Rattle.rinqebo_load.proofs.printed_host.host_in_lines.Goals as goal

pub returns-in-Some : goal.returns-in-Some
returns-in-Some c =
    sym (first_here (λ line. line.now) host_of_line c.args.lines.now c.loop-line.line-index _ _ _
    c.loop-line-test.true refl c.in-Some.ensures c.loop-line.invariant)

pub loop-line-preserved : goal.loop-line-preserved
loop-line-preserved c =
    none_more (λ line. line.now) host_of_line c.args.lines.now c.loop-line.line-index _ _
    c.loop-line-test.true refl c.in_default.ensures c.loop-line.invariant

pub returns : goal.returns
returns c =
    sym (none_at_all (λ line. line.now) host_of_line c.args.lines.now c.loop-line.line-index
    c.loop-line-test.false c.loop-line.invariant)
