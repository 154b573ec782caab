use Rattle.std.proofs.Common.{◌≡◌, ◌∙◌, ◌++◌, ◌≤◌, length, map, flat_map, take, List, Vec, Bor, Global, string_bytes, ap, arith}
use Rattle.std.proofs.lemmas.List.{take_all}
use Rattle.rinqebo_report.specs.Groups.{members_runs, test_groups}
use Rattle.rinqebo_report.specs.Pieces.{page_text}
use Rattle.rinqebo_report.specs.declared.report.TestRows.{TestRows}
use Rattle.rinqebo_report.proofs.GroupRuns.{runs_by_members}
use Rattle.rinqebo_report.proofs.group_page.add_groups.Goals as goal

abbrev shown : Vec (Bor TestRows) Global → List TestRows
shown group = map (λ test. test.now) group.items

pub returns : goal.returns
returns c =
    let groups = c.deref-group-items.result.now in
    let found = c.in_ok-groups_of.field-0 in
    let past : length groups ≤ c.loop-group.group-index = omega arith in
    let all : map shown (take c.loop-group.group-index groups) ≡ test_groups c.args.tests.now =
    ap (map shown) (take_all c.loop-group.group-index groups past ∙ c.deref-group-items.ensures.value)
    ∙ c.in_ok-groups_of.ensures in
    c.loop-group.invariant
    ∙ ap (λ runs. string_bytes c.args.out.now ++ page_text c.args.colour runs)
    (ap (flat_map members_runs) all ∙ runs_by_members c.args.tests.now)
