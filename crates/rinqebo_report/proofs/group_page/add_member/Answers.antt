use Rattle.std.proofs.Common.{◌≡◌, ◌∙◌, ◌++◌, ◌+◌, ◌<◌, length, map, List, [], ◌∷◌, slice_set, slice_index_or, Bor, Vec, Global, ap, sym, subst, arith}
use Rattle.std.proofs.lemmas.List.{map-append, get_or-append-add}
use Rattle.rinqebo_report.specs.Groups.{with_member}
use Rattle.rinqebo_report.specs.declared.report.TestRows.{TestRows}
use Rattle.rinqebo_report.proofs.GroupMembers.{member_at, member_behind}
use Rattle.rinqebo_report.proofs.group_page.add_member.Goals as goal
use Rattle.rinqebo_report.proofs.group_page.add_member.Goals.{then-number-len+in_ok-push, else-number-len}

abbrev shown : Vec (Bor TestRows) Global → List TestRows
shown group = map (λ test. test.now) group.items

pub returns : goal.returns
returns c =
    let groups = c.args.groups.now.items in
    let number = c.args.number in
    let test = c.args.test in
    let new = c.push-2.new.self in
    let had = c.index_mut.result.now in
    let grown : shown new ≡ shown had ++ test.now ∷ [] =
    ap (map (λ test. test.now)) c.in_ok-push-2.ensures.items
    ∙ map-append (λ test. test.now) had.items (test ∷ []) in
    elim c.if-number-len.branch [
      | then-number-len+in_ok-push w ↦
          (let empty = w.new.result in
          let all : c.if-number-len.groups.items ≡ groups ++ empty ∷ [] =
          ap (λ v. v.items) w.groups-is ∙ w.in_ok-push.ensures.items in
          let at : number ≡ length groups + 0 = omega arith in
          let behind : number ≡ length groups = omega arith in
          let value : had ≡ empty =
          subst (λ l. had ≡ slice_index_or l number had) all c.index_mut.ensures.value
          ∙ ap (λ n. slice_index_or (groups ++ empty ∷ []) n had) at
          ∙ get_or-append-add groups (empty ∷ []) 0 had in
          let one : shown new ≡ test.now ∷ [] =
          grown ∙ ap (λ v. shown v ++ test.now ∷ []) value
          ∙ ap (λ l. map (λ test. test.now) l ++ test.now ∷ []) w.new.ensures.items in
          (λ j. map shown (slice_set (all j) (behind j) new))
          ∙ member_behind shown test.now new groups empty one
          ∙ ap (λ n. with_member (map shown groups) n test.now) (sym behind))
      | else-number-len w ↦
          (let all : c.if-number-len.groups.items ≡ groups = ap (λ v. v.items) w.groups-is in
          let lt : number < length groups = omega arith in
          let value : had ≡ slice_index_or groups number had = subst (λ l. had ≡ slice_index_or l number had) all c.index_mut.ensures.value in
          ap (λ l. map shown (slice_set l number new)) all
          ∙ member_at shown test.now new groups number had lt (grown ∙ ap (λ v. shown v ++ test.now ∷ []) value))
    ]
