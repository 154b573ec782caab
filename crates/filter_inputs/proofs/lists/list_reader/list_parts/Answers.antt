use Rattle.std.proofs.Common.{◌≡◌, Some, arith}
use Rattle.json.specs.Json.{read_key}
use Rattle.serde_json.specs.Data.{no_members, put}
use Rattle.filter_inputs.proofs.lists.Parts.{no_list_parts}
use Rattle.filter_inputs.proofs.lists.ReadTokens.{no_member_read, one_member_read, members_read}
use Rattle.filter_inputs.proofs.lists.list_reader.list_parts.Goals as goal

pub members-init : goal.members-init
members-init c = (
  no_members,
  no_member_read c.args.depth c.args.reader.now,
  no_list_parts
      c.new.result.entries c.new.ensures.empty,
)

pub members-preserved : goal.members-preserved
members-preserved c =
    let l = c.members in
    let old = l.invariant.0 in
    let key = c.in-Some.key.now in
    let s = c.next_key.new.self in
    let named : read_key l.reader ≡ Some (Some key, s) = grind arith in
    let done = c.in_ok-parts.ensures in
    let d = done.ok.0 in (
      put key d old,
      one_member_read c.args.depth c.args.reader.now l.reader s c.read.new.reader old key d l.invariant.1
          named done.ok.1 done.shorter,
      done.ok.2 old l.invariant.2,
    )

pub returns-clause-ok : goal.returns-clause-ok
returns-clause-ok c =
    let l = c.members in
    let all = members_read c.args.depth c.args.reader.now l.reader c.next_key.new.self l.invariant.0
    l.invariant.1 (grind arith) in
    (l.invariant.0, all.0, l.invariant.2)

pub returns-clause-shorter : goal.returns-clause-shorter
returns-clause-shorter c =
    let l = c.members in
    (members_read c.args.depth c.args.reader.now l.reader c.next_key.new.self l.invariant.0 l.invariant.1
    (grind arith)).1
