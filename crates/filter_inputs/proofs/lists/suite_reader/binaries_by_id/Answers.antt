use Rattle.std.proofs.Common.{◌≡◌, Some, string_bytes, string_cmp, sym, subst, arith, rules}
use Rattle.std.specs.BTreeMap.{insert_entry}
use Rattle.json.specs.Json.{read_key}
use Rattle.serde_json.specs.Data.{no_members, put}
use Rattle.filter_inputs.specs.Lists.Parts.{AreEntriesOf, IsBinaryOf}
use Rattle.filter_inputs.proofs.lists.Entries.{entry_put}
use Rattle.filter_inputs.proofs.lists.ReadTokens.{no_member_read, one_member_read, members_read}
use Rattle.filter_inputs.proofs.lists.suite_reader.binaries_by_id.Goals as goal

pub suites-init : goal.suites-init
suites-init c = (
  no_members,
  no_member_read c.args.depth c.args.reader.now,
  subst
      (AreEntriesOf IsBinaryOf no_members) (sym c.new-found.ensures.empty) tt,
)

pub suites-preserved : goal.suites-preserved
suites-preserved c =
    let l = c.suites in
    let old = l.invariant.0 in
    let key = c.in-Some.id.now in
    let s = c.next_key.new.self in
    let named : read_key l.reader ≡ Some (Some key, s) = grind arith in
    let done = c.in_ok-binary.ensures in
    let d = done.ok.0 in
    let binary = c.in_ok-binary.binary in
    let copied : string_bytes c.in_ok-key.key ≡ key = search rules in (
      put key d old,
      one_member_read c.args.depth c.args.reader.now l.reader s c.binary_in.new.reader old key d l.invariant.1
          named done.ok.1 done.shorter,
      subst (AreEntriesOf IsBinaryOf (put key d old)) (sym c.in_ok-insert.ensures.entries)
          (subst (λ name. AreEntriesOf IsBinaryOf (put name d old)
          (insert_entry string_cmp l.found.entries c.in_ok-key.key binary)) copied
          (entry_put IsBinaryOf c.in_ok-key.key d binary old l.found.entries l.invariant.2
          (subst (λ name. IsBinaryOf (name, d) binary) (sym copied) done.ok.2))),
    )

pub returns-clause-ok : goal.returns-clause-ok
returns-clause-ok c =
    let l = c.suites in
    let all = members_read c.args.depth c.args.reader.now l.reader c.next_key.new.self l.invariant.0
    l.invariant.1 (grind arith) in
    (l.invariant.0, all.0, l.invariant.2)

pub returns-clause-shorter : goal.returns-clause-shorter
returns-clause-shorter c =
    let l = c.suites in
    (members_read c.args.depth c.args.reader.now l.reader c.next_key.new.self l.invariant.0 l.invariant.1
    (grind arith)).1
