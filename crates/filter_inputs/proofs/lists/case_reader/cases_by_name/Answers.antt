use Rattle.std.proofs.Common.{◌≡◌, ◌<◌, ℕ, List, length, Bool, String, Global, Some, string_bytes, string_cmp, sym, subst, arith, rules}
use Rattle.std.specs.BTreeMap.{insert_entry}
use Rattle.json.specs.Json.{read_key}
use Rattle.json.specs.Token.{Token}
use Rattle.serde_json.specs.Data.{Data, Members, no_members, put}
use Rattle.serde_json.specs.View.{view}
use Rattle.filter_inputs.specs.Lists.Lists.{is_ignored}
use Rattle.filter_inputs.specs.Lists.Parts.{AreEntriesOf, IsCaseOf}
use Rattle.filter_inputs.specs.Lists.Tokens.{IsValueIn}
use Rattle.filter_inputs.proofs.lists.Entries.{entry_put}
use Rattle.filter_inputs.proofs.lists.ReadTokens.{AreMembersRead, no_member_read, one_member_read, members_read}
use Rattle.filter_inputs.proofs.lists.case_reader.cases_by_name.Goals as goal

pub cases-init : goal.cases-init
cases-init c = (
  no_members,
  no_member_read c.args.depth c.args.reader.now,
  subst
      (AreEntriesOf IsCaseOf no_members) (sym c.new-found.ensures.empty) tt,
)

-- one test case more
one_more : (depth : ℕ) (all left s rest : List Token) (old : Members) (es after : List (String Global × Bool))
    (key : String Global) (name : List ℕ) (d : Data) (b : Bool) → AreMembersRead depth all left old
    → AreEntriesOf IsCaseOf old es → read_key left ≡ Some (Some name, s) → IsValueIn depth s rest d
    → length rest < length s → string_bytes key ≡ name → after ≡ insert_entry string_cmp es key b → b ≡ is_ignored d
    → (x : Members) × AreMembersRead depth all rest x × AreEntriesOf IsCaseOf x after
one_more depth all left s rest old es after key name d b are so_far named is less copied inserted ignored = (
  put name d old,
  one_member_read depth all left s rest old name d are named is less,
  subst (AreEntriesOf IsCaseOf (put name d old)) (sym inserted)
      (subst (λ name. AreEntriesOf IsCaseOf (put name d old) (insert_entry string_cmp es key b)) copied
      (entry_put IsCaseOf key d b old es so_far (sym ignored))),
)

pub cases-preserved : goal.cases-preserved
cases-preserved c =
    let l = c.cases in
    let name = c.in-Some.name.now in
    let named : read_key l.reader ≡ Some (Some name, c.next_key.new.self) = grind arith in
    let copied : string_bytes c.in_ok-key.key ≡ name = search rules in
    one_more c.args.depth c.args.reader.now l.reader c.next_key.new.self c.value_in.new.reader l.invariant.0
    l.found.entries c.insert.new.self.entries c.in_ok-key.key name (view c.in_ok-case.case) c.is_ignored.result
    l.invariant.1 l.invariant.2 named c.in_ok-case.ensures.ok c.in_ok-case.ensures.shorter copied
    c.in_ok-insert.ensures.entries c.is_ignored.ensures

pub cases-preserved-in_ok-insert : goal.cases-preserved-in_ok-insert
cases-preserved-in_ok-insert c =
    let l = c.cases in
    let name = c.in-Some.name.now in
    let named : read_key l.reader ≡ Some (Some name, c.next_key.new.self) = grind arith in
    let copied : string_bytes c.in_ok-key.key ≡ name = search rules in
    one_more c.args.depth c.args.reader.now l.reader c.next_key.new.self c.value_in.new.reader l.invariant.0
    l.found.entries c.insert.new.self.entries c.in_ok-key.key name (view c.in_ok-case.case) c.is_ignored.result
    l.invariant.1 l.invariant.2 named c.in_ok-case.ensures.ok c.in_ok-case.ensures.shorter copied
    c.in_ok-insert.ensures.entries c.is_ignored.ensures

pub cases-preserved-in_ok-insert-2 : goal.cases-preserved-in_ok-insert-2
cases-preserved-in_ok-insert-2 c =
    let l = c.cases in
    let name = c.in-Some.name.now in
    let named : read_key l.reader ≡ Some (Some name, c.next_key.new.self) = grind arith in
    let copied : string_bytes c.in_ok-key.key ≡ name = search rules in
    one_more c.args.depth c.args.reader.now l.reader c.next_key.new.self c.value_in.new.reader l.invariant.0
    l.found.entries c.insert.new.self.entries c.in_ok-key.key name (view c.in_ok-case.case) c.is_ignored.result
    l.invariant.1 l.invariant.2 named c.in_ok-case.ensures.ok c.in_ok-case.ensures.shorter copied
    c.in_ok-insert.ensures.entries c.is_ignored.ensures

pub cases-preserved-in_ok-insert-3 : goal.cases-preserved-in_ok-insert-3
cases-preserved-in_ok-insert-3 c =
    let l = c.cases in
    let name = c.in-Some.name.now in
    let named : read_key l.reader ≡ Some (Some name, c.next_key.new.self) = grind arith in
    let copied : string_bytes c.in_ok-key.key ≡ name = search rules in
    one_more c.args.depth c.args.reader.now l.reader c.next_key.new.self c.value_in.new.reader l.invariant.0
    l.found.entries c.insert.new.self.entries c.in_ok-key.key name (view c.in_ok-case.case) c.is_ignored.result
    l.invariant.1 l.invariant.2 named c.in_ok-case.ensures.ok c.in_ok-case.ensures.shorter copied
    c.in_ok-insert.ensures.entries c.is_ignored.ensures

pub returns-clause-ok : goal.returns-clause-ok
returns-clause-ok c =
    let l = c.cases in
    let all = members_read c.args.depth c.args.reader.now l.reader c.next_key.new.self l.invariant.0
    l.invariant.1 (grind arith) in
    (l.invariant.0, all.0, l.invariant.2)

pub returns-clause-shorter : goal.returns-clause-shorter
returns-clause-shorter c =
    let l = c.cases in
    (members_read c.args.depth c.args.reader.now l.reader c.next_key.new.self l.invariant.0 l.invariant.1
    (grind arith)).1
