use Rattle.std.proofs.Common.{◌≡◌, ◌-◌, ◌∷◌, length, Some, None, option_map, string_bytes, sym, ap, subst, ◌∙◌, arith, rules}
use Rattle.std.proofs.lemmas.Result.{IfOk-weaker}
use Rattle.json.specs.Token.{Token}
use Rattle.json.specs.Json.{parse_map, after_end_array, read_key, items, members, value}
use Rattle.json.specs.Print.{IsNumber, ArePrintableOrBad}
use Rattle.json.specs.Reads.{token_of}
use Rattle.json.proofs.Grammar.{value_is, value-begin_array, value-begin_object}
use Rattle.serde_json.specs.Data.{null, boolean, number, string, array, object, put}
use Rattle.serde_json.specs.Read.{of_json, converted, number_of}
use Rattle.serde_json.specs.View.{view, members_view}
use Rattle.serde_json.specs.declared.value.Value.{String, Bool, Null, the_lemmas}
use Rattle.serde_json.proofs.Views.{view-Array, view-Object, members_view-insert_entry}
use Rattle.filter_inputs.specs.Lists.Tokens.{IsValueIn}
use Rattle.filter_inputs.proofs.lists.ReadTokens.{converted_array, converted_object, no_item_read, one_item_read, items_read, no_member_read, one_member_read, members_read}
use Rattle.filter_inputs.proofs.lists.tokens.+value_in.Goals as goal

pub value_in-returns-in_ok-from_str-in-String-clause-ok : goal.value_in-returns-in_ok-from_str-in-String-clause-ok
value_in-returns-in_ok-from_str-in-String-clause-ok t c =
    let first : c.args.reader.now ≡ token_of c.in_ok-token.token ∷ c.next.new.self = grind arith in
    let is : c.args.reader.now ≡ Token.string c.in-String.text.now ∷ c.next.new.self = grind (arith, first) in
    let seen : view (String c.in_ok-from_str-in-String.field-0) ≡ string c.in-String.text.now =
    search (rules, the_lemmas) in
    ap (converted of_json) (ap (value c.args.depth) is ∙ value_is c.args.depth _)
    ∙ ap (λ d. Some (d, c.next.new.self)) (sym seen)

pub value_in-returns-in-Number-clause-ok : goal.value_in-returns-in-Number-clause-ok
value_in-returns-in-Number-clause-ok t c =
    let first : c.args.reader.now ≡ token_of c.in_ok-token.token ∷ c.next.new.self = grind arith in
    let text = c.in-Number.text.now in
    let is : c.args.reader.now ≡ Token.number text ∷ c.next.new.self = grind (arith, first) in
    let written = (subst ArePrintableOrBad is c.next.ensures.all_printable).0 in
    IfOk-weaker c.number_in.result (λ v. IsNumber text → option_map number (number_of text) ≡ Some (view v))
    (λ v. IsValueIn c.args.depth c.args.reader.now c.next.new.self (view v))
    (λ v read. ap (converted of_json) (ap (value c.args.depth) is ∙ value_is c.args.depth _)
    ∙ ap (option_map (λ d. (d, c.next.new.self))) (read written))
    c.number_in.ensures

pub value_in-returns-in-Bool-clause-ok : goal.value_in-returns-in-Bool-clause-ok
value_in-returns-in-Bool-clause-ok t c =
    let first : c.args.reader.now ≡ token_of c.in_ok-token.token ∷ c.next.new.self = grind arith in
    let is : c.args.reader.now ≡ Token.boolean c.in-Bool.flag ∷ c.next.new.self = grind (arith, first) in
    let seen : view (Bool c.in-Bool.flag) ≡ boolean c.in-Bool.flag = search (rules, the_lemmas) in
    ap (converted of_json) (ap (value c.args.depth) is ∙ value_is c.args.depth _)
    ∙ ap (λ d. Some (d, c.next.new.self)) (sym seen)

pub value_in-returns-in-Null-clause-ok : goal.value_in-returns-in-Null-clause-ok
value_in-returns-in-Null-clause-ok t c =
    let first : c.args.reader.now ≡ token_of c.in_ok-token.token ∷ c.next.new.self = grind arith in
    let is : c.args.reader.now ≡ Token.null ∷ c.next.new.self = grind (arith, first) in
    let seen : view Null ≡ null = search (rules, the_lemmas) in
    ap (converted of_json) (ap (value c.args.depth) is ∙ value_is c.args.depth _)
    ∙ ap (λ d. Some (d, c.next.new.self)) (sym seen)

pub value_in-returns-in_ok-items_in-in-BeginArray-clause-ok :
    goal.value_in-returns-in_ok-items_in-in-BeginArray-clause-ok
value_in-returns-in_ok-items_in-in-BeginArray-clause-ok t c =
    let first : c.args.reader.now ≡ token_of c.in_ok-token.token ∷ c.next.new.self = grind arith in
    let within = c.args.depth - 1 in
    let opened = ap (converted of_json)
    (ap (value c.args.depth) (first ∙ ap (λ k. token_of k ∷ c.next.new.self) c.in-BeginArray.is)
    ∙ value-begin_array c.args.depth c.next.new.self (omega arith))
    ∙ converted_array (items (value within) (length c.next.new.self) c.next.new.self) in
    let found = c.in_ok-items_in-in-BeginArray in
    opened ∙ ap (parse_map array) found.ensures.ok
    ∙ ap (λ d. Some (d, c.items_in.new.reader)) (sym (view-Array found.field-0))

pub value_in-returns-in_ok-members_in-in-BeginObject-clause-ok :
    goal.value_in-returns-in_ok-members_in-in-BeginObject-clause-ok
value_in-returns-in_ok-members_in-in-BeginObject-clause-ok t c =
    let first : c.args.reader.now ≡ token_of c.in_ok-token.token ∷ c.next.new.self = grind arith in
    let within = c.args.depth - 1 in
    let opened = ap (converted of_json)
    (ap (value c.args.depth) (first ∙ ap (λ k. token_of k ∷ c.next.new.self) c.in-BeginObject.is)
    ∙ value-begin_object c.args.depth c.next.new.self (omega arith))
    ∙ converted_object (members (value within) (length c.next.new.self) c.next.new.self) in
    let found = c.in_ok-members_in-in-BeginObject in
    opened ∙ ap (parse_map object) found.ensures.ok
    ∙ ap (λ d. Some (d, c.members_in.new.reader)) (sym (view-Object found.field-0))

pub items_in-items-init : goal.items_in-items-init
items_in-items-init t c = no_item_read c.args.depth c.args.reader.now c.new-found.result.items c.new-found.ensures.items

pub items_in-items-preserved : goal.items_in-items-preserved
items_in-items-preserved t c =
    let l = c.items in
    let going : (after_end_array l.reader ≡ None) × (c.take_end_array.new.self ≡ l.reader) = grind arith in
    let done = c.in_ok-item.ensures in
    one_item_read c.args.depth c.args.reader.now l.reader c.value_in.new.reader l.found.items
    c.push.new.self.items c.in_ok-item.item
    l.invariant going.0 (rw (← going.1) done.ok) (rw (← going.1) done.shorter) c.in_ok-push.ensures.items

pub items_in-returns-clause-ok : goal.items_in-returns-clause-ok
items_in-returns-clause-ok t c =
    let l = c.items in
    items_read c.args.depth c.args.reader.now l.reader c.take_end_array.new.self l.found.items l.invariant (grind arith)

pub members_in-members-init : goal.members_in-members-init
members_in-members-init t c =
    rw c.new-found.ensures.empty (no_member_read c.args.depth c.args.reader.now)

pub members_in-members-preserved : goal.members_in-members-preserved
members_in-members-preserved t c =
    let l = c.members in
    let old = members_view l.found.entries in
    let key = c.in-Some.name.now in
    let s = c.next_key.new.self in
    let named : read_key l.reader ≡ Some (Some key, s) = grind arith in
    let done = c.in_ok-member.ensures in
    let v = c.in_ok-member.member in
    let copied : string_bytes c.in_ok-key.key ≡ key = search rules in
    let inserted : members_view c.insert.new.self.entries ≡ put key (view v) old =
    ap members_view c.in_ok-insert.ensures.entries ∙ members_view-insert_entry l.found.entries c.in_ok-key.key v
    ∙ ap (λ name. put name (view v) old) copied in
    rw inserted
    (one_member_read c.args.depth c.args.reader.now l.reader s c.value_in.new.reader old key (view v)
    l.invariant named done.ok done.shorter)

pub members_in-returns-clause-ok : goal.members_in-returns-clause-ok
members_in-returns-clause-ok t c =
    let l = c.members in
    (members_read c.args.depth c.args.reader.now l.reader c.next_key.new.self (members_view l.found.entries)
    l.invariant (grind arith)).0
