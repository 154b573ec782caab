use Rattle.std.proofs.Common.{◌≡◌, ◌∙◌, ◌++◌, ◌+◌, ◌≤◌, length, map, List, ℕ, [], ◌∷◌, take, string_bytes, String, Global, ap, sym, subst, arith}
use Rattle.std.proofs.lemmas.Cmp.{nat_list_eq_equiv}
use Rattle.std.proofs.lemmas.List.{take_more, length-map}
use Rattle.std.proofs.lemmas.List.Sums.{prefix_len-le-length}
use Rattle.std.specs.List.{position_or_len, IsDistinct}
use Rattle.std.specs.Str.{bytes_eq}
use Rattle.std.specs.String.{string_eq}
use Rattle.indexmap.specs.IndexSet.{insert_key}
use Rattle.rinqebo_report.specs.Groups.{reported_text, firsts, test_groups, with_member}
use Rattle.rinqebo_report.proofs.TestGroups.{firsts_more, groups_more, position_f, insert_f, distinct_f}
use Rattle.rinqebo_report.proofs.group_page.groups_of.Goals as goal

pub add_member-requires : goal.add_member-requires
add_member-requires c =
    let groups = c.loop-test.groups.items in
    let keys = c.loop-test.texts.keys in
    let so_far = take c.loop-test.test-index c.args.tests.now in
    let as_firsts : length groups ≡ length (firsts so_far) =
    sym (length-map groups (λ group. map (λ test. test.now) group.items))
    ∙ ap length c.loop-test.invariant.groups ∙ length-map (firsts so_far) _ in
    let as_keys : length keys ≡ length (firsts so_far) =
    sym (length-map keys string_bytes) ∙ ap length c.loop-test.invariant.keys
    ∙ length-map (firsts so_far) reported_text in
    let within : position_or_len (string_eq c.in_ok-text.text) keys ≤ length keys =
    prefix_len-le-length _ keys in
    subst (λ n. n ≤ length groups) (sym c.in_ok-number.ensures.index)
    (subst (λ n. position_or_len (string_eq c.in_ok-text.text) keys ≤ n) (as_keys ∙ sym as_firsts) within)

pub loop-test-preserved : goal.loop-test-preserved
loop-test-preserved c =
    let tests = c.args.tests.now in
    let index = c.loop-test.test-index in
    let so_far = take index tests in
    let test = c.test-item.result in
    let text = c.in_ok-text.text in
    let old = c.loop-test.texts.keys in
    let view : (keys : List (String Global)) → List (List ℕ) = map string_bytes in
    let more : take (index + 1) tests ≡ so_far ++ test ∷ [] =
    take_more tests index test (omega arith)
    ∙ ap (λ t. so_far ++ t ∷ []) (sym c.test-item.is) in
    let shown : string_bytes text ≡ reported_text test = c.in_ok-text.ensures in
    let keys = c.loop-test.invariant.keys in
    let unique = distinct_f string_bytes bytes_eq old c.loop-test.invariant.unique in
    let place : c.in_ok-number.number ≡ position_or_len (bytes_eq (reported_text test)) (map reported_text (firsts so_far)) =
    c.in_ok-number.ensures.index
    ∙ position_f string_bytes bytes_eq (string_bytes text) old
    ∙ (λ j. position_or_len (bytes_eq (shown j)) (keys j)) in
    record {
      keys =
          ap view c.in_ok-number.ensures.keys
          ∙ insert_f string_bytes bytes_eq old text
          ∙ (λ j. insert_key bytes_eq (keys j) (shown j))
          ∙ sym (firsts_more bytes_eq nat_list_eq_equiv reported_text so_far test)
          ∙ ap (λ l. map reported_text (firsts l)) (sym more);
      unique = c.insert_full.ensures.unique;
      groups =
          c.in_ok-add_member.ensures
          ∙ (λ j. with_member (c.loop-test.invariant.groups j) (place j) test)
          ∙ sym (groups_more bytes_eq nat_list_eq_equiv reported_text so_far test (subst (IsDistinct bytes_eq) keys unique))
          ∙ ap test_groups (sym more);
    }
