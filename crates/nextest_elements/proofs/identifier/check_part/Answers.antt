use Rattle.std.proofs.Common.{◌≡◌, true, false, eqb, ◌++◌, ◌||◌, length, encode_utf8, sym, ◌∙◌, ap, refl, rules, tests}
use Rattle.std.proofs.lemmas.Bool.{and_left, and_right, and_from}
use Rattle.std.proofs.lemmas.Iterator.{YieldsList-from_chars}
use Rattle.std.proofs.lemmas.Iterator.Search.{all_from_yields_List}
use Rattle.std.proofs.lemmas.Str.{IsUtf8-past_char}
use Rattle.std.specs.List.{list_all}
use Rattle.std.specs.Str.{chars, IsUtf8}
use Rattle.unicode_ident.specs.Ident.{is_xid_start, is_xid_continue}
use Rattle.nextest_elements.proofs.Identifiers.{empty_no_part, part_after_first, starts_badly, has_bad_character}
use Rattle.nextest_elements.proofs.identifier.check_part.Goals as goal

pub returns-in_default-clause-verdict : goal.returns-in_default-clause-verdict
returns-in_default-clause-verdict c =
    empty_no_part c.args.text.now (sym (ap length c.chars-characters.ensures.rest) ∙ c.in_default.ensures.steps.0.0)

pub returns-then-not-is_xid_start-clause-verdict : goal.returns-then-not-is_xid_start-clause-verdict
returns-then-not-is_xid_start-clause-verdict c =
    let spelled : c.args.text.now ≡ encode_utf8 c.in-Some.first ++ c.next.new.self.rest.now =
    sym c.chars-characters.ensures.rest ∙ c.in-Some.ensures.steps.0 in
    let starts : is_xid_start c.in-Some.first ≡ false = sym c.is_xid_start.ensures.value ∙ c.if-not-is_xid_start.true in
    sym (and_left (is_xid_start c.in-Some.first) _ starts)
    ∙ part_after_first c.args.text.now c.next.new.self.rest.now c.in-Some.first c.utf8.text spelled

pub returns-then-not-all-clause-verdict : goal.returns-then-not-all-clause-verdict
returns-then-not-all-clause-verdict c =
    let spelled : c.args.text.now ≡ encode_utf8 c.in-Some.first ++ c.next.new.self.rest.now =
    sym c.chars-characters.ensures.rest ∙ c.in-Some.ensures.steps.0 in
    let utf8 : IsUtf8 c.next.new.self.rest.now =
    IsUtf8-past_char c.args.text.now c.next.new.self.rest.now c.in-Some.first c.utf8.text spelled in
    let continue : c.all.result ≡ list_all (λ ch. is_xid_continue ch || eqb ch 45) (chars c.next.new.self.rest.now) =
    all_from_yields_List (λ ch. is_xid_continue ch || eqb ch 45) _ _ c.all.result c.all.ensures.ran
    (YieldsList-from_chars c.next.new.self.rest.now utf8 refl) (λ x b q k. search (rules, tests)) in
    sym (and_right (is_xid_start c.in-Some.first) _ (sym continue ∙ c.if-not-all.true))
    ∙ part_after_first c.args.text.now c.next.new.self.rest.now c.in-Some.first c.utf8.text spelled

pub returns-clause-verdict : goal.returns-clause-verdict
returns-clause-verdict c =
    let spelled : c.args.text.now ≡ encode_utf8 c.in-Some.first ++ c.next.new.self.rest.now =
    sym c.chars-characters.ensures.rest ∙ c.in-Some.ensures.steps.0 in
    let utf8 : IsUtf8 c.next.new.self.rest.now =
    IsUtf8-past_char c.args.text.now c.next.new.self.rest.now c.in-Some.first c.utf8.text spelled in
    let starts : is_xid_start c.in-Some.first ≡ true = sym c.is_xid_start.ensures.value ∙ c.if-not-is_xid_start.false in
    let continue : c.all.result ≡ list_all (λ ch. is_xid_continue ch || eqb ch 45) (chars c.next.new.self.rest.now) =
    all_from_yields_List (λ ch. is_xid_continue ch || eqb ch 45) _ _ c.all.result c.all.ensures.ran
    (YieldsList-from_chars c.next.new.self.rest.now utf8 refl) (λ x b q k. search (rules, tests)) in
    sym (and_from (is_xid_start c.in-Some.first) _ starts (sym continue ∙ c.if-not-all.false))
    ∙ part_after_first c.args.text.now c.next.new.self.rest.now c.in-Some.first c.utf8.text spelled

pub returns-then-not-is_xid_start-clause-flaw : goal.returns-then-not-is_xid_start-clause-flaw
returns-then-not-is_xid_start-clause-flaw c =
    let spelled : c.args.text.now ≡ encode_utf8 c.in-Some.first ++ c.next.new.self.rest.now =
    sym c.chars-characters.ensures.rest ∙ c.in-Some.ensures.steps.0 in
    starts_badly c.args.text.now c.next.new.self.rest.now c.in-Some.first c.utf8.text spelled
    (sym c.is_xid_start.ensures.value ∙ c.if-not-is_xid_start.true)

pub returns-then-not-all-clause-flaw : goal.returns-then-not-all-clause-flaw
returns-then-not-all-clause-flaw c =
    let spelled : c.args.text.now ≡ encode_utf8 c.in-Some.first ++ c.next.new.self.rest.now =
    sym c.chars-characters.ensures.rest ∙ c.in-Some.ensures.steps.0 in
    let utf8 : IsUtf8 c.next.new.self.rest.now =
    IsUtf8-past_char c.args.text.now c.next.new.self.rest.now c.in-Some.first c.utf8.text spelled in
    let continue : c.all.result ≡ list_all (λ ch. is_xid_continue ch || eqb ch 45) (chars c.next.new.self.rest.now) =
    all_from_yields_List (λ ch. is_xid_continue ch || eqb ch 45) _ _ c.all.result c.all.ensures.ran
    (YieldsList-from_chars c.next.new.self.rest.now utf8 refl) (λ x b q k. search (rules, tests)) in
    has_bad_character c.args.text.now c.next.new.self.rest.now c.in-Some.first c.utf8.text spelled
    (sym continue ∙ c.if-not-all.true)
