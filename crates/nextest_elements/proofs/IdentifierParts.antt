-- What the characters of a part are, which characters are in no part, and where the first colon stands.
use Rattle.std.proofs.Common.{◌≡◌, ◌≢◌, ◌↔◌, ℕ, ◌+◌, ◌<◌, Bool, true, false, ◌||◌, eqb, IsTrue, List, [], ◌∷◌, ◌++◌, All, length, take, drop, get_or, encode_utf8_all, sym, ◌∙◌, ap, subst, inl, inr, ⊎_elim, arith}
use Rattle.std.proofs.Math.Seq.{take-append_seam, drop-append-add, get_or-append_seam}
use Rattle.std.proofs.lemmas.Bool.{false≢true, and_parts, and_from, or_cases, or_left, or_right, eqb-true, eq-eqb, ne_eqb}
use Rattle.std.proofs.lemmas.List.{length-append, get_or_append_left}
use Rattle.std.proofs.lemmas.List.Elements.{All-head, All-tail, All-weaker}
use Rattle.std.proofs.lemmas.List.Sums.{AllPass-from_list_all, list_all-from_AllPass, position_or_len_is}
use Rattle.std.proofs.lemmas.Str.{IsUtf8-from_is_utf8, is_utf8-from_IsUtf8, encodes-chars, scalars-chars, chars_from_encodes, length-encode, len_utf8_bounds}
use Rattle.std.proofs.lemmas.Str.Pattern.{NoCharPasses-char}
use Rattle.std.specs.Char.{encode_utf8}
use Rattle.std.specs.List.{before_first, after_first, position_or_len}
use Rattle.std.specs.Str.{IsUtf8, NonePass, chars, is_utf8, all_scalars}
use Rattle.unicode_ident.specs.Ident.{is_xid_start, is_xid_continue}
use Rattle.unicode_ident.proofs.IdentLemmas.{is_xid_start-ascii, is_xid_continue-ascii}
use Rattle.nextest_elements.specs.Identifier.{ContinuesPart, IsPart, are_part_characters, is_part}
use Rattle.nextest_elements.specs.declared.identifier.InvalidIdentifier.TheVariants as causes

-- ---- characters of a part

pub continues_by_test : (c : ℕ) → (is_xid_continue c || eqb c 45) ≡ true → ContinuesPart c
continues_by_test c h = ⊎_elim inl (λ e. inr (eqb-true c 45 e)) (or_cases (is_xid_continue c) (eqb c 45) h)

pub test_by_continues : (c : ℕ) → ContinuesPart c → (is_xid_continue c || eqb c 45) ≡ true
test_by_continues c h = ⊎_elim (or_left (is_xid_continue c) (eqb c 45))
    (λ e. or_right (is_xid_continue c) (eqb c 45) (eq-eqb c 45 e)) h

pub part_of_characters : (text cs : List ℕ) → all_scalars cs ≡ true → encode_utf8_all cs ≡ text
    → are_part_characters cs ≡ true → IsPart text
part_of_characters text [] s e h = absurd (false≢true h)
part_of_characters text (first ∷ others) s e h =
    let test : ℕ → Bool = λ c. is_xid_continue c || eqb c 45 in
    let parts = and_parts (is_xid_start first) _ h in
    record {
      first = first;
      others = others;
      are_characters = s;
      spell = sym e;
      starts = parts.0;
      continue = All-weaker (λ c. test c ≡ true) ContinuesPart continues_by_test others
          (AllPass-from_list_all test others parts.1);
    }

pub IsPart-from_is_part : (text : List ℕ) → is_part text ≡ true → IsPart text
unfolding is_part
IsPart-from_is_part text h =
    let tests = and_parts (is_utf8 text) _ h in
    let utf8 : IsUtf8 text = IsUtf8-from_is_utf8 text tests.0 in
    part_of_characters text (chars text) (scalars-chars text utf8) (encodes-chars text utf8) tests.1

pub characters_of_part : (text : List ℕ) (part : IsPart text) → are_part_characters (part.first ∷ part.others) ≡ true
characters_of_part text part =
    let test : ℕ → Bool = λ c. is_xid_continue c || eqb c 45 in
    and_from (is_xid_start part.first) _ part.starts
    (list_all-from_AllPass test part.others
    (All-weaker ContinuesPart (λ c. test c ≡ true) test_by_continues part.others part.continue))

pub is_part-from_IsPart : (text : List ℕ) → IsPart text → is_part text ≡ true
unfolding is_part
is_part-from_IsPart text part =
    let utf8 : IsUtf8 text = (part.first ∷ part.others, (part.are_characters, sym part.spell)) in
    let same : part.first ∷ part.others ≡ chars text =
    chars_from_encodes (part.first ∷ part.others) text utf8 (sym part.spell) in
    and_from (is_utf8 text) _ (is_utf8-from_IsUtf8 text utf8)
    (subst (λ cs. are_part_characters cs ≡ true) same (characters_of_part text part))

-- A text passes the test of parts exactly if it is a part.
pub is_part_law : (text : List ℕ) → IsTrue (is_part text) ↔ IsPart text
is_part_law text = (IsPart-from_is_part text, is_part-from_IsPart text)

-- ---- what is in no part

-- such a character is in no part
abbrev LacksCharacter : ℕ → Type 0
LacksCharacter c = (c < 128) × (is_xid_start c ≡ false) × (is_xid_continue c ≡ false) × (c ≢ 45)

pub colon : LacksCharacter 58
colon = (
  omega arith,
  is_xid_start-ascii 58 (omega arith),
  is_xid_continue-ascii 58 (omega arith),
  λ e. omega
      (arith, e),
)

pub at_sign : LacksCharacter 64
at_sign = (
  omega arith,
  is_xid_start-ascii 64 (omega arith),
  is_xid_continue-ascii 64 (omega arith),
  λ e.
      omega (arith, e),
)

pub none_continues : (c : ℕ) → LacksCharacter c → (others : List ℕ) → All ContinuesPart others
    → NonePass (λ d. eqb d c) others
none_continues c lacks [] all = tt
none_continues c lacks (d ∷ others) all = (
  ne_eqb d c (λ e. ⊎_elim
      (λ continues. false≢true (sym lacks.2 ∙ subst (λ x. is_xid_continue x ≡ true) e continues))
      (λ hyphen. lacks.3 (sym e ∙ hyphen)) (All-head ContinuesPart d others all)),
  none_continues c lacks others (All-tail ContinuesPart d others all),
)

pub lacks_byte : (c : ℕ) → LacksCharacter c → (text : List ℕ) → IsPart text → (i : ℕ) → i < length text
    → get_or text i 0 ≢ c
lacks_byte c lacks text part i =
    NoCharPasses-char c text i (
      part.first ∷ part.others,
      sym part.spell,
      (
        ne_eqb part.first c (λ e. false≢true (sym lacks.1 ∙ subst (λ x. is_xid_start x ≡ true) e part.starts)),
        none_continues c lacks part.others part.continue,
      ),
    ) lacks.0

pub part_fills : (text : List ℕ) → IsPart text → 0 < length text
part_fills text part =
    omega (
      arith,
      ap length part.spell,
      length-append (encode_utf8 part.first) (encode_utf8_all part.others),
      length-encode part.first,
      (len_utf8_bounds part.first).0,
    )

-- ---- the first colon

pub first_colon : (tool name : List ℕ) → ((i : ℕ) → i < length tool → get_or tool i 0 ≢ 58)
    → position_or_len (λ b. eqb b 58) (tool ++ 58 ∷ name) ≡ length tool
first_colon tool name none =
    position_or_len_is (λ b. eqb b 58) (tool ++ 58 ∷ name) (length tool) 0
    (omega (arith, length-append tool (58 ∷ name)))
    (λ k l. ne_eqb _ 58 (λ e. none k l (sym (get_or_append_left tool (58 ∷ name) 0 k l) ∙ e)))
    (λ l. eq-eqb _ 58 (get_or-append_seam tool 58 name 0))

pub before_colon : (tool name : List ℕ) → ((i : ℕ) → i < length tool → get_or tool i 0 ≢ 58)
    → before_first (λ b. eqb b 58) (tool ++ 58 ∷ name) ≡ tool
before_colon tool name none =
    ap (λ n. take n (tool ++ 58 ∷ name)) (first_colon tool name none) ∙ take-append_seam tool (58 ∷ name)

pub after_colon : (tool name : List ℕ) → ((i : ℕ) → i < length tool → get_or tool i 0 ≢ 58)
    → after_first (λ b. eqb b 58) (tool ++ 58 ∷ name) ≡ name
after_colon tool name none =
    ap (λ n. drop (n + 1) (tool ++ 58 ∷ name)) (first_colon tool name none) ∙ drop-append-add tool (58 ∷ name) 1
