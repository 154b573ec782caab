-- The classes that are found in a text are those that it writes.
use Rattle.std.proofs.Common.{◌≡◌, ℕ, zero, suc, ◌+◌, ◌<◌, ◌≤◌, ◌↔◌, Bool, true, false, not, ◌&&◌, ◌==◌, eqb-true, List, [], ◌∷◌, Some, None, length, drop, refl, sym, ap, ◌∙◌, subst, ⊎_elim, inl, inr, arith, true≢false, nat_le}
use Rattle.std.specs.Prelude.{MatchOption, nat_lt, if◌then◌else◌}
use Rattle.std.proofs.lemmas.Bool.{eq-eqb, ltb-true, ltb-false, leb-true, lt-ltb, le-leb, and_parts, and_from, or_cases, or_left, or_right, both_ways, true_from_ne_false}
use Rattle.filter_engine.specs.GlobClasses.{GlobClass, BeginsNegated, EndsClass, WritesItem, WritesItems, WritesBody, WritesNegation, WritesClass, start_behind}
use Rattle.filter_engine.specs.GlobTexts.{Leading, find_behind, found_with, ends_class, begins_negated, reach_in, item_in, items_in, class_body_in, class_in}
use Rattle.filter_engine.specs.declared.glob.class.ClassItem.{ClassItem}
use Rattle.filter_engine.specs.declared.glob.class.ClassItem.TheVariants.{Own, Reach}
use Rattle.filter_engine.proofs.GlobParts.{heads}
use Rattle.filter_engine.proofs.GlobBodies.{same_item, item_behind, closed, no_items, same_sign, same_class, signed}
use Rattle.filter_engine.proofs.Tells.{Tells, tells_none, tells_one, told, never_told, tells_only, tells_same, tells_behind}

-- A closing bracket.
ends_class_is : (text : List ℕ) → (ends_class text ≡ true) ↔ EndsClass text
ends_class_is [] = (λ e. absurd (true≢false (sym e)), λ (w : EndsClass []). absurd (let e = w.1 in cc))
ends_class_is (byte ∷ text) = (
  λ e. (text, ap (λ b. b ∷ text) (eqb-true byte 93 e)),
  λ (w : EndsClass (byte ∷ text)). eq-eqb byte 93 (heads (byte ∷ text) byte 93 text w.0 refl w.1).0,
)

not_true : (b : Bool) → not b ≡ true → b ≡ false
not_true true e = absurd (true≢false (sym e))
not_true false e = refl

-- No item is found.
abbrev NoItem : ℕ → List ℕ → Type 0
NoItem start text = (item : ClassItem) (rest : List ℕ) → WritesItem start text item rest → ⊥

-- What is found is an item, or none is there.
abbrev ItemIs : ℕ → List ℕ → Leading ClassItem → Type 0
ItemIs start text found = MatchOption found (NoItem start text) (λ f. WritesItem start text f.0 f.1)

-- A dash behind which nothing stands to reach.
no_reach : (start : ℕ) (text : List ℕ) → (EndsClass text → ⊥)
    → ((byte : ℕ) (rest : List ℕ) → text ≡ byte ∷ rest → byte < 128 → start ≤ byte → ⊥) → NoItem start (45 ∷ text)
no_reach start text goes_on none (Own b) r w =
    let same = heads (45 ∷ text) 45 b text r refl w.0 in
    goes_on (subst EndsClass (sym same.1) (w.3 (sym same.0)))
no_reach start text goes_on none (Reach b) r w = none b r (heads (45 ∷ text) 45 45 text (b ∷ r) refl w.0).1 w.1 w.3

-- Where nothing is left, no item stands.
no_item_left : (start : ℕ) → NoItem start []
no_item_left start (Own b) r w = let e = w.0 in absurd (cc)
no_item_left start (Reach b) r w = let e = w.0 in absurd (cc)

-- No item begins with a byte beyond ASCII.
own_large : (start byte : ℕ) (text : List ℕ) → 128 ≤ byte → NoItem start (byte ∷ text)
own_large start byte text large (Own b) r w = omega (arith, (heads (byte ∷ text) byte b text r refl w.0).0, w.1)
own_large start byte text large (Reach b) r w = omega (arith, (heads (byte ∷ text) byte 45 text (b ∷ r) refl w.0).0)

reach_by : (start byte : ℕ) (text : List ℕ) (fits : Bool) → (nat_lt byte 128 && nat_le start byte) ≡ fits
    → (EndsClass (byte ∷ text) → ⊥)
    → ItemIs start (45 ∷ byte ∷ text) (if fits then Some (Reach byte, text) else None)
reach_by start byte text true is goes_on =
    let both = and_parts (nat_lt byte 128) (nat_le start byte) is in
    (refl, ltb-true byte 128 both.0, λ e. goes_on (text, ap (λ b. b ∷ text) e), leb-true start byte both.1)
reach_by start byte text false is goes_on =
    no_reach start (byte ∷ text) goes_on
    (λ b r e below from.
    let same = heads (byte ∷ text) byte b text r refl e in
    true≢false (sym (and_from (nat_lt byte 128) (nat_le start byte) (lt-ltb byte 128 (omega (arith, same.0)))
    (le-leb start byte (omega (arith, same.0)))) ∙ is))

reach_is : (start : ℕ) (text : List ℕ) → (EndsClass text → ⊥) → ItemIs start (45 ∷ text) (reach_in start text)
reach_is start [] goes_on = no_reach start [] goes_on (λ b r e below from. absurd (cc))
reach_is start (byte ∷ text) goes_on = reach_by start byte text (nat_lt byte 128 && nat_le start byte) refl goes_on

own_by : (start byte : ℕ) (text : List ℕ) (ascii : Bool) → nat_lt byte 128 ≡ ascii
    → (byte == 45 && not (ends_class text)) ≡ false
    → (EndsClass (byte ∷ text) → ⊥) → ItemIs start (byte ∷ text) (if ascii then Some (Own byte, text) else None)
own_by start byte text true is no_dash goes_on = (
  refl,
  ltb-true byte 128 is,
  λ e. goes_on (text, ap (λ b. b ∷ text) e),
  λ e.
      (ends_class_is text).0
      (true_from_ne_false (ends_class text)
      (λ open_class. true≢false
      (sym (and_from (byte == 45) (not (ends_class text)) (eq-eqb byte 45 e) (ap not open_class)) ∙ no_dash))),
)
own_by start byte text false is no_dash goes_on = own_large start byte text (ltb-false byte 128 is)

item_by : (start byte : ℕ) (text : List ℕ) (dash : Bool) → (byte == 45 && not (ends_class text)) ≡ dash
    → (EndsClass (byte ∷ text) → ⊥)
    → ItemIs start (byte ∷ text)
    (if dash then reach_in start text else if nat_lt byte 128 then Some (Own byte, text) else None)
item_by start byte text true is goes_on =
    let both = and_parts (byte == 45) (not (ends_class text)) is in
    let same = eqb-true byte 45 both.0 in
    subst (λ b. ItemIs start (b ∷ text) (reach_in start text)) (sym same)
    (reach_is start text (λ ends. both_ways (ends_class text) (not_true (ends_class text) both.1)
    ((ends_class_is text).1 ends)))
item_by start byte text false is goes_on = own_by start byte text (nat_lt byte 128) refl is goes_on

item_is : (start : ℕ) (text : List ℕ) → (EndsClass text → ⊥) → ItemIs start text (item_in start text)
item_is start [] goes_on = no_item_left start
item_is start (byte ∷ text) goes_on = item_by start byte text (byte == 45 && not (ends_class text)) refl goes_on

-- The item that is found is the one that is written.
item_tells : (start : ℕ) (text : List ℕ) → (EndsClass text → ⊥) → Tells (item_in start text) (WritesItem start text)
item_tells start text goes_on =
    tells_only (WritesItem start text) (item_in start text) (item_is start text goes_on)
    (λ i j r s w v. same_item start text i j r s w v)

-- An item takes a byte at least.
item_shorter : (start : ℕ) (text : List ℕ) (item : ClassItem) (rest : List ℕ)
    → WritesItem start text item rest → length rest < length text
item_shorter start text (Own b) rest w = omega (arith, ap length w.0)
item_shorter start text (Reach b) rest w = omega (arith, ap length w.0)

items_shorter : (start : ℕ) (text : List ℕ) (items : List ClassItem) (rest : List ℕ)
    → WritesItems start text items rest → length rest < length text
items_shorter start text [] rest w = omega (arith, ap length w)
items_shorter start text (item ∷ items) rest (mid, here, more) =
    omega (arith, item_shorter start text item mid here, items_shorter (start_behind start item) mid items rest more)

-- The items behind the one that was found.
items_behind : (start most : ℕ) (text : List ℕ) → (EndsClass text → ⊥) → length text ≤ most + 1
    → ((next : ℕ) (rest : List ℕ) → length rest ≤ most → Tells (items_in most next rest) (WritesItems next rest))
    → (found : Leading ClassItem) → Tells found (WritesItem start text)
    → Tells (find_behind (λ item rest. found_with (λ items. item ∷ items)
    (items_in most (start_behind start item) rest)) found) (WritesItems start text)
items_behind start most text goes_on room more None tells =
    tells_none (WritesItems start text)
    (λ items left w. no_items start text items left goes_on (never_told (WritesItem start text) tells) w)
items_behind start most text goes_on room more (Some (item, rest)) tells =
    let here = told (WritesItem start text) item rest tells in
    tells_behind {A = List ClassItem} {B = List ClassItem} (λ items. item ∷ items) (WritesItems start text)
    (WritesItems (start_behind start item) rest) (items_in most (start_behind start item) rest)
    (item_behind start text rest item here)
    (more (start_behind start item) rest (omega (arith, item_shorter start text item rest here)))

items_by : (start most : ℕ) (text : List ℕ) → length text ≤ most + 1
    → ((next : ℕ) (rest : List ℕ) → length rest ≤ most → Tells (items_in most next rest) (WritesItems next rest))
    → (ends : Bool) → ends_class text ≡ ends
    → Tells (if ends then Some ([], drop 1 text)
    else find_behind (λ item rest. found_with (λ items. item ∷ items)
    (items_in most (start_behind start item) rest)) (item_in start text)) (WritesItems start text)
items_by start most text room more true is =
    let closing = (ends_class_is text).0 is in
    let rest : closing.0 ≡ drop 1 text = ap (drop 1) (sym closing.1) in
    tells_one (WritesItems start text) [] (drop 1 text)
    (closed start text (drop 1 text) (closing.1 ∙ ap (λ r. 93 ∷ r) rest))
items_by start most text room more false is =
    let goes_on : EndsClass text → ⊥ = λ ends. both_ways (ends_class text) is ((ends_class_is text).1 ends) in
    items_behind start most text goes_on room more (item_in start text) (item_tells start text goes_on)

-- The items that are found are those that are written.
items_tell : (most start : ℕ) (text : List ℕ) → length text ≤ most
    → Tells (items_in most start text) (WritesItems start text)
items_tell zero start text room =
    tells_none (WritesItems start text) (λ items rest w. omega (arith, items_shorter start text items rest w))
items_tell (suc most) start text room = items_by start most text (omega arith) (items_tell most) (ends_class text) refl

-- The text writes a class of this sign without the sign.
abbrev WritesBodyOf : Bool → List ℕ → GlobClass → List ℕ → Type 0
WritesBodyOf negated text this rest = (this.negated ≡ negated) × WritesBody text this.first this.items rest

body_by : (negated : Bool) (first : ℕ) (text : List ℕ) (ascii : Bool) → nat_lt first 128 ≡ ascii
    → Tells (if ascii then found_with (λ items. record { negated = negated; first = first; items = items })
    (items_in (length text) first text) else None)
    (WritesBodyOf negated (first ∷ text))
body_by negated first text true is =
    tells_behind {A = List ClassItem} {B = GlobClass}
    (λ items. record { negated = negated; first = first; items = items })
    (WritesBodyOf negated (first ∷ text)) (WritesItems first text)
    (items_in (length text) first text)
    (λ this left. (
      λ (w : (this.negated ≡ negated)
          × ((after : List ℕ) × (first ∷ text ≡ this.first ∷ after) × (this.first < 128)
          × WritesItems this.first after this.items left)).
          let same = heads (first ∷ text) this.first first w.1.0 text w.1.1 refl in
          let here = subst (λ t. WritesItems this.first t this.items left) same.1 w.1.3 in (
            this.items,
            same_class this (record { negated = negated; first = first; items = this.items }) w.0 same.0 refl,
            subst (λ b. WritesItems b text this.items left) same.0 here,
          ),
      λ (found : (items : List ClassItem)
          × (this ≡ record { negated = negated; first = first; items = items }) × WritesItems first text items left).
          let made : GlobClass = record { negated = negated; first = first; items = found.0 } in
          let w : WritesBodyOf negated (first ∷ text) made left =
          (refl, (text, refl, ltb-true first 128 is, found.2)) in
          subst (λ c. WritesBodyOf negated (first ∷ text) c left) (sym found.1) w,
    ))
    (items_tell (length text) first text (omega arith))
body_by negated first text false is =
    tells_none (WritesBodyOf negated (first ∷ text))
    (λ this rest (w : (this.negated ≡ negated)
    × ((after : List ℕ) × (first ∷ text ≡ this.first ∷ after) × (this.first < 128)
    × WritesItems this.first after this.items rest)).
    omega (arith, ltb-false first 128 is, (heads (first ∷ text) this.first first w.1.0 text w.1.1 refl).0, w.1.2))

body_tells : (negated : Bool) (text : List ℕ) → Tells (class_body_in negated text) (WritesBodyOf negated text)
body_tells negated [] =
    tells_none (WritesBodyOf negated [])
    (λ this rest (w : (this.negated ≡ negated)
    × ((after : List ℕ) × ([] ≡ this.first ∷ after) × (this.first < 128)
    × WritesItems this.first after this.items rest)).
    let e = w.1.1 in absurd (cc))
body_tells negated (first ∷ text) = body_by negated first text (nat_lt first 128) refl

-- A class is its sign and its body.
class_of : (negated : Bool) (text body : List ℕ) → WritesNegation negated text body
    → Tells (class_body_in negated body) (WritesClass text)
class_of negated text body sign =
    tells_same (WritesClass text) (WritesBodyOf negated body) (class_body_in negated body)
    (λ this rest. (
      λ (w : (other : List ℕ) × WritesNegation this.negated text other × WritesBody other this.first this.items rest).
          let same = same_sign this.negated negated text w.0 body w.1 sign in
          (same.0, subst (λ t. WritesBody t this.first this.items rest) same.1 w.2),
      λ (w : (this.negated ≡ negated) × WritesBody body this.first this.items rest).
          (body, subst (λ n. WritesNegation n text body) (sym w.0) sign, w.1),
    ))
    (body_tells negated body)

begins_is : (text : List ℕ) → (begins_negated text ≡ true) ↔ BeginsNegated text
begins_is [] = (
  λ e. absurd (true≢false (sym e)),
  λ (w : BeginsNegated []). ⊎_elim (λ (b : (rest : List ℕ) × ([] ≡ 33 ∷ rest)). absurd (let e = b.1 in cc))
      (λ (b : (rest : List ℕ) × ([] ≡ 94 ∷ rest)). absurd (let e = b.1 in cc)) w,
)
begins_is (byte ∷ text) = (
  λ e.
      ⊎_elim
      (λ bang. inl (text, ap (λ b. b ∷ text) (eqb-true byte 33 bang)))
      (λ caret. inr (text, ap (λ b. b ∷ text) (eqb-true byte 94 caret)))
      (or_cases (byte == 33) (byte == 94) e),
  λ (w : BeginsNegated (byte ∷ text)).
      ⊎_elim
      (λ (b : (rest : List ℕ) × (byte ∷ text ≡ 33 ∷ rest)). or_left (byte == 33) (byte == 94)
      (eq-eqb byte 33 (heads (byte ∷ text) byte 33 text b.0 refl b.1).0))
      (λ (b : (rest : List ℕ) × (byte ∷ text ≡ 94 ∷ rest)). or_right (byte == 33) (byte == 94)
      (eq-eqb byte 94 (heads (byte ∷ text) byte 94 text b.0 refl b.1).0))
      w,
)

class_by : (text : List ℕ) (negated : Bool) → begins_negated text ≡ negated
    → Tells (if negated then class_body_in true (drop 1 text) else class_body_in false text) (WritesClass text)
class_by text true is = class_of true text (drop 1 text) (signed text ((begins_is text).0 is))
class_by text false is = class_of false text text
    (refl, λ begins. both_ways (begins_negated text) is ((begins_is text).1 begins))

-- The class that is found is the one that is written.
pub class_tells : (text : List ℕ) → Tells (class_in text) (WritesClass text)
class_tells text = class_by text (begins_negated text) refl

-- A sign takes no byte or one.
sign_shorter : (negated : Bool) (text body : List ℕ) → WritesNegation negated text body → length body ≤ length text
sign_shorter true text body w =
    ⊎_elim (λ (e : text ≡ 33 ∷ body). omega (arith, ap length e))
    (λ (e : text ≡ 94 ∷ body). omega (arith, ap length e)) w
sign_shorter false text body w = omega (arith, ap length w.0)

-- A class takes a byte at least.
pub class_shorter : (text : List ℕ) (this : GlobClass) (rest : List ℕ) → WritesClass text this rest
    → length rest < length text
class_shorter text this rest (body, sign, (after, e, ascii, items)) =
    omega (
      arith,
      sign_shorter this.negated text body sign,
      ap length e,
      items_shorter this.first after
          this.items rest items,
    )
