-- The classes that a text writes are determined by the text.
use Rattle.std.proofs.Common.{◌≡◌, ℕ, ◌<◌, ◌≤◌, ◌⊎◌, ◌↔◌, Bool, true, false, not, ◌||◌, List, [], ◌∷◌, ◌++◌, length, drop, refl, sym, ap, ◌∙◌, subst, ⊎_elim, inl, inr, arith}
use Rattle.regex_class.specs.Ranges.{Range, in_range, in_ranges}
use Rattle.regex_class.proofs.RangesLemmas.{in_ranges-nil, in_ranges-push}
use Rattle.regex_hir.specs.Re.{Re}
use Rattle.filter_engine.specs.GlobClasses.{GlobClass, BeginsNegated, EndsClass, WritesItem, WritesItems, WritesBody, WritesNegation, WritesClass, start_behind, in_items, ClassTakes, ReadsRanges, TakesItem, WritesOneClass, NoBody, NoClass}
use Rattle.filter_engine.specs.declared.glob.fault.RowFault.{RowFault}
use Rattle.filter_engine.specs.declared.glob.fault.RowFault.TheVariants.{Memory}
use Rattle.filter_engine.specs.Patterns.{MatchesKind, MeansRanges}
use Rattle.filter_engine.specs.declared.glob.class.ClassItem.{ClassItem}
use Rattle.filter_engine.specs.declared.glob.class.ClassItem.TheVariants.{Own, Reach}
use Rattle.filter_engine.proofs.GlobParts.{apart}
use Rattle.filter_engine.proofs.GlobPatterns.{kind_same}

-- A dash that is a byte of its own is none that a range reaches by.
own_reach : (start : ℕ) (text : List ℕ) (a b : ℕ) (r s : List ℕ) → WritesItem start text (Own a) r
    → WritesItem start text (Reach b) s → ⊥
own_reach start text a b r s w v =
    let e = w.0 in
    let f = v.0 in
    let dash : a ≡ 45 = cc in
    let closing = w.3 dash in
    let g = closing.1 in
    let bracket : b ≡ 93 = cc in
    v.2 bracket

-- A text writes one item and one rest.
pub same_item : (start : ℕ) (text : List ℕ) (i j : ClassItem) (r s : List ℕ) → WritesItem start text i r
    → WritesItem start text j s → (i ≡ j) × (r ≡ s)
same_item start text (Own a) (Own b) r s w v = let e = w.0 in let f = v.0 in (cc, cc)
same_item start text (Own a) (Reach b) r s w v = absurd (own_reach start text a b r s w v)
same_item start text (Reach a) (Own b) r s w v = absurd (own_reach start text b a s r v w)
same_item start text (Reach a) (Reach b) r s w v = let e = w.0 in let f = v.0 in (cc, cc)

-- No item is in front of a closing bracket.
pub no_item : (start : ℕ) (text : List ℕ) (i : ClassItem) (r : List ℕ) → EndsClass text → WritesItem start text i r → ⊥
no_item start text (Own b) r ends w = let e = ends.1 in let f = w.0 in w.2 (cc)
no_item start text (Reach b) r ends w = apart 45 93 (b ∷ r) ends.0 text w.0 ends.1 (omega arith)

-- The text writes items that are read, one behind another, and the rest, which is to be read.
abbrev pub ReadItems : ℕ → List ℕ → ℕ → ℕ → List ℕ → List Range → Type 0
ReadItems first text start end rest ranges =
    (done : List ClassItem → List ClassItem)
    × ((items : List ClassItem) (left : List ℕ) → WritesItems first text items left
    ↔ ((behind : List ClassItem) × (items ≡ done behind) × WritesItems start rest behind left))
    × ((behind : List ClassItem) (byte : ℕ)
    → in_items first first (done behind) byte ≡ (in_ranges ranges byte || in_items start end behind byte))

-- Nothing is read.
pub none_done : (first : ℕ) (text : List ℕ) → ReadItems first text first first text []
none_done first text = (
  λ items. items,
  λ items left. (
    λ w. (items, refl, w),
    λ (found : (behind : List ClassItem) × (items ≡ behind) × WritesItems first text behind left).
        subst (λ l. WritesItems first text l left) (sym found.1) found.2,
  ),
  λ behind byte. sym (ap (λ b. b || in_items first first behind byte) (in_ranges-nil byte)),
)

-- What is behind an item that is read.
pub item_behind : (start : ℕ) (text rest : List ℕ) (item : ClassItem) → WritesItem start text item rest
    → (items : List ClassItem) (left : List ℕ)
    → WritesItems start text items left
    ↔ ((behind : List ClassItem) × (items ≡ item ∷ behind) × WritesItems (start_behind start item) rest behind left)
item_behind start text rest item writes [] left = (
  λ w. absurd (no_item start text item rest (left, w) writes),
  λ found. absurd (let e = found.1 in cc),
)
item_behind start text rest item writes (next ∷ items) left = (
  λ (w : (mid : List ℕ) × WritesItem start text next mid × WritesItems (start_behind start next) mid items left).
      let same = same_item start text next item w.0 rest w.1 writes in
      let more = subst (λ i. WritesItems (start_behind start i) w.0 items left) same.0 w.2 in
      (items, ap (λ i. i ∷ items) same.0, subst (λ m. WritesItems (start_behind start item) m items left) same.1 more),
  λ (found : (behind : List ClassItem) × (next ∷ items ≡ item ∷ behind)
      × WritesItems (start_behind start item) rest behind left).
      subst (λ l. WritesItems start text l left) (sym found.1) (rest, writes, found.2),
)

-- One item more is read.
pub item_done : (first : ℕ) (text : List ℕ) (start end : ℕ) (rest next : List ℕ) (old new : List Range)
    (item : ClassItem) (close : ℕ)
    → ReadItems first text start end rest old → WritesItem start rest item next
    → ((behind : List ClassItem) (byte : ℕ) → (in_ranges old byte || in_items start end (item ∷ behind) byte)
    ≡ (in_ranges new byte || in_items (start_behind start item) close behind byte))
    → ReadItems first text (start_behind start item) close next new
item_done first text start end rest next old new item close (done, writes, holds) here widens = (
  λ behind. done (item ∷ behind),
  λ items left. (
    λ w.
        let found = (writes items left).0 w in
        let more = (item_behind start rest next item here found.0 left).0 found.2 in
        (more.0, found.1 ∙ ap done more.1, more.2),
    λ (found : (behind : List ClassItem) × (items ≡ done (item ∷ behind))
        × WritesItems (start_behind start item) next behind left).
        (writes items left).1 (item ∷ found.0, found.1, (next, here, found.2)),
  ),
  λ behind byte. holds (item ∷ behind) byte ∙ widens behind byte,
)

or_join : (a b c : Bool) → (a || (b || c)) ≡ ((a || b) || c)
or_join true b c = refl
or_join false b c = refl

-- A byte of its own starts a range, and the one in front is held.
pub own_done : (first : ℕ) (text : List ℕ) (start end : ℕ) (rest next : List ℕ) (old new : List Range) (byte : ℕ)
    → ReadItems first text start end rest old → WritesItem start rest (Own byte) next → new ≡ old ++ (start, end) ∷ []
    → ReadItems first text byte byte next new
own_done first text start end rest next old new byte read here is =
    item_done first text start end rest next old new (Own byte) byte read here
    (λ behind b.
    or_join (in_ranges old b) (in_range (start, end) b) (in_items byte byte behind b)
    ∙ ap (λ t. t || in_items byte byte behind b)
    (sym (in_ranges-push old (start, end) b) ∙ ap (λ l. in_ranges l b) (sym is)))

-- A range reaches on.
pub reach_done : (first : ℕ) (text : List ℕ) (start end : ℕ) (rest next : List ℕ) (ranges : List Range) (byte : ℕ)
    → ReadItems first text start end rest ranges → WritesItem start rest (Reach byte) next
    → ReadItems first text start byte next ranges
reach_done first text start end rest next ranges byte read here =
    item_done first text start end rest next ranges ranges (Reach byte) byte read here (λ behind b. refl)

-- One item more is read, whichever it is.
pub item_taken : (first : ℕ) (text : List ℕ) (range next_range : Range) (rest next : List ℕ)
    (old new : List Range) (item : ClassItem)
    → ReadItems first text range.0 range.1 rest old → WritesItem range.0 rest item next
    → TakesItem item range old new next_range
    → ReadItems first text next_range.0 next_range.1 next new
item_taken first text range next_range rest next old new (Own byte) read here (more, is) =
    rw is (own_done first text range.0 range.1 rest next old new byte read here more)
item_taken first text range next_range rest next old new (Reach byte) read here (same, is) =
    rw (is, same) (reach_done first text range.0 range.1 rest next old byte read here)

-- What is written where the class closes.
pub closed : (start : ℕ) (text rest : List ℕ) → text ≡ 93 ∷ rest → (items : List ClassItem) (left : List ℕ)
    → WritesItems start text items left ↔ ((items ≡ []) × (left ≡ rest))
closed start text rest e [] left = (
  λ (f : text ≡ 93 ∷ left). (refl, cc),
  λ same. e ∙ ap (λ l. 93 ∷ l) (sym same.1),
)
closed start text rest e (item ∷ items) left = (
  λ (w : (mid : List ℕ) × WritesItem start text item mid × WritesItems (start_behind start item) mid items left).
      absurd (no_item start text item w.0 (rest, e) w.1),
  λ (same : (item ∷ items ≡ []) × (left ≡ rest)). absurd (let f = same.0 in cc),
)

-- Where the class closes, all its ranges are held.
pub all_done : (text : List ℕ) (first : ℕ) (behind : List ℕ) (start end : ℕ) (rest last : List ℕ) (old new : List Range)
    → text ≡ first ∷ behind → first < 128 → ReadItems first behind start end rest old → rest ≡ 93 ∷ last
    → new ≡ old ++ (start, end) ∷ [] → ReadsRanges text new last
all_done text first behind start end rest last old new is ascii (done, writes, holds) closes more = (
  first,
  done [],
  λ byte other left. (
    λ (w : (after : List ℕ) × (text ≡ byte ∷ after) × (byte < 128) × WritesItems byte after other left).
        let f = w.1 in
        let same : byte ≡ first = cc in
        let same_rest : w.0 ≡ behind = cc in
        let here = subst (λ t. WritesItems byte t other left) same_rest w.3 in
        let found = (writes other left).0 (subst (λ b. WritesItems b behind other left) same here) in
        let ended = (closed start rest last closes found.0 left).0 found.2 in
        (same, found.1 ∙ ap done ended.0, ended.1),
    λ (same : (byte ≡ first) × (other ≡ done []) × (left ≡ last)).
        let here = (writes other left).1 ([], same.1, (closed start rest last closes [] left).1 (refl, same.2)) in (
          behind,
          is ∙ ap (λ b. b ∷ behind) (sym same.0),
          rw same.0 ascii,
          subst
              (λ b. WritesItems b behind other left) (sym same.0) here,
        ),
  ),
  λ byte. ap (λ l. in_ranges l byte) more ∙ in_ranges-push old (start, end) byte ∙ sym (holds [] byte),
)

-- Where no item stands, there are none.
pub no_items : (start : ℕ) (rest : List ℕ) (items : List ClassItem) (left : List ℕ) → (EndsClass rest → ⊥)
    → ((item : ClassItem) (r : List ℕ) → WritesItem start rest item r → ⊥) → WritesItems start rest items left → ⊥
no_items start rest [] left goes_on none w = goes_on (left, w)
no_items start rest (item ∷ items) left goes_on none w = none item w.0 w.1

-- Where no item stands, the text writes no class.
pub none_behind : (text : List ℕ) (first : ℕ) (behind : List ℕ) (start end : ℕ) (rest : List ℕ) (ranges : List Range)
    → text ≡ first ∷ behind → ReadItems first behind start end rest ranges → (EndsClass rest → ⊥)
    → ((item : ClassItem) (r : List ℕ) → WritesItem start rest item r → ⊥)
    → (byte : ℕ) (items : List ClassItem) (left : List ℕ) → WritesBody text byte items left → ⊥
none_behind text first behind start end rest ranges is (done, writes, holds) goes_on none byte items left
    (after, f, ascii, w) =
    let same : byte ≡ first = cc in
    let same_rest : after ≡ behind = cc in
    let here = subst (λ t. WritesItems byte t items left) same_rest w in
    let found = (writes items left).0 (subst (λ b. WritesItems b behind items left) same here) in
    no_items start rest found.0 left goes_on none found.2

-- ---- the sign

sign_body : (text body other : List ℕ) → (text ≡ 33 ∷ body) ⊎ (text ≡ 94 ∷ body)
    → (text ≡ 33 ∷ other) ⊎ (text ≡ 94 ∷ other) → body ≡ other
sign_body text body other one two =
    ⊎_elim
    (λ (e : text ≡ 33 ∷ body). ⊎_elim (λ (f : text ≡ 33 ∷ other). cc)
    (λ (f : text ≡ 94 ∷ other). absurd (apart 33 94 body other text e f (omega arith))) two)
    (λ (e : text ≡ 94 ∷ body). ⊎_elim
    (λ (f : text ≡ 33 ∷ other). absurd (apart 33 94 other body text f e (omega arith)))
    (λ (f : text ≡ 94 ∷ other). cc) two)
    one

sign_begins : (text body : List ℕ) → (text ≡ 33 ∷ body) ⊎ (text ≡ 94 ∷ body) → BeginsNegated text
sign_begins text body w = ⊎_elim (λ (e : text ≡ 33 ∷ body). inl (body, e)) (λ (e : text ≡ 94 ∷ body). inr (body, e)) w

-- A text has one sign and one body.
pub same_sign : (a b : Bool) (text body other : List ℕ) → WritesNegation a text body
    → WritesNegation b text other → (a ≡ b) × (body ≡ other)
same_sign true true text body other w v = (refl, sign_body text body other w v)
same_sign true false text body other w v = absurd (v.1 (sign_begins text body w))
same_sign false true text body other w v = absurd (w.1 (sign_begins text other v))
same_sign false false text body other w v = (refl, let e = w.0 in let f = v.0 in cc)

-- Two classes are one where their fields are.
pub same_class : (a b : GlobClass) → a.negated ≡ b.negated → a.first ≡ b.first → a.items ≡ b.items → a ≡ b
same_class a b e f g =
    ap (λ n. record a { negated = n }) e ∙ ap (λ n. record a { negated = b.negated; first = n }) f
    ∙ ap (λ n. record b { items = n }) g

-- What a class takes is what its pattern matches.
class_means : (negated : Bool) (first : ℕ) (items : List ClassItem) (ranges : List Range) (re : Re)
    → ((byte : ℕ) → in_ranges ranges byte ≡ in_items first first items byte) → MeansRanges negated ranges re
    → MatchesKind (ClassTakes (record { negated = negated; first = first; items = items })) re
class_means true first items ranges re holds means =
    kind_same _ (ClassTakes (record { negated = true; first = first; items = items })) re
    (λ bytes. (
      λ (t : (b : ℕ) × (bytes ≡ b ∷ []) × (not (in_ranges ranges b) ≡ true)).
          (t.0, t.1, ap not (sym (holds t.0)) ∙ t.2),
      λ (t : (b : ℕ) × (bytes ≡ b ∷ []) × (not (in_items first first items b) ≡ true)).
          (t.0, t.1, ap not (holds t.0) ∙ t.2),
    ))
    means
class_means false first items ranges re holds means =
    kind_same _ (ClassTakes (record { negated = false; first = first; items = items })) re
    (λ bytes. (
      λ (t : (b : ℕ) × (bytes ≡ b ∷ []) × (in_ranges ranges b ≡ true)). (t.0, t.1, sym (holds t.0) ∙ t.2),
      λ (t : (b : ℕ) × (bytes ≡ b ∷ []) × (in_items first first items b ≡ true)). (t.0, t.1, holds t.0 ∙ t.2),
    ))
    means

-- The class of a sign and a body.
pub class_made : (negated : Bool) (text body rest : List ℕ) (ranges : List Range) (re : Re)
    → WritesNegation negated text body → ReadsRanges body ranges rest
    → MeansRanges negated ranges re
    → (class : GlobClass) × WritesOneClass text class rest × MatchesKind (ClassTakes class) re
class_made negated text body rest ranges re sign (first, items, one, holds) means =
    let class : GlobClass = record { negated = negated; first = first; items = items } in (
      class,
      λ other left. (
        λ (w : (other_body : List ℕ) × WritesNegation other.negated text other_body
            × WritesBody other_body other.first other.items left).
            let same = same_sign other.negated negated text w.0 body w.1 sign in
            let here = (one other.first other.items left).0
            (subst (λ t. WritesBody t other.first other.items left) same.1 w.2) in
            (same_class other class same.0 here.0 here.1, here.2),
        λ (same : (other ≡ class) × (left ≡ rest)).
            let w : WritesClass text class rest = (body, sign, (one first items rest).1 (refl, refl, refl)) in
            subst (λ c. WritesClass text c left) (sym same.0) (subst (λ l. WritesClass text class l) (sym same.1) w),
      ),
      class_means negated first items ranges re holds means,
    )

-- Where the body is not a class, the text is none.
pub no_class : (negated : Bool) (text body : List ℕ) → WritesNegation negated text body
    → ((first : ℕ) (items : List ClassItem) (rest : List ℕ) → WritesBody body first items rest → ⊥)
    → (class : GlobClass) (rest : List ℕ) → WritesClass text class rest → ⊥
no_class negated text body sign none class rest (other, also_sign, w) =
    let same = same_sign class.negated negated text other body also_sign sign in
    none class.first class.items rest (subst (λ t. WritesBody t class.first class.items rest) same.1 w)

-- Where the body is refused, so is the class.
pub refused_body : (negated : Bool) (text body : List ℕ) (fault : RowFault)
    → WritesNegation negated text body → NoBody body fault → NoClass text fault
refused_body negated text body fault sign none =
    ⊎_elim
    (λ (memory : fault ≡ Memory). inl memory)
    (λ (none : (first : ℕ) (items : List ClassItem) (rest : List ℕ) → WritesBody body first items rest → ⊥).
    inr (no_class negated text body sign none))
    none

-- The sign of a class and its body.
pub signed : (text : List ℕ) → BeginsNegated text → WritesNegation true text (drop 1 text)
signed text begins =
    ⊎_elim
    (λ (w : (rest : List ℕ) × (text ≡ 33 ∷ rest)). inl (w.1 ∙ ap (λ r. 33 ∷ r) (sym (ap (drop 1) w.1))))
    (λ (w : (rest : List ℕ) × (text ≡ 94 ∷ rest)). inr (w.1 ∙ ap (λ r. 94 ∷ r) (sym (ap (drop 1) w.1))))
    begins

-- A sign takes a byte.
pub sign_room : (text : List ℕ) → BeginsNegated text → 1 ≤ length text
sign_room text begins =
    ⊎_elim
    (λ (w : (rest : List ℕ) × (text ≡ 33 ∷ rest)). omega (arith, ap length w.1))
    (λ (w : (rest : List ℕ) × (text ≡ 94 ∷ rest)). omega (arith, ap length w.1))
    begins
