-- Where marks are read to an expression, they spell it.
use Rattle.std.proofs.Common.{◌≡◌, inl, inr, ℕ, zero, suc, ◌+◌, ◌<◌, ltb, Bool, true, false, List, [], ◌∷◌, ◌++◌, Option, None, Some, Result, Ok, Err, length, if◌then◌else◌, refl, sym, subst, arith}
use Rattle.std.proofs.lemmas.Bool.{ltb-true}
use Rattle.platform_language.specs.declared.expression.Function.{Function}
use Rattle.platform_language.specs.declared.expression.Function.TheVariants.{All, Any, Not}
use Rattle.platform_language.specs.declared.fault.Place.{Place}
use Rattle.platform_language.specs.declared.fault.BodyFault.{BodyFault}
use Rattle.platform_language.specs.Expressions.{Leaf, Expression, Asks, Every, Some_of, Negated, parts_of}
use Rattle.platform_language.specs.Faults.{fault_at, and_then, map_ok}
use Rattle.platform_language.specs.declared.fault.FaultKind.TheVariants.{TooDeep}
use Rattle.platform_language.specs.Grammar.{BeginsSomewhere, BeginsCall, Spells, SpellsParts}
use Rattle.platform_language.specs.Leaves.{Piece, leaf_alone, leaf_with}
use Rattle.platform_language.specs.Marks.{Mark, OpenMark, CloseMark, CommaMark, EqualsMark, FunctionMark, NameMark, ValueMark, Placed}
use Rattle.platform_language.specs.Reading.{Before, Nothing, AfterFunction, AfterOpen, AfterComma, AfterKey, AfterEquals, AfterValue, AfterClose, Level, Reading, with_leaf, count_parts, refuses, call, behind, opened_by, not_one, ended, closed, value_piece, begun_by, ended_by, step_behind, step}
use Rattle.platform_language.proofs.Endings.{Behind, Fresh, Comma, Part, Closes, put, part_fresh, close_fresh, fresh_comma, comma_comma, comma_behind, close_behind}
use Rattle.platform_language.proofs.Points.{Judged, At, Room}

-- What follows behind a mark follows, with the mark, behind the one before.
abbrev pub Came : ℕ → Before → List Expression → List Level → Mark → Place → Reading → Type 0
Came d b ps ls m at next = (more : ℕ) × Room more next
    × ((ms : List Placed) (e : Expression) → At next.before more next.parts next.levels ms e
    → At b d ps ls (put m at ∷ ms) e)

-- The same, where what follows is said otherwise.
abbrev CameTo : (List Placed → Expression → Type 0) → Mark → Place → Reading → Type 0
CameTo To m at next = (more : ℕ) × Room more next
    × ((ms : List Placed) (e : Expression) → At next.before more next.parts next.levels ms e → To (put m at ∷ ms) e)

-- A part begins.

call_spells : (f : Function) (es : List Expression) (x : Expression) (room : ℕ) (marks inside last more : List Placed)
    → BeginsCall f marks inside → SpellsParts room (parts_of es) inside last → BeginsSomewhere CloseMark last more
    → call f es ≡ Some x → Spells (suc room) x marks more
call_spells All es x room marks inside last more begins spelled close called =
    let same : Every (parts_of es) ≡ x = cc in
    subst (λ y. Spells (suc room) y marks more) same (inside, last, begins, spelled, close)
call_spells Any es x room marks inside last more begins spelled close called =
    let same : Some_of (parts_of es) ≡ x = cc in
    subst (λ y. Spells (suc room) y marks more) same (inside, last, begins, spelled, close)
call_spells Not (y ∷ []) x room marks inside last more begins (mid, spells, commas) close called =
    let same : Negated y ≡ x = cc in
    subst (λ z. Spells (suc room) z marks more) same (inside, mid, last, begins, spells, commas, close)
call_spells Not [] x room marks inside last more begins spelled close called = absurd (cc)
call_spells Not (y ∷ z ∷ es) x room marks inside last more begins spelled close called = absurd (cc)

name_part : (key : Piece) (d : ℕ) (ps : List Expression) (ls : List Level) (ms : List Placed) (e : Expression)
    → At (AfterKey key) d ps ls ms e → Part d ps ls (put (NameMark key.text) key.place ∷ ms) e
name_part key d ps ls ms e (inl (leaf, alone, behind)) = (Asks leaf, ms, inl (key, refl, alone), behind)
name_part key d ps ls ms e (inr (more, equals, (text, there, rest, begins, (leaf, with, behind)))) =
    (Asks leaf, rest, inr (key, text, there, ms, more, refl, equals, begins, with), behind)

function_part : (f : Function) (at : Place) (d : ℕ) (ps : List Expression) (ls : List Level)
    (ms : List Placed) (e : Expression)
    → At (AfterFunction f at) d ps ls ms e → Part d ps ls (put (FunctionMark f) at ∷ ms) e
function_part f at d ps ls ms e
    (room, inside, there, is, begins, (es, last, spelled, (more, x, close, called, fs, end, further, ends))) =
    let marks = put (FunctionMark f) at ∷ ms in
    let spells = call_spells f es x room marks inside last more (ms, (at, refl), (there, begins)) spelled
    close called in
    let Q : ℕ → Type 0 = λ k. Part k ps ls marks e in
    subst Q (sym is) (x, more, spells, (fs, end, further, ends))

entered_came : (f : Function) (at : Place) (r : Reading) (next : Reading) (d : ℕ) (b : Bool)
    → ltb (length r.levels) 128 ≡ b
    → (if b then (let found : Result Reading BodyFault = Ok (behind (AfterFunction f at) r) in found) else Err
    (fault_at TooDeep at)) ≡ Ok next
    → d + length r.levels ≡ 128 → CameTo (λ marks e. Part d r.parts r.levels marks e) (FunctionMark f) at next
entered_came f at r next d false is e fits = absurd (cc)
entered_came f at r next d true is e fits =
    let same : behind (AfterFunction f at) r ≡ next = cc in
    let below : length r.levels < 128 = ltb-true (length r.levels) 128 is in
    let P : Reading → Type 0 = λ n. CameTo (λ marks e. Part d r.parts r.levels marks e) (FunctionMark f) at n in
    subst P same (d, (fits, omega (arith, fits, below)), λ ms e it. function_part f at d r.parts r.levels ms e it)

begun_came : (b : Before) (r : Reading) (m : Mark) (at : Place) (next : Reading) (d : ℕ) → begun_by b r m at ≡ Ok next
    → d + length r.levels ≡ 128 → CameTo (λ marks e. Part d r.parts r.levels marks e) m at next
begun_came b r (NameMark text) at next d e fits =
    let key : Piece = record { text = text; place = at } in
    let same : behind (AfterKey key) r ≡ next = cc in
    let P : Reading → Type 0 = λ n. CameTo (λ marks e. Part d r.parts r.levels marks e) (NameMark text) at n in
    subst P same (d, (fits, tt), λ ms e it. name_part key d r.parts r.levels ms e it)
begun_came b r (FunctionMark f) at next d e fits = entered_came f at r next d (ltb (length r.levels) 128) refl e fits
begun_came b r OpenMark at next d e fits = absurd (cc)
begun_came b r CloseMark at next d e fits = absurd (cc)
begun_came b r CommaMark at next d e fits = absurd (cc)
begun_came b r EqualsMark at next d e fits = absurd (cc)
begun_came b r (ValueMark text) at next d e fits = absurd (cc)

-- A part ends.

-- The leaf that ends behind a mark is judged.
abbrev Settled : Before → List Expression → List Expression → Type 0
Settled b ps qs = with_leaf b ps ≡ Ok qs

made_came : (l : Level) (ls : List Level) (bad : BodyFault) (qs : List Expression) (at : Place)
    (next : Reading) (d : ℕ) (made : Option Expression)
    → call l.function qs ≡ made → ended l ls bad made ≡ Ok next → d + length (l ∷ ls) ≡ 128
    → (more : ℕ) × Room more next
    × ((ms : List Placed) (e : Expression) → At next.before more next.parts next.levels ms e
    → Closes d qs (l ∷ ls) ms e)
made_came l ls bad qs at next d None is e fits = absurd (cc)
made_came l ls bad qs at next d (Some x) is e fits =
    let there : Reading = record { before = AfterClose; parts = l.outside ++ (x ∷ []); levels = ls } in
    let same : there ≡ next = cc in
    let P : Reading → Type 0 =
    λ n. (more : ℕ) × Room more n
    × ((ms : List Placed) (e : Expression) → At n.before more n.parts n.levels ms e → Closes d qs (l ∷ ls) ms e) in
    subst P same (suc d, (omega (arith, fits), tt), λ ms e it. (x, is, it))

settled_came : (b : Before) (ps : List Expression) (l : Level) (ls : List Level) (bad : BodyFault)
    (at : Place) (next : Reading) (d : ℕ)
    (found : Result (List Expression) BodyFault) → with_leaf b ps ≡ found
    → and_then (λ all. ended l ls bad (call l.function all)) found ≡ Ok next → d + length (l ∷ ls) ≡ 128
    → (qs : List Expression) × Settled b ps qs × (more : ℕ) × Room more next
    × ((ms : List Placed) (e : Expression) → At next.before more next.parts next.levels ms e
    → Closes d qs (l ∷ ls) ms e)
settled_came b ps l ls bad at next d (Err fault) is e fits = absurd (cc)
settled_came b ps l ls bad at next d (Ok qs) is e fits =
    let it = made_came l ls bad qs at next d (call l.function qs) refl e fits in (qs, is, it.0, it.1, it.2)

refused_came : (b : Before) (ps : List Expression) (l : Level) (ls : List Level) (bad : BodyFault)
    (at : Place) (next : Reading) (d : ℕ) (refused : Bool)
    → (if refused then (let r : Result Reading BodyFault = Err bad in r) else and_then
    (λ all. ended l ls bad (call l.function all)) (with_leaf b ps)) ≡ Ok next
    → d + length (l ∷ ls) ≡ 128
    → (qs : List Expression) × Settled b ps qs × (more : ℕ) × Room more next
    × ((ms : List Placed) (e : Expression) → At next.before more next.parts next.levels ms e
    → Closes d qs (l ∷ ls) ms e)
refused_came b ps l ls bad at next d true e fits = absurd (cc)
refused_came b ps l ls bad at next d false e fits = settled_came b ps l ls bad at next d (with_leaf b ps) refl e fits

closed_came : (b : Before) (ps : List Expression) (ls : List Level) (at : Place) (next : Reading) (d : ℕ)
    → closed b ps ls at ≡ Ok next
    → d + length ls ≡ 128
    → (qs : List Expression) × Settled b ps qs × (more : ℕ) × Room more next
    × ((ms : List Placed) (e : Expression) → At next.before more next.parts next.levels ms e → Closes d qs ls ms e)
closed_came b ps [] at next d e fits = absurd (cc)
closed_came b ps (l ∷ ls) at next d e fits =
    refused_came b ps l ls (not_one (count_parts b ps) l at) at next d (refuses l.function (count_parts b ps)) e fits

parted_came : (r : Reading) (next : Reading) (d : ℕ) (found : Result (List Expression) BodyFault)
    → with_leaf r.before r.parts ≡ found
    → map_ok (λ parts. let n : Reading = record { before = AfterComma; parts = parts; levels = r.levels } in
    n) found ≡ Ok next
    → d + length r.levels ≡ 128
    → (qs : List Expression) × Settled r.before r.parts qs × (more : ℕ) × Room more next
    × ((ms : List Placed) (e : Expression) → At next.before more next.parts next.levels ms e → Comma d qs r.levels ms e)
parted_came r next d (Err fault) is e fits = absurd (cc)
parted_came r next d (Ok qs) is e fits =
    let there : Reading = record { before = AfterComma; parts = qs; levels = r.levels } in
    let same : there ≡ next = cc in
    let P : Reading → Type 0 = λ n. (qs : List Expression) × Settled r.before r.parts qs × (more : ℕ) × Room more n
    × ((ms : List Placed) (e : Expression) → At n.before more n.parts n.levels ms e → Comma d qs r.levels ms e) in
    subst P same (qs, is, d, (fits, tt), λ ms e it. it)

-- Behind a part that is complete with what ends there.
ended_came : (r : Reading) (m : Mark) (at : Place) (next : Reading) (d : ℕ) → ended_by r.before r m at ≡ Ok next
    → d + length r.levels ≡ 128
    → (qs : List Expression) × Settled r.before r.parts qs × (more : ℕ) × Room more next
    × ((ms : List Placed) (e : Expression) → At next.before more next.parts next.levels ms e
    → Behind d qs r.levels (put m at ∷ ms) e)
ended_came r CommaMark at next d e fits =
    let it = parted_came r next d (with_leaf r.before r.parts) refl e fits in
    (it.0, it.1, it.2, it.3, λ ms e more. comma_behind d it.0 r.levels at ms e (it.4 ms e more))
ended_came r CloseMark at next d e fits =
    let it = closed_came r.before r.parts r.levels at next d e fits in
    (it.0, it.1, it.2, it.3, λ ms e more. close_behind d it.0 r.levels at ms e (it.4 ms e more))
ended_came r OpenMark at next d e fits = absurd (cc)
ended_came r EqualsMark at next d e fits = absurd (cc)
ended_came r (NameMark text) at next d e fits = absurd (cc)
ended_came r (FunctionMark f) at next d e fits = absurd (cc)
ended_came r (ValueMark text) at next d e fits = absurd (cc)

-- What a leaf that ends is judged to be.
judged_is : (found : Result Leaf BodyFault) (ps qs : List Expression) (d : ℕ) (ls : List Level)
    (ms : List Placed) (e : Expression)
    → map_ok (λ leaf. ps ++ (Asks leaf ∷ [])) found ≡ Ok qs → Behind d qs ls ms e → Judged found d ps ls ms e
judged_is (Err fault) ps qs d ls ms e is behind = absurd (cc)
judged_is (Ok leaf) ps qs d ls ms e is behind =
    let same : ps ++ (Asks leaf ∷ []) ≡ qs = cc in
    (leaf, refl, subst (λ all. Behind d all ls ms e) (sym same) behind)

abbrev ok_parts : List Expression → Result (List Expression) BodyFault
ok_parts ps = Ok ps

same_parts : (ps qs : List Expression) → ok_parts ps ≡ Ok qs → qs ≡ ps
same_parts ps qs e = cc

abbrev reading_of : Before → List Expression → List Level → Reading
reading_of b ps ls = record { before = b; parts = ps; levels = ls }

abbrev Backs : Before → Type 0
Backs b = (ps : List Expression) (ls : List Level) (m : Mark) (at : Place) (next : Reading) (d : ℕ)
    → step_behind b (reading_of b ps ls) m at ≡ Ok next → Room d (reading_of b ps ls) → Came d b ps ls m at next

at_nothing : Backs Nothing
at_nothing ps ls m at next d e room = begun_came Nothing (reading_of Nothing ps ls) m at next d e room.0

-- A `)` behind no leaf.
bare_closed : (b : Before) (ps : List Expression) (ls : List Level) (at : Place) (next : Reading) (d : ℕ)
    → ((qs : List Expression) → with_leaf b ps ≡ Ok qs → qs ≡ ps) → closed b ps ls at ≡ Ok next → d + length ls ≡ 128
    → CameTo (λ marks e. Fresh d ps ls marks e) CloseMark at next
bare_closed b ps ls at next d bare e fits =
    let it = closed_came b ps ls at next d e fits in (
      it.2,
      it.3,
      λ ms e more. close_fresh d ps ls at ms e
          (subst (λ qs. Closes d qs ls ms e) (bare it.0 it.1) (it.4 ms e more)),
    )

begun_fresh : (b : Before) (r : Reading) (m : Mark) (at : Place) (next : Reading) (d : ℕ) → begun_by b r m at ≡ Ok next
    → d + length r.levels ≡ 128 → CameTo (λ marks e. Fresh d r.parts r.levels marks e) m at next
begun_fresh b r m at next d e fits =
    let it = begun_came b r m at next d e fits in
    (it.0, it.1, λ ms e more. part_fresh d r.parts r.levels (put m at ∷ ms) e (it.2 ms e more))

at_open : Backs AfterOpen
at_open ps ls CloseMark at next d e room = bare_closed AfterOpen ps ls at next d (λ qs. same_parts ps qs) e room.0
at_open ps ls (NameMark text) at next d e room =
    begun_fresh AfterOpen (reading_of AfterOpen ps ls) (NameMark text) at next d e room.0
at_open ps ls (FunctionMark f) at next d e room =
    begun_fresh AfterOpen (reading_of AfterOpen ps ls) (FunctionMark f) at next d e room.0
at_open ps ls OpenMark at next d e room = absurd (cc)
at_open ps ls CommaMark at next d e room = absurd (cc)
at_open ps ls EqualsMark at next d e room = absurd (cc)
at_open ps ls (ValueMark text) at next d e room = absurd (cc)

fresh_came : (d : ℕ) (ps : List Expression) (ls : List Level) (m : Mark) (at : Place) (next : Reading)
    → CameTo (λ marks e. Fresh d ps ls marks e) m at next → Came d AfterComma ps ls m at next
fresh_came d ps ls m at next it = (it.0, it.1, λ ms e more. fresh_comma d ps ls (put m at ∷ ms) e (it.2 ms e more))

at_comma : Backs AfterComma
at_comma ps ls CommaMark at next d e room =
    let it = parted_came (reading_of AfterComma ps ls) next d (with_leaf AfterComma ps) refl e room.0 in (
      it.2,
      it.3,
      λ ms e more. comma_comma d ps ls at ms e
          (subst (λ qs. Comma d qs ls ms e) (same_parts ps it.0 it.1) (it.4 ms e more)),
    )
at_comma ps ls CloseMark at next d e room =
    fresh_came d ps ls CloseMark at next (bare_closed AfterComma ps ls at next d (λ qs. same_parts ps qs) e room.0)
at_comma ps ls (NameMark text) at next d e room =
    fresh_came d ps ls (NameMark text) at next
    (begun_fresh AfterComma (reading_of AfterComma ps ls) (NameMark text) at next d e room.0)
at_comma ps ls (FunctionMark f) at next d e room =
    fresh_came d ps ls (FunctionMark f) at next
    (begun_fresh AfterComma (reading_of AfterComma ps ls) (FunctionMark f) at next d e room.0)
at_comma ps ls OpenMark at next d e room = absurd (cc)
at_comma ps ls EqualsMark at next d e room = absurd (cc)
at_comma ps ls (ValueMark text) at next d e room = absurd (cc)

at_close : Backs AfterClose
at_close ps ls m at next d e room =
    let it = ended_came (reading_of AfterClose ps ls) m at next d e room.0 in
    (it.2, it.3, λ ms e more. subst (λ qs. Behind d qs ls (put m at ∷ ms) e) (same_parts ps it.0 it.1) (it.4 ms e more))

at_value : (key value : Piece) → Backs (AfterValue key value)
at_value key value ps ls m at next d e room =
    let it = ended_came (reading_of (AfterValue key value) ps ls) m at next d e room.0 in
    (it.2, it.3, λ ms e more. judged_is (leaf_with key value) ps it.0 d ls (put m at ∷ ms) e it.1 (it.4 ms e more))

key_ended : (key : Piece) (ps : List Expression) (ls : List Level) (m : Mark) (at : Place) (next : Reading) (d : ℕ)
    → ended_by (AfterKey key) (reading_of (AfterKey key) ps ls) m at ≡ Ok next → d + length ls ≡ 128
    → Came d (AfterKey key) ps ls m at next
key_ended key ps ls m at next d e fits =
    let it = ended_came (reading_of (AfterKey key) ps ls) m at next d e fits in
    (it.2, it.3, λ ms e more. inl (judged_is (leaf_alone key) ps it.0 d ls (put m at ∷ ms) e it.1 (it.4 ms e more)))

at_key : (key : Piece) → Backs (AfterKey key)
at_key key ps ls EqualsMark at next d e room =
    let r = reading_of (AfterKey key) ps ls in
    let same : behind (AfterEquals key) r ≡ next = cc in
    let P : Reading → Type 0 = λ n. Came d (AfterKey key) ps ls EqualsMark at n in
    subst P same (d, (room.0, tt), λ ms e it. inr (ms, (at, refl), it))
at_key key ps ls CommaMark at next d e room = key_ended key ps ls CommaMark at next d e room.0
at_key key ps ls CloseMark at next d e room = key_ended key ps ls CloseMark at next d e room.0
at_key key ps ls OpenMark at next d e room = absurd (cc)
at_key key ps ls (NameMark text) at next d e room = absurd (cc)
at_key key ps ls (FunctionMark f) at next d e room = absurd (cc)
at_key key ps ls (ValueMark text) at next d e room = absurd (cc)

at_equals : (key : Piece) → Backs (AfterEquals key)
at_equals key ps ls (ValueMark text) at next d e room =
    let r = reading_of (AfterEquals key) ps ls in
    let same : behind (AfterValue key (value_piece text at)) r ≡ next = cc in
    let P : Reading → Type 0 = λ n. Came d (AfterEquals key) ps ls (ValueMark text) at n in
    subst P same (d, (room.0, tt), λ ms e it. (text, at, ms, refl, it))
at_equals key ps ls OpenMark at next d e room = absurd (cc)
at_equals key ps ls CloseMark at next d e room = absurd (cc)
at_equals key ps ls CommaMark at next d e room = absurd (cc)
at_equals key ps ls EqualsMark at next d e room = absurd (cc)
at_equals key ps ls (NameMark name) at next d e room = absurd (cc)
at_equals key ps ls (FunctionMark f) at next d e room = absurd (cc)

pred_is : (d : ℕ) → 0 < d → (k : ℕ) × (d ≡ suc k)
pred_is zero some = absurd (omega (arith, some))
pred_is (suc k) some = (k, refl)

at_function : (f : Function) (name : Place) → Backs (AfterFunction f name)
at_function f name ps ls OpenMark at next d e room =
    let r = reading_of (AfterFunction f name) ps ls in
    let same : opened_by f name at r ≡ next = cc in
    let k = pred_is d room.1 in
    let P : Reading → Type 0 = λ n. Came d (AfterFunction f name) ps ls OpenMark at n in
    subst P same (k.0, (omega (arith, room.0, k.1), tt), λ ms e it. (k.0, ms, at, k.1, refl, it))
at_function f name ps ls CloseMark at next d e room = absurd (cc)
at_function f name ps ls CommaMark at next d e room = absurd (cc)
at_function f name ps ls EqualsMark at next d e room = absurd (cc)
at_function f name ps ls (NameMark text) at next d e room = absurd (cc)
at_function f name ps ls (FunctionMark g) at next d e room = absurd (cc)
at_function f name ps ls (ValueMark text) at next d e room = absurd (cc)

backs : (b : Before) → Backs b
backs Nothing = at_nothing
backs AfterOpen = at_open
backs AfterComma = at_comma
backs AfterClose = at_close
backs (AfterKey key) = at_key key
backs (AfterEquals key) = at_equals key
backs (AfterValue key value) = at_value key value
backs (AfterFunction f name) = at_function f name

-- One more mark was read.
pub step_came : (r : Reading) (m : Mark) (at : Place) (next : Reading) (d : ℕ) → step r m at ≡ Ok next → Room d r
    → Came d r.before r.parts r.levels m at next
step_came r m at next d e room = backs r.before r.parts r.levels m at next d e room
