-- Where marks spell an expression, each is read.
use Rattle.std.proofs.Common.{◌≡◌, inl, inr, ℕ, zero, suc, ◌+◌, ◌<◌, false, List, [], ◌∷◌, ◌++◌, Some, Result, Ok, Err, length, if◌then◌else◌, refl, sym, ◌∙◌, ap, subst, arith, length-append}
use Rattle.std.proofs.lemmas.Bool.{lt-ltb}
use Rattle.platform_language.specs.declared.expression.Function.{Function}
use Rattle.platform_language.specs.declared.expression.Function.TheVariants.{All, Any, Not}
use Rattle.platform_language.specs.declared.fault.Place.{Place}
use Rattle.platform_language.specs.declared.fault.BodyFault.{BodyFault}
use Rattle.platform_language.specs.Expressions.{Leaf, Expression, Asks, Every, Some_of, Negated, Expressions, no_parts, part, parts_of}
use Rattle.platform_language.specs.Faults.{and_then, map_ok}
use Rattle.platform_language.specs.Grammar.{BeginsSomewhere, BeginsCall, SpellsParts}
use Rattle.platform_language.specs.Leaves.{leaf_alone, leaf_with}
use Rattle.platform_language.specs.Marks.{Mark, OpenMark, CloseMark, CommaMark, EqualsMark, FunctionMark, NameMark, ValueMark, Placed}
use Rattle.platform_language.specs.Reading.{Before, Nothing, AfterFunction, AfterOpen, AfterComma, AfterKey, AfterEquals, AfterValue, AfterClose, Level, Reading, with_leaf, count_parts, refuses, call, behind, entered, opened_by, separated, not_one, ended, closed, value_piece, step_behind, step}
use Rattle.platform_language.proofs.Endings.{Behind, Fresh, Comma, Part, Closes, put, fresh_cases, comma_cases, behind_cases}
use Rattle.platform_language.proofs.Points.{At, Room, as_put}

-- A mark is read, and what follows it follows.
abbrev pub Goes : Result Reading BodyFault → List Placed → Expression → Type 0
Goes found ms e = (next : Reading) × (d : ℕ) × (found ≡ Ok next) × Room d next
    × At next.before d next.parts next.levels ms e

-- What reads a mark.
abbrev Reads : Type 0
Reads = Mark → Place → Result Reading BodyFault

abbrev Next : Reads → Expression → Placed → List Placed → Type 0
Next F e p ms = Goes (F p.mark p.place) ms e

-- Parts as a list.
pub listed : (parts : Expressions) → (es : List Expression) × (parts_of es ≡ parts)
listed no_parts = ([], refl)
listed (part e parts) = let it = listed parts in (e ∷ it.0, ap (part e) it.1)

-- A part begins.

entered_is : (f : Function) (at : Place) (r : Reading) → length r.levels < 128
    → entered f at r ≡ Ok (behind (AfterFunction f at) r)
entered_is f at r below = rw (lt-ltb (length r.levels) 128 below) refl

call_goes : (F : Reads) (r : Reading) (m : Mark) (at : Place) (ms : List Placed) (e : Expression) (room : ℕ)
    (f : Function) (es : List Expression) (x : Expression) (inside last more : List Placed)
    → ((f : Function) (at : Place) → F (FunctionMark f) at ≡ entered f at r)
    → suc room + length r.levels ≡ 128 → BeginsCall f (put m at ∷ ms) inside
    → SpellsParts room (parts_of es) inside last → BeginsSomewhere CloseMark last more → call f es ≡ Some x
    → Behind (suc room) (r.parts ++ (x ∷ [])) r.levels more e → Goes (F m at) ms e
call_goes F r m at ms e room f es x inside last more enters fits (opened, (at0, fn), (at1, op)) spelled close
    called (fs, end, further, ends) =
    as_put (Next F e) (put m at) (put (FunctionMark f) at0) ms opened fn (
      behind (AfterFunction f at0) r,
      suc room,
      enters f at0 ∙ entered_is f at0 r (omega (arith, fits)),
      (fits, omega arith),
      (room, inside, at1, refl, op, (es, last, spelled, (more, x, close, called, fs, end, further, ends))),
    )

pub part_goes : (F : Reads) (r : Reading) (m : Mark) (at : Place) (ms : List Placed) (e : Expression) (d : ℕ)
    → ((text : List ℕ) (at : Place)
    → F (NameMark text) at ≡ Ok (behind (AfterKey (record { text = text; place = at })) r))
    → ((f : Function) (at : Place) → F (FunctionMark f) at ≡ entered f at r)
    → d + length r.levels ≡ 128 → Part d r.parts r.levels (put m at ∷ ms) e → Goes (F m at) ms e
part_goes F r m at ms e d names enters fits (Asks leaf, more, inl (key, begins, alone), behind) =
    as_put (Next F e) (put m at) (put (NameMark key.text) key.place) ms more begins
    (_, d, names key.text key.place, (fits, tt), inl (leaf, alone, behind))
part_goes F r m at ms e d names enters fits
    (Asks leaf, more, inr (key, text, there, first, last, begins, equals, value, with), behind) =
    as_put (Next F e) (put m at) (put (NameMark key.text) key.place) ms first begins
    (_, d, names key.text key.place, (fits, tt), inr (last, equals, (text, there, more, value, (leaf, with, behind))))
part_goes F r m at ms e (suc room) names enters fits
    (Every parts, more, (inside, last, begins, spelled, close), behind) =
    let it = listed parts in
    call_goes F r m at ms e room All it.0 (Every parts) inside last more enters fits begins
    (subst (λ ps. SpellsParts room ps inside last) (sym it.1) spelled) close
    (ap (λ ps. Some (Every ps)) it.1) behind
part_goes F r m at ms e (suc room) names enters fits
    (Some_of parts, more, (inside, last, begins, spelled, close), behind) =
    let it = listed parts in
    call_goes F r m at ms e room Any it.0 (Some_of parts) inside last more enters fits begins
    (subst (λ ps. SpellsParts room ps inside last) (sym it.1) spelled) close
    (ap (λ ps. Some (Some_of ps)) it.1) behind
part_goes F r m at ms e (suc room) names enters fits
    (Negated x, more, (inside, mid, last, begins, spelled, commas, close), behind) =
    call_goes F r m at ms e room Not (x ∷ []) (Negated x) inside last more enters fits begins
    (mid, spelled, commas) close refl behind
part_goes F r m at ms e zero names enters fits (Every parts, more, spells, behind) = absurd (spells)
part_goes F r m at ms e zero names enters fits (Some_of parts, more, spells, behind) = absurd (spells)
part_goes F r m at ms e zero names enters fits (Negated x, more, spells, behind) = absurd (spells)

-- A part ends.

judged_count : (ps qs : List Expression) (found : Result Leaf BodyFault)
    → map_ok (λ leaf. ps ++ (Asks leaf ∷ [])) found ≡ Ok qs
    → length ps + 1 ≡ length qs
judged_count ps qs (Err fault) e = absurd (cc)
judged_count ps qs (Ok leaf) e =
    let same : ps ++ (Asks leaf ∷ []) ≡ qs = cc in
    sym (length-append ps (Asks leaf ∷ [])) ∙ ap length same

abbrev fine : List Expression → Result (List Expression) BodyFault
fine ps = Ok ps

same_count : (ps qs : List Expression) → fine ps ≡ Ok qs → length ps ≡ length qs
same_count ps qs e = let same : ps ≡ qs = cc in ap length same

counted : (b : Before) (ps qs : List Expression) → with_leaf b ps ≡ Ok qs → count_parts b ps ≡ length qs
counted (AfterKey key) ps qs e = judged_count ps qs (leaf_alone key) e
counted (AfterValue key value) ps qs e = judged_count ps qs (leaf_with key value) e
counted Nothing ps qs e = same_count ps qs e
counted AfterOpen ps qs e = same_count ps qs e
counted AfterComma ps qs e = same_count ps qs e
counted AfterClose ps qs e = same_count ps qs e
counted (AfterFunction f name) ps qs e = same_count ps qs e
counted (AfterEquals key) ps qs e = same_count ps qs e

taken : (f : Function) (qs : List Expression) (x : Expression) → call f qs ≡ Some x → refuses f (length qs) ≡ false
taken All qs x e = refl
taken Any qs x e = refl
taken Not (y ∷ []) x e = refl
taken Not [] x e = absurd (cc)
taken Not (y ∷ z ∷ more) x e = absurd (cc)

pub closed_goes : (b : Before) (ps : List Expression) (ls : List Level) (at : Place) (ms : List Placed)
    (e : Expression) (d : ℕ)
    (qs : List Expression) → with_leaf b ps ≡ Ok qs → d + length ls ≡ 128 → Closes d qs ls ms e
    → Goes (closed b ps ls at) ms e
closed_goes b ps [] at ms e d qs is fits closes = absurd (closes)
closed_goes b ps (l ∷ ls) at ms e d qs is fits (x, called, behind) =
    let bad = not_one (count_parts b ps) l at in
    let k = λ (all : List Expression). ended l ls bad (call l.function all) in
    let test : refuses l.function (count_parts b ps) ≡ false =
    ap (refuses l.function) (counted b ps qs is) ∙ taken l.function qs x called in (
      record { before = AfterClose; parts = l.outside ++ (x ∷ []); levels = ls },
      suc d,
      ap (λ t. if t then Err bad else and_then k (with_leaf b ps)) test ∙ ap (and_then k) is
          ∙ ap (ended l ls bad) called,
      (omega (arith, fits), tt),
      behind,
    )

pub separated_goes : (r : Reading) (ms : List Placed) (e : Expression) (d : ℕ) (qs : List Expression)
    → with_leaf r.before r.parts ≡ Ok qs → d + length r.levels ≡ 128 → Comma d qs r.levels ms e
    → Goes (separated r) ms e
separated_goes r ms e d qs is fits comma =
    let k = λ (parts : List Expression). let n : Reading =
    record { before = AfterComma; parts = parts; levels = r.levels } in n in
    (k qs, d, ap (map_ok k) is, (fits, tt), comma)

pub ended_goes : (F : Reads) (r : Reading) (m : Mark) (at : Place) (ms : List Placed) (e : Expression) (d : ℕ)
    (qs : List Expression)
    → ((at : Place) → F CommaMark at ≡ separated r)
    → ((at : Place) → F CloseMark at ≡ closed r.before r.parts r.levels at)
    → with_leaf r.before r.parts ≡ Ok qs → d + length r.levels ≡ 128
    → Behind d qs r.levels (put m at ∷ ms) e → Goes (F m at) ms e
ended_goes F r m at ms e d qs commas closes is fits behind =
    elim (behind_cases d qs r.levels m at ms e behind) [
      | inl it ↦ (let P : Mark → Type 0 = λ n. Goes (F n at) ms e in
          let Q : Result Reading BodyFault → Type 0 = λ found. Goes found ms e in
          subst P (sym it.0) (subst Q (sym (commas at)) (separated_goes r ms e d qs is fits it.1)))
      | inr it ↦ (let P : Mark → Type 0 = λ n. Goes (F n at) ms e in
          let Q : Result Reading BodyFault → Type 0 = λ found. Goes found ms e in
          subst P (sym it.0) (subst Q (sym (closes at))
          (closed_goes r.before r.parts r.levels at ms e d qs is fits it.1)))
    ]

-- Behind a `(` and behind a `,`.

fresh_goes : (F : Reads) (r : Reading) (m : Mark) (at : Place) (ms : List Placed) (e : Expression) (d : ℕ)
    → ((text : List ℕ) (at : Place)
    → F (NameMark text) at ≡ Ok (behind (AfterKey (record { text = text; place = at })) r))
    → ((f : Function) (at : Place) → F (FunctionMark f) at ≡ entered f at r)
    → ((at : Place) → F CloseMark at ≡ closed r.before r.parts r.levels at)
    → with_leaf r.before r.parts ≡ Ok r.parts → d + length r.levels ≡ 128
    → Fresh d r.parts r.levels (put m at ∷ ms) e → Goes (F m at) ms e
fresh_goes F r m at ms e d names enters closes is fits fresh =
    elim (fresh_cases d r.parts r.levels m at ms e fresh) [
      | inl it ↦ (let P : Mark → Type 0 = λ n. Goes (F n at) ms e in
          let Q : Result Reading BodyFault → Type 0 = λ found. Goes found ms e in
          subst P (sym it.0) (subst Q (sym (closes at))
          (closed_goes r.before r.parts r.levels at ms e d r.parts is fits it.1)))
      | inr it ↦ part_goes F r m at ms e d names enters fits it
    ]

abbrev reading_of : Before → List Expression → List Level → Reading
reading_of b ps ls = record { before = b; parts = ps; levels = ls }

goes : (b : Before) (ps : List Expression) (ls : List Level) (m : Mark) (at : Place) (ms : List Placed)
    (e : Expression) (d : ℕ)
    → Room d (reading_of b ps ls) → At b d ps ls (put m at ∷ ms) e → Goes (step (reading_of b ps ls) m at) ms e
goes Nothing ps ls m at ms e d room it =
    part_goes (step_behind Nothing (reading_of Nothing ps ls)) (reading_of Nothing ps ls) m at ms e d
    (λ t p. refl) (λ f p. refl) room.0 it
goes AfterOpen ps ls m at ms e d room it =
    fresh_goes (step_behind AfterOpen (reading_of AfterOpen ps ls)) (reading_of AfterOpen ps ls) m at ms e d
    (λ t p. refl) (λ f p. refl) (λ p. refl) refl room.0 it
goes AfterComma ps ls m at ms e d room it =
    let r = reading_of AfterComma ps ls in
    elim (comma_cases d ps ls m at ms e it) [
      | inl more ↦ (let P : Mark → Type 0 = λ n. Goes (step_behind AfterComma r n at) ms e in
          subst P (sym more.0) (separated_goes r ms e d ps refl room.0 more.1))
      | inr fresh ↦ fresh_goes (step_behind AfterComma r) r m at ms e d (λ t p. refl) (λ f p. refl)
          (λ p. refl) refl room.0 fresh
    ]
goes AfterClose ps ls m at ms e d room it =
    ended_goes (step_behind AfterClose (reading_of AfterClose ps ls)) (reading_of AfterClose ps ls) m at ms e
    d ps (λ p. refl) (λ p. refl) refl room.0 it
goes (AfterKey key) ps ls m at ms e d room (inl (leaf, alone, behind)) =
    let r = reading_of (AfterKey key) ps ls in
    ended_goes (step_behind (AfterKey key) r) r m at ms e d (ps ++ (Asks leaf ∷ [])) (λ p. refl) (λ p. refl)
    (ap (map_ok (λ l. ps ++ (Asks l ∷ []))) alone) room.0 behind
goes (AfterKey key) ps ls m at ms e d room (inr (more, (there, equals), awaits)) =
    let r = reading_of (AfterKey key) ps ls in
    as_put (Next (step_behind (AfterKey key) r) e) (put m at) (put EqualsMark there) ms more equals
    (behind (AfterEquals key) r, d, refl, (room.0, tt), awaits)
goes (AfterEquals key) ps ls m at ms e d room (text, there, rest, begins, judged) =
    let r = reading_of (AfterEquals key) ps ls in
    as_put (Next (step_behind (AfterEquals key) r) e) (put m at) (put (ValueMark text) there) ms rest begins
    (behind (AfterValue key (value_piece text there)) r, d, refl, (room.0, tt), judged)
goes (AfterValue key value) ps ls m at ms e d room (leaf, with, behind) =
    let r = reading_of (AfterValue key value) ps ls in
    ended_goes (step_behind (AfterValue key value) r) r m at ms e d (ps ++ (Asks leaf ∷ [])) (λ p. refl)
    (λ p. refl) (ap (map_ok (λ l. ps ++ (Asks l ∷ []))) with) room.0 behind
goes (AfterFunction f name) ps ls m at ms e d room (free, inside, there, is, begins, fresh) =
    let r = reading_of (AfterFunction f name) ps ls in
    as_put (Next (step_behind (AfterFunction f name) r) e) (put m at) (put OpenMark there) ms inside begins
    (opened_by f name there r, free, refl, (omega (arith, room.0, is), tt), fresh)

-- One more mark is read.
pub step_goes : (r : Reading) (m : Mark) (at : Place) (ms : List Placed) (e : Expression) (d : ℕ)
    → Room d r → At r.before d r.parts r.levels (put m at ∷ ms) e → Goes (step r m at) ms e
step_goes r m at ms e d room it = goes r.before r.parts r.levels m at ms e d room it
