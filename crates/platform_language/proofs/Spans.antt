-- The spans of faults lie in their texts.
use Rattle.std.proofs.Common.{◌≡◌, ℕ, zero, suc, ◌+◌, ◌<◌, ◌≤◌, ◌==◌, ◌||◌, ltb, cond, Bool, true, false, not, List, [], ◌∷◌, ◌++◌, Option, None, Some, Result, Ok, Err, IfErr, length, codes, bytes_eq, if◌then◌else◌, refl, ◌∙◌, ap, subst, arith, length-append}
use Rattle.std.proofs.lemmas.Bool.{ltb-true}
use Rattle.std.specs.List.{position_or_len}
use Rattle.std.specs.Result.{result_map_both}
use Rattle.std.specs.Str.{IsUtf8, trim_start}
use Rattle.platform_language.specs.declared.fault.Place.{Place}
use Rattle.platform_language.specs.declared.fault.BodyFault.{BodyFault}
use Rattle.platform_language.specs.declared.fault.TargetSpecFault.{TargetSpecFault}
use Rattle.platform_language.specs.declared.fault.FaultKind.TheVariants.{EmptyText, TooDeep, EmptyFeature, BadEndian, BadWidth, BadAtomic}
use Rattle.platform_language.specs.declared.keys.KeyKind.{KeyKind}
use Rattle.platform_language.specs.declared.keys.KeyKind.TheVariants.{Family, Never, CrateFeature, Free, Endian, Width, Atomic, TargetFeature, UnknownTarget, Other}
use Rattle.platform_language.specs.Expressions.{Leaf, Feature, Expression, Asks, Spec, OfExpression}
use Rattle.platform_language.specs.Faults.{place, fault_at, and_then, map_ok, in_text}
use Rattle.platform_language.specs.Keys.{key_kind}
use Rattle.platform_language.specs.Leaves.{Piece, has_line, plain_to, number_leaf, kind_alone, kind_with, leaf_alone, leaf_with}
use Rattle.platform_language.specs.Marks.{Mark, OpenMark, CloseMark, CommaMark, EqualsMark, FunctionMark, NameMark, ValueMark, Front, FrontMark, UnclosedFront, ForeignFront, front}
use Rattle.platform_language.specs.Reading.{Before, Nothing, AfterFunction, AfterOpen, AfterComma, AfterKey, AfterEquals, AfterValue, AfterClose, Level, Reading, with_leaf, count_parts, refuses, call, behind, separated, not_one, ended, closed, value_piece, begun_by, ended_by, step_behind, step, only_root, complete, finished, advanced_by, advanced, read_on, start, read_body}
use Rattle.platform_language.specs.Texts.{text_fault, is_triple_byte, after_prefix, before_close, triple_but, triple_in, expression_in, spec_behind, spec_in, LiesIn, IfRefused}
use Rattle.platform_language.specs.declared.expression.TargetSpec.{TargetSpec}
use Rattle.platform_language.specs.declared.spec.TargetSpecError.{TargetSpecError}
use Rattle.platform_language.specs.declared.spec.TargetSpecError.TheVariants.{Refused, Memory}
use Rattle.platform_language.proofs.Bodies.{no_longer}
use Rattle.platform_language.proofs.Blanks.{split_blanks}
use Rattle.platform_language.proofs.Fronts.{front_begun, spelled_fronts}
use Rattle.platform_language.proofs.Prefixes.{after_is}
use Rattle.platform_language.proofs.Specs.{body_utf8}
use Rattle.platform_language.proofs.Suffixes.{front_is}

-- A fault ends no further left than it begins.
abbrev Lies : {A : Type 0} → Result A BodyFault → Type 0
Lies (Ok x) = Unit {0}
Lies (Err fault) = fault.place.to ≤ fault.place.from

abbrev IsOrdered : Place → Type 0
IsOrdered at = at.to ≤ at.from

if_lies : {A : Type 0} (b : Bool) (x y : Result A BodyFault) → Lies x → Lies y → Lies (if b then x else y)
if_lies true x y p q = p
if_lies false x y p q = q

map_lies : {A B : Type 0} (f : A → B) (found : Result A BodyFault) → Lies found → Lies (map_ok f found)
map_lies f (Ok x) p = tt
map_lies f (Err fault) p = p

-- Leaves.

alone_lies : (k : KeyKind) (key : Piece) → IsOrdered key.place → Lies (kind_alone k key)
alone_lies Family key p = tt
alone_lies Never key p = tt
alone_lies Other key p = tt
alone_lies CrateFeature key p = p
alone_lies Free key p = p
alone_lies Endian key p = p
alone_lies Width key p = p
alone_lies Atomic key p = p
alone_lies TargetFeature key p = p
alone_lies UnknownTarget key p = p

number_lies : (key : List ℕ) (bad : BodyFault) (found : Option (List ℕ)) → IsOrdered bad.place
    → Lies (number_leaf key bad found)
number_lies key bad (Some plain) p = tt
number_lies key bad None p = p

with_lies : (k : KeyKind) (key value : Piece) → IsOrdered key.place → IsOrdered value.place
    → Lies (kind_with k key value)
with_lies Family key value p q = q
with_lies Never key value p q = q
with_lies CrateFeature key value p q = tt
with_lies Other key value p q = tt
with_lies Free key value p q = tt
with_lies Endian key value p q =
    if_lies {A = Leaf} (bytes_eq value.text (codes "big") || bytes_eq value.text (codes "little"))
    (Ok (has_line (codes "target_endian") value.text)) (Err (fault_at BadEndian value.place)) tt q
with_lies Width key value p q =
    number_lies (codes "target_pointer_width") (fault_at BadWidth value.place) (plain_to 255 value.text) q
with_lies Atomic key value p q =
    if_lies {A = Leaf} (bytes_eq value.text (codes "ptr"))
    (Ok (has_line (codes "target_has_atomic") value.text))
    (number_leaf (codes "target_has_atomic") (fault_at BadAtomic value.place) (plain_to 65535 value.text)) tt
    (number_lies (codes "target_has_atomic") (fault_at BadAtomic value.place) (plain_to 65535 value.text) q)
with_lies TargetFeature key value p q =
    if_lies {A = Leaf} (length value.text == 0) (Err (fault_at EmptyFeature value.place)) (Ok (Feature value.text)) q tt
with_lies UnknownTarget key value p q = p

-- Readings whose places lie in order, where so many bytes are left.
abbrev BeforeFits : ℕ → Before → Type 0
BeforeFits n (AfterFunction f at) = IsOrdered at × (n ≤ at.from)
BeforeFits n (AfterKey key) = IsOrdered key.place
BeforeFits n (AfterEquals key) = IsOrdered key.place
BeforeFits n (AfterValue key value) = IsOrdered key.place × IsOrdered value.place
BeforeFits n _ = Unit {0}

abbrev LevelsFit : ℕ → List Level → Type 0
LevelsFit n [] = Unit {0}
LevelsFit n (l ∷ ls) = (n ≤ l.name.from) × LevelsFit n ls

abbrev Fits : ℕ → Reading → Type 0
Fits n r = BeforeFits n r.before × LevelsFit n r.levels

lower : (n m : ℕ) (ls : List Level) → m ≤ n → LevelsFit n ls → LevelsFit m ls
lower n m [] less fits = tt
lower n m (l ∷ ls) less fits = let first : n ≤ l.name.from = fits.0 in
    (omega (arith, less, first), lower n m ls less fits.1)

before_lower : (n m : ℕ) (b : Before) → m ≤ n → BeforeFits n b → BeforeFits m b
before_lower n m (AfterFunction f at) less fits = let first : n ≤ at.from = fits.1 in
    (fits.0, omega (arith, less, first))
before_lower n m (AfterKey key) less fits = fits
before_lower n m (AfterEquals key) less fits = fits
before_lower n m (AfterValue key value) less fits = fits
before_lower n m Nothing less fits = tt
before_lower n m AfterOpen less fits = tt
before_lower n m AfterComma less fits = tt
before_lower n m AfterClose less fits = tt

-- The result of a mark.
abbrev Sound : ℕ → Result Reading BodyFault → Type 0
Sound n (Ok next) = Fits n next
Sound n (Err fault) = fault.place.to ≤ fault.place.from

leaf_lies : (n : ℕ) (b : Before) (ps : List Expression) → BeforeFits n b → Lies (with_leaf b ps)
leaf_lies n (AfterKey key) ps fits =
    map_lies (λ leaf. ps ++ (Asks leaf ∷ [])) (leaf_alone key) (alone_lies (key_kind key.text) key fits)
leaf_lies n (AfterValue key value) ps fits =
    map_lies (λ leaf. ps ++ (Asks leaf ∷ [])) (leaf_with key value)
    (with_lies (key_kind key.text) key value fits.0 fits.1)
leaf_lies n (AfterFunction f at) ps fits = tt
leaf_lies n (AfterEquals key) ps fits = tt
leaf_lies n Nothing ps fits = tt
leaf_lies n AfterOpen ps fits = tt
leaf_lies n AfterComma ps fits = tt
leaf_lies n AfterClose ps fits = tt

if_sound : (n : ℕ) (b : Bool) (x y : Result Reading BodyFault) → Sound n x → Sound n y → Sound n (if b then x else y)
if_sound n true x y p q = p
if_sound n false x y p q = q

begun_sound : (b : Before) (r : Reading) (m : Mark) (at : Place) → IsOrdered at → LevelsFit at.from r.levels
    → Sound at.to (begun_by b r m at)
begun_sound b r (NameMark text) at p fits = (p, lower at.from at.to r.levels p fits)
begun_sound b r (FunctionMark f) at p fits =
    if_sound at.to (ltb (length r.levels) 128) (Ok (behind (AfterFunction f at) r))
    (Err (fault_at TooDeep at)) ((p, p), lower at.from at.to r.levels p fits) p
begun_sound b r OpenMark at p fits = p
begun_sound b r CloseMark at p fits = p
begun_sound b r CommaMark at p fits = p
begun_sound b r EqualsMark at p fits = p
begun_sound b r (ValueMark text) at p fits = p

separated_by : (r : Reading) (n : ℕ) (found : Result (List Expression) BodyFault) → Lies found → LevelsFit n r.levels
    → Sound n (map_ok (λ parts. let next : Reading =
    record { before = AfterComma; parts = parts; levels = r.levels } in next) found)
separated_by r n (Ok qs) p fits = (tt, fits)
separated_by r n (Err fault) p fits = p

made_sound : (n : ℕ) (l : Level) (ls : List Level) (bad : BodyFault) (made : Option Expression)
    → bad.place.to ≤ bad.place.from → LevelsFit n ls → Sound n (ended l ls bad made)
made_sound n l ls bad (Some x) p fits = (tt, fits)
made_sound n l ls bad None p fits = p

settled_sound : (n : ℕ) (l : Level) (ls : List Level) (bad : BodyFault)
    (found : Result (List Expression) BodyFault) → Lies found
    → bad.place.to ≤ bad.place.from → LevelsFit n ls
    → Sound n (and_then (λ all. ended l ls bad (call l.function all)) found)
settled_sound n l ls bad (Ok qs) lies p fits = made_sound n l ls bad (call l.function qs) p fits
settled_sound n l ls bad (Err fault) lies p fits = lies

closed_sound : (b : Before) (ps : List Expression) (ls : List Level) (at : Place) → IsOrdered at
    → BeforeFits at.from b → LevelsFit at.from ls
    → Sound at.to (closed b ps ls at)
closed_sound b ps [] at p before fits = p
closed_sound b ps (l ∷ ls) at p before fits =
    let first : at.from ≤ l.name.from = fits.0 in
    let ordered : at.to ≤ l.name.from = omega (arith, p, first) in
    if_sound at.to (refuses l.function (count_parts b ps)) (Err (not_one (count_parts b ps) l at))
    (and_then (λ all. ended l ls (not_one (count_parts b ps) l at) (call l.function all)) (with_leaf b ps)) ordered
    (settled_sound at.to l ls (not_one (count_parts b ps) l at) (with_leaf b ps)
    (leaf_lies at.from b ps before) ordered (lower at.from at.to ls p fits.1))

separated_sound : (r : Reading) (at : Place) → IsOrdered at → Fits at.from r → Sound at.to (separated r)
separated_sound r at p fits =
    separated_by r at.to (with_leaf r.before r.parts) (leaf_lies at.from r.before r.parts fits.0)
    (lower at.from at.to r.levels p fits.1)

ended_sound : (r : Reading) (m : Mark) (at : Place) → IsOrdered at → Fits at.from r
    → Sound at.to (ended_by r.before r m at)
ended_sound r CommaMark at p fits = separated_sound r at p fits
ended_sound r CloseMark at p fits = closed_sound r.before r.parts r.levels at p fits.0 fits.1
ended_sound r OpenMark at p fits = p
ended_sound r EqualsMark at p fits = p
ended_sound r (NameMark text) at p fits = p
ended_sound r (FunctionMark f) at p fits = p
ended_sound r (ValueMark text) at p fits = p

abbrev reading_of : Before → List Expression → List Level → Reading
reading_of b ps ls = record { before = b; parts = ps; levels = ls }

value_ordered : (text : List ℕ) (at : Place) → IsOrdered (value_piece text at).place
value_ordered text at = omega arith

behind_sound : (b : Before) (ps : List Expression) (ls : List Level) (m : Mark) (at : Place) → IsOrdered at
    → Fits at.from (reading_of b ps ls)
    → Sound at.to (step_behind b (reading_of b ps ls) m at)
behind_sound Nothing ps ls m at p fits = begun_sound Nothing (reading_of Nothing ps ls) m at p fits.1
behind_sound AfterOpen ps ls CloseMark at p fits = closed_sound AfterOpen ps ls at p tt fits.1
behind_sound AfterOpen ps ls (NameMark text) at p fits =
    begun_sound AfterOpen (reading_of AfterOpen ps ls) (NameMark text) at p fits.1
behind_sound AfterOpen ps ls (FunctionMark f) at p fits =
    begun_sound AfterOpen (reading_of AfterOpen ps ls) (FunctionMark f) at p fits.1
behind_sound AfterOpen ps ls OpenMark at p fits = p
behind_sound AfterOpen ps ls CommaMark at p fits = p
behind_sound AfterOpen ps ls EqualsMark at p fits = p
behind_sound AfterOpen ps ls (ValueMark text) at p fits = p
behind_sound AfterComma ps ls CommaMark at p fits = separated_sound (reading_of AfterComma ps ls) at p fits
behind_sound AfterComma ps ls CloseMark at p fits = closed_sound AfterComma ps ls at p tt fits.1
behind_sound AfterComma ps ls (NameMark text) at p fits =
    begun_sound AfterComma (reading_of AfterComma ps ls) (NameMark text) at p fits.1
behind_sound AfterComma ps ls (FunctionMark f) at p fits =
    begun_sound AfterComma (reading_of AfterComma ps ls) (FunctionMark f) at p fits.1
behind_sound AfterComma ps ls OpenMark at p fits = p
behind_sound AfterComma ps ls EqualsMark at p fits = p
behind_sound AfterComma ps ls (ValueMark text) at p fits = p
behind_sound AfterClose ps ls m at p fits = ended_sound (reading_of AfterClose ps ls) m at p fits
behind_sound (AfterValue key value) ps ls m at p fits =
    ended_sound (reading_of (AfterValue key value) ps ls) m at p fits
behind_sound (AfterKey key) ps ls EqualsMark at p fits = (fits.0, lower at.from at.to ls p fits.1)
behind_sound (AfterKey key) ps ls CommaMark at p fits = separated_sound (reading_of (AfterKey key) ps ls) at p fits
behind_sound (AfterKey key) ps ls CloseMark at p fits = closed_sound (AfterKey key) ps ls at p fits.0 fits.1
behind_sound (AfterKey key) ps ls OpenMark at p fits = p
behind_sound (AfterKey key) ps ls (NameMark text) at p fits = p
behind_sound (AfterKey key) ps ls (FunctionMark f) at p fits = p
behind_sound (AfterKey key) ps ls (ValueMark text) at p fits = p
behind_sound (AfterEquals key) ps ls (ValueMark text) at p fits =
    ((fits.0, value_ordered text at), lower at.from at.to ls p fits.1)
behind_sound (AfterEquals key) ps ls OpenMark at p fits = p
behind_sound (AfterEquals key) ps ls CloseMark at p fits = p
behind_sound (AfterEquals key) ps ls CommaMark at p fits = p
behind_sound (AfterEquals key) ps ls EqualsMark at p fits = p
behind_sound (AfterEquals key) ps ls (NameMark text) at p fits = p
behind_sound (AfterEquals key) ps ls (FunctionMark f) at p fits = p
behind_sound (AfterFunction f name) ps ls OpenMark at p fits =
    let first : at.from ≤ name.from = fits.0.1 in (tt, (omega (arith, p, first), lower at.from at.to ls p fits.1))
behind_sound (AfterFunction f name) ps ls CloseMark at p fits = p
behind_sound (AfterFunction f name) ps ls CommaMark at p fits = p
behind_sound (AfterFunction f name) ps ls EqualsMark at p fits = p
behind_sound (AfterFunction f name) ps ls (NameMark text) at p fits = p
behind_sound (AfterFunction f name) ps ls (FunctionMark g) at p fits = p
behind_sound (AfterFunction f name) ps ls (ValueMark text) at p fits = p

step_sound : (r : Reading) (m : Mark) (at : Place) → IsOrdered at → Fits at.from r → Sound at.to (step r m at)
step_sound r m at p fits = behind_sound r.before r.parts r.levels m at p fits

-- At the end.

root_lies : (len : ℕ) (found : Result (List Expression) BodyFault) → Lies found → Lies (and_then (only_root len) found)
root_lies len (Err fault) p = p
root_lies len (Ok []) p = omega arith
root_lies len (Ok (e ∷ [])) p = tt
root_lies len (Ok (e ∷ f ∷ more)) p = omega arith

complete_lies : (len n : ℕ) (b : Before) (ps : List Expression) (ls : List Level) → BeforeFits n b
    → Lies (complete len (reading_of b ps ls) ls)
complete_lies len n b ps [] fits = root_lies len (with_leaf b ps) (leaf_lies n b ps fits)
complete_lies len n b ps (l ∷ ls) fits = omega arith

finished_lies : (len n : ℕ) (b : Before) (ps : List Expression) (ls : List Level) → BeforeFits n b
    → Lies (finished len (reading_of b ps ls))
finished_lies len n (AfterFunction f at) ps ls fits = fits.0
finished_lies len n (AfterEquals key) ps ls fits = omega arith
finished_lies len n (AfterKey key) ps ls fits = complete_lies len n (AfterKey key) ps ls fits
finished_lies len n (AfterValue key value) ps ls fits = complete_lies len n (AfterValue key value) ps ls fits
finished_lies len n Nothing ps ls fits = complete_lies len n Nothing ps ls fits
finished_lies len n AfterOpen ps ls fits = complete_lies len n AfterOpen ps ls fits
finished_lies len n AfterComma ps ls fits = complete_lies len n AfterComma ps ls fits
finished_lies len n AfterClose ps ls fits = complete_lies len n AfterClose ps ls fits

-- Mark by mark.

abbrev Onward : Type 0
Onward = Result (Reading × List ℕ) BodyFault

-- What a mark leads to: a reading that lies in order before a text.
abbrev OnwardSound : Onward → Type 0
OnwardSound (Ok next) = Fits (length next.1) next.0 × IsUtf8 next.1
OnwardSound (Err fault) = fault.place.to ≤ fault.place.from

moved_sound : (rest : List ℕ) (found : Result Reading BodyFault) → IsUtf8 rest → Sound (length rest) found
    → OnwardSound (map_ok (λ (n : Reading). let p : Reading × List ℕ = (n, trim_start rest) in p) found)
moved_sound rest (Err fault) utf8 p = p
moved_sound rest (Ok next) utf8 fits =
    let less = no_longer rest utf8 in (
      (
        before_lower (length rest) (length (trim_start rest)) next.before less fits.0,
        lower (length rest)
            (length (trim_start rest)) next.levels less fits.1,
      ),
      (split_blanks rest utf8).3,
    )

front_sound : (r : Reading) (text : List ℕ) (f : Front) → front text ≡ f → IsUtf8 text → Fits (length text) r
    → OnwardSound (advanced_by r (length text) f)
front_sound r text (FrontMark m rest) is utf8 fits =
    let begun = front_begun text m rest is in
    let size : length text ≡ length begun.0 + length rest = ap length begun.2 ∙ length-append begun.0 rest in
    let after = (spelled_fronts m begun.0 rest begun.1).6 (subst IsUtf8 begun.2 utf8) in
    moved_sound rest (step r m (place (length text) (length rest))) after
    (step_sound r m (place (length text) (length rest)) (omega (arith, size)) fits)
front_sound r text UnclosedFront is utf8 fits = omega arith
front_sound r text ForeignFront is utf8 fits = omega arith

advanced_sound : (r : Reading) (text : List ℕ) → IsUtf8 text → Fits (length text) r → OnwardSound (advanced r text)
unfolding advanced
advanced_sound r text utf8 fits = front_sound r text (front text) refl utf8 fits

onward_lies : (len n : ℕ) (found : Onward)
    → ((r : Reading) (text : List ℕ) → IsUtf8 text → Fits (length text) r → Lies (read_on len n r text))
    → OnwardSound found → Lies (and_then (λ next. read_on len n next.0 next.1) found)
onward_lies len n (Err fault) known sound = sound
onward_lies len n (Ok next) known sound = known next.0 next.1 sound.1 sound.0

read_lies : (len n : ℕ) (r : Reading) (text : List ℕ) → IsUtf8 text → Fits (length text) r → Lies (read_on len n r text)
read_lies len zero r text utf8 fits = finished_lies len (length text) r.before r.parts r.levels fits.0
read_lies len (suc n) r [] utf8 fits = finished_lies len 0 r.before r.parts r.levels fits.0
read_lies len (suc n) r (c ∷ text) utf8 fits =
    onward_lies len n (advanced r (c ∷ text)) (read_lies len n) (advanced_sound r (c ∷ text) utf8 fits)

body_lies : (body : List ℕ) → IsUtf8 body → Lies (read_body body)
body_lies body utf8 = read_lies (length body) (length body) start (trim_start body) (split_blanks body utf8).3 (tt, tt)

-- In texts.

abbrev FaultLies : List ℕ → Result Spec TargetSpecFault → Type 0
FaultLies text (Ok s) = Unit {0}
FaultLies text (Err fault) = LiesIn text fault

expression_lies : (text : List ℕ) (found : Result Expression BodyFault) → Lies found
    → FaultLies text (result_map_both OfExpression (in_text (length text)) found)
expression_lies text (Ok e) lies = tt
expression_lies text (Err fault) lies = (omega (arith, lies), omega arith)

close_lies : (text inside : List ℕ) (found : Option (List ℕ)) → IsUtf8 text → text ≡ codes "cfg(" ++ inside
    → before_close inside ≡ found
    → FaultLies text (expression_in text found)
close_lies text inside None utf8 shape is =
    let size : length text ≡ length (codes "cfg(") + length inside =
    ap length shape ∙ length-append (codes "cfg(") inside in
    let four : length (codes "cfg(") ≡ 4 = refl in
    (omega arith, omega (arith, size, four))
close_lies text inside (Some body) utf8 shape is =
    let whole = shape ∙ ap (λ l. codes "cfg(" ++ l) (front_is inside body is) in
    expression_lies text (read_body body) (body_lies body (body_utf8 body (subst IsUtf8 whole utf8)))

bad_lies : (text : List ℕ) (n l : ℕ) (b : Bool) → l ≡ length text → ltb n l ≡ b
    → FaultLies text (triple_but text (cond b (Some n) None))
bad_lies text n l false same is = tt
bad_lies text n l true same is = let below : n < l = ltb-true n l is in (omega arith, omega (arith, below, same))

empty_lies : (text : List ℕ) (b : Bool) (x y : Result Spec TargetSpecFault) → FaultLies text x
    → FaultLies text y → FaultLies text (if b then x else y)
empty_lies text true x y p q = p
empty_lies text false x y p q = q

triple_lies : (text : List ℕ) → FaultLies text (triple_in text)
triple_lies text =
    let n = position_or_len (λ c. not (is_triple_byte c)) text in
    empty_lies text (length text == 0) (Err (text_fault EmptyText 0 0 None))
    (triple_but text (cond (ltb n (length text)) (Some n) None)) (omega arith, omega arith)
    (bad_lies text n (length text) (ltb n (length text)) refl refl)

cfg_lies : (text : List ℕ) (found : Option (List ℕ)) → IsUtf8 text → after_prefix (codes "cfg(") text ≡ found
    → FaultLies text (spec_behind text found)
cfg_lies text None utf8 is = triple_lies text
cfg_lies text (Some inside) utf8 is =
    close_lies text inside (before_close inside) utf8 (after_is (codes "cfg(") text inside is) refl

spec_lies : (text : List ℕ) → IsUtf8 text → FaultLies text (spec_in text)
spec_lies text utf8 = cfg_lies text (after_prefix (codes "cfg(") text) utf8 refl

-- The span of a fault lies in the text.
pub fault_lies : (text : List ℕ) → IsUtf8 text → (fault : TargetSpecFault) → spec_in text ≡ Err fault
    → LiesIn text fault
fault_lies text utf8 fault is = subst (FaultLies text) is (spec_lies text utf8)

-- What parsing answers: each fault lies in the text.
pub answers_lie : (text : List ℕ) (found : Result TargetSpec TargetSpecError) → IsUtf8 text
    → IfErr found (λ error. IfRefused error (λ fault. spec_in text ≡ Err fault))
    → IfErr found (λ error. IfRefused error (LiesIn text))
answers_lie text (Ok spec) utf8 is = tt
answers_lie text (Err Memory) utf8 is = tt
answers_lie text (Err (Refused fault)) utf8 is = fault_lies text utf8 fault is
