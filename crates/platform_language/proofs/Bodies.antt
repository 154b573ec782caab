-- A body is read to an expression exactly if it writes one.
use Rattle.std.proofs.Common.{◌≡◌, inl, inr, ℕ, zero, suc, ◌+◌, ◌≤◌, List, [], ◌∷◌, ◌++◌, Result, Ok, Err, length, refl, sym, ◌∙◌, ap, subst, arith, append-nil, length-append}
use Rattle.std.specs.Str.{IsUtf8, trim_start}
use Rattle.platform_language.specs.declared.fault.Place.{Place}
use Rattle.platform_language.specs.declared.fault.BodyFault.{BodyFault}
use Rattle.platform_language.specs.Expressions.{Leaf, Expression, Asks, Every, Some_of, Negated}
use Rattle.platform_language.specs.Faults.{place, and_then, map_ok}
use Rattle.platform_language.specs.Grammar.{Spells, BeginsAnyCommas, IsBody}
use Rattle.platform_language.specs.Leaves.{leaf_alone, leaf_with}
use Rattle.platform_language.specs.Marks.{Mark, AreBlanks, Placed, Writes, Front, FrontMark, UnclosedFront, ForeignFront, front}
use Rattle.platform_language.specs.Reading.{Before, Nothing, AfterFunction, AfterOpen, AfterComma, AfterKey, AfterEquals, AfterValue, AfterClose, Level, Reading, with_leaf, step, only_root, complete, finished, advanced_by, advanced, read_on, start, read_body}
use Rattle.platform_language.proofs.Blanks.{split_blanks, all_skipped, blanks_skipped}
use Rattle.platform_language.proofs.Endings.{Behind, Fresh, Comma, Part, put, behind_end, end_behind}
use Rattle.platform_language.proofs.Points.{Judged, At, HasRoom, Room}
use Rattle.platform_language.proofs.Forward.{step_goes}
use Rattle.platform_language.proofs.Backward.{step_came}
use Rattle.platform_language.proofs.Fronts.{spelled_fronts, front_begun}

abbrev reading_of : Before → List Expression → List Level → Reading
reading_of b ps ls = record { before = b; parts = ps; levels = ls }

-- What follows a reading.
abbrev Follows : ℕ → Reading → List Placed → Expression → Type 0
Follows d r ms e = At r.before d r.parts r.levels ms e

-- At the end.

abbrev ok_parts : List Expression → Result (List Expression) BodyFault
ok_parts ps = Ok ps

-- Where nothing follows a complete part, it is the whole.
whole_is : (len : ℕ) (b : Before) (ps qs : List Expression) (ls : List Level) (e : Expression) (d : ℕ)
    → with_leaf b ps ≡ Ok qs
    → Behind d qs ls [] e → complete len (reading_of b ps ls) ls ≡ Ok e
whole_is len b ps qs [] e d is behind =
    ap (and_then (only_root len)) is ∙ ap (only_root len) (behind_end d qs [] e behind).1
whole_is len b ps qs (l ∷ ls) e d is behind =
    absurd (let clash : l ∷ ls ≡ [] = (behind_end d qs (l ∷ ls) e behind).0 in cc)

judged_whole : (len : ℕ) (b : Before) (ps : List Expression) (ls : List Level) (e : Expression) (d : ℕ)
    (found : Result Leaf BodyFault)
    → with_leaf b ps ≡ map_ok (λ leaf. ps ++ (Asks leaf ∷ [])) found → Judged found d ps ls [] e
    → complete len (reading_of b ps ls) ls ≡ Ok e
judged_whole len b ps ls e d found is (leaf, fine, behind) =
    whole_is len b ps (ps ++ (Asks leaf ∷ [])) ls e d (is ∙ ap (map_ok (λ leaf. ps ++ (Asks leaf ∷ []))) fine) behind

nothing_spelled : (d : ℕ) (x : Expression) (more : List Placed) → Spells d x [] more → ⊥
nothing_spelled d (Asks leaf) more (inl (key, begins, alone)) = cc
nothing_spelled d (Asks leaf) more (inr (key, text, at, first, last, begins, equals, value, with)) = cc
nothing_spelled (suc d) (Every parts) more (inside, last, (opened, (at, begins), opens), spelled, close) = cc
nothing_spelled (suc d) (Some_of parts) more (inside, last, (opened, (at, begins), opens), spelled, close) = cc
nothing_spelled (suc d) (Negated x) more (inside, mid, last, (opened, (at, begins), opens), spelled, commas, close) = cc
nothing_spelled zero (Every parts) more spells = spells
nothing_spelled zero (Some_of parts) more spells = spells
nothing_spelled zero (Negated x) more spells = spells

none_fresh : (d : ℕ) (ps : List Expression) (ls : List Level) (e : Expression) → Fresh d ps ls [] e
    → Behind d ps ls [] e
none_fresh d ps ls e ([], end, is, ends) = ([], end, (0, is), ends)
none_fresh d ps ls e (x ∷ es, end, (more, spells, further), ends) = absurd (nothing_spelled d x more spells)

none_comma : (d : ℕ) (ps : List Expression) (ls : List Level) (e : Expression) → Comma d ps ls [] e
    → Behind d ps ls [] e
none_comma d ps ls e (mid, (zero, is), fresh) = none_fresh d ps ls e (subst (λ ms. Fresh d ps ls ms e) (sym is) fresh)
none_comma d ps ls e (mid, (suc n, (more, (at, is), commas)), fresh) = absurd (cc)

-- Where nothing more has to be spelled, all is read.
ended : (len : ℕ) (b : Before) (ps : List Expression) (ls : List Level) (e : Expression) (d : ℕ) → At b d ps ls [] e
    → finished len (reading_of b ps ls) ≡ Ok e
ended len Nothing ps ls e d (x, more, spells, behind) = absurd (nothing_spelled d x more spells)
ended len AfterOpen ps ls e d fresh = whole_is len AfterOpen ps ps ls e d refl (none_fresh d ps ls e fresh)
ended len AfterComma ps ls e d comma = whole_is len AfterComma ps ps ls e d refl (none_comma d ps ls e comma)
ended len AfterClose ps ls e d behind = whole_is len AfterClose ps ps ls e d refl behind
ended len (AfterKey key) ps ls e d (inl judged) = judged_whole len (AfterKey key) ps ls e d (leaf_alone key) refl judged
ended len (AfterKey key) ps ls e d (inr (more, (at, is), awaits)) = absurd (cc)
ended len (AfterEquals key) ps ls e d (text, at, rest, begins, judged) = absurd (cc)
ended len (AfterValue key value) ps ls e d judged =
    judged_whole len (AfterValue key value) ps ls e d (leaf_with key value) refl judged
ended len (AfterFunction f name) ps ls e d (room, inside, at, is, begins, fresh) = absurd (cc)

-- What is read at the end has one part.
abbrev IsWhole : Before → List Expression → List Level → Expression → Type 0
IsWhole b ps ls e = (ls ≡ []) × (with_leaf b ps ≡ Ok (e ∷ []))

root_is : (len : ℕ) (qs : List Expression) (e : Expression) → only_root len qs ≡ Ok e → qs ≡ e ∷ []
root_is len [] e is = absurd (cc)
root_is len (x ∷ []) e is = let same : x ≡ e = cc in ap (λ y. y ∷ []) same
root_is len (x ∷ y ∷ more) e is = absurd (cc)

found_root : (len : ℕ) (e : Expression) (found : Result (List Expression) BodyFault)
    → and_then (only_root len) found ≡ Ok e → found ≡ Ok (e ∷ [])
found_root len e (Err fault) is = absurd (cc)
found_root len e (Ok qs) is = ap ok_parts (root_is len qs e is)

complete_is : (len : ℕ) (b : Before) (ps : List Expression) (ls : List Level) (e : Expression)
    → complete len (reading_of b ps ls) ls ≡ Ok e → IsWhole b ps ls e
complete_is len b ps [] e is = (refl, found_root len e (with_leaf b ps) is)
complete_is len b ps (l ∷ ls) e is = absurd (cc)

bare : (ps : List Expression) (e : Expression) → ok_parts ps ≡ Ok (e ∷ []) → ps ≡ e ∷ []
bare ps e is = cc

at_whole : (d : ℕ) (ps : List Expression) (ls : List Level) (e : Expression) → ls ≡ [] → ps ≡ e ∷ []
    → Behind d ps ls [] e
at_whole d ps ls e is one =
    subst (λ l. Behind d ps l [] e) (sym is) (subst (λ q. Behind d q [] [] e) (sym one) (end_behind d e))

fresh_whole : (d : ℕ) (ps : List Expression) (ls : List Level) (e : Expression) → ls ≡ [] → ps ≡ e ∷ []
    → Fresh d ps ls [] e
fresh_whole d ps ls e is one =
    subst (λ l. Fresh d ps l [] e) (sym is) (subst (λ q. Fresh d q [] [] e) (sym one) ([], [], refl, (refl, refl)))

judged_end : (d : ℕ) (ps : List Expression) (ls : List Level) (e : Expression) (found : Result Leaf BodyFault) → ls ≡ []
    → map_ok (λ leaf. ps ++ (Asks leaf ∷ [])) found ≡ Ok (e ∷ []) → Judged found d ps ls [] e
judged_end d ps ls e (Err fault) none is = absurd (cc)
judged_end d ps ls e (Ok leaf) none is =
    let same : ps ++ (Asks leaf ∷ []) ≡ e ∷ [] = cc in (leaf, refl, at_whole d (ps ++ (Asks leaf ∷ [])) ls e none same)

was_ended : (len : ℕ) (b : Before) (ps : List Expression) (ls : List Level) (e : Expression) (d : ℕ) → HasRoom d b ps
    → finished len (reading_of b ps ls) ≡ Ok e → At b d ps ls [] e
was_ended len Nothing ps ls e d none is =
    let it = complete_is len Nothing ps ls e is in
    absurd (let clash : [] ≡ e ∷ [] = sym none ∙ bare ps e it.1 in cc)
was_ended len AfterOpen ps ls e d room is =
    let it = complete_is len AfterOpen ps ls e is in fresh_whole d ps ls e it.0 (bare ps e it.1)
was_ended len AfterComma ps ls e d room is =
    let it = complete_is len AfterComma ps ls e is in ([], (0, refl), fresh_whole d ps ls e it.0 (bare ps e it.1))
was_ended len AfterClose ps ls e d room is =
    let it = complete_is len AfterClose ps ls e is in at_whole d ps ls e it.0 (bare ps e it.1)
was_ended len (AfterKey key) ps ls e d room is =
    let it = complete_is len (AfterKey key) ps ls e is in inl (judged_end d ps ls e (leaf_alone key) it.0 it.1)
was_ended len (AfterValue key value) ps ls e d room is =
    let it = complete_is len (AfterValue key value) ps ls e is in judged_end d ps ls e (leaf_with key value) it.0 it.1
was_ended len (AfterEquals key) ps ls e d room is = absurd (cc)
was_ended len (AfterFunction f name) ps ls e d room is = absurd (cc)

at_end : (len n : ℕ) (r : Reading) → read_on len n r [] ≡ finished len r
at_end len zero r = refl
at_end len (suc n) r = refl

-- What is written is read.

abbrev Onward : Type 0
Onward = Result (Reading × List ℕ) BodyFault

advanced_is : (r : Reading) (text : List ℕ) (m : Mark) (rest : List ℕ) (at : Place) (next : Reading)
    → front text ≡ FrontMark m rest
    → at ≡ place (length text) (length rest) → step r m at ≡ Ok next
    → advanced r text ≡ (let found : Onward = Ok (next, trim_start rest) in found)
unfolding advanced
advanced_is r text m rest at next begins there stepped =
    let k = λ (n : Reading). let p : Reading × List ℕ = (n, trim_start rest) in p in
    ap (advanced_by r (length text)) begins ∙ ap (λ p. map_ok k (step r m p)) (sym there) ∙ ap (map_ok k) stepped

abbrev goes_on : ℕ → ℕ → Onward → Result Expression BodyFault
goes_on len n found = and_then (λ next. read_on len n next.0 next.1) found

written_read : (marks : List Placed) (len n : ℕ) (text : List ℕ) (r : Reading) (e : Expression) (d : ℕ)
    → length marks ≤ n → IsUtf8 text
    → Writes text marks → Room d r → Follows d r marks e → read_on len n r (trim_start text) ≡ Ok e
written_read [] len n text r e d below utf8 writes room follows =
    ap (read_on len n r) (all_skipped text writes) ∙ at_end len n r ∙ ended len r.before r.parts r.levels e d follows
written_read (m ∷ marks) len zero text r e d below utf8 writes room follows = absurd (omega (arith, below))
written_read (m ∷ marks) len (suc n) text r e d below utf8
    (blanks, spelling, rest, blank, spells, is, at, writes) room follows =
    let f = spelled_fronts m.mark spelling rest spells in
    let c = f.0 in
    let tail = f.1 ++ rest in
    let shape : spelling ++ rest ≡ c ∷ tail = ap (λ s. s ++ rest) f.2 in
    let whole : text ≡ blanks ++ (c ∷ tail) = is ∙ ap (λ l. blanks ++ l) shape in
    let skipped = blanks_skipped blanks tail c blank f.3 f.4 (subst IsUtf8 whole utf8) in
    let behind : IsUtf8 rest = f.6 (subst IsUtf8 (sym shape) skipped.1) in
    let go = step_goes r m.mark m.place marks e d room follows in
    let begins : front (c ∷ tail) ≡ FrontMark m.mark rest = ap front (sym shape) ∙ f.5 in
    let there : m.place ≡ place (length (c ∷ tail)) (length rest) =
    at ∙ ap (λ l. place (length l) (length rest)) shape in
    ap (read_on len (suc n) r) (ap trim_start whole ∙ skipped.0)
    ∙ ap (goes_on len n) (advanced_is r (c ∷ tail) m.mark rest m.place go.0 begins there go.2)
    ∙ written_read marks len n rest go.0 e go.1 (omega (arith, below)) behind writes go.3 go.4

few_marks : (marks : List Placed) (text : List ℕ) → Writes text marks → length marks ≤ length text
few_marks [] text writes = omega arith
few_marks (m ∷ marks) text (blanks, spelling, rest, blank, spells, is, at, writes) =
    let f = spelled_fronts m.mark spelling rest spells in
    let size : length text ≡ length blanks + length (spelling ++ rest) =
    ap length is ∙ length-append blanks (spelling ++ rest) in
    let inner : length (spelling ++ rest) ≡ length spelling + length rest = length-append spelling rest in
    let some : length spelling ≡ suc (length f.1) = ap length f.2 in
    let more = few_marks marks rest writes in
    omega (arith, size, inner, some, more)

pub body_is_read : (body : List ℕ) (e : Expression) → IsUtf8 body → IsBody body e → read_body body ≡ Ok e
body_is_read body e utf8 (marks, writes, (more, spells, commas)) =
    written_read marks (length body) (length body) body start e 128 (few_marks marks body writes) utf8 writes
    (refl, refl) (e, more, spells, ([], [], commas, (refl, refl)))

-- What is read is written.

abbrev Written : List ℕ → ℕ → Reading → Expression → Type 0
Written text d r e = (marks : List Placed) × Writes text marks × Follows d r marks e

-- What a reading goes on to, from which mark.
abbrev WentOn : Reading → List ℕ → Reading → List ℕ → Type 0
WentOn r text next left = (m : Mark) × (rest : List ℕ) × (front text ≡ FrontMark m rest)
    × (step r m (place (length text) (length rest)) ≡ Ok next) × (left ≡ trim_start rest)

by_step : (r : Reading) (text : List ℕ) (m : Mark) (rest : List ℕ) (p : Reading × List ℕ)
    (found : Result Reading BodyFault)
    → front text ≡ FrontMark m rest → step r m (place (length text) (length rest)) ≡ found
    → map_ok (λ (n : Reading). let q : Reading × List ℕ = (n, trim_start rest) in q) found ≡ Ok p
    → WentOn r text p.0 p.1
by_step r text m rest p (Err fault) begins is e = absurd (cc)
by_step r text m rest p (Ok next) begins is e =
    let same : (next, trim_start rest) ≡ p = cc in
    let first : next ≡ p.0 = ap (λ (q : Reading × List ℕ). q.0) same in
    let second : trim_start rest ≡ p.1 = ap (λ (q : Reading × List ℕ). q.1) same in
    (m, rest, begins, is ∙ ap (λ (n : Reading). let found : Result Reading BodyFault = Ok n in found) first, sym second)

by_front : (r : Reading) (text : List ℕ) (p : Reading × List ℕ) (f : Front) → front text ≡ f
    → advanced_by r (length text) f ≡ Ok p → WentOn r text p.0 p.1
by_front r text p (FrontMark m rest) is e =
    by_step r text m rest p (step r m (place (length text) (length rest))) is refl e
by_front r text p UnclosedFront is e = absurd (cc)
by_front r text p ForeignFront is e = absurd (cc)

went_on : (r : Reading) (text : List ℕ) (p : Reading × List ℕ) → advanced r text ≡ Ok p → WentOn r text p.0 p.1
unfolding advanced
went_on r text p e = by_front r text p (front text) refl e

abbrev Known : ℕ → ℕ → Type 0
Known len n = (text : List ℕ) (r : Reading) (e : Expression) (d : ℕ) → length (trim_start text) ≤ n
    → IsUtf8 text → Room d r
    → read_on len n r (trim_start text) ≡ Ok e → Written text d r e

pub no_longer : (text : List ℕ) → IsUtf8 text → length (trim_start text) ≤ length text
no_longer text utf8 =
    let it = split_blanks text utf8 in
    let size : length text ≡ length it.0 + length (trim_start text) =
    ap length it.2 ∙ length-append it.0 (trim_start text) in
    omega (arith, size)

one_written : (len n : ℕ) (text : List ℕ) (c : ℕ) (tail : List ℕ) (r : Reading) (e : Expression) (d : ℕ)
    (p : Reading × List ℕ)
    → Known len n → trim_start text ≡ c ∷ tail → length (c ∷ tail) ≤ suc n → IsUtf8 text → Room d r
    → advanced r (c ∷ tail) ≡ Ok p
    → read_on len n p.0 p.1 ≡ Ok e → Written text d r e
one_written len n text c tail r e d p known is below utf8 room moved read =
    let whole = c ∷ tail in
    let w = went_on r whole p moved in
    let m = w.0 in
    let rest = w.1 in
    let at = place (length whole) (length rest) in
    let begun = front_begun whole m rest w.2 in
    let spelling = begun.0 in
    let shape : whole ≡ spelling ++ rest = begun.2 in
    let it = split_blanks text utf8 in
    let f = spelled_fronts m spelling rest begun.1 in
    let behind : IsUtf8 rest = f.6 (subst IsUtf8 (is ∙ shape) it.3) in
    let came = step_came r m at p.0 d w.3 room in
    let size : length whole ≡ length spelling + length rest = ap length shape ∙ length-append spelling rest in
    let some : length spelling ≡ suc (length f.1) = ap length f.2 in
    let less = no_longer rest behind in
    let fits : length (trim_start rest) ≤ n = omega (arith, size, some, less, below) in
    let more = known rest p.0 e came.0 fits behind came.1 (ap (read_on len n p.0) (sym w.4) ∙ read) in (
      put m at ∷ more.0,
      (
        it.0,
        spelling,
        rest,
        it.1,
        begun.1,
        it.2
            ∙ ap (λ l. it.0 ++ l) (is ∙ shape),
        ap (λ l. place (length l) (length rest)) shape,
        more.1,
      ),
      came.2 more.0 e more.2,
    )

by_found : (len n : ℕ) (text : List ℕ) (c : ℕ) (tail : List ℕ) (r : Reading) (e : Expression) (d : ℕ) (found : Onward)
    → Known len n → trim_start text ≡ c ∷ tail → length (c ∷ tail) ≤ suc n → IsUtf8 text → Room d r
    → advanced r (c ∷ tail) ≡ found
    → goes_on len n found ≡ Ok e → Written text d r e
by_found len n text c tail r e d (Err fault) known is below utf8 room moved read = absurd (cc)
by_found len n text c tail r e d (Ok p) known is below utf8 room moved read =
    one_written len n text c tail r e d p known is below utf8 room moved read

none_written : (len n : ℕ) (text : List ℕ) (r : Reading) (e : Expression) (d : ℕ) → trim_start text ≡ []
    → IsUtf8 text → Room d r
    → finished len r ≡ Ok e → Written text d r e
none_written len n text r e d is utf8 room read =
    let it = split_blanks text utf8 in
    let same : text ≡ it.0 = it.2 ∙ ap (λ l. it.0 ++ l) is ∙ append-nil it.0 in
    ([], subst AreBlanks (sym same) it.1, was_ended len r.before r.parts r.levels e d room.1 read)

by_text : (len n : ℕ) (text left : List ℕ) (r : Reading) (e : Expression) (d : ℕ) → Known len n
    → trim_start text ≡ left → length left ≤ suc n
    → IsUtf8 text → Room d r → read_on len (suc n) r left ≡ Ok e → Written text d r e
by_text len n text [] r e d known is below utf8 room read = none_written len n text r e d is utf8 room read
by_text len n text (c ∷ tail) r e d known is below utf8 room read =
    by_found len n text c tail r e d (advanced r (c ∷ tail)) known is below utf8 room refl read

by_nothing : (len : ℕ) (text left : List ℕ) (r : Reading) (e : Expression) (d : ℕ) → trim_start text ≡ left
    → length left ≤ 0
    → IsUtf8 text → Room d r → read_on len 0 r left ≡ Ok e → Written text d r e
by_nothing len text [] r e d is below utf8 room read = none_written len 0 text r e d is utf8 room read
by_nothing len text (c ∷ tail) r e d is below utf8 room read = absurd (omega (arith, below))

read_written : (len n : ℕ) → Known len n
read_written len zero text r e d below utf8 room read =
    by_nothing len text (trim_start text) r e d refl below utf8 room read
read_written len (suc n) text r e d below utf8 room read =
    by_text len n text (trim_start text) r e d (read_written len n) refl below utf8 room read

only : (body : List ℕ) (e : Expression) (marks : List Placed) → Writes body marks → Part 128 [] [] marks e
    → IsBody body e
only body e marks writes (x, more, spells, ([], end, commas, (is, one))) =
    let same : x ≡ e = cc in (
      marks,
      writes,
      (
        more,
        subst (λ y. Spells 128 y marks more) same spells,
        subst
            (λ l. BeginsAnyCommas more l) is commas,
      ),
    )
only body e marks writes (x, more, spells, (y ∷ es, end, further, (is, one))) = absurd (cc)

pub read_is_body : (body : List ℕ) (e : Expression) → IsUtf8 body → read_body body ≡ Ok e → IsBody body e
read_is_body body e utf8 read =
    let it = read_written (length body) (length body) body start e 128 (no_longer body utf8) utf8 (refl, refl) read in
    only body e it.0 it.1 it.2
