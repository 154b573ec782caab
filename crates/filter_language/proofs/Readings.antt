-- What is read from marks is what they spell, and what is spelled is read.
use Rattle.std.proofs.Common.{◌≡◌, ◌≤◌, ◌<◌, ◌+◌, ℕ, zero, suc, nat_lt, Bool, true, false, ◌&&◌, List, [], ◌∷◌, Option, None, Some, refl, sym, ◌∙◌, ap, arith, if◌then◌else◌}
use Rattle.std.proofs.lemmas.Bool.Decides.{Decides-ltb}
use Rattle.std.specs.Option.{option_and_then}
use Rattle.filter_language.specs.Formula.{Formula, Asks, Negated, Both, Either, Without, Grouped}
use Rattle.filter_language.specs.Grammar.{Mark, Asked, NotMark, OpenMark, CloseMark, AndMark, OrMark, MinusMark, written, Loose, Joined, Tight, stands, Spells, nesting}
use Rattle.filter_language.specs.Reading.{Joint, Meets, Lacks, Left, Progress, Wanted, Complete, negated, joined, either, begun, once_more, beside, taken, closed, within, step, finished, run, read}

-- There is room for one more level.
room : {L : Type 0} (l : Left L) (p : Progress L) → l.around + l.nots < 128 → within l p ≡ Some p
room l p below = rw ((Decides-ltb (l.around + l.nots) 128).1 below) refl

first : (a b : Bool) → (a && b) ≡ true → a ≡ true
first true b e = refl
first false b e = e

second : (a b : Bool) → (a && b) ≡ true → b ≡ true
second true b e = e
second false b e = absurd (cc)

both : (a b : Bool) → a ≡ true → b ≡ true → (a && b) ≡ true
both a b x y = rw (x, y) refl

-- What is spelled is read.

-- What a written filter does to what was read, before any rest, where its levels have room.
abbrev ReadsTight : {L : Type 0} → Formula L → Type 0
ReadsTight {L} f = (l : Left L) (outer : List (Left L)) (rest : List (Mark L)) → l.around + l.nots + nesting f ≤ 128
    → run (Wanted l outer) (written f rest) ≡ run (taken l f outer) rest

abbrev ReadsJoined : {L : Type 0} → Formula L → Type 0
ReadsJoined {L} f = (n : ℕ) (k : Option (Formula L)) (outer : List (Left L)) (rest : List (Mark L))
    → n + nesting f ≤ 128
    → run (Wanted (begun n k) outer) (written f rest) ≡ run (Complete n f k outer) rest

abbrev ReadsLoose : {L : Type 0} → Formula L → Type 0
ReadsLoose {L} f = (n : ℕ) (outer : List (Left L)) → n + nesting f ≤ 128
    → (k : Option (Formula L)) × (g : Formula L) × (either k g ≡ f)
    × ((rest : List (Mark L)) → run (Wanted (begun n None) outer) (written f rest) ≡ run (Complete n g k outer) rest)

record IsRead {L : Type 0} (f : Formula L) : Type 0 where
  tight : stands Tight f ≡ true → ReadsTight f
  joint : stands Joined f ≡ true → ReadsJoined f
  loose : stands Loose f ≡ true → ReadsLoose f

-- What is read beside `and` is read anywhere.
of_joint : {L : Type 0} (f : Formula L) → ReadsJoined f → ReadsLoose f
of_joint f h n outer fits = (None, f, refl, λ rest. h n None outer rest fits)

-- What is read beside `not` is read beside `and`.
of_tight : {L : Type 0} (f : Formula L) → ReadsTight f → ReadsJoined f
of_tight f h n k outer rest fits = h (begun n k) outer rest (omega (arith, fits))

-- Behind a `not`.
negated_read : {L : Type 0} (a : Formula L) → ReadsTight a → ReadsTight (Negated a)
negated_read a h l outer rest fits =
    ap (option_and_then (λ next. run next (written a rest))) (room l (Wanted (once_more l) outer) (omega (arith, fits)))
    ∙ h (once_more l) outer rest (omega (arith, fits))

-- In parentheses.
grouped : {L : Type 0} (a : Formula L) → ReadsLoose a → ReadsTight (Grouped a)
grouped a h l outer rest fits =
    let it = h (suc (l.around + l.nots)) (l ∷ outer) (omega (arith, fits)) in
    ap (option_and_then (λ next. run next (written a (CloseMark ∷ rest))))
    (room l (Wanted (begun (suc (l.around + l.nots)) None) (l ∷ outer)) (omega (arith, fits)))
    ∙ it.3 (CloseMark ∷ rest)
    ∙ ap (λ g. run (taken l (Grouped g) outer) rest) it.2

-- Beside `and` and `-`.
met : {L : Type 0} (a b : Formula L) → IsRead a → IsRead b → (stands Joined a && stands Tight b) ≡ true
    → ReadsJoined (Both a b)
met a b x y both_stand n k outer rest fits =
    x.joint (first _ _ both_stand) n k outer (AndMark ∷ written b rest) (omega (arith, fits))
    ∙ y.tight (second _ _ both_stand) (beside n Meets a k) outer rest (omega (arith, fits))

lacked : {L : Type 0} (a b : Formula L) → IsRead a → IsRead b → (stands Joined a && stands Tight b) ≡ true
    → ReadsJoined (Without a b)
lacked a b x y both_stand n k outer rest fits =
    x.joint (first _ _ both_stand) n k outer (MinusMark ∷ written b rest) (omega (arith, fits))
    ∙ y.tight (second _ _ both_stand) (beside n Lacks a k) outer rest (omega (arith, fits))

-- Beside `or`.
chosen : {L : Type 0} (a b : Formula L) → IsRead a → IsRead b → (stands Loose a && stands Joined b) ≡ true
    → ReadsLoose (Either a b)
chosen a b x y both_stand n outer fits =
    let it = x.loose (first _ _ both_stand) n outer (omega (arith, fits)) in (
      Some a,
      b,
      refl,
      λ rest.
          it.3 (OrMark ∷ written b rest)
          ∙ ap (λ f. run (Wanted (begun n (Some f)) outer) (written b rest)) it.2
          ∙ y.joint (second _ _ both_stand) n (Some a) outer rest (omega (arith, fits)),
    )

is_read : {L : Type 0} (f : Formula L) → IsRead f
is_read (Asks q) = record {
  tight = λ _ l outer rest _. refl;
  joint = λ _ n k outer rest _. refl;
  loose = λ _. of_joint (Asks q) (λ n k outer rest _. refl);
}
is_read (Negated a) = record {
  tight = λ fits. negated_read a ((is_read a).tight fits);
  joint = λ fits. of_tight (Negated a) (negated_read a ((is_read a).tight fits));
  loose = λ fits. of_joint (Negated a) (of_tight (Negated a) (negated_read a ((is_read a).tight fits)));
}
is_read (Grouped a) = record {
  tight = λ fits. grouped a ((is_read a).loose fits);
  joint = λ fits. of_tight (Grouped a) (grouped a ((is_read a).loose fits));
  loose = λ fits. of_joint (Grouped a) (of_tight (Grouped a) (grouped a ((is_read a).loose fits)));
}
is_read (Both a b) = record {
  tight = λ no. absurd (cc);
  joint = met a b (is_read a) (is_read b);
  loose = λ fits. of_joint (Both a b) (met a b (is_read a) (is_read b) fits);
}
is_read (Without a b) = record {
  tight = λ no. absurd (cc);
  joint = lacked a b (is_read a) (is_read b);
  loose = λ fits. of_joint (Without a b) (lacked a b (is_read a) (is_read b) fits);
}
is_read (Either a b) = record
    { tight = λ no. absurd (cc); joint = λ no. absurd (cc); loose = chosen a b (is_read a) (is_read b) }

pub spelled_is_read : {L : Type 0} (marks : List (Mark L)) (f : Formula L) → Spells marks f → nesting f ≤ 128
    → read marks ≡ Some f
spelled_is_read marks f spells fits =
    let it = (is_read f).loose spells.1 0 [] (omega (arith, fits)) in
    ap read (sym spells.0) ∙ it.3 [] ∙ ap Some it.2

-- What is read is what is spelled.

-- What was read so far, before a rest.
abbrev shown_or : {L : Type 0} → Option (Formula L) → List (Mark L) → List (Mark L)
shown_or None rest = rest
shown_or (Some a) rest = written a (OrMark ∷ rest)

abbrev shown_joint : {L : Type 0} → Option (Joint × Formula L) → List (Mark L) → List (Mark L)
shown_joint None rest = rest
shown_joint (Some (Meets, a)) rest = written a (AndMark ∷ rest)
shown_joint (Some (Lacks, a)) rest = written a (MinusMark ∷ rest)

abbrev shown_nots : {L : Type 0} → ℕ → List (Mark L) → List (Mark L)
shown_nots zero rest = rest
shown_nots (suc n) rest = shown_nots n (NotMark ∷ rest)

abbrev shown_left : {L : Type 0} → Left L → List (Mark L) → List (Mark L)
shown_left l rest = shown_or l.alternative (shown_joint l.joint (shown_nots l.nots rest))

abbrev shown_outer : {L : Type 0} → List (Left L) → List (Mark L) → List (Mark L)
shown_outer [] rest = rest
shown_outer (l ∷ outer) rest = shown_outer outer (shown_left l (OpenMark ∷ rest))

abbrev shown : {L : Type 0} → Progress L → List (Mark L) → List (Mark L)
shown (Wanted l outer) rest = shown_outer outer (shown_left l rest)
shown (Complete n f k outer) rest = shown_outer outer (shown_or k (written f rest))

-- What was read so far may be where it is, and nests within the bound.
abbrev or_stands : {L : Type 0} → Option (Formula L) → Bool
or_stands None = true
or_stands (Some a) = stands Loose a

abbrev or_nests : {L : Type 0} → Option (Formula L) → ℕ
or_nests None = 0
or_nests (Some a) = nesting a

abbrev joint_stands : {L : Type 0} → Option (Joint × Formula L) → Bool
joint_stands None = true
joint_stands (Some j) = stands Joined j.1

abbrev joint_nests : {L : Type 0} → Option (Joint × Formula L) → ℕ
joint_nests None = 0
joint_nests (Some j) = nesting j.1

record IsFineLeft {L : Type 0} (l : Left L) : Type 0 where
  alternative : or_stands l.alternative ≡ true
  joint : joint_stands l.joint ≡ true
  alternative_fits : l.around + or_nests l.alternative ≤ 128
  joint_fits : l.around + joint_nests l.joint ≤ 128
  nots_fit : l.around + l.nots ≤ 128

abbrev AreFine : {L : Type 0} → ℕ → List (Left L) → Type 0
AreFine n [] = n ≡ 0
AreFine n (l ∷ outer) = (n ≡ suc (l.around + l.nots)) × IsFineLeft l × AreFine l.around outer

record IsFineOperand {L : Type 0} (n : ℕ) (f : Formula L) (k : Option (Formula L)) : Type 0 where
  operand : stands Joined f ≡ true
  alternative : or_stands k ≡ true
  operand_fits : n + nesting f ≤ 128
  alternative_fits : n + or_nests k ≤ 128

abbrev IsFine : {L : Type 0} → Progress L → Type 0
IsFine (Wanted l outer) = IsFineLeft l × AreFine l.around outer
IsFine (Complete n f k outer) = IsFineOperand n f k × AreFine n outer

tight_joined : {L : Type 0} (f : Formula L) → stands Tight f ≡ true → stands Joined f ≡ true
tight_joined (Asks q) e = e
tight_joined (Negated a) e = e
tight_joined (Grouped a) e = e
tight_joined (Both a b) e = absurd (cc)
tight_joined (Without a b) e = absurd (cc)
tight_joined (Either a b) e = absurd (cc)

joined_loose : {L : Type 0} (f : Formula L) → stands Joined f ≡ true → stands Loose f ≡ true
joined_loose (Asks q) e = e
joined_loose (Negated a) e = e
joined_loose (Grouped a) e = e
joined_loose (Both a b) e = e
joined_loose (Without a b) e = e
joined_loose (Either a b) e = absurd (cc)

negated_stands : {L : Type 0} (n : ℕ) (f : Formula L) → stands Tight f ≡ true → stands Tight (negated n f) ≡ true
negated_stands zero f e = e
negated_stands (suc n) f e = negated_stands n (Negated f) e

negated_nests : {L : Type 0} (n : ℕ) (f : Formula L) → nesting (negated n f) ≡ n + nesting f
negated_nests zero f = omega arith
negated_nests (suc n) f = let it = negated_nests n (Negated f) in omega (arith, it)

negated_shown : {L : Type 0} (n : ℕ) (f : Formula L) (rest : List (Mark L))
    → written (negated n f) rest ≡ shown_nots n (written f rest)
negated_shown zero f rest = refl
negated_shown (suc n) f rest = negated_shown n (Negated f) rest

joint_may_stand : {L : Type 0} (j : Option (Joint × Formula L)) (f : Formula L) → joint_stands j ≡ true
    → stands Tight f ≡ true → stands Joined (joined j f) ≡ true
joint_may_stand None f x y = tight_joined f y
joint_may_stand (Some (Meets, a)) f x y = both _ _ x y
joint_may_stand (Some (Lacks, a)) f x y = both _ _ x y

joint_within : {L : Type 0} (n : ℕ) (j : Option (Joint × Formula L)) (f : Formula L) → n + joint_nests j ≤ 128
    → n + nesting f ≤ 128 → n + nesting (joined j f) ≤ 128
joint_within n None f x y = y
joint_within n (Some (Meets, a)) f x y = omega (arith, x, y)
joint_within n (Some (Lacks, a)) f x y = omega (arith, x, y)

joint_shown : {L : Type 0} (j : Option (Joint × Formula L)) (f : Formula L) (rest : List (Mark L))
    → written (joined j f) rest ≡ shown_joint j (written f rest)
joint_shown None f rest = refl
joint_shown (Some (Meets, a)) f rest = refl
joint_shown (Some (Lacks, a)) f rest = refl

either_may_stand : {L : Type 0} (k : Option (Formula L)) (f : Formula L) → or_stands k ≡ true
    → stands Joined f ≡ true → stands Loose (either k f) ≡ true
either_may_stand None f x y = joined_loose f y
either_may_stand (Some a) f x y = both _ _ x y

either_within : {L : Type 0} (n : ℕ) (k : Option (Formula L)) (f : Formula L) → n + or_nests k ≤ 128
    → n + nesting f ≤ 128 → n + nesting (either k f) ≤ 128
either_within n None f x y = y
either_within n (Some a) f x y = omega (arith, x, y)

either_shown : {L : Type 0} (k : Option (Formula L)) (f : Formula L) (rest : List (Mark L))
    → written (either k f) rest ≡ shown_or k (written f rest)
either_shown None f rest = refl
either_shown (Some a) f rest = refl

-- An operand that is taken.
abbrev Follows : {L : Type 0} → Progress L → (List (Mark L) → List (Mark L)) → Type 0
Follows {L} q before = IsFine q × ((rest : List (Mark L)) → shown q rest ≡ before rest)

taken_follows : {L : Type 0} (l : Left L) (f : Formula L) (outer : List (Left L)) → IsFineLeft l
    → stands Tight f ≡ true → l.around + l.nots + nesting f ≤ 128 → AreFine l.around outer
    → Follows (taken l f outer) (λ rest. shown_outer outer (shown_left l (written f rest)))
taken_follows l f outer fine fits below around =
    let nests = negated_nests l.nots f in (
      (
        record {
          operand = joint_may_stand l.joint (negated l.nots f) fine.joint (negated_stands l.nots f fits);
          alternative = fine.alternative;
          operand_fits = joint_within l.around l.joint (negated l.nots f) fine.joint_fits (omega (arith, below, nests));
          alternative_fits = fine.alternative_fits;
        },
        around,
      ),
      λ rest. ap (λ marks. shown_outer outer (shown_or l.alternative marks))
          (joint_shown l.joint (negated l.nots f) rest ∙ ap (shown_joint l.joint) (negated_shown l.nots f rest)),
    )

abbrev Steps : {L : Type 0} → Progress L → Mark L → Progress L → Type 0
Steps p m q = Follows q (λ rest. shown p (m ∷ rest))

closed_steps : {L : Type 0} (n : ℕ) (f : Formula L) (k : Option (Formula L)) (outer : List (Left L))
    (q : Progress L) → IsFineOperand n f k → AreFine n outer
    → closed (either k f) outer ≡ Some q → Steps (Complete n f k outer) CloseMark q
closed_steps n f k [] q fine around got = absurd (cc)
closed_steps n f k (l ∷ outer) q fine around got =
    let same : taken l (Grouped (either k f)) outer ≡ q = cc in
    let deep = around.0 in
    let nests = either_within n k f fine.alternative_fits fine.operand_fits in
    let it = taken_follows l (Grouped (either k f)) outer around.1
    (either_may_stand k f fine.alternative fine.operand) (omega (arith, deep, nests)) around.2 in
    rw (sym same) (
      it.0,
      λ rest. it.1 rest
          ∙ ap (λ marks. shown_outer outer (shown_left l (OpenMark ∷ marks))) (either_shown k f (CloseMark ∷ rest)),
    )

-- A level is opened within the bound.
within_is : {L : Type 0} (l : Left L) (next q : Progress L) (b : Bool) → nat_lt (l.around + l.nots) 128 ≡ b
    → (if b then Some next else None) ≡ Some q
    → (next ≡ q) × (l.around + l.nots < 128)
within_is l next q true is got = (cc, (Decides-ltb (l.around + l.nots) 128).0 is)
within_is l next q false is got = absurd (cc)

not_steps : {L : Type 0} (l : Left L) (outer : List (Left L)) (q : Progress L)
    → within l (Wanted (once_more l) outer) ≡ Some q → IsFine (Wanted l outer) → Steps (Wanted l outer) NotMark q
not_steps l outer q got fine =
    let it = within_is l (Wanted (once_more l) outer) q _ refl got in
    let below = it.1 in
    rw (sym it.0) (
      (
        record {
          alternative = fine.0.alternative;
          joint = fine.0.joint;
          alternative_fits = fine.0.alternative_fits;
          joint_fits = fine.0.joint_fits;
          nots_fit = omega (arith, below);
        },
        fine.1,
      ),
      λ rest. refl,
    )

open_steps : {L : Type 0} (l : Left L) (outer : List (Left L)) (q : Progress L)
    → within l (Wanted (begun (suc (l.around + l.nots)) None) (l ∷ outer)) ≡ Some q → IsFine (Wanted l outer)
    → Steps (Wanted l outer) OpenMark q
open_steps l outer q got fine =
    let it = within_is l (Wanted (begun (suc (l.around + l.nots)) None) (l ∷ outer)) q _ refl got in
    let below = it.1 in
    rw (sym it.0) (
      (
        record {
          alternative = refl;
          joint = refl;
          alternative_fits = omega (arith, below);
          joint_fits = omega (arith, below);
          nots_fit = omega (arith, below);
        },
        (refl, fine.0, fine.1),
      ),
      λ rest. refl,
    )

joined_steps : {L : Type 0} (n : ℕ) (j : Joint) (f : Formula L) (k : Option (Formula L)) → IsFineOperand n f k
    → IsFineLeft (beside n j f k)
joined_steps n j f k fine =
    let fits = fine.operand_fits in
    record {
      alternative = fine.alternative;
      joint = fine.operand;
      alternative_fits = fine.alternative_fits;
      joint_fits = fits;
      nots_fit = omega (arith, fits);
    }

or_steps : {L : Type 0} (n : ℕ) (f : Formula L) (k : Option (Formula L)) → IsFineOperand n f k
    → IsFineLeft (begun n (Some (either k f)))
or_steps n f k fine =
    let fits = fine.operand_fits in
    record {
      alternative = either_may_stand k f fine.alternative fine.operand;
      joint = refl;
      alternative_fits = either_within n k f fine.alternative_fits fine.operand_fits;
      joint_fits = omega (arith, fits);
      nots_fit = omega (arith, fits);
    }

step_steps : {L : Type 0} (p : Progress L) (m : Mark L) (q : Progress L) → step p m ≡ Some q → IsFine p → Steps p m q
step_steps (Wanted l outer) (Asked a) q got fine =
    let same : taken l (Asks a) outer ≡ q = cc in
    let fits = fine.0.nots_fit in
    rw (sym same) (taken_follows l (Asks a) outer fine.0 refl (omega (arith, fits)) fine.1)
step_steps (Wanted l outer) NotMark q got fine = not_steps l outer q got fine
step_steps (Wanted l outer) OpenMark q got fine = open_steps l outer q got fine
step_steps (Wanted l outer) CloseMark q got fine = absurd (cc)
step_steps (Wanted l outer) AndMark q got fine = absurd (cc)
step_steps (Wanted l outer) OrMark q got fine = absurd (cc)
step_steps (Wanted l outer) MinusMark q got fine = absurd (cc)
step_steps (Complete n f k outer) AndMark q got fine =
    let same : Wanted (beside n Meets f k) outer ≡ q = cc in
    rw (sym same) ((joined_steps n Meets f k fine.0, fine.1), λ rest. refl)
step_steps (Complete n f k outer) MinusMark q got fine =
    let same : Wanted (beside n Lacks f k) outer ≡ q = cc in
    rw (sym same) ((joined_steps n Lacks f k fine.0, fine.1), λ rest. refl)
step_steps (Complete n f k outer) OrMark q got fine =
    let same : Wanted (begun n (Some (either k f))) outer ≡ q = cc in
    rw (sym same) ((or_steps n f k fine.0, fine.1), λ rest. ap (shown_outer outer) (either_shown k f (OrMark ∷ rest)))
step_steps (Complete n f k outer) CloseMark q got fine = closed_steps n f k outer q fine.0 fine.1 got
step_steps (Complete n f k outer) (Asked a) q got fine = absurd (cc)
step_steps (Complete n f k outer) NotMark q got fine = absurd (cc)
step_steps (Complete n f k outer) OpenMark q got fine = absurd (cc)

record Ends {L : Type 0} (p : Progress L) (marks : List (Mark L)) (f : Formula L) : Type 0 where
  shows : written f [] ≡ shown p marks
  may_stand : stands Loose f ≡ true
  fits : nesting f ≤ 128

finished_ends : {L : Type 0} (p : Progress L) (f : Formula L) → finished p ≡ Some f → IsFine p → Ends p [] f
finished_ends (Wanted l outer) f got fine = absurd (cc)
finished_ends (Complete n g k (l ∷ outer)) f got fine = absurd (cc)
finished_ends (Complete n g k []) f got fine =
    let same : either k g ≡ f = cc in
    let nests = either_within n k g fine.0.alternative_fits fine.0.operand_fits in
    rw (sym same) (record {
      shows = either_shown k g [];
      may_stand = either_may_stand k g fine.0.alternative fine.0.operand;
      fits = omega (arith, nests);
    })

next_ends : {L : Type 0} (marks : List (Mark L)) (p : Progress L) (m : Mark L) (f : Formula L)
    (next : Option (Progress L)) → step p m ≡ next
    → ((q : Progress L) (g : Formula L) → run q marks ≡ Some g → IsFine q → Ends q marks g)
    → option_and_then (λ q. run q marks) next ≡ Some f → IsFine p → Ends p (m ∷ marks) f
next_ends marks p m f None is known got fine = absurd (cc)
next_ends marks p m f (Some q) is known got fine =
    let to = step_steps p m q is fine in
    let it = known q f got to.0 in
    record { shows = it.shows ∙ to.1 marks; may_stand = it.may_stand; fits = it.fits }

run_ends : {L : Type 0} (marks : List (Mark L)) (p : Progress L) (f : Formula L) → run p marks ≡ Some f
    → IsFine p → Ends p marks f
run_ends [] p f got fine = finished_ends p f got fine
run_ends (m ∷ marks) p f got fine = next_ends marks p m f (step p m) refl (run_ends marks) got fine

start_fine : {L : Type 0} → IsFineLeft {L = L} (begun 0 None)
start_fine = record {
  alternative = refl;
  joint = refl;
  alternative_fits = omega arith;
  joint_fits = omega arith;
  nots_fit = omega arith;
}

pub read_is_spelled : {L : Type 0} (marks : List (Mark L)) (f : Formula L) → read marks ≡ Some f
    → Spells marks f × (nesting f ≤ 128)
read_is_spelled marks f got =
    let it = run_ends marks (Wanted (begun 0 None) []) f got (start_fine, refl) in
    ((it.shows, it.may_stand), it.fits)
