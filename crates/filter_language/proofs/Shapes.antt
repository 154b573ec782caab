-- Marks that may each stand where they do, up to where a filter may end, spell a filter.
use Rattle.std.proofs.Common.{◌≡◌, ◌≤◌, ◌<◌, ◌+◌, ◌-◌, ◌^◌, ℕ, suc, min, length, nat_lt, Bool, true, false, List, [], ◌∷◌, ◌++◌, Option, None, Some, map, refl, ◌∙◌, ap, arith, if◌then◌else◌}
use Rattle.std.specs.Bool.{Decides}
use Rattle.std.specs.List.{fold}
use Rattle.std.proofs.lemmas.Bool.Decides.{same_from_decides, Decides-ltb}
use Rattle.std.specs.Option.{option_and_then}
use Rattle.filter_language.specs.Formula.{Formula}
use Rattle.filter_language.specs.Grammar.{Mark, Asked, NotMark, OpenMark, CloseMark, AndMark, OrMark, MinusMark, Spells, nesting}
use Rattle.filter_language.specs.Reading.{Left, Progress, Wanted, Complete, begun, once_more, either, within, step, finished, run}
use Rattle.filter_language.specs.Nesting.{Shape, start_shape, shape_step, shape_behind, MayEnd}
use Rattle.filter_language.proofs.Readings.{read_is_spelled}

-- What is open where marks were read so far.
abbrev pub shape_of : {L : Type 0} → Progress L → Shape
shape_of (Wanted l outer) = record { around = l.around; nots = l.nots; wants = true; outer = map (λ k. k.around) outer }
shape_of (Complete n f k outer) = record { around = n; nots = 0; wants = false; outer = map (λ k. k.around) outer }

-- A mark that may be there is read.
abbrev Reads : {L : Type 0} → Progress L → Mark L → Shape → Type 0
Reads {L} p m s = (q : Progress L) × (step p m ≡ Some q) × (shape_of q ≡ s)

reads_within : {L : Type 0} (l : Left L) (q : Progress L) (next s : Shape) (b : Bool)
    → nat_lt (l.around + l.nots) 128 ≡ b → shape_of q ≡ next
    → (if b then Some next else None) ≡ Some s → (within l q ≡ Some q) × (shape_of q ≡ s)
reads_within l q next s true is same got = (rw is refl, same ∙ (let e : next ≡ s = cc in e))
reads_within l q next s false is same got = absurd (cc)

reads : {L : Type 0} (p : Progress L) (m : Mark L) (s : Shape) → shape_step (shape_of p) m ≡ Some s → Reads p m s
reads (Wanted l outer) (Asked q) s got = (
  _,
  refl,
  (let e : record
      { around = l.around; nots = 0; wants = false; outer = map (λ k. k.around) outer } ≡ s = cc in e),
)
reads (Wanted l outer) NotMark s got =
    let it = reads_within l (Wanted (once_more l) outer) _ s _ refl refl got in (Wanted (once_more l) outer, it.0, it.1)
reads (Wanted l outer) OpenMark s got =
    let it = reads_within l (Wanted (begun (suc (l.around + l.nots)) None) (l ∷ outer)) _ s _ refl refl got in
    (Wanted (begun (suc (l.around + l.nots)) None) (l ∷ outer), it.0, it.1)
reads (Wanted l outer) CloseMark s got = absurd (cc)
reads (Wanted l outer) AndMark s got = absurd (cc)
reads (Wanted l outer) OrMark s got = absurd (cc)
reads (Wanted l outer) MinusMark s got = absurd (cc)
reads (Complete n f k outer) AndMark s got = (_, refl, cc)
reads (Complete n f k outer) OrMark s got = (_, refl, cc)
reads (Complete n f k outer) MinusMark s got = (_, refl, cc)
reads (Complete n f k []) CloseMark s got = absurd (cc)
reads (Complete n f k (l ∷ outer)) CloseMark s got = (_, refl, cc)
reads (Complete n f k outer) (Asked q) s got = absurd (cc)
reads (Complete n f k outer) NotMark s got = absurd (cc)
reads (Complete n f k outer) OpenMark s got = absurd (cc)

-- A filter that may end is complete.
ends : {L : Type 0} (p : Progress L) (s : Shape) → shape_of p ≡ s → MayEnd s → (f : Formula L) × (finished p ≡ Some f)
ends (Wanted l outer) s is end = absurd (let clash : true ≡ false = ap (λ (t : Shape). t.wants) is ∙ end.0 in cc)
ends (Complete n f k []) s is end = (either k f, refl)
ends (Complete n f k (l ∷ outer)) s is end =
    absurd (let clash : l.around ∷ map (λ k. k.around) outer ≡ [] = ap (λ (t : Shape). t.outer) is ∙ end.1 in cc)

-- A mark and those behind it.
runs_on : {L : Type 0} (marks : List (Mark L)) (p : Progress L) (m : Mark L) (s : Shape) (next : Option Shape)
    → shape_step (shape_of p) m ≡ next
    → ((q : Progress L) → shape_behind (shape_of q) marks ≡ Some s → (f : Formula L) × (run q marks ≡ Some f))
    → option_and_then (λ t. shape_behind t marks) next ≡ Some s → (f : Formula L) × (run p (m ∷ marks) ≡ Some f)
runs_on marks p m s None is known got = absurd (cc)
runs_on marks p m s (Some t) is known got =
    let it = reads p m t is in
    let more = known it.0 (ap (λ u. shape_behind u marks) it.2 ∙ got) in
    (more.0, ap (option_and_then (λ next. run next marks)) it.1 ∙ more.1)

runs : {L : Type 0} (marks : List (Mark L)) (p : Progress L) (s : Shape)
    → shape_behind (shape_of p) marks ≡ Some s → MayEnd s → (f : Formula L) × (run p marks ≡ Some f)
runs [] p s got end = ends p s (cc) end
runs (m ∷ marks) p s got end =
    runs_on marks p m s (shape_step (shape_of p) m) refl (λ q more. runs marks q s more end) got

pub may_end_spells : {L : Type 0} (marks : List (Mark L)) (s : Shape)
    → shape_behind start_shape marks ≡ Some s → MayEnd s → (f : Formula L) × Spells marks f × (nesting f ≤ 128)
may_end_spells marks s got end =
    let it = runs marks (Wanted (begun 0 None) []) s got end in
    let spelled = read_is_spelled marks it.0 it.1 in
    (it.0, spelled.0, spelled.1)

-- One more mark behind others.
one_behind : {L : Type 0} (marks : List (Mark L)) (m : Mark L) (t u : Shape) (found : Option Shape)
    → ((s : Shape) → shape_behind s marks ≡ Some t → shape_behind s (marks ++ m ∷ []) ≡ Some u)
    → option_and_then (λ v. shape_behind v marks) found ≡ Some t
    → option_and_then (λ v. shape_behind v (marks ++ m ∷ [])) found ≡ Some u
one_behind marks m t u None known is = absurd (cc)
one_behind marks m t u (Some v) known is = known v is

one_more_mark : {L : Type 0} (marks : List (Mark L)) (m : Mark L) (s t u : Shape)
    → shape_behind s marks ≡ Some t → shape_step t m ≡ Some u
    → shape_behind s (marks ++ m ∷ []) ≡ Some u
one_more_mark {L} [] m s t u is next =
    let same : s ≡ t = cc in
    let none : List (Mark L) = [] in
    ap (λ v. option_and_then (λ w. shape_behind w none) (shape_step v m)) same
    ∙ ap (option_and_then (λ w. shape_behind w none)) next
one_more_mark (n ∷ marks) m s t u is next =
    one_behind marks m t u (shape_step s n) (λ v more. one_more_mark marks m v t u more next) is

pub map_push : {M L : Type 0} (view : M → L) (marks : List M) (m : M)
    → map view (marks ++ m ∷ []) ≡ map view marks ++ view m ∷ []
map_push view [] m = refl
map_push view (n ∷ marks) m = ap (λ l. view n ∷ l) (map_push view marks m)

-- One more mark of those in memory.
pub one_more_kept : {M L : Type 0} (view : M → Mark L) (marks more : List M) (m : M) (s t u : Shape)
    → more ≡ marks ++ m ∷ []
    → shape_behind s (map view marks) ≡ Some t → shape_step t (view m) ≡ Some u
    → shape_behind s (map view more) ≡ Some u
one_more_kept view marks more m s t u is before next =
    ap (λ l. shape_behind s (map view l)) is ∙ ap (shape_behind s) (map_push view marks m)
    ∙ one_more_mark (map view marks) (view m) s t u before next

-- A sum that stops at the largest number is below the bound where the sum is.
pub room_is : (a b : ℕ) → nat_lt (min (a + b) (2 ^ 64 - 1)) 128 ≡ nat_lt (a + b) 128
room_is a b = same_from_decides _ _ (Decides-ltb (min (a + b) (2 ^ 64 - 1)) 128) (below (Decides-ltb (a + b) 128))
  where
    below : Decides (nat_lt (a + b) 128) (a + b < 128) → Decides (nat_lt (a + b) 128) (min (a + b) (2 ^ 64 - 1) < 128)
    below d = (λ e. (let h = d.0 e in omega (arith, h)), λ h. d.1 (omega (arith, h)))

-- Levels that were put one on the other have an innermost.
innermost : (a : ℕ) (acc items : List ℕ)
    → (b : ℕ) × (more : List ℕ) × (fold (λ outer x. x ∷ outer) (a ∷ acc) items ≡ b ∷ more)
innermost a acc [] = (a, acc, refl)
innermost a acc (c ∷ items) = innermost c (a ∷ acc) items

pub inside_some : (items : List ℕ) → 0 < length items
    → (b : ℕ) × (more : List ℕ) × (fold (λ outer x. x ∷ outer) [] items ≡ b ∷ more)
inside_some [] some = absurd (omega (arith, some))
inside_some (a ∷ items) some = innermost a [] items
