-- The first namings by texts, with more names.
use Rattle.std.proofs.Common.{◌≡◌, ◌++◌, ℕ, Bool, true, false, cond, List, [], ◌∷◌, Option, None, Some, is_some, option_map, String, refl, sym, ap, ◌∙◌, subst, true≢false}
use Rattle.std.specs.BTreeMap.{BTreeMap, get_by_text}
use Rattle.std.specs.List.{find}
use Rattle.std.specs.Str.{bytes_eq}
use Rattle.std.specs.declared.alloc.Global.{Global}
use Rattle.std.proofs.lemmas.Slice.Eq.{bytes_eq-Decides}
use Rattle.rinqebo_faults.specs.FileNamings.{Adds, NamePlace, RuleName, first_place, has_mark, naming_place, one_name, or_place}
use Rattle.rinqebo_faults.specs.declared.namings.Naming.{Naming}

abbrev Map : Type 0
Map = BTreeMap (String Global) Naming

none_more : (o : Option NamePlace) → o ≡ or_place o None
none_more None = refl
none_more (Some x) = refl

-- no names more
pub adds_none : (map : Map) → Adds map map []
adds_none map = λ mark. none_more (option_map naming_place (get_by_text map mark))

place_of_found : (b : Bool) (name : RuleName) (o : Option RuleName)
    → option_map (λ n. n.place) (cond b (Some name) o) ≡ cond b (Some name.place) (option_map (λ n. n.place) o)
place_of_found true name o = refl
place_of_found false name o = refl

first_here : (b : Bool) (x : NamePlace) (o : Option NamePlace) → cond b (Some x) o ≡ or_place (cond b (Some x) None) o
first_here true x o = refl
first_here false x None = refl
first_here false x (Some y) = refl

or_assoc : (a b c : Option NamePlace) → or_place (or_place a b) c ≡ or_place a (or_place b c)
or_assoc None b c = refl
or_assoc (Some x) b c = refl

-- the first of some names and of more
pub first_append : (mark : List ℕ) (names more : List RuleName)
    → first_place mark (names ++ more) ≡ or_place (first_place mark names) (first_place mark more)
first_append mark [] more = refl
first_append mark (name ∷ names) more =
    let b = has_mark mark name in
    place_of_found b name (find (has_mark mark) (names ++ more))
    ∙ ap (cond b (Some name.place)) (first_append mark names more)
    ∙ first_here b name.place (or_place (first_place mark names) (first_place mark more))
    ∙ sym (or_assoc (cond b (Some name.place) None) (first_place mark names) (first_place mark more))
    ∙ ap (λ o. or_place o (first_place mark more))
    (sym (place_of_found b name (find (has_mark mark) names)
    ∙ first_here b name.place (first_place mark names)))

-- some names more, and then others
pub adds_more : (one two three : Map) (names more : List RuleName)
    → Adds one two names → Adds two three more → Adds one three (names ++ more)
adds_more one two three names more first second = λ mark.
    second mark ∙ ap (λ o. or_place o (first_place mark more)) (first mark)
    ∙ or_assoc (option_map naming_place (get_by_text one mark)) (first_place mark names) (first_place mark more)
    ∙ ap (or_place (option_map naming_place (get_by_text one mark))) (sym (first_append mark names more))

-- What was added so far and what is left are all names.
pub record Left (start here : Map) (rest all : List RuleName) : Type 0 where
  pub adds : (end : Map) → Adds here end rest → Adds start end all

pub left_all : (map : Map) (names : List RuleName) → Left map map names names
left_all map names = record { adds = λ end a. a }

pub left_more : (start here next : Map) (one rest from all : List RuleName)
    → Left start here from all → from ≡ one ++ rest → Adds here next one → Left start next rest all
left_more start here next one rest from all left same added =
    record { adds = λ end more. left.adds end (subst (Adds here end) (sym same) (adds_more here next end one rest added more)) }

pub left_none : (start here : Map) (rest all : List RuleName) → Left start here rest all → rest ≡ []
    → Adds start here all
left_none start here rest all left none = left.adds here (subst (Adds here here) (sym none) (adds_none here))

-- a name more, which an earlier one with its text goes before
pub set_or : (old : Option NamePlace) (b : Bool) (x : NamePlace) → (b ≡ true → old ≡ None)
    → cond b (Some x) old ≡ or_place old (cond b (Some x) None)
set_or None b x none = refl
set_or (Some y) false x none = refl
set_or (Some y) true x none = absurd (let e = none refl in cc)

pub kept_or : (old : Option NamePlace) (b : Bool) (x : NamePlace) → (b ≡ true → is_some old ≡ true)
    → old ≡ or_place old (cond b (Some x) None)
kept_or None true x some = absurd (true≢false (sym (some refl)))
kept_or None false x some = refl
kept_or (Some y) b x some = refl

-- the place of one name, by its text
pub one : (text mark : List ℕ) (place : NamePlace)
    → first_place text (one_name mark place) ≡ cond (bytes_eq mark text) (Some place) None
one text mark place = place_of_found (bytes_eq mark text) (record { mark = mark; place = place }) None

same_text : (a b : List ℕ) → bytes_eq a b ≡ true → a ≡ b
same_text a b same = (bytes_eq-Decides a b).0 same

seen : (o : Option Naming) → is_some (option_map naming_place o) ≡ is_some o
seen None = refl
seen (Some x) = refl

nothing_seen : (o : Option Naming) → is_some o ≡ false → option_map naming_place o ≡ None
nothing_seen None none = refl
nothing_seen (Some x) none = absurd (true≢false none)

pub some_same : (map : Map) (mark text : List ℕ) → is_some (get_by_text map mark) ≡ true
    → bytes_eq mark text ≡ true → is_some (option_map naming_place (get_by_text map text)) ≡ true
some_same map mark text some same =
    seen (get_by_text map text) ∙ ap (λ t. is_some (get_by_text map t)) (sym (same_text mark text same)) ∙ some

pub none_same : (map : Map) (mark text : List ℕ) → is_some (get_by_text map mark) ≡ false
    → bytes_eq mark text ≡ true → option_map naming_place (get_by_text map text) ≡ None
none_same map mark text none same =
    nothing_seen (get_by_text map text)
    (ap (λ t. is_some (get_by_text map t)) (sym (same_text mark text same)) ∙ none)
