-- What the line of the right side has.
use Rattle.std.proofs.Common.{◌≡◌, ◌∙◌, ◌∷◌, ◌==◌, [], Bool, List, None, Option, Some, ap, ap₂, cond, false, arith, is_some, length, map, ne_eqb, not, option_map, refl, subst, true, unwrap_or, ℕ}
use Rattle.std.proofs.lemmas.List.Folds.{find-append}
use Rattle.std.proofs.lemmas.Slice.Eq.{bytes_eq-Decides}
use Rattle.std.specs.List.{filter, find, flat_map}
use Rattle.std.specs.Option.{option_or}
use Rattle.std.specs.Prelude.{option_and_then, slice_get}
use Rattle.std.specs.Str.{bytes_eq}
use Rattle.clap.specs.Walk.{Row}
use Rattle.rinqebo_request.specs.Lines.{Line, value_at, values_at}
use Rattle.rinqebo_diff.specs.RightLine.{Replacement, is_given, is_of, renamed, replacements, replacing, right_line, without}

-- a text is itself
is_itself : (text : List ℕ) → bytes_eq text text ≡ true
is_itself text = (bytes_eq-Decides text text).1 refl

-- the first row of an option under another name
found_as : (own id : List ℕ) (line : Line) → find (is_of id) (map (renamed id) (filter (is_of own) line)) ≡ option_map (renamed id) (find (is_of own) line)
found_as own id [] = refl
found_as own id (row ∷ rows) = go (is_of own row) (found_as own id rows)
  where
    go : (is_own : Bool) → find (is_of id) (map (renamed id) (filter (is_of own) rows)) ≡ option_map (renamed id) (find (is_of own) rows)
        → find (is_of id) (map (renamed id) (cond is_own (row ∷ filter (is_of own) rows) (filter (is_of own) rows)))
        ≡ option_map (renamed id) (cond is_own (Some row) (find (is_of own) rows))
    go true later = rw (is_itself id) refl
    go false later = later

-- no row of another name
none_as : (id other : List ℕ) (rows : Line) → bytes_eq other id ≡ false → find (is_of id) (map (renamed other) rows) ≡ None
none_as id other [] differs = refl
none_as id other (row ∷ rows) differs = rw differs (none_as id other rows differs)

-- the row of an option, as that of the one that it replaces, if the line gives it
abbrev given_row : Line → Replacement → Option Row
given_row line option = cond (is_given option.own line) (option_map (renamed option.replaced) (find (is_of option.own) line)) None

replaced_row : (line : Line) (option : Replacement) (id : List ℕ) → find (is_of id) (replacing line option) ≡ cond (bytes_eq option.replaced id) (given_row line option) None
replaced_row line option id = go (is_given option.own line) (bytes_eq option.replaced id) refl
  where
    go : (given same : Bool) → bytes_eq option.replaced id ≡ same
        → find (is_of id) (cond given (map (renamed option.replaced) (filter (is_of option.own) line)) [])
        ≡ cond same (cond given (option_map (renamed option.replaced) (find (is_of option.own) line)) None) None
    go false true is = refl
    go false false is = refl
    go true false is = none_as id option.replaced (filter (is_of option.own) line) is
    go true true is =
        let name : option.replaced ≡ id = (bytes_eq-Decides option.replaced id).0 is in
        subst (λ name. find (is_of name) (map (renamed option.replaced) (filter (is_of option.own) line)) ≡ option_map (renamed option.replaced) (find (is_of option.own) line))
        name (found_as option.own option.replaced line)

-- the row that replaces the one of a name
abbrev pub own_row : List Replacement → List ℕ → Line → Option Row
own_row [] id line = None
own_row (option ∷ options) id line = option_or (cond (bytes_eq option.replaced id) (given_row line option) None) (own_row options id line)

own_found : (options : List Replacement) (id : List ℕ) (line : Line) → find (is_of id) (flat_map (replacing line) options) ≡ own_row options id line
own_found [] id line = refl
own_found (option ∷ options) id line =
    find-append (is_of id) (replacing line option) (flat_map (replacing line) options)
    ∙ ap₂ option_or (replaced_row line option id) (own_found options id line)

-- a line without an option has what it had for the others, and nothing for this one
others_kept : (id name : List ℕ) (line : Line) → bytes_eq name id ≡ false → find (is_of id) (without name line) ≡ find (is_of id) line
others_kept id name [] differs = refl
others_kept id name (row ∷ rows) differs = go (is_of name row) refl (others_kept id name rows differs)
  where
    go : (is_one : Bool) → is_of name row ≡ is_one → find (is_of id) (without name rows) ≡ find (is_of id) rows
        → find (is_of id) (cond (not is_one) (row ∷ without name rows) (without name rows)) ≡ find (is_of id) (row ∷ rows)
    go false is later = ap (λ rest. cond (is_of id row) (Some row) rest) later
    go true is later =
        let named : row.id ≡ name = (bytes_eq-Decides row.id name).0 is in
        let other : is_of id row ≡ false = ap (λ text. bytes_eq text id) named ∙ differs in rw other later

gone : (name : List ℕ) (line : Line) → find (is_of name) (without name line) ≡ None
gone name [] = refl
gone name (row ∷ rows) = go (is_of name row) refl (gone name rows)
  where
    go : (is_one : Bool) → is_of name row ≡ is_one → find (is_of name) (without name rows) ≡ None
        → find (is_of name) (cond (not is_one) (row ∷ without name rows) (without name rows)) ≡ None
    go false is later = rw is later
    go true is later = later

abbrev compiler : List ℕ
compiler = Rattle.std.specs.Prelude.codes "rustc-version"

abbrev host : List ℕ
host = Rattle.std.specs.Prelude.codes "to-host"

kept_row : (id : List ℕ) (line : Line) (given : Bool) → bytes_eq compiler id ≡ false → find (is_of id) (cond given (without compiler line) line) ≡ find (is_of id) line
kept_row id line true differs = others_kept id compiler line differs
kept_row id line false differs = refl

right_row : (id : List ℕ) (line : Line) → bytes_eq compiler id ≡ false
    → find (is_of id) (right_line line) ≡ option_or (own_row replacements id line) (find (is_of id) line)
right_row id line differs =
    find-append (is_of id) (flat_map (replacing line) replacements) (cond (is_given host line) (without compiler line) line)
    ∙ ap₂ option_or (own_found replacements id line) (kept_row id line (is_given host line) differs)

-- ---- values

abbrev first : Option Row → Option (List ℕ)
first row = option_and_then (λ row. slice_get row.values 0) row

abbrev all : Option Row → List (List ℕ)
all row = unwrap_or (option_map (λ row. row.values) row) []

abbrev given_or : List ℕ → Option Row → Option Row → Option Row
given_or id own row = option_or (option_or (cond (is_some (first own)) (option_map (renamed id) own) None) None) row

first_given : (id : List ℕ) (own row : Option Row) → first (given_or id own row) ≡ option_or (first own) (first row)
first_given id None row = refl
first_given id (Some own) row = go (slice_get own.values 0) refl
  where
    go : (value : Option (List ℕ)) → slice_get own.values 0 ≡ value
        → first (option_or (option_or (cond (is_some value) (Some (renamed id own)) None) None) row) ≡ option_or value (first row)
    go None is = refl
    go (Some value) is = is

none_first : (values : List (List ℕ)) → slice_get values 0 ≡ None → values ≡ []
none_first [] none = refl
none_first (value ∷ values) none = absurd (cc)

some_first : (values : List (List ℕ)) (value : List ℕ) → slice_get values 0 ≡ Some value → (length values == 0) ≡ false
some_first [] value some = absurd (cc)
some_first (one ∷ values) value some = ne_eqb _ _ (λ none. absurd (omega (arith, none)))

all_given : (id : List ℕ) (own row : Option Row) → all (given_or id own row) ≡ cond (length (all own) == 0) (all row) (all own)
all_given id None row = refl
all_given id (Some own) row = go (slice_get own.values 0) refl
  where
    go : (value : Option (List ℕ)) → slice_get own.values 0 ≡ value
        → all (option_or (option_or (cond (is_some value) (Some (renamed id own)) None) None) row)
        ≡ cond (length own.values == 0) (all row) own.values
    go None is = rw (none_first own.values is) refl
    go (Some value) is = rw (some_first own.values value is) refl

abbrev replacement : List ℕ → List ℕ → Replacement
replacement own id = record { own = own; replaced = id }

-- the value of an option on the right side: its own, or else the one of the left side
pub right_value : (own id : List ℕ) (line : Line) → bytes_eq compiler id ≡ false
    → own_row replacements id line ≡ option_or (given_row line (replacement own id)) None
    → value_at id (right_line line) ≡ option_or (value_at own line) (value_at id line)
right_value own id line differs is =
    ap first (right_row id line differs ∙ ap (λ row. option_or row (find (is_of id) line)) is)
    ∙ first_given id (find (is_of own) line) (find (is_of id) line)

-- the same of all values
pub right_values : (own id : List ℕ) (line : Line) → bytes_eq compiler id ≡ false
    → own_row replacements id line ≡ option_or (given_row line (replacement own id)) None
    → values_at id (right_line line) ≡ cond (length (values_at own line) == 0) (values_at id line) (values_at own line)
right_values own id line differs is =
    ap all (right_row id line differs ∙ ap (λ row. option_or row (find (is_of id) line)) is)
    ∙ all_given id (find (is_of own) line) (find (is_of id) line)

-- the compiler's output of the right side: that of the left side, but for a host of its own
pub right_output : (line : Line) → value_at compiler (right_line line) ≡ cond (is_given host line) None (value_at compiler line)
right_output line =
    ap first (find-append (is_of compiler) (flat_map (replacing line) replacements) (cond (is_given host line) (without compiler line) line)
    ∙ ap (λ row. option_or row (find (is_of compiler) (cond (is_given host line) (without compiler line) line))) (own_found replacements compiler line))
    ∙ go (is_given host line)
  where
    go : (given : Bool) → first (find (is_of compiler) (cond given (without compiler line) line)) ≡ cond given None (value_at compiler line)
    go true = ap first (gone compiler line)
    go false = refl
