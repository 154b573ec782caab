-- The numbers of a text's expressions, by the keys that theirs begin with.
use Rattle.std.specs.Prelude.{◌≡◌, ℕ, suc, nat_lt, Bool, true, false, if◌then◌else◌, List, [], ◌∷◌, Option, Some, None, MatchOption, option_and_then, option_map, slice_get}
use Rattle.std.specs.BTreeMap.{get_by_text}
use Rattle.std.specs.Option.{option_map_or}
use Rattle.std.specs.Str.{bytes_eq}
use Rattle.toml_parser.specs.Reading.{path_view}
use Rattle.nextest_places.specs.declared.branch.Branch.{Branch, out-Branch}
use Rattle.nextest_places.specs.declared.entry.Entry.{Entry}
use Rattle.nextest_places.specs.declared.entry.Kind.{Kind}
use Rattle.nextest_places.specs.declared.entry.Kind.TheVariants.{Pair, Element}
use Rattle.nextest_places.specs.declared.place.Lines.{Lines}
use Rattle.nextest_places.specs.Entries.{Outcome, IsWaiting, found}

-- The lists of a branch: the expressions whose keys begin with the branch's keys, and of those whose
-- keys are these the pairs, and the headers in double brackets.
pub data Role : Type 0 where
  through : Role
  pairs : Role
  elements : Role

abbrev pub numbers_in : Role → Branch → List ℕ
numbers_in through branch = (out-Branch branch).all.items
numbers_in pairs branch = (out-Branch branch).ends.pairs.items
numbers_in elements branch = (out-Branch branch).ends.elements.items

-- the numbers in a list of what a branch has behind it at some keys
abbrev pub numbers_at : Role → List (List ℕ) → Branch → List ℕ
numbers_at role [] branch = numbers_in role branch
numbers_at role (k ∷ keys) branch =
    option_map_or (numbers_at role keys) (get_by_text (out-Branch branch).longer k) []

-- whether an expression whose key ends at a branch is in a list of it
abbrev pub ends_in : Role → Kind → Bool
ends_in through kind = true
ends_in pairs Pair = true
ends_in elements Element = true
ends_in _ _ = false

-- and one whose key goes on
abbrev pub goes_on_in : Role → Bool
goes_on_in through = true
goes_on_in _ = false

-- whether an expression is in a list of the branch at some keys
abbrev pub is_in : Role → Kind → List (List ℕ) → List (List ℕ) → Bool
is_in role kind [] [] = ends_in role kind
is_in role kind [] (part ∷ parts) = goes_on_in role
is_in role kind (k ∷ keys) [] = false
is_in role kind (k ∷ keys) (part ∷ parts) =
    if bytes_eq k part then is_in role kind keys parts else false

abbrev pub is_entry_in : Role → List (List ℕ) → Entry → Bool
is_entry_in role keys entry = is_in role entry.kind keys (path_view entry.parts.items)

-- the numbers of the entries that pass a test, where the first one has the number n
abbrev pub numbers_where : (Entry → Bool) → ℕ → List Entry → List ℕ
numbers_where test n [] = []
numbers_where test n (entry ∷ entries) =
    if test entry then n ∷ numbers_where test (suc n) entries
    else numbers_where test (suc n) entries

-- the earlier of two numbers, where each may not be there
abbrev pub earlier : Option ℕ → Option ℕ → Option ℕ
earlier None other = other
earlier (Some n) None = Some n
earlier (Some n) (Some m) = Some (if nat_lt n m then n else m)

-- whether a number is below another one
abbrev pub comes_before : Option ℕ → ℕ → Bool
comes_before None n = false
comes_before (Some m) n = nat_lt m n

-- Each list of a branch has the numbers of its entries.
abbrev pub IsBranchOf : List Entry → Branch → Type 0
IsBranchOf entries branch =
    (role : Role) (keys : List (List ℕ))
    → numbers_at role keys branch ≡ numbers_where (is_entry_in role keys) 0 entries

-- the lines of an entry by its number, if there is one
abbrev pub lines_by_number : List Entry → Option ℕ → Option Lines
lines_by_number entries number =
    option_map (λ e. e.lines) (option_and_then (slice_get entries) number)

-- The number of the entry whose lines are found, if some are.
abbrev pub HasNumber : List Entry → Outcome → Option ℕ → Type 0
HasNumber entries outcome number =
    MatchOption number (IsWaiting outcome)
    (λ n. (e : Entry) × (slice_get entries n ≡ Some e) × (outcome ≡ found e.lines))
