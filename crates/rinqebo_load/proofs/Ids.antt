-- What the ids of binaries say.
use Rattle.std.proofs.Common.{◌≡◌, ◌++◌, List, ℕ, Option, None, Some, MatchOption, Bor, codes, length, take, drop, ◌+◌, ◌≤◌}
use Rattle.std.specs.List.{after_first, before_first}
use Rattle.std.specs.Str.Pattern.{FindsText}
use Rattle.std.proofs.lemmas.Str.Pattern.{split_text_parts}
use Rattle.filter_language.specs.Values.{package_name}
use Rattle.filter_language.proofs.Packages.{package_parts}
use Rattle.rinqebo_load.specs.FoundTests.{HasSlash, IsOnePart, IsReadAs, another, is_slash}

-- the parts of an id
pub id_parts : (id : List ℕ) (found : Option (Bor (List ℕ) × Bor (List ℕ)))
    → MatchOption found (FindsText (codes "::") id None)
    (λ x. (i : ℕ) × (j : ℕ) × FindsText (codes "::") id (Some (i, j)) × (x.0.now ≡ take i id)
    × (x.1.now ≡ drop j id) × (i ≤ j) × (length x.0.now ≡ i) × (length x.1.now + j ≡ length id))
    → MatchOption found (IsOnePart id) (λ parts. id ≡ package_name id ++ (codes "::" ++ parts.1.now))
id_parts id None h = split_text_parts (codes "::") id None h
id_parts id (Some x) h =
    let whole : id ≡ x.0.now ++ (codes "::" ++ x.1.now) = split_text_parts (codes "::") id (Some x) h in
    let named : package_name id ≡ x.0.now = package_parts id (Some x) h in
    rw named whole

-- a target of a kind that is named
pub read_kind : (id kind name target : List ℕ) → id ≡ package_name id ++ (codes "::" ++ target) → HasSlash target
    → kind ≡ before_first is_slash target → name ≡ after_first is_slash target → IsReadAs id kind name
read_kind id kind name target whole slash is_kind is_name = rw (is_kind, is_name) (another target whole slash)
