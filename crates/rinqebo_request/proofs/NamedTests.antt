-- The test that a line names.
use Rattle.std.proofs.Common.{◌≡◌, ◌∙◌, ◌&&◌, ◌||◌, Bool, Bor, List, None, Option, Some, false, is_some, not, refl, sym, true, ℕ}
use Rattle.rinqebo_request.specs.Requests.{IsListIn, IsNamedBy}
use Rattle.rinqebo_request.specs.declared.request.ListFile.{ListFile}

-- a single word is TEST
pub second_word : (first : Option (List ℕ)) (word : List ℕ) (binary : Option (List ℕ)) (name : List ℕ) → binary ≡ first → name ≡ word
    → IsNamedBy first (Some word) binary name
second_word None word binary name is same = (is, same)
second_word (Some other) word binary name is same = (is, same)

-- without a list, a test has a binary
pub found_in : (path : Option (List ℕ)) (list : Option ListFile) (binary : Option (Bor (List ℕ))) (b : Bool) → IsListIn path list
    → b ≡ (not (is_some binary) && not (is_some list)) → b ≡ false → path ≡ None → is_some binary ≡ true
found_in path list (Some id) b lies is has none = refl
found_in None None None b lies is has none = absurd (cc)
found_in None (Some list) None b lies is has none = absurd lies
found_in (Some path) list None b lies is has none = absurd (cc)

-- with a list, the line does not say that a binary is built for the host
pub not_for_host : (path : Option (List ℕ)) (list : Option ListFile) (b is_host : Bool) → IsListIn path list → b ≡ (is_some list && is_host) → b ≡ false
    → is_some path ≡ true → is_host ≡ false
not_for_host None list b is_host lies is has some = absurd (cc)
not_for_host (Some path) None b is_host lies is has some = absurd lies
not_for_host (Some path) (Some list) b is_host lies is has some = sym is ∙ has

-- neither of two
pub neither : (a b c : Bool) → c ≡ (a || b) → c ≡ false → (a ≡ false) × (b ≡ false)
neither false false c is not_so = (refl, refl)
neither false true c is not_so = absurd (cc)
neither true b c is not_so = absurd (cc)
