-- The schemas of texts, numbers and arrays are valid of what their forms accept.
use Rattle.std.proofs.Common.{◌≡◌, ◌↔◌, ◌≤◌, ◌+◌, ◌-◌, ◌||◌, ℕ, ℤ, pos, negsuc, int_lt, Bool, true, false, IsTrue, IsFalse, map, List, [], ◌∷◌, Option, Some, None, bytes_eq, inl, inr, refl, sym, arith}
use Rattle.std.proofs.lemmas.Bool.{false≢true, or_left, or_right}
use Rattle.std.proofs.lemmas.Slice.Eq.{bytes_eq-Decides}
use Rattle.serde_json.specs.Data.{Data, string}
use Rattle.serde_json.specs.Find.{of_integer}
use Rattle.serde_json.specs.View.{items_of}
use Rattle.nextest_tree.specs.Node.{Node, array, text, int, Nodes, no_nodes, node}
use Rattle.nextest_tree.specs.Schema.{is_one_of}
use Rattle.nextest_shape.specs.Accepts.{IsNumberIn, AreItems, IsArrayOf}
use Rattle.nextest_shape.specs.Form.{TextForm, any_text, one_of, of_pattern}
use Rattle.nextest_shape.specs.Page.{text_members, number_members, array_members}
use Rattle.rinqebo_laws.specs.Matching.{IsMatched, IsTextBy}
use Rattle.rinqebo_laws.specs.Validation.{Matcher, IsAmong, IsNotBelow, IsNotAbove, EachItem, count, Validates, MeetsEach}

-- ---- texts

among_first : (words : List (List ℕ)) (w s : List ℕ) (b : Bool) → bytes_eq w s ≡ b
    → (IsTrue (is_one_of words s) → IsAmong (items_of (map string words)) (text s)) → (b || is_one_of words s) ≡ true
    → IsAmong (items_of (map string (w ∷ words))) (text s)
among_first words w s true is more h = inl (sym ((bytes_eq-Decides w s).0 is))
among_first words w s false is more h = inr (more h)

among_words : (words : List (List ℕ)) (s : List ℕ)
    → IsAmong (items_of (map string words)) (text s) ↔ IsTrue (is_one_of words s)
among_words [] s = (λ h. absurd h, λ h. absurd (false≢true h))
among_words (w ∷ ws) s =
    let more = among_words ws s in (
      elim [
        | inl e ↦ or_left (bytes_eq w s) (is_one_of ws s) ((bytes_eq-Decides w s).1 (sym e))
        | inr h ↦ or_right (bytes_eq w s) (is_one_of ws s) (more.0 h)
      ],
      λ h. among_first ws w s (bytes_eq w s) refl more.1 h,
    )

-- the schema of texts is valid of the texts that may be there
pub text_same : (m : Matcher) (names : List (List ℕ)) (form : TextForm) (v : Node)
    → (MeetsEach m names (text_members form) v ↔ IsTextBy (IsMatched m) form v)
text_same m names any_text (text s) = (λ h. tt, λ h. (refl, tt))
text_same m names (one_of words) (text s) =
    (λ h. (among_words words s).0 h.0, λ h. ((among_words words s).1 h, (refl, tt)))
text_same m names (of_pattern pattern) (text s) = (λ h. h.0, λ h. (h, (refl, tt)))
text_same m names any_text _ = (λ h. absurd (false≢true h.0), λ h. absurd h)
text_same m names (one_of words) _ = (λ h. absurd (false≢true h.1.0), λ h. absurd h)
text_same m names (of_pattern pattern) _ = (λ h. absurd (false≢true h.1.0), λ h. absurd h)

-- ---- numbers

from_bound : (bound z : ℤ) → IsNotBelow (of_integer bound) z → IsFalse (int_lt z bound)
from_bound (pos n) z h = h
from_bound (negsuc n) z h = h

to_bound : (bound z : ℤ) → IsFalse (int_lt z bound) → IsNotBelow (of_integer bound) z
to_bound (pos n) z h = h
to_bound (negsuc n) z h = h

from_top : (bound z : ℤ) → IsNotAbove (of_integer bound) z → IsFalse (int_lt bound z)
from_top (pos n) z h = h
from_top (negsuc n) z h = h

to_top : (bound z : ℤ) → IsFalse (int_lt bound z) → IsNotAbove (of_integer bound) z
to_top (pos n) z h = h
to_top (negsuc n) z h = h

-- the schema of numbers is valid of the numbers between the two
pub number_same : (m : Matcher) (names : List (List ℕ)) (least greatest : Option ℤ) (v : Node)
    → (MeetsEach m names (number_members least greatest) v ↔ IsNumberIn least greatest v)
number_same m names None None (int z) = (λ h. (tt, tt), λ h. (refl, tt))
number_same m names (Some a) None (int z) = (λ h. (from_bound a z h.0, tt), λ h. (to_bound a z h.0, (refl, tt)))
number_same m names None (Some b) (int z) = (λ h. (tt, from_top b z h.0), λ h. (to_top b z h.1, (refl, tt)))
number_same m names (Some a) (Some b) (int z) =
    (λ h. (from_bound a z h.1.0, from_top b z h.0), λ h. (to_top b z h.1, (to_bound a z h.0, (refl, tt))))
number_same m names None None _ = (λ h. absurd (false≢true h.0), λ h. absurd h)
number_same m names (Some a) None _ = (λ h. absurd (false≢true h.1.0), λ h. absurd h)
number_same m names None (Some b) _ = (λ h. absurd (false≢true h.1.0), λ h. absurd h)
number_same m names (Some a) (Some b) _ = (λ h. absurd (false≢true h.1.1.0), λ h. absurd h)

-- ---- arrays

items_same : (P Q : Node → Type 0) → ((v : Node) → P v ↔ Q v) → (least : ℕ) (ns : Nodes)
    → ((EachItem P ns × (least ≤ count ns)) ↔ AreItems Q least ns)
items_same P Q same least no_nodes = (λ h. let few = h.1 in omega arith, λ h. (tt, omega (arith, h)))
items_same P Q same least (node n ns) =
    let rest = items_same P Q same (least - 1) ns in (
      λ h. let many = h.1 in
          let fewer : least - 1 ≤ count ns = omega arith in
          ((same n).0 h.0.0, rest.0 (h.0.1, fewer)),
      λ h. let met = rest.1 h.1 in
          let fewer = met.1 in
          let many : least ≤ count ns + 1 = omega arith in
          (((same n).1 h.0, met.0), many),
    )

-- the schema of arrays is valid of those with enough items, each valid by the schema of items
pub array_same : (m : Matcher) (names : List (List ℕ)) (least : ℕ) (d : Data) (Q : Node → Type 0)
    → ((v : Node) → Validates m d v ↔ Q v) → (v : Node)
    → (MeetsEach m names (array_members least d) v ↔ IsArrayOf Q least v)
array_same m names least d Q same (array ns) =
    let items = items_same (Validates m d) Q same least ns in
    (λ h. items.0 (h.0, h.1.0), λ h. let met = items.1 h in (met.0, (met.1, (refl, tt))))
array_same m names least d Q same _ = (λ h. absurd (false≢true h.1.1.0), λ h. absurd h)
