-- The keys of a map ascend.
use Rattle.std.proofs.Common.{◌≡◌, List, [], ◌∷◌, Less, nat_cmp, String, Global, string_bytes}
use Rattle.std.specs.List.{AllByRecursion}
use Rattle.std.specs.List.Sorted.{IsStrictlySortedBy}
use Rattle.std.specs.Map.{keys_of}
use Rattle.std.specs.String.{string_cmp}
use Rattle.std.specs.Cmp.Lexicographic.{slice_cmp}
use Rattle.nextest_tree.specs.Node.{keys}
use Rattle.nextest_tree.specs.View.{entries_view}
use Rattle.nextest_documents.proofs.Maps.{Entry}
use Rattle.nextest_places.specs.Standing.{IdsAscend}

below_keys : (k : String Global) (es : List Entry) → AllByRecursion (λ y. string_cmp k y ≡ Less) (keys_of es)
    → AllByRecursion (λ o. slice_cmp nat_cmp (string_bytes k) o ≡ Less) (keys (entries_view es))
below_keys k [] h = h
below_keys k (e ∷ es) h = (h.0, below_keys k es h.1)

pub keys_ascend : (es : List Entry) → IsStrictlySortedBy string_cmp (keys_of es) → IdsAscend (keys (entries_view es))
unfolding IsStrictlySortedBy
keys_ascend [] h = h
keys_ascend (e ∷ es) h = (below_keys e.0 es h.0, keys_ascend es h.1)
