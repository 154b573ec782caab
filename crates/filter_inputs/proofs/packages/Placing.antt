-- Places of ids.
use Rattle.std.proofs.Common.{◌≡◌, ℕ, ◌+◌, not, cond, nat_lt, List, [], ◌∷◌, length, position, Some, None, Bor, refl, sym, ap, ◌∙◌}
use Rattle.std.proofs.lemmas.List.{length-map}
use Rattle.std.specs.Str.{bytes_eq}
use Rattle.std.specs.List.{position_or_len}
use Rattle.filter_inputs.specs.Packages.Names.{ids_view}

position_or_len-ids : (id : List ℕ) (ids : List (Bor (List ℕ)))
    → position_or_len (λ other. bytes_eq other.now id) ids ≡ position_or_len (λ other. bytes_eq other id) (ids_view ids)
position_or_len-ids id [] = refl
position_or_len-ids id (x ∷ ids) = ap (λ n. cond (not (bytes_eq x.now id)) (1 + n) 0) (position_or_len-ids id ids)

pub position-ids : (id : List ℕ) (ids : List (Bor (List ℕ)))
    → position (λ other. bytes_eq other.now id) ids ≡ position (λ other. bytes_eq other id) (ids_view ids)
position-ids id ids =
    ap (λ n. cond (nat_lt n (length ids)) (Some n) None) (position_or_len-ids id ids)
    ∙ ap (λ m. cond (nat_lt (position_or_len (λ other. bytes_eq other id) (ids_view ids)) m)
    (Some (position_or_len (λ other. bytes_eq other id) (ids_view ids))) None) (sym (length-map ids (λ id. id.now)))
