-- A path has one place in a text.
use Rattle.std.proofs.Common.{◌≡◌, inl, inr, ◌∙◌, ℕ, suc, ◌<◌, false, List, [], ◌∷◌, Option, None, Some, is_some, map, option_and_then, refl, sym, ap, subst}
use Rattle.std.specs.Option.{option_map_or}
use Rattle.nextest_documents.specs.Text.{tree_of}
use Rattle.nextest_places.specs.Lines.{first_lines}
use Rattle.nextest_places.specs.Path.{has_path, item_at, stands_at, step_into}
use Rattle.nextest_places.specs.Place.{HasNoPlace, IsPlaceOfPath, is_there_by}
use Rattle.nextest_places.specs.Search.{IsDocument, NoDocumentBetween}
use Rattle.nextest_places.specs.declared.place.Lines.{Lines}
use Rattle.nextest_places.specs.declared.step.Step.{Step}
use Rattle.nextest_places.specs.declared.step.Step.TheVariants.{Key, Position}
use Rattle.nextest_tree.specs.Node.{Node, as_array, member_of}
use Rattle.rinqebo_request.specs.Files.Origins.{AreLinesAt}
use Rattle.rinqebo_laws.proofs.Lists.{one_greatest, one_least}
use Rattle.rinqebo_report.specs.declared.origin.FileLines.{FileLines}
use Rattle.rinqebo_origins.specs.Origins.{step_view}

-- steps that are shown alike lead to the same
into_alike : (p q : Step) (n : Node) → step_view p ≡ step_view q → step_into p n ≡ step_into q n
into_alike (Key a) (Key b) n same =
    let names : a.now ≡ b.now = cc in ap (λ name. member_of name n) names
into_alike (Key a) (Position j) n same = absurd cc
into_alike (Position i) (Key b) n same = absurd cc
into_alike (Position i) (Position j) n same =
    let places : i ≡ j = cc in ap (λ place. option_and_then (item_at place) (as_array n)) places

on_alike : (ps qs : List Step) (o : Option Node) → map step_view ps ≡ map step_view qs
    → option_and_then (stands_at ps) o ≡ option_and_then (stands_at qs) o
on_alike [] [] o same = refl
on_alike [] (q ∷ qs) o same = absurd cc
on_alike (p ∷ ps) [] o same = absurd cc
on_alike (p ∷ ps) (q ∷ qs) None same = refl
on_alike (p ∷ ps) (q ∷ qs) (Some n) same =
    let first : step_view p ≡ step_view q = cc in
    let rest : map step_view ps ≡ map step_view qs = cc in
    ap (option_and_then (stands_at ps)) (into_alike p q n first) ∙ on_alike ps qs (step_into q n) rest

has_alike : (ps qs : List Step) (o : Option Node) → map step_view ps ≡ map step_view qs
    → option_map_or (has_path ps) o false ≡ option_map_or (has_path qs) o false
has_alike ps qs None same = refl
has_alike ps qs (Some n) same = ap is_some (on_alike ps qs (Some n) same)

-- paths that are shown alike are there by the same lines
there_alike : (ps qs : List Step) (text : List ℕ) (n : ℕ) → map step_view ps ≡ map step_view qs
    → is_there_by ps text n ≡ is_there_by qs text n
there_alike ps qs text n same = has_alike ps qs (tree_of (first_lines n text)) same

none_is_document : (text : List ℕ) (n : ℕ) → tree_of (first_lines n text) ≡ None → IsDocument text n → ⊥
none_is_document text n none is = let no : is_some (tree_of (first_lines n text)) ≡ false = ap is_some none in absurd cc

-- and have one place
pub one_place : (ps qs : List Step) (text : List ℕ) (a b : Lines) → map step_view ps ≡ map step_view qs
    → IsPlaceOfPath ps text a → IsPlaceOfPath qs text b → (a.first ≡ b.first) × (a.last ≡ b.last)
one_place ps qs text a b same one other =
    let last : a.last ≡ b.last =
    one_least (is_there_by ps text) (is_there_by qs text) (λ n. there_alike ps qs text n same) a.last b.last one.there
    one.least other.there other.least in
    let below : other.shorter < a.last = subst (λ n. other.shorter < n) (sym last) other.below in
    let longest : NoDocumentBetween text other.shorter a.last =
    subst (NoDocumentBetween text other.shorter) (sym last) other.longest in
    let shorter : one.shorter ≡ other.shorter =
    one_greatest (IsDocument text) a.last one.shorter other.shorter one.below below one.document other.document
    (λ n low high. none_is_document text n (one.longest n low high))
    (λ n low high. none_is_document text n (longest n low high)) in
    (one.first ∙ ap suc shorter ∙ sym other.first, last)

-- a path with a step has no place where it has one
pub no_place : (ps qs : List Step) (text : List ℕ) (b : Lines) → map step_view ps ≡ map step_view qs → (ps ≡ [] → ⊥)
    → HasNoPlace ps text → IsPlaceOfPath qs text b → ⊥
no_place ps qs text b same some (inl empty) place = some empty
no_place ps qs text b same some (inr never) place =
    let no = never b.last in
    let yes = there_alike ps qs text b.last same ∙ place.there in
    absurd cc

some_steps : (ps qs : List Step) → map step_view ps ≡ map step_view qs → (ps ≡ [] → ⊥) → qs ≡ [] → ⊥
some_steps [] qs same some none = some refl
some_steps (p ∷ ps) qs same some none =
    let same' : map step_view (p ∷ ps) ≡ [] = same ∙ ap (map step_view) none in absurd cc

-- the lines of paths that are shown alike are the same
pub one_lines : (text : Option (List ℕ)) (ps qs : List Step) (a b : Option FileLines)
    → map step_view ps ≡ map step_view qs → (ps ≡ [] → ⊥) → AreLinesAt text ps a → AreLinesAt text qs b → a ≡ b
one_lines None ps qs a b same some one other = one ∙ sym other
one_lines (Some text) ps qs None None same some one other = refl
one_lines (Some text) ps qs None (Some b) same some one other =
    absurd (no_place ps qs text (record { first = b.first; last = b.last }) same some one other)
one_lines (Some text) ps qs (Some a) None same some one other =
    absurd (no_place qs ps text (record { first = a.first; last = a.last }) (sym same) (some_steps ps qs same some) other one)
one_lines (Some text) ps qs (Some a) (Some b) same some one other =
    let lines = one_place ps qs text (record { first = a.first; last = a.last })
    (record { first = b.first; last = b.last }) same one other in
    λ i. Some (record { first = lines.0 i; last = lines.1 i })
