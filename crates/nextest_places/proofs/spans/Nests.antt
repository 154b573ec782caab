-- A token closes the innermost that is open.
use Rattle.std.proofs.Common.{◌≡◌, List, [], ◌∷◌, ◌++◌, Some, sym, ap, ◌∙◌, subst}
use Rattle.nextest_places.specs.declared.spans.state.Raw.{Raw}
use Rattle.nextest_places.specs.declared.spans.token.Container.{Container}
use Rattle.nextest_places.specs.declared.spans.token.TokenKind.{TokenKind}
use Rattle.nextest_places.specs.declared.spans.token.TokenKind.TheVariants as kinds
use Rattle.nextest_places.specs.Spans.Nesting.{IsCloseIn, IsOfRaw, NestsAs, NestsBy, last_of}

pub nests_by : (kind : TokenKind) (raw : Raw) (old mid new : List Container) → mid ≡ old → IsCloseIn old raw → IsOfRaw raw (Some kind) → NestsAs kind mid new
    → NestsBy kind old new
nests_by (kinds.Close c) raw old mid new same closes is nests =
    let last : last_of mid ≡ Some c = ap last_of same ∙ subst (IsCloseIn old) is closes in
    sym same ∙ nests last
nests_by (kinds.Open c) raw old mid new same closes is nests = nests ∙ ap (λ ns. ns ++ c ∷ []) same
nests_by kinds.TableHeader raw old mid new same closes is nests = nests ∙ same
nests_by kinds.ElementHeader raw old mid new same closes is nests = nests ∙ same
nests_by (kinds.Key name) raw old mid new same closes is nests = nests ∙ same
nests_by (kinds.Dotted name) raw old mid new same closes is nests = nests ∙ same
nests_by kinds.String raw old mid new same closes is nests = nests ∙ same
nests_by kinds.Word raw old mid new same closes is nests = nests ∙ same
nests_by kinds.Other raw old mid new same closes is nests = nests ∙ same
