use Rattle.std.proofs.Common.{◌≡◌, ◌∙◌, append-nil, sym, subst, ℕ, List, map, nat_cmp, string_bytes}
use Rattle.std.specs.Cmp.Lexicographic.{slice_cmp}
use Rattle.std.specs.List.Sorted.{IsStrictlySortedBy}
use Rattle.std.specs.Map.{keys_of}
use Rattle.nextest_config.proofs.IsNotFound.{names_ascend}
use Rattle.nextest_settings.proofs.KnowsScripts.{fused}
use Rattle.rinqebo_session.proofs.named.names_of_profiles.Goals as goal

pub returns-clause-all : goal.returns-clause-all
returns-clause-all c =
    let entries = c.args.profiles.now.entries in
    let all : map string_bytes c.loop-name.names.items ≡ map string_bytes (keys_of entries) =
    sym (append-nil (map string_bytes c.loop-name.names.items))
    ∙ (rw c.in-None.ensures.steps.0 at c.loop-name.invariant) in
    all ∙ fused string_bytes (λ e. e.0) entries

pub returns-clause-ascending : goal.returns-clause-ascending
returns-clause-ascending c =
    let entries = c.args.profiles.now.entries in
    let all : map string_bytes c.loop-name.names.items ≡ map string_bytes (keys_of entries) =
    sym (append-nil (map string_bytes c.loop-name.names.items))
    ∙ (rw c.in-None.ensures.steps.0 at c.loop-name.invariant) in
    let P : List (List ℕ) → Type 0 = IsStrictlySortedBy (slice_cmp nat_cmp) in
    subst P (sym all) (names_ascend (keys_of entries) c.keys-name-items.ensures.ordered)
