use Rattle.std.proofs.Common.{◌≡◌, [], ◌∷◌, ◌++◌, if◌then◌else◌, not, sym, ap, ◌∙◌, append-nil}
use Rattle.std.specs.List.{filter}
use Rattle.std.proofs.lemmas.List.{map-append}
use Rattle.nextest_inheritance.specs.Names.{is_default}
use Rattle.nextest_rules.specs.View.{order_view, profiles_view, profile_meaning_view}
use Rattle.nextest_rules.proofs.Ordering.{if_ok_weaker, one_more, one_unless}
use Rattle.nextest_rules.proofs.profile_order.default_first.Goals as goal

pub loop-name-preserved : goal.loop-name-preserved
loop-name-preserved g c =
    let f = g.F.Filters.meaning in
    let h = g.S.Specs.spec_meaning in
    let was = c.loop-name.order in
    let now = c.push.new.self in
    let left = profiles_view f h c.next.new.self in
    let meaning = profile_meaning_view f h c.in-Some.profile.now in
    let item : _ × _ = (c.as_str-in-loop-name.result, c.in-Some.profile) in
    let name = c.as_str.result.now in
    let same : name ≡ c.as_str-in-loop-name.result.now =
    c.as_str.ensures.value ∙ sym c.as_str-in-loop-name.ensures.value in
    let next : (c.as_str-in-loop-name.result.now, meaning) ∷ left ≡ profiles_view f h c.loop-name.name-iterator =
    ap (λ n. (n, meaning) ∷ left) c.as_str-in-loop-name.ensures.value
    ∙ sym (ap (profiles_view f h) c.in-Some.ensures.steps) in
    let others : now.others.items ≡ was.others.items ++ (if not (is_default name) then item ∷ [] else []) =
    c.in_ok-push.ensures.others ∙ ap (λ xs. was.others.items ++ xs) (one_unless (is_default name) item) in (
      one_more _ (λ e. is_default e.0) was.default.items now.default.items item left (is_default name)
          c.in_ok-push.ensures.default (sym (ap is_default same))
          ∙ ap (λ es. order_view f h was.default.items ++ filter (λ e. is_default e.0) es) next
          ∙ c.loop-name.invariant.0,
      one_more _ (λ e. not (is_default e.0)) was.others.items now.others.items item left
          (not (is_default name)) others (sym (ap (λ n. not (is_default n)) same))
          ∙ ap (λ es. order_view f h was.others.items ++ filter (λ e. not (is_default e.0)) es) next
          ∙ c.loop-name.invariant.1,
    )

pub returns : goal.returns
returns g c =
    let f = g.F.Filters.meaning in
    let h = g.S.Specs.spec_meaning in
    let inv = rw c.in-None.ensures.steps.0 at c.loop-name.invariant in
    let default = c.loop-name.order.default.items in
    let others = c.loop-name.order.others.items in
    if_ok_weaker _ _ c.into_vec.result (λ order is. ap (order_view f h) is ∙ map-append _ default others
    ∙ (λ i. (sym (append-nil (order_view f h default)) ∙ inv.0) i
    ++ (sym (append-nil (order_view f h others)) ∙ inv.1) i)) c.into_vec.ensures
