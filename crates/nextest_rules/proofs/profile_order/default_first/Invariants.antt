use Rattle.std.proofs.Common.{◌≡◌, ◌++◌, filter, not}
use Rattle.nextest_inheritance.specs.Names.{is_default}
use Rattle.nextest_rules.specs.View.{order_view, profiles_view}
use Rattle.nextest_rules.proofs.profile_order.default_first.Given as goal

-- the profiles so far, those of `default` apart, and those that are left
abbrev pub invariant-loop-name : goal.invariant-loop-name
invariant-loop-name g l =
    let f = g.F.Filters.meaning in
    let h = g.S.Specs.spec_meaning in
    (order_view f h l.order.default.items ++ filter (λ e. is_default e.0) (profiles_view f h l.name-iterator)
    ≡ filter (λ e. is_default e.0) (profiles_view f h l.profiles.entries))
    × (order_view f h l.order.others.items ++ filter (λ e. not (is_default e.0)) (profiles_view f h l.name-iterator)
    ≡ filter (λ e. not (is_default e.0)) (profiles_view f h l.profiles.entries))
