use Rattle.std.proofs.Common.{length, refl, subst}
use Rattle.std.proofs.lemmas.Option.{slice_get_read}
use Rattle.nextest_places.proofs.spans.Climbing.{Climbs, climbs_end, climbs_on, climbs_start, on_zero}
use Rattle.nextest_places.proofs.spans.path.leads_to.Goals as goal

pub up-init : goal.up-init
up-init c =
    climbs_start c.args.items.now c.args.parent c.args.path.now (length c.args.path.now) refl

pub up-preserved : goal.up-preserved
up-preserved c =
    climbs_on c.args.items.now c.args.parent c.args.path.now c.in-Some.index c.up.left c.in-Some-before_inner.before c.in-Some-get.item.now
    c.in-Some-before_inner.ensures.0
    (subst (λ b. Climbs c.args.items.now c.args.parent c.args.path.now b c.up.left) c.in-Some.is c.up.invariant)
    (slice_get_read c.args.items.now (length c.args.items.now) c.in-Some.index c.in-Some-get.item.now refl c.in-Some-get.ensures.lookup.3.0
    c.in-Some-get.ensures.lookup.1)
    c.in-Some-before_inner.ensures.1 c.in-Some-before_inner.ensures.2

pub returns-in_default : goal.returns-in_default
returns-in_default c =
    on_zero c.up.left _
    (climbs_end c.args.items.now c.args.parent c.args.path.now c.up.left
    (subst (λ b. Climbs c.args.items.now c.args.parent c.args.path.now b c.up.left) c.in_default.is c.up.invariant))

pub returns-in-None : goal.returns-in-None
returns-in-None c =
    on_zero c.up.left _
    (climbs_end c.args.items.now c.args.parent c.args.path.now c.up.left
    (subst (λ b. Climbs c.args.items.now c.args.parent c.args.path.now b c.up.left) c.in-None.is c.up.invariant))
