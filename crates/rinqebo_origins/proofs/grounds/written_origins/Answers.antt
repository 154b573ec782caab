use Rattle.std.proofs.Common.{inl, length, option_map, subst, sym}
use Rattle.std.proofs.lemmas.Bool.{ltb-true}
use Rattle.std.proofs.lemmas.Result.{IfOk-weaker}
use Rattle.std.specs.List.{AllZip}
use Rattle.nextest_documents.specs.Layers.{keys_view}
use Rattle.rinqebo_origins.specs.ProfileOrigins.{IsLayerOrigin}
use Rattle.rinqebo_origins.proofs.ProfileOrigins.{name_at, some_of, some_reported, reported_by}
use Rattle.rinqebo_origins.proofs.grounds.written_origins.Goals as goal

pub returns : goal.returns
returns c = λ near.
    let layers = c.args.layers.now in
    let chain = c.args.chain.now in
    let table = option_map (λ table. table.now) c.args.key.table in
    let name = c.args.key.key.now in
    let grounds = c.args.grounds.now in
    let profile = c.in-Some.profile.now in
    let found = c.in-Some.ensures.lookup in
    let within = ltb-true grounds.profile (length chain) (sym found.0) in
    let same = name_at layers chain table name grounds near profile within found.1 in
    let some = some_of grounds.layers c.is_empty.ensures c.if-is_empty.false in
    IfOk-weaker c.origins_at.result _ _
    (λ origins told.
    let all = subst (λ ps. AllZip (IsLayerOrigin layers profile.now table name) ps origins.items)
    c.deref.ensures.value told in
    inl (
      reported_by layers (keys_view chain) table name grounds near profile.now origins.items same all,
      some_reported (IsLayerOrigin layers profile.now table name) grounds.layers.items origins.items some all,
    ))
    c.origins_at.ensures
