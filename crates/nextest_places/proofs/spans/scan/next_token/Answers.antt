use Rattle.std.proofs.Common.{◌-◌, length, refl, ap, subst}
use Rattle.nextest_places.specs.Spans.Nesting.{IsOfRaw}
use Rattle.nextest_places.specs.Spans.Tokens.{IsRightPiece}
use Rattle.nextest_places.proofs.spans.Nests.{nests_by}
use Rattle.nextest_places.proofs.spans.Walk.{own_of, taken_none, taken_token}
use Rattle.nextest_places.proofs.spans.scan.next_token.Goals as goal

pub returns-in-None : goal.returns-in-None
returns-in-None c =
    record {
      taken =
          taken_none c.args.text.now c.args.rest.now c.cut.result.0.now c.cut.result.1.now c.requires.place c.cut.ensures
          (subst (IsRightPiece c.cut.result.0.now) c.in-None.is c.in_ok-kind_of.ensures.piece);
      own = own_of c.args.text.now c.args.rest.now c.cut.result.0.now c.cut.result.1.now c.requires.place c.cut.ensures;
      nests = ap (λ nest. nest.items) c.take-front.ensures.nest;
    }

pub returns : goal.returns
returns c =
    record {
      taken =
          taken_token c.args.text.now c.args.rest.now c.cut.result.0.now c.cut.result.1.now
          (record {
            kind = c.in-Some.kind;
            span = record {
              start = length c.args.text.now - length c.args.rest.now;
              end = length c.args.text.now - length c.cut.result.1.now;
            };
          })
          c.requires.place c.cut.ensures (subst (IsRightPiece c.cut.result.0.now) c.in-Some.is c.in_ok-kind_of.ensures.piece) refl refl;
      own = own_of c.args.text.now c.args.rest.now c.cut.result.0.now c.cut.result.1.now c.requires.place c.cut.ensures;
      nests =
          nests_by c.in-Some.kind c.take-front.result.raw c.args.state.now.nest.items c.take-front.new.self.nest.items c.follow.new.self.nest.items
          (ap (λ nest. nest.items) c.take-front.ensures.nest) c.take-front.ensures.closes
          (subst (IsOfRaw c.take-front.result.raw) c.in-Some.is c.in_ok-kind_of.ensures.closes) c.in_ok-follow.ensures;
    }
