use Rattle.std.proofs.Common.{◌∙◌, sym}
use Rattle.nextest_tree.specs.View.{tree_view}
use Rattle.nextest_places.proofs.Indexed.{known_place}
use Rattle.nextest_places.proofs.Placing.{lacking}
use Rattle.nextest_places.proofs.place.Places.lines_at.Goals as goal

pub returns-then-not-has_path : goal.returns-then-not-has_path
returns-then-not-has_path c =
    let is = c.self.invariant in
    rw (← c.self.view_is)
    (lacking c.args.path.now c.self.inside.text.now is.count (tree_view c.self.inside.longest.document) is.is (sym c.has_path.ensures ∙ c.if-not-has_path.true))

pub returns : goal.returns
returns c =
    let is = c.self.invariant in
    rw (c.lines_of.ensures, ← c.self.view_is)
    (known_place c.args.path.now (sym c.is_empty.ensures ∙ c.if-is_empty.false) c.self.inside.text.now
    c.self.inside.longest is (sym c.has_path.ensures ∙ c.if-not-has_path.false))
