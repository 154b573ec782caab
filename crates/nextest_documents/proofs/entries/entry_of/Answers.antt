use Rattle.std.proofs.Common.{◌≡◌, true, sym, ap, ◌∙◌}
use Rattle.std.proofs.lemmas.Bool.{true≢false}
use Rattle.nextest_documents.specs.Shown.{Path}
use Rattle.nextest_tree.specs.View.{tree_view}
use Rattle.nextest_documents.specs.Entries.{Leaf}
use Rattle.nextest_documents.specs.Layers.{keys_view}
use Rattle.nextest_documents.specs.Writers.{writer_view}
use Rattle.nextest_documents.proofs.Finding.{not_wanted, no_entry, not_told, entry_is}
use Rattle.nextest_documents.proofs.entries.entry_of.Goals as goal
use Rattle.nextest_documents.proofs.entries.entry_of.Goals.{else-is_hidden-via-then-is_hidden+else-not-query, else-is_hidden-via-else-is_hidden}

pub returns-then-not-branch : goal.returns-then-not-branch
returns-then-not-branch c =
    not_wanted c.args.query.layers.now (keys_view c.args.path.now) (writer_view c.args.writer)
    (keys_view c.args.query.keys.now) c.args.query.with_hidden c.in_ok-is_wanted.field-0 c.in_ok-is_wanted.ensures
    c.if-not-branch.true

pub returns-in_default : goal.returns-in_default
returns-in_default c =
    no_entry c.args.query.layers.now (keys_view c.args.path.now) (writer_view c.args.writer)
    (keys_view c.args.query.keys.now) c.args.query.with_hidden (rw c.in_default.is at c.in_ok-value.ensures)

pub returns-then-not-query : goal.returns-then-not-query
returns-then-not-query c =
    not_told c.args.query.layers.now (keys_view c.args.path.now) (writer_view c.args.writer)
    (keys_view c.args.query.keys.now) c.args.query.with_hidden c.in_ok-is_hidden.is_hidden c.in_ok-is_hidden.ensures
    c.if-is_hidden.true c.if-not-query.true

pub returns : goal.returns
returns c =
    let w = writer_view c.args.writer in
    let v = tree_view c.in-Some.value.now in
    let hidden = c.in_ok-is_hidden.is_hidden in
    let at : Path → Leaf = λ p. record { path = p; value = v; region = w.0; layer = w.1; hidden = hidden } in
    let wanted : hidden ≡ true → c.args.query.with_hidden ≡ true = λ h.
    elim c.else-is_hidden.branch [
      | else-is_hidden-via-then-is_hidden+else-not-query b ↦ b.if-not-query.false
      | else-is_hidden-via-else-is_hidden b ↦ absurd (true≢false (sym h ∙ b.if-is_hidden.false))
    ] in
    entry_is c.args.query.layers.now (keys_view c.args.path.now) w (keys_view c.args.query.keys.now)
    c.args.query.with_hidden hidden c.in_ok-is_hidden.ensures v (rw c.in-Some.is at c.in_ok-value.ensures)
    (c.in_ok-is_wanted.ensures.0 c.if-not-branch.false) wanted _
    (ap at (ap keys_view c.in_ok-from_slice.ensures.items))
