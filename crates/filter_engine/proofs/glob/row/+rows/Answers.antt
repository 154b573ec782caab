use Rattle.std.proofs.Common.{◌≡◌, ◌+◌, ◌-◌, drop, sym, ap, ◌∙◌, inr, arith, get_or}
use Rattle.std.proofs.lemmas.List.{drop-drop, length-drop}
use Rattle.std.proofs.lemmas.Result.{err_from_is_err_and}
use Rattle.filter_engine.proofs.GlobParts.{whole_from, drop_behind, first_is}
use Rattle.filter_engine.proofs.GlobPieces.{part_read, class_read, group_read, refused_class, refused_group, no_piece, no_text_left}
use Rattle.filter_engine.proofs.GlobRows.{none_read, piece_read, row_read, refused_row, no_branches, branch_read, last_read, refused_branch, branch_inside, branch_end, branch_comma}
use Rattle.filter_engine.proofs.glob.row.+rows.Goals as goal
use Rattle.filter_engine.proofs.glob.row.+rows.Goals.{read_piece-else-text-eq123-via-then-text-eq123+else-levels-gt0, read_piece-else-text-eq123-via-else-text-eq123}

pub read_row-loop-alloc-init : goal.read_row-loop-alloc-init
read_row-loop-alloc-init t c =
    (rw c.new-patterns.ensures.items (none_read c.args.inside c.args.levels c.args.text.now), omega arith)

pub read_row-loop-alloc-preserved : goal.read_row-loop-alloc-preserved
read_row-loop-alloc-preserved t c =
    let text = c.args.text.now in
    let at = c.loop-alloc.at in
    let i = c.loop-alloc.invariant in
    let len = length-drop at text in
    let whole = whole_from text at in
    let fits = rw whole at c.in_ok-piece.ensures.len in (
      rw (← drop-drop c.in_ok-piece.piece.len at text)
          (piece_read c.args.inside c.args.levels text c.loop-alloc.place c.in_ok-piece.piece.place (drop at text)
          (drop c.in_ok-piece.piece.len (drop at text)) _ _ c.in_ok-piece.piece.pattern i.0
          (rw whole at c.in_ok-piece.ensures.piece) c.in_ok-add_pattern.ensures),
      omega arith,
    )

pub read_row-returns-clause-row : goal.read_row-returns-clause-row
read_row-returns-clause-row t c =
    let text = c.args.text.now in
    let at = c.loop-alloc.at in
    let whole = whole_from text at in
    let ends = rw whole at (sym c.ends_row.ensures ∙ c.loop-alloc-test.false) in
    row_read c.args.inside c.args.levels text c.loop-alloc.place (drop at text) c.loop-alloc.patterns.items
    c.loop-alloc.invariant.0 ends

pub read_row-returns-in_err-piece-clause-refused : goal.read_row-returns-in_err-piece-clause-refused
read_row-returns-in_err-piece-clause-refused t c =
    let text = c.args.text.now in
    let at = c.loop-alloc.at in
    let whole = whole_from text at in
    let p = err_from_is_err_and c.from_residual.result c.from_residual.ensures.1 in
    rw (p.1, p.2)
    (refused_row c.args.inside c.args.levels text c.loop-alloc.place (drop at text)
    c.loop-alloc.patterns.items c.in_err-piece.field-0.0
    c.loop-alloc.invariant.0 (rw whole at c.in_err-piece.ensures.refused))

pub read_piece-returns-then-text-eq0-clause-refused : goal.read_piece-returns-then-text-eq0-clause-refused
read_piece-returns-then-text-eq0-clause-refused t c =
    inr (no_text_left c.args.inside c.args.levels c.args.place c.args.text.now c.if-text-eq0.true c.requires)

pub read_piece-returns-in_err-group-clause-refused : goal.read_piece-returns-in_err-group-clause-refused
read_piece-returns-in_err-group-clause-refused t c =
    let text = c.args.text.now in
    let whole = whole_from text 1 in
    let e = first_is text 123 (omega arith) c.if-text-eq123.true in
    let p = err_from_is_err_and c.from_residual.result c.from_residual.ensures.1 in
    rw (p.1, p.2)
    (refused_group c.args.inside c.args.levels c.args.place text (drop 1 text) (c.args.levels - 1)
    c.in_err-group.field-0.0 e (omega arith)
    (rw whole at c.in_err-group.ensures.refused))

pub read_piece-returns-then-levels-gt0-clause-piece : goal.read_piece-returns-then-levels-gt0-clause-piece
read_piece-returns-then-levels-gt0-clause-piece t c =
    let text = c.args.text.now in
    let len = c.in_ok-group.len in
    let whole = whole_from text 1 in
    let e = first_is text 123 (omega arith) c.if-text-eq123.true in
    rw (← drop_behind text len)
    (group_read c.args.inside c.args.levels c.args.place text (drop 1 text) (drop len (drop 1 text))
    (c.args.levels - 1) c.in_ok-group.group e
    (omega arith) (rw whole at c.in_ok-group.ensures.group))

pub read_piece-returns-in_err-class-clause-refused : goal.read_piece-returns-in_err-class-clause-refused
read_piece-returns-in_err-class-clause-refused t c =
    let text = c.args.text.now in
    let whole = whole_from text 1 in
    let e = first_is text 91 (omega arith) c.if-text-eq91.true in
    let p = err_from_is_err_and c.from_residual-in_err-class.result c.from_residual-in_err-class.ensures.1 in
    rw (p.1, p.2)
    (refused_class c.args.inside c.args.levels c.args.place text (drop 1 text) c.in_err-class.field-0.0 e
    (rw whole at c.in_err-class.ensures.refused))

pub read_piece-returns-then-text-eq91-clause-piece : goal.read_piece-returns-then-text-eq91-clause-piece
read_piece-returns-then-text-eq91-clause-piece t c =
    let text = c.args.text.now in
    let len = c.in_ok-class.len in
    let whole = whole_from text 1 in
    let e = first_is text 91 (omega arith) c.if-text-eq91.true in
    let made = rw whole at c.in_ok-class.ensures.class in
    rw (← drop_behind text len)
    (class_read c.args.inside c.args.levels c.args.place text (drop 1 text) (drop len (drop 1 text)) made.0
    c.in_ok-class.class e made.1 made.2)

pub read_piece-returns-in_err-part-clause-refused : goal.read_piece-returns-in_err-part-clause-refused
read_piece-returns-in_err-part-clause-refused t c =
    let text = c.args.text.now in
    let p = err_from_is_err_and c.from_residual-in_err-part.result c.from_residual-in_err-part.ensures.1 in
    rw p.1
    (inr (no_piece c.args.inside c.args.levels c.args.place text c.requires c.in_err-part.ensures.part
    (λ inner e. c.if-text-eq91.false (ap (λ l. get_or l 0 0) e))
    (λ inner below e deep.
    elim c.else-text-eq123.branch [
      | read_piece-else-text-eq123-via-then-text-eq123+else-levels-gt0 w ↦ omega arith
      | read_piece-else-text-eq123-via-else-text-eq123 w ↦ w.if-text-eq123.false (ap (λ l. get_or l 0 0) e)
    ])))

pub read_piece-returns-clause-piece : goal.read_piece-returns-clause-piece
read_piece-returns-clause-piece t c =
    rw c.behind.ensures
    (part_read c.args.inside c.args.levels c.args.place c.args.text.now
    (drop c.in_ok-part.len c.args.text.now) c.in_ok-part.part
    c.in_ok-pattern.pattern c.requires c.in_ok-part.ensures.part c.in_ok-pattern.ensures)

pub read_group-loop-branches-init : goal.read_group-loop-branches-init
read_group-loop-branches-init t c =
    (rw c.new-branches.ensures.items (no_branches c.args.levels c.args.text.now), omega arith)

pub read_group-returns-in_err-patterns-clause-refused : goal.read_group-returns-in_err-patterns-clause-refused
read_group-returns-in_err-patterns-clause-refused t c =
    let text = c.args.text.now in
    let at = c.loop-branches.at in
    let whole = whole_from text at in
    let p = err_from_is_err_and c.from_residual.result c.from_residual.ensures.1 in
    rw (p.1, p.2)
    (refused_branch c.args.levels text (drop at text) c.loop-branches.branches.items
    c.in_err-patterns.field-0.0 c.loop-branches.invariant.0
    (rw whole at c.in_err-patterns.ensures.refused))

pub read_group-returns-then-text-at-eq125-clause-group : goal.read_group-returns-then-text-at-eq125-clause-group
read_group-returns-then-text-at-eq125-clause-group t c =
    let text = c.args.text.now in
    let at = c.loop-branches.at in
    let len = c.in_ok-patterns.len in
    let whole = whole_from text at in
    let ends = rw whole at c.in_ok-patterns.ensures.ends in
    let place : at + len ≡ at + (len + 1) - 1 = omega arith in
    let next = branch_end text at len 125 ends.1 (ap (λ k. get_or text k 0) place ∙ c.if-text-at-eq125.true) in
    let reads = rw next at (rw whole at c.in_ok-patterns.ensures.row) in
    last_read c.args.levels text (drop at text) (drop (at + (len + 1)) text) c.loop-branches.branches.items
    c.add_branch.new.branches.items
    c.in_ok-patterns.patterns.items c.any_of.result c.loop-branches.invariant.0 reads
    c.in_ok-add_branch.ensures c.any_of.ensures

pub read_group-loop-branches-preserved : goal.read_group-loop-branches-preserved
read_group-loop-branches-preserved t c =
    let text = c.args.text.now in
    let at = c.loop-branches.at in
    let len = c.in_ok-patterns.len in
    let whole = whole_from text at in
    let ends = rw whole at c.in_ok-patterns.ensures.ends in
    let place : at + len ≡ at + (len + 1) - 1 = omega arith in
    let comma = branch_comma text at len ends.1
    (λ e. c.if-text-at-eq125.false (ap (λ k. get_or text k 0) (sym place) ∙ e)) in
    let next = branch_end text at len 44 ends.1 comma in
    let reads = rw next at (rw whole at c.in_ok-patterns.ensures.row) in
    let inside = branch_inside text at len ends.1 in (
      branch_read c.args.levels text (drop at text) (drop (at + (len + 1)) text)
          c.loop-branches.branches.items c.add_branch.new.branches.items
          c.in_ok-patterns.patterns.items c.loop-branches.invariant.0 reads c.in_ok-add_branch.ensures,
      omega arith,
    )
