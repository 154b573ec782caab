-- The three kinds of lines, one behind the other.
use Rattle.std.proofs.Common.{◌≡◌, ◌++◌, ◌∙◌, List, map, flat_map, [], false, ap}
use Rattle.platform_language.specs.Platforms.Platforms.{Line, PlatformData, line_view}
use Rattle.platform_language.specs.Platforms.Rows.{row_view, value_line, lines_of_cell, name_line, parts_of, value_columns, list_columns, lines_of_row}
use Rattle.platform_language.proofs.platforms.row.TargetRow.platform.Goals as goal

three_parts : (none values lists names one two three : List Line) → none ≡ [] → one ≡ none ++ values
    → two ≡ one ++ lists → three ≡ two ++ names → three ≡ (values ++ lists) ++ names
three_parts none values lists names one two three p q r s =
    s ∙ ap (λ front. front ++ names) (r ∙ ap (λ front. front ++ lists) (q ∙ ap (λ front. front ++ values) p))

pub returns : goal.returns
unfolding lines_of_row
returns c =
    let row = row_view c.args.self.now in
    let before = map line_view c.new-lines.result.items in
    let one = map line_view c.push_values.new.lines.items in
    let two = map line_view c.push_lists.new.lines.items in
    let three = map line_view c.push_names.new.lines.items in
    let values = c.in_ok-push_values.ensures
    ∙ ap (λ columns. before ++ map value_line columns) c.value_columns.ensures in
    let lists = c.in_ok-push_lists.ensures
    ∙ ap (λ columns. one ++ flat_map lines_of_cell columns) c.list_columns.ensures in
    let lines : three ≡ lines_of_row row =
    three_parts before (map value_line (value_columns row)) (flat_map lines_of_cell (list_columns row))
    (map name_line (parts_of row.names)) one two three
    (ap (map line_view) c.new-lines.ensures.items) values lists c.in_ok-push_names.ensures in
    let PlatformOf : List Line → PlatformData =
    λ given. record { triple = row.triple; lines = given; features_given = false } in
    ap (λ triple. record { triple = triple; lines = three; features_given = false })
    c.in_ok-from_str.ensures.ok ∙ ap PlatformOf lines
