use Rattle.std.proofs.Common.{◌≡◌, ◌∷◌, ◌++◌, [], map, String, Global, string_bytes, option_map, sym, ap, ◌∙◌, subst, append_assoc, append-nil}
use Rattle.std.specs.List.Sorted.{IsStrictlySortedBy}
use Rattle.std.specs.Map.{keys_of}
use Rattle.std.specs.String.{string_cmp}
use Rattle.nextest_tables.specs.View.{by_name, profile_view}
use Rattle.nextest_tables.specs.declared.profile_table.ProfileTable.{ProfileTable}
use Rattle.nextest_rules.specs.Steps.{written_parents}
use Rattle.nextest_rules.specs.declared.parents.Parent.{Parent}
use Rattle.nextest_rules.proofs.InsertEntry.{goes_last, names_more, seen_more, same_copy}
use Rattle.nextest_rules.proofs.parents.parents_of.Goals as goal

pub loop-name-preserved : goal.loop-name-preserved
loop-name-preserved c =
    let entry : String Global × ProfileTable = (c.in-Some.name.now, c.in-Some.table.now) in
    let rest = c.next.new.self in
    let inv = c.loop-name.invariant in
    let done = inv.0.0 in
    let steps = c.in-Some.ensures.steps in
    let before = c.loop-name.parents.entries in
    let key = c.in_ok-clone-2.field-0 in
    let same = c.in_ok-clone-2.ensures.cases in
    let parent : Parent = record { 0 = c.in_ok-clone.field-0 } in
    let see : Parent → _ = λ p. option_map string_bytes p.0 in
    let is : see parent ≡ option_map string_bytes entry.1.inherits =
    same_copy entry.1.inherits c.in_ok-clone.field-0 c.in_ok-clone.ensures.cases in
    let all : c.args.profiles.now.entries ≡ done ++ entry ∷ rest = inv.0.1 ∙ ap (λ es. done ++ es) steps in
    let sorted = subst (λ es. IsStrictlySortedBy string_cmp (keys_of es)) all c.iter-name-items.ensures.ordered in
    let grown : c.insert.new.self.entries ≡ before ++ (key, parent) ∷ [] =
    c.in_ok-insert.ensures.entries ∙ goes_last done entry rest before key parent sorted inv.0.2 same in
    let left = written_parents (by_name profile_view rest) in (
      (
        done ++ entry ∷ [],
        all ∙ sym (append_assoc done (entry ∷ []) rest),
        ap
            (λ es. map string_bytes (keys_of es)) grown
            ∙ names_more before done key entry.0 parent entry.1 inv.0.2 same,
      ),
      ap (λ es. by_name see es ++ left) grown ∙ seen_more see before key parent _ left is
          ∙ ap (λ name. by_name see before ++ (name, option_map string_bytes entry.1.inherits) ∷ left) same
          ∙ ap (λ es. by_name see before ++ written_parents (by_name profile_view es)) (sym steps) ∙ inv.1,
    )

pub returns : goal.returns
returns c = sym (append-nil _) ∙ (rw c.in-None.ensures.steps.0 at c.loop-name.invariant.1)
