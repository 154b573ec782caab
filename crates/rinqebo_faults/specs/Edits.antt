-- What the files of a run are read without, and with in its place.
use Rattle.std.specs.Prelude.{ℕ, ◌+◌, ◌-◌, ◌^◌, min, ◌||◌, Bool, true, false, List, ◌++◌, codes, decimal, fold, length, cond, Option, None, Some, option_map, string_bytes}
use Rattle.std.specs.BTreeMap.{btree_map_len, get_by_text}
use Rattle.std.specs.BTreeSet.{btree_set_len, contains_text}
use Rattle.std.specs.Str.{bytes_eq}
use Rattle.nextest_places.specs.Spans.Paths.{PathStep}
use Rattle.nextest_places.specs.Spans.Paths as paths
use Rattle.rinqebo_faults.specs.declared.edits.Edits.{Edits}
use Rattle.rinqebo_faults.specs.declared.left_out.LeftOut.{LeftOut}
use Rattle.rinqebo_faults.specs.declared.left_out.Names.{Names}

-- a path below another one, both as marks
unfoldable pub mark_below : List ℕ → PathStep → List ℕ
mark_below mark (paths.key key) =
    mark ++ (codes "/" ++ (decimal (length key) ++ (codes ":" ++ key)))
mark_below mark (paths.position place) = mark ++ (codes "/" ++ decimal place)

-- the mark of a path in the source at a place among the layers
unfoldable pub mark_of : ℕ → List PathStep → List ℕ
mark_of place path = fold mark_below (decimal place) path

-- names: whether any may be one of these, and which are
pub record NamesView : Type 0 where
  pub any : Bool
  pub named : List ℕ → Bool

-- the names that `Names` are
unfoldable pub names_view : Names → NamesView
names_view names = record { any = names.is_any; named = contains_text names.names }

-- no names
abbrev pub no_names : NamesView
no_names = record { any = false; named = λ name. false }

-- one name more
unfoldable pub with_name : List ℕ → NamesView → NamesView
with_name name names =
    record { any = names.any; named = λ other. cond (bytes_eq name other) true (names.named other) }

-- any name
abbrev pub with_any : NamesView → NamesView
with_any names = record { any = true; named = names.named }

-- whether a name may be one of some names
abbrev pub may_be : NamesView → List ℕ → Bool
may_be names name = names.any || names.named name

-- the names whose definitions are left out, of groups and of scripts, and the paths of script rules
-- of which a value is
pub record LeftOutView : Type 0 where
  pub groups : NamesView
  pub scripts : NamesView
  pub rules : NamesView

unfoldable pub left_out_view : LeftOut → LeftOutView
left_out_view left_out =
    record {
      groups = names_view left_out.groups;
      scripts = names_view left_out.scripts;
      rules = names_view left_out.rules;
    }

-- no name is left out
abbrev pub nothing_left_out : LeftOutView
nothing_left_out = record { groups = no_names; scripts = no_names; rules = no_names }

-- edits: which marks are left out, what is read in place of the values at marks, and what behind the
-- keys of the tables at marks
pub record EditsView : Type 0 where
  pub removed : List ℕ → Bool
  pub replaced : List ℕ → Option (List ℕ)
  pub added : List ℕ → Option (List ℕ)
  pub left_out : LeftOutView

-- the edits that `Edits` are
unfoldable pub edits_view : Edits → EditsView
edits_view edits =
    record {
      removed = contains_text edits.removed;
      replaced = λ mark. option_map (λ text. text.now) (get_by_text edits.replaced mark);
      added = λ mark. option_map string_bytes (get_by_text edits.added mark);
      left_out = left_out_view edits.left_out;
    }

-- how many edits there are, as a machine counts them
abbrev pub edit_count : Edits → ℕ
edit_count edits =
    let two = min (btree_set_len edits.removed + btree_map_len edits.replaced) (2 ^ 64 - 1) in
    min (two + btree_map_len edits.added) (2 ^ 64 - 1)

-- no edits
abbrev pub no_edits : EditsView
no_edits =
    record {
      removed = λ mark. false;
      replaced = λ mark. None;
      added = λ mark. None;
      left_out = nothing_left_out;
    }

-- An edit of the files of a run.
pub data Edit : Type 0 where
  -- the value at a mark is left out
  remove : List ℕ → Edit
  -- a text is read in place of the value at a mark
  replace : List ℕ → List ℕ → Edit
  -- an entry is read behind the keys of the table at a mark
  add : List ℕ → List ℕ → Edit
  -- a group of this name may have been left out, or any group
  omit_group : List ℕ → Edit
  omit_groups : Edit
  -- a script of this name may have been left out, or any script
  omit_script : List ℕ → Edit
  omit_scripts : Edit
  -- a value of a script rule of the profile that has this path was left out
  omit_rule : List ℕ → Edit

-- an entry before those that are there
abbrev pub entries_with : List ℕ → Option (List ℕ) → List ℕ
entries_with entry None = entry
entries_with entry (Some entries) = entry ++ (codes ", " ++ entries)

-- edits, and one more
unfoldable pub with_edit : EditsView → Edit → EditsView
with_edit edits (remove mark) =
    record edits { removed = λ other. cond (bytes_eq mark other) true (edits.removed other) }
with_edit edits (replace mark text) =
    record edits { replaced = λ other. cond (bytes_eq mark other) (Some text) (edits.replaced other) }
with_edit edits (add mark entry) =
    record edits {
      added = λ other. cond (bytes_eq mark other)
          (Some (entries_with entry (edits.added mark))) (edits.added other);
    }
with_edit edits (omit_group name) =
    record edits {
      left_out = record edits.left_out { groups = with_name name edits.left_out.groups };
    }
with_edit edits omit_groups =
    record edits { left_out = record edits.left_out { groups = with_any edits.left_out.groups } }
with_edit edits (omit_script name) =
    record edits {
      left_out = record edits.left_out { scripts = with_name name edits.left_out.scripts };
    }
with_edit edits omit_scripts =
    record edits { left_out = record edits.left_out { scripts = with_any edits.left_out.scripts } }
with_edit edits (omit_rule path) =
    record edits {
      left_out = record edits.left_out { rules = with_name path edits.left_out.rules };
    }

-- edits, and some more
abbrev pub with_edits : EditsView → List Edit → EditsView
with_edits edits more = fold with_edit edits more
