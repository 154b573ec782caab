-- Scripts by their ids.
use Rattle.std.proofs.Common.{◌≡◌, List, [], ◌∷◌, cond, Option, Some, None, option_map, IsSome, Bool, true, false, map, refl, ap, sym, ◌∙◌, Bor}
use Rattle.std.proofs.lemmas.Map.Text.{is_eq-slice_cmp}
use Rattle.std.specs.Cmp.Lexicographic.{nat_list_eq_equiv}
use Rattle.std.specs.Map.{lookup}
use Rattle.std.specs.Str.{bytes_eq}
use Rattle.nextest_rules.specs.Rules.{at_name}
use Rattle.nextest_scripts.specs.ScriptId.{script_text}
use Rattle.nextest_scripts.specs.declared.script_id.ScriptId.{ScriptId}
use Rattle.nextest_tables.specs.FileTexts.{names_in, IsIn}
use Rattle.nextest_tables.specs.Written.{Name}

-- what is at the text of an id is what a map finds of the id
pub at_script : {X Y : Type 0} (f : X → Y) (id : ScriptId) (es : List (ScriptId × X))
    → at_name (script_text id) (map (λ e. (script_text e.0, f e.1)) es)
    ≡ option_map f (lookup (λ k. bytes_eq (script_text id) (script_text k)) es)
at_script f id [] = refl
at_script f id (e ∷ es) =
    rw (is_eq-slice_cmp (script_text id) (script_text e.0))
    (cases (bytes_eq (script_text id) (script_text e.0)) _ _ (at_script f id es)) where
      cases : (b : Bool) (o : Option _) (r : Option _) → o ≡ option_map f r
          → cond b (Some (f e.1)) o ≡ option_map f (cond b (Some e.1) r)
      cases true o r is = refl
      cases false o r is = is

-- a name that is among the names of entries has an entry
there : {X : Type 0} (name : Name) (e : Name × X) (es : List (Name × X)) (b : Bool) → bytes_eq e.0 name ≡ b
    → (IsIn (names_in es) name → IsSome (at_name name es)) → IsIn (names_in (e ∷ es)) name
    → IsSome (cond b (Some e.1) (at_name name es))
there name e es true is further h = refl
there name e es false is further h = further (rw is at h)

pub is_there : {X : Type 0} (name : Name) (es : List (Name × X)) → IsIn (names_in es) name → IsSome (at_name name es)
is_there name [] h = absurd cc
is_there name (e ∷ es) h =
    rw (is_eq-slice_cmp name e.0, nat_list_eq_equiv.symm name e.0)
    (there name e es (bytes_eq e.0 name) refl (is_there name es) h)

-- a reference that a map gives, by what is seen of it
pub at_script_ref : {X Y : Type 0} (f : X → Y) (id : ScriptId) (es : List (ScriptId × X)) (r : Option (Bor X))
    → option_map (λ x. x.now) r ≡ lookup (λ k. bytes_eq (script_text id) (script_text k)) es
    → option_map (λ x. f x.now) r ≡ at_name (script_text id) (map (λ e. (script_text e.0, f e.1)) es)
at_script_ref f id es r found = fuse r ∙ ap (option_map f) found ∙ sym (at_script f id es) where
  fuse : (r : Option (Bor _)) → option_map (λ x. f x.now) r ≡ option_map f (option_map (λ x. x.now) r)
  fuse None = refl
  fuse (Some x) = refl
