-- One property more.
use Rattle.std.proofs.Common.{◌≡◌, ℕ, ◌+◌, ◌<◌, List, ◌∷◌, length, drop, get_or, codes, sym, ap, ◌∙◌}
use Rattle.std.proofs.lemmas.List.{drop_more}
use Rattle.nextest_tree.specs.Key.{key_text}
use Rattle.serde_json.specs.Data.{Data, string, object, Members, put}
use Rattle.nextest_shape.specs.declared.shape.Field.{Field}
use Rattle.nextest_shape.specs.declared.shape.Shape.{Shape}
use Rattle.nextest_shape.specs.About.{about_text}
use Rattle.nextest_shape.specs.Page.{described, schema_members, with_properties}
use Rattle.nextest_shape.specs.View.{shape_view, fields_view}

-- properties after one more was put, and those of what is left
pub with_next : (fields : List (Field Shape)) (i : ℕ) (f : Field Shape) (before after all : Members)
    → i < length fields → f ≡ get_or fields i f
    → after ≡ put (key_text f.key) (object (described (about_text f.key) (schema_members (shape_view f.shape)))) before
    → with_properties (fields_view (drop i fields)) before ≡ all
    → with_properties (fields_view (drop (i + 1) fields)) after ≡ all
with_next fields i f before after all within is put_there left =
    let rest = drop (i + 1) fields in
    let at : drop i fields ≡ f ∷ rest = drop_more fields i f within ∙ ap (λ x. x ∷ rest) (sym is) in
    ap (with_properties (fields_view rest)) put_there
    ∙ sym (ap (λ fs. with_properties (fields_view fs) before) at)
    ∙ left

-- a schema that is put at a key, by what its parts are
pub put_described : (about name : List ℕ) (told schema : Data) (members with_about before after : Members)
    (f : Field Shape) → name ≡ key_text f.key → told ≡ string about → about ≡ about_text f.key
    → members ≡ schema_members (shape_view f.shape) → with_about ≡ put (codes "description") told members
    → schema ≡ object with_about → after ≡ put name schema before
    → after ≡ put (key_text f.key) (object (described (about_text f.key) (schema_members (shape_view f.shape)))) before
put_described about name told schema members with_about before after f e1 e2 e3 e4 e5 e6 e7 =
    e7
    ∙ ap (λ n. put n schema before) e1
    ∙ ap (λ d. put (key_text f.key) d before)
    (e6 ∙ ap object (e5
    ∙ ap (λ t. put (codes "description") t members) (e2 ∙ ap string e3)
    ∙ ap (described (about_text f.key)) e4))
