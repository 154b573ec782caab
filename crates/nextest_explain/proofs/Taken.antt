-- What options are once they took an item.
use Rattle.std.proofs.Common.{◌≡◌, ◌∙◌, ◌++◌, ◌||◌, ℕ, List, [], ◌∷◌, Bool, true, false, Bor, IfSome, MatchOption, Option, None, Some, Ordering, Less, Equal, Greater, ap, append-nil, codes, map, refl, sym, Vec}
use Rattle.std.proofs.lemmas.List.{map-append}
use Rattle.std.specs.declared.alloc.Global.{Global}
use Rattle.nextest_elements.specs.IdentifierText.{tool_name_text}
use Rattle.std.specs.BTreeSet.{BTreeSet, insert_key}
use Rattle.std.specs.List.{list_any}
use Rattle.std.specs.Ordering.{match_ordering}
use Rattle.nextest_engines.specs.declared.queries.BuildPlatform.TheVariants as platforms
use Rattle.nextest_elements.specs.Experimental.{experimental_text}
use Rattle.nextest_elements.specs.declared.experimental.ConfigExperimental.{ConfigExperimental}
use Rattle.nextest_elements.specs.declared.experimental.ConfigExperimental.TheVariants.{SetupScripts, WrapperScripts}
use Rattle.nextest_rules.specs.KnownView.{features_view, is_feature}
use Rattle.nextest_explain.specs.Taking.{GrowBy, TakesOption}
use Rattle.nextest_explain.specs.Words.{config_file, organisation_config_file, tool_config_file, experimental, host, target, host_binary, whole_places, argument, given, given_platform, given_places, named_tool_file}
use Rattle.nextest_explain.specs.declared.options.Options.{Options}
use Rattle.nextest_explain.specs.declared.options.Places.TheVariants as told
use Rattle.nextest_explain.specs.declared.options.ToolFile.{ToolFile}

or_false : (a : Bool) → a ≡ (a || false)
or_false true = refl
or_false false = refl

or_comm : (a b : Bool) → (a || b) ≡ (b || a)
or_comm true true = refl
or_comm true false = refl
or_comm false true = refl
or_comm false false = refl

or_again : (a b c : Bool) → a ≡ b → (b || c) ≡ (a || (b || c))
or_again true true c same = refl
or_again true false c same = absurd (cc)
or_again false true c same = refl
or_again false false c same = refl

or_swap : (a b c : Bool) → (a || (b || c)) ≡ (b || (a || c))
or_swap true true c = refl
or_swap true false c = refl
or_swap false b c = refl

-- what gets nothing stays as it is
kept : {X : Type 0} (xs : List X) → xs ≡ xs ++ []
kept xs = sym (append-nil xs)

module _ (cmp : ConfigExperimental → ConfigExperimental → Ordering) (one : cmp SetupScripts WrapperScripts ≡ Less)
    (other : cmp WrapperScripts SetupScripts ≡ Greater) where
  equal : (k x : ConfigExperimental) → cmp k x ≡ Equal → k ≡ x
  equal SetupScripts SetupScripts is = refl
  equal SetupScripts WrapperScripts is = absurd (cc)
  equal WrapperScripts SetupScripts is = absurd (cc)
  equal WrapperScripts WrapperScripts is = refl

  inserted_at : (o : Ordering) (f k x : ConfigExperimental) (xs : List ConfigExperimental) → cmp k x ≡ o
      → list_any (is_feature f) (insert_key cmp xs k) ≡ (is_feature f k || list_any (is_feature f) xs)
      → list_any (is_feature f) (match_ordering o (k ∷ x ∷ xs) (x ∷ xs) (x ∷ insert_key cmp xs k))
      ≡ (is_feature f k || list_any (is_feature f) (x ∷ xs))
  inserted_at Less f k x xs is next = refl
  inserted_at Equal f k x xs is next =
      or_again (is_feature f k) (is_feature f x) (list_any (is_feature f) xs) (ap (is_feature f) (equal k x is))
  inserted_at Greater f k x xs is next =
      ap (λ b. is_feature f x || b) next ∙ or_swap (is_feature f x) (is_feature f k) (list_any (is_feature f) xs)

  -- a feature that is put in is there, beside those that were
  inserted : (f k : ConfigExperimental) (xs : List ConfigExperimental)
      → list_any (is_feature f) (insert_key cmp xs k) ≡ (is_feature f k || list_any (is_feature f) xs)
  inserted f k [] = refl
  inserted f k (x ∷ xs) = inserted_at (cmp k x) f k x xs refl (inserted f k xs)

-- the path of a file is set
pub sets_config_file : (old : Options) (value : List ℕ) (now : Option (Bor (List ℕ)))
    → given now ≡ given old.config_file ++ value ∷ []
    → TakesOption (codes "--config-file" ∷ value ∷ []) old (record old { config_file = now })
sets_config_file old value now set = record {
  item = config_file value;
  spelled = refl;
  is_item = tt;
  no_argument = refl;
  grown = record {
    config_file = set;
    organisation_config_file = kept (given old.organisation_config_file);
    tool_files = kept (map named_tool_file old.tool_files.items);
    features = λ feature. or_false (features_view old.features feature);
    host = kept (given old.host);
    target = kept (given old.target);
    platform = kept (given_platform old.platform);
    places = kept (given_places old.places);
  };
}

-- the path of the file of the organisation is set
pub sets_organisation_config_file : (old : Options) (value : List ℕ) (now : Option (Bor (List ℕ)))
    → given now ≡ given old.organisation_config_file ++ value ∷ []
    → TakesOption (codes "--organisation-config-file" ∷ value ∷ []) old (record old { organisation_config_file = now })
sets_organisation_config_file old value now set = record {
  item = organisation_config_file value;
  spelled = refl;
  is_item = tt;
  no_argument = refl;
  grown = record {
    config_file = kept (given old.config_file);
    organisation_config_file = set;
    tool_files = kept (map named_tool_file old.tool_files.items);
    features = λ feature. or_false (features_view old.features feature);
    host = kept (given old.host);
    target = kept (given old.target);
    platform = kept (given_platform old.platform);
    places = kept (given_places old.places);
  };
}

-- the host is named
pub sets_host : (old : Options) (value : List ℕ) (now : Option (Bor (List ℕ)))
    → given now ≡ given old.host ++ value ∷ []
    → TakesOption (codes "--host" ∷ value ∷ []) old (record old { host = now })
sets_host old value now set = record {
  item = host value;
  spelled = refl;
  is_item = tt;
  no_argument = refl;
  grown = record {
    config_file = kept (given old.config_file);
    organisation_config_file = kept (given old.organisation_config_file);
    tool_files = kept (map named_tool_file old.tool_files.items);
    features = λ feature. or_false (features_view old.features feature);
    host = set;
    target = kept (given old.target);
    platform = kept (given_platform old.platform);
    places = kept (given_places old.places);
  };
}

-- the target is named
pub sets_target : (old : Options) (value : List ℕ) (now : Option (Bor (List ℕ)))
    → given now ≡ given old.target ++ value ∷ []
    → TakesOption (codes "--target" ∷ value ∷ []) old (record old { target = now })
sets_target old value now set = record {
  item = target value;
  spelled = refl;
  is_item = tt;
  no_argument = refl;
  grown = record {
    config_file = kept (given old.config_file);
    organisation_config_file = kept (given old.organisation_config_file);
    tool_files = kept (map named_tool_file old.tool_files.items);
    features = λ feature. or_false (features_view old.features feature);
    host = kept (given old.host);
    target = set;
    platform = kept (given_platform old.platform);
    places = kept (given_places old.places);
  };
}

-- the binary is built for the host
pub sets_host_binary : (old : Options)
    → old.platform ≡ platforms.Target
    → TakesOption (codes "--host-binary" ∷ []) old (record old { platform = platforms.Host })
sets_host_binary old set = record {
  item = host_binary;
  spelled = refl;
  is_item = tt;
  no_argument = refl;
  grown = record {
    config_file = kept (given old.config_file);
    organisation_config_file = kept (given old.organisation_config_file);
    tool_files = kept (map named_tool_file old.tool_files.items);
    features = λ feature. or_false (features_view old.features feature);
    host = kept (given old.host);
    target = kept (given old.target);
    platform = ap (λ platform. given_platform platform ++ platforms.Host ∷ []) (sym set);
    places = kept (given_places old.places);
  };
}

-- places are reported whole
pub sets_whole_places : (old : Options)
    → old.places ≡ told.Words
    → TakesOption (codes "--all" ∷ []) old (record old { places = told.Whole })
sets_whole_places old set = record {
  item = whole_places;
  spelled = refl;
  is_item = tt;
  no_argument = refl;
  grown = record {
    config_file = kept (given old.config_file);
    organisation_config_file = kept (given old.organisation_config_file);
    tool_files = kept (map named_tool_file old.tool_files.items);
    features = λ feature. or_false (features_view old.features feature);
    host = kept (given old.host);
    target = kept (given old.target);
    platform = kept (given_platform old.platform);
    places = ap (λ places. given_places places ++ told.Whole ∷ []) (sym set);
  };
}

-- the file of a tool is added
pub adds_tool_file : (old : Options) (value : List ℕ) (files : Vec ToolFile Global) (file : ToolFile)
    → value ≡ tool_name_text file.tool ++ 58 ∷ file.path.now → files.items ≡ old.tool_files.items ++ file ∷ []
    → TakesOption (codes "--tool-config-file" ∷ value ∷ []) old (record old { tool_files = files })
adds_tool_file old value files file split more = record {
  item = tool_config_file (tool_name_text file.tool) file.path.now;
  spelled = ap (λ value. codes "--tool-config-file" ∷ value ∷ []) (sym split);
  is_item = tt;
  no_argument = refl;
  grown = record {
    config_file = kept (given old.config_file);
    organisation_config_file = kept (given old.organisation_config_file);
    tool_files = ap (map named_tool_file) more ∙ map-append named_tool_file old.tool_files.items (file ∷ []);
    features = λ feature. or_false (features_view old.features feature);
    host = kept (given old.host);
    target = kept (given old.target);
    platform = kept (given_platform old.platform);
    places = kept (given_places old.places);
  };
}

-- a feature is switched on
pub switches_on : (cmp : ConfigExperimental → ConfigExperimental → Ordering)
    → cmp SetupScripts WrapperScripts ≡ Less → cmp WrapperScripts SetupScripts ≡ Greater
    → (old : Options) (value : List ℕ) (features : BTreeSet ConfigExperimental) (feature : ConfigExperimental)
    → value ≡ experimental_text feature → features.keys ≡ insert_key cmp old.features.keys feature
    → TakesOption (codes "--experimental" ∷ value ∷ []) old (record old { features = features })
switches_on cmp one other old value features feature named keys = record {
  item = experimental feature;
  spelled = ap (λ value. codes "--experimental" ∷ value ∷ []) (sym named);
  is_item = tt;
  no_argument = refl;
  grown = record {
    config_file = kept (given old.config_file);
    organisation_config_file = kept (given old.organisation_config_file);
    tool_files = kept (map named_tool_file old.tool_files.items);
    features = λ f. ap (list_any (is_feature f)) keys ∙ inserted cmp one other f feature old.features.keys
        ∙ or_comm (is_feature f feature) (features_view old.features f);
    host = kept (given old.host);
    target = kept (given old.target);
    platform = kept (given_platform old.platform);
    places = kept (given_places old.places);
  };
}

-- an argument leaves the options as they are
pub gives_nothing : (word : List ℕ) (old : Options) → GrowBy (argument word) old old
gives_nothing word old = record {
  config_file = kept (given old.config_file);
  organisation_config_file = kept (given old.organisation_config_file);
  tool_files = kept (map named_tool_file old.tool_files.items);
  features = λ feature. or_false (features_view old.features feature);
  host = kept (given old.host);
  target = kept (given old.target);
  platform = kept (given_platform old.platform);
  places = kept (given_places old.places);
}

-- the parts of a text around its first colon
pub parts_of : {A : Type 0} (P : Type 0) (Q R : A → Type 0) (r : Option A) → MatchOption r P (λ x. Q x × R x)
    → IfSome r Q
parts_of P Q R (Some x) h = h.0
parts_of P Q R None h = tt
