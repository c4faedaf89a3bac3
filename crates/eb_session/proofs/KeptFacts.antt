-- What every step keeps: each entity of the world is a row of the published image, and the section is loaded.
use Rattle.std.proofs.Common.{◌≡◌, Bool, true, false, refl, sym, ap, ◌∙◌}
use Rattle.std.specs.Prelude.{Option, None, Some, IfSome, option_map}
use Rattle.std.specs.FinMap.{empty, get, get-empty, same_map}
use Rattle.eb_schema.specs.Schemas.{Types}
use Rattle.eb_base.specs.declared.names.Name.{Name}
use Rattle.eb_base.specs.Names.{name_cmp}
use Rattle.eb_base.proofs.NameOrder.{names_total, exact_names}
use Rattle.eb_file.specs.declared.images.Image.{Image}
use Rattle.eb_world.specs.Worlds.{Live, Living}
use Rattle.eb_stream.specs.Loading.{AllOf, loaded, unloaded}
use Rattle.eb_stream.proofs.SectionFacts.{found_first, unloaded_all}
use Rattle.eb_outside.specs.Shelves.{Files}
use Rattle.eb_session.specs.declared.sections.Published.{Published}
use Rattle.eb_session.specs.Images.{the_place}
use Rattle.eb_scene.specs.Projects.{Content}
use Rattle.eb_rules.specs.Kept.{Kept}
use Rattle.eb_session.specs.Machine.{State, Step, IsSection, IsKept, refreshed_live}

nothing_found : (live : Live) (name : Name) (l : Living) → live ≡ empty → get live name ≡ Some l → ⊥
nothing_found live name l none has = cc (has, ap (λ m. get m name) none, get-empty {X = Living} name_cmp name)

-- where nothing lives there is nothing to keep
pub IsKept-empty : (state : State) → IfSome state.published (IsSection state.project.schema) → state.live ≡ empty → IsKept state
IsKept-empty state published none = record {
  published = published;
  rows = λ name l has. absurd (nothing_found state.live name l none has);
  tags = λ name l has. absurd (nothing_found state.live name l none has);
  loaded = λ name l has. absurd (nothing_found state.live name l none has);
}

-- where the section was loaded into an empty world, its rows live and nothing else
pub IsKept-loaded : (state : State) (before : Live) (image : Image) → state.published ≡ Some image → IsSection state.project.schema image → state.is_loaded ≡ true → before ≡ empty → state.live ≡ loaded before image → IsKept state
IsKept-loaded state before image published section is_loaded none live =
    let from_empty : state.live ≡ loaded empty image = live ∙ ap (λ l. loaded l image) none in
    let found : (name : Name) (l : Living) → get state.live name ≡ Some l → get (loaded empty image) name ≡ Some l = λ name l has. ap (λ m. get m name) (sym from_empty) ∙ has in
    record {
      published = rw published section;
      rows = λ name l has. rw published ((found_first image name l section.numbers (found name l has)).1);
      tags = λ name l has. (found_first image name l section.numbers (found name l has)).0 ∙ ap Some section.place;
      loaded = λ name l has. is_loaded;
    }

none_or : (found : Option Living) → ((l : Living) → found ≡ Some l → ⊥) → found ≡ None
none_or None never = refl
none_or (Some l) never = absurd (never l refl)

-- where the section isn't loaded nothing lives
pub nothing_lives : (state : State) → IsKept state → state.is_loaded ≡ false → state.live ≡ empty
nothing_lives state kept unloaded =
    same_map names_total exact_names state.live empty (λ name. none_or (get state.live name) (λ l has. cc (kept.loaded name l has, unloaded)) ∙ sym (get-empty {X = Living} name_cmp name))

-- what the published section is, seen through the image that is kept beside its bytes
pub published_section : (types : Types) (published : Option Published) (p : Published) → published ≡ Some p → IfSome (option_map (λ (p : Published). p.image) published) (IsSection types) → IsSection types p.image
published_section types published p is section = rw is at section

-- a publication puts its image in place, and the section is loaded from it where it is loaded
pub IsKept-refreshed : (state : State) (is_loaded : Bool) (before : Live) (image : Image) → state.published ≡ Some image → IsSection state.project.schema image → state.is_loaded ≡ is_loaded → AllOf (Some the_place) before → (is_loaded ≡ false → before ≡ empty)
    → state.live ≡ refreshed_live is_loaded before image → IsKept state
IsKept-refreshed state false before image published section same tags none live = IsKept-empty state (rw published section) (live ∙ none refl)
IsKept-refreshed state true before image published section same tags none live =
    IsKept-loaded state (unloaded before the_place) image published section same (unloaded_all before the_place tags) live

pub same_for_all : (f g : Files → Step) (files : Option Files) → ((x : Files) → f x ≡ g x) → option_map f files ≡ option_map g files
same_for_all f g None same = refl
same_for_all f g (Some files) same = ap Some (same files)

-- an edit changes the project, and neither its schema nor the world
pub IsKept-edited : (state : State) (rules : Kept) (project : Content) → project.schema ≡ state.project.schema → IsKept state → IsKept (record state { rules = rules; project = project })
IsKept-edited state rules project same kept = record { published = rw same kept.published; rows = kept.rows; tags = kept.tags; loaded = kept.loaded }
