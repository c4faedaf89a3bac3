-- The rows of the image: what is there of them, and what follows where all are there, or one isn't.
use Rattle.std.proofs.Common.{◌≡◌, ℕ, ◌≤◌, Bool, true, false, List, [], ◌∷◌, ◌++◌, map, refl, sym, ap, subst, ◌∙◌, append_assoc, append-nil, arith}
use Rattle.std.specs.Prelude.{◌&&◌, nat_le, Option, Some, None, option_map}
use Rattle.std.specs.List.{list_all}
use Rattle.std.specs.FinMap.{entries, len}
use Rattle.std.proofs.lemmas.Bool.Decides.{nat_tests}
use Rattle.eb_base.specs.declared.names.Name.{Name}
use Rattle.eb_schema.specs.BakedEntities.{Entities}
use Rattle.eb_schema.specs.Schemas.{Types}
use Rattle.eb_schema.specs.declared.baked.BakedEntity.{BakedEntity}
use Rattle.eb_scene.specs.Projects.{Content}
use Rattle.eb_file.specs.declared.images.Image.{Image}
use Rattle.eb_file.specs.declared.images.ImageRow.{ImageRow}
use Rattle.eb_file.specs.Images.{IsPlain}
use Rattle.eb_session.specs.Images.{the_place, stored_row, is_plain_entity, has_scene_one_alone, is_plain, image_where, guarded_image, row_where, before_rows, all_rows}
use Rattle.eb_session.specs.Machine.{IsSection}
use Rattle.eb_session.proofs.SectionFacts.{IsSection-image_of, IsPlain-image_of}

abbrev pub Named : Type 0
Named = Name × BakedEntity

-- ---- one row after the other

behind : (rows : List ImageRow) (row : ImageRow) (rest : Option (List ImageRow)) → option_map (λ rs. rows ++ rs) (before_rows (Some row) rest) ≡ option_map (λ rs. (rows ++ row ∷ []) ++ rs) rest
behind rows row None = refl
behind rows row (Some rs) = ap Some (sym (append_assoc rows (row ∷ []) rs))

step_of : (types : Types) (e : Named) (es : List Named) (found : Option ImageRow) → found ≡ row_where (is_plain_entity types e) e → all_rows types (e ∷ es) ≡ before_rows found (all_rows types es)
unfolding all_rows
step_of types e es found is = ap (λ r. before_rows r (all_rows types es)) (sym is)

-- the rows so far, and then those of the entities that are left
abbrev pub AreRows : Types → List ImageRow → List Named → List Named → Type 0
AreRows types rows rest all = option_map (λ rs. rows ++ rs) (all_rows types rest) ≡ all_rows types all

-- a row more is there
pub rows-more : (types : Types) (rows : List ImageRow) (row : ImageRow) (e : Named) (es all : List Named) → Some row ≡ row_where (is_plain_entity types e) e → AreRows types rows (e ∷ es) all → AreRows types (rows ++ row ∷ []) es all
rows-more types rows row e es all is so_far =
    sym (behind rows row (all_rows types es)) ∙ ap (option_map (λ rs. rows ++ rs)) (sym (step_of types e es (Some row) is)) ∙ so_far

-- an entity has no row
pub rows-none : (types : Types) (rows : List ImageRow) (e : Named) (es all : List Named) → None ≡ row_where (is_plain_entity types e) e → AreRows types rows (e ∷ es) all → None ≡ all_rows types all
rows-none types rows e es all is so_far = ap (option_map (λ rs. rows ++ rs)) (sym (step_of types e es None is)) ∙ so_far

-- no entity is left
pub rows-end : (types : Types) (rows : List ImageRow) (all : List Named) → AreRows types rows [] all → Some rows ≡ all_rows types all
unfolding all_rows
rows-end types rows all so_far = ap Some (sym (append-nil rows)) ∙ so_far

-- none is there yet
pub rows-start : (types : Types) (all : List Named) → AreRows types [] all all
rows-start types all = at (all_rows types all) where
  at : (found : Option (List ImageRow)) → option_map (λ rs. [] ++ rs) found ≡ found
  at None = refl
  at (Some rs) = refl

-- ---- all rows

record AllThere (types : Types) (es : List Named) (rows : List ImageRow) : Type 0 where
  plain : list_all (is_plain_entity types) es ≡ true
  rows_are : rows ≡ map stored_row es

there_at : (types : Types) (e : Named) (es : List Named) (rows : List ImageRow) (b : Bool) (rest : Option (List ImageRow)) → is_plain_entity types e ≡ b → before_rows (row_where b e) rest ≡ Some rows → ((rs : List ImageRow) → rest ≡ Some rs → AllThere types es rs) → AllThere types (e ∷ es) rows
there_at types e es rows false rest plain all others = absurd (cc)
there_at types e es rows true None plain all others = absurd (cc)
there_at types e es rows true (Some rs) plain all others =
    let o = others rs refl in
    let same : stored_row e ∷ rs ≡ rows = cc in
    record { plain = ap (λ b. b && list_all (is_plain_entity types) es) plain ∙ o.plain; rows_are = sym same ∙ ap (λ l. stored_row e ∷ l) o.rows_are }

all_there : (types : Types) (es : List Named) (rows : List ImageRow) → all_rows types es ≡ Some rows → AllThere types es rows
unfolding all_rows
all_there types [] rows all = let e : [] ≡ rows = cc in record { plain = refl; rows_are = sym e }
all_there types (e ∷ es) rows all = there_at types e es rows (is_plain_entity types e) (all_rows types es) refl all (λ rs is. all_there types es rs is)

missing_at : (types : Types) (e : Named) (es : List Named) (b : Bool) (rest : Option (List ImageRow)) → is_plain_entity types e ≡ b → before_rows (row_where b e) rest ≡ None → (rest ≡ None → list_all (is_plain_entity types) es ≡ false) → list_all (is_plain_entity types) (e ∷ es) ≡ false
missing_at types e es false rest plain all others = ap (λ b. b && list_all (is_plain_entity types) es) plain
missing_at types e es true None plain all others = ap (λ b. b && list_all (is_plain_entity types) es) plain ∙ others refl
missing_at types e es true (Some rs) plain all others = absurd (cc)

one_missing : (types : Types) (es : List Named) → all_rows types es ≡ None → list_all (is_plain_entity types) es ≡ false
unfolding all_rows
one_missing types [] all = absurd (cc)
one_missing types (e ∷ es) all = missing_at types e es (is_plain_entity types e) (all_rows types es) refl all (one_missing types es)

-- ---- the image

abbrev image_with : List ImageRow → Image
image_with rows = record { place = the_place; rows = rows }

few_where : (n : ℕ) → n ≤ 65536 → nat_le n 65536 ≡ true
few_where n few = grind (arith, nat_tests)

plain_where : (g : Content) (all : Entities) → len all ≤ 65536 → has_scene_one_alone g ≡ true → (b : Bool) → list_all (is_plain_entity g.schema) (entries all) ≡ b → is_plain g all ≡ b
plain_where g all few alone b plain =
    ap (λ a. (a && has_scene_one_alone g) && list_all (is_plain_entity g.schema) (entries all)) (few_where (len all) few)
    ∙ ap (λ a. a && list_all (is_plain_entity g.schema) (entries all)) alone ∙ plain

-- where all rows are there, they are those of the image
pub image-there : (g : Content) (all : Entities) (rows : List ImageRow) → len all ≤ 65536 → has_scene_one_alone g ≡ true → Some rows ≡ all_rows g.schema (entries all) → Some (image_with rows) ≡ guarded_image g all
image-there g all rows few alone is =
    let there = all_there g.schema (entries all) rows (sym is) in
    ap (λ rs. Some (image_with rs)) there.rows_are ∙ ap (λ b. image_where b all) (sym (plain_where g all few alone true there.plain))

pub section-there : (g : Content) (all : Entities) (rows : List ImageRow) → len all ≤ 65536 → has_scene_one_alone g ≡ true → Some rows ≡ all_rows g.schema (entries all) → IsSection g.schema (image_with rows)
section-there g all rows few alone is =
    let there = all_there g.schema (entries all) rows (sym is) in
    subst (λ rs. IsSection g.schema (image_with rs)) (sym there.rows_are) (IsSection-image_of g all (plain_where g all few alone true there.plain))

pub plain-there : (g : Content) (all : Entities) (rows : List ImageRow) → len all ≤ 65536 → has_scene_one_alone g ≡ true → Some rows ≡ all_rows g.schema (entries all) → IsPlain g.schema (image_with rows)
plain-there g all rows few alone is =
    let there = all_there g.schema (entries all) rows (sym is) in
    subst (λ rs. IsPlain g.schema (image_with rs)) (sym there.rows_are) (IsPlain-image_of g all (plain_where g all few alone true there.plain))

-- where one is missing there is no image
pub image-missing : (g : Content) (all : Entities) → len all ≤ 65536 → has_scene_one_alone g ≡ true → None ≡ all_rows g.schema (entries all) → None ≡ guarded_image g all
image-missing g all few alone is = ap (λ b. image_where b all) (sym (plain_where g all few alone false (one_missing g.schema (entries all) (sym is))))

-- where the scenes or the number of entities forbid it there is none either
pub image-others : (g : Content) (all : Entities) → (nat_le (len all) 65536 && has_scene_one_alone g) ≡ false → None ≡ guarded_image g all
image-others g all others = ap (λ a. image_where (a && list_all (is_plain_entity g.schema) (entries all)) all) (sym others)
