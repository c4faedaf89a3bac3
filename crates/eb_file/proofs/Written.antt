-- What `encode` has written is the spelling.
use Rattle.std.proofs.Common.{◌≡◌, ℕ, List, [], ◌++◌, sym, subst, ◌∙◌}
use Rattle.eb_schema.specs.Schemas.{Types}
use Rattle.eb_file.specs.declared.images.ImageRow.{ImageRow}
use Rattle.eb_file.specs.declared.images.Image.{Image}
use Rattle.eb_file.specs.Images.{IsValid, IsPlain}
use Rattle.eb_file.specs.Plain.{field_count, number_text}
use Rattle.eb_file.specs.Spelling.{Spells, spelling}
use Rattle.eb_file.proofs.OneSpelling.{has_spelling_lem}
use Rattle.eb_file.proofs.PlainImages.{spelling-plain}

-- what is written after nothing is the spelling
pub spelled : (types : Types) (image : Image) (front after : List ℕ) (count : ℕ) (rows : List ImageRow) → IsValid types image → IsPlain types image → front ≡ [] → count ≡ field_count types → rows ≡ image.rows
    → after ≡ front ++ number_text image.place count rows → after ≡ spelling types image
spelled types image front after count rows valid plain nothing counted same is =
    is ∙ (λ i. nothing i ++ number_text image.place (counted i) (same i)) ∙ sym (spelling-plain types image valid plain)

pub spells : (types : Types) (image : Image) (front after : List ℕ) (count : ℕ) (rows : List ImageRow) → IsValid types image → IsPlain types image → front ≡ [] → count ≡ field_count types → rows ≡ image.rows
    → after ≡ front ++ number_text image.place count rows → Spells types after image
spells types image front after count rows valid plain nothing counted same is =
    subst (λ (bytes : List ℕ). Spells types bytes image) (sym (spelled types image front after count rows valid plain nothing counted same is)) (has_spelling_lem types image)
