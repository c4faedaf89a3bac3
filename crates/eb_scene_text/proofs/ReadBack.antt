-- The line that was printed is read as the document, and so as the project.
use Rattle.std.proofs.Common.{◌≡◌, ℕ, true, List, [], ◌∷◌, ◌++◌, Some, Ok, refl, ap, ◌∙◌}
use Rattle.std.specs.Prelude.{option_map, option_and_then, String, string_bytes}
use Rattle.std.specs.Str.{is_utf8}
use Rattle.std.specs.declared.alloc.Global.{Global}
use Rattle.std.proofs.lemmas.Str.{IsUtf8-append, IsUtf8-string_bytes, is_utf8-from_IsUtf8}
use Rattle.json.specs.Json as json
use Rattle.json.specs.Lex.{tokens}
use Rattle.json.specs.Print.{print}
use Rattle.serde_json.specs.Data.{Data}
use Rattle.serde_json.specs.Read.{of_json, read, max_depth}
use Rattle.eb_json.specs.Documents.{document_where, document_of}
use Rattle.eb_scene.specs.Projects.{Content}
use Rattle.eb_scene.specs.Validity.{IsValid}
use Rattle.eb_scene_text.specs.ProjectForm.{project_of}
use Rattle.eb_scene_text.specs.ProjectText.{document}
use Rattle.eb_scene_text.proofs.LineFeeds.{feed_passed}
use Rattle.eb_scene_text.proofs.DocumentForms.{project_read_back}

line_utf8 : (s : String Global) → is_utf8 (string_bytes s ++ 10 ∷ []) ≡ true
unfolding lib.Utf8.encode
line_utf8 s = is_utf8-from_IsUtf8 (string_bytes s ++ 10 ∷ []) (IsUtf8-append (string_bytes s) (10 ∷ []) (IsUtf8-string_bytes s) (10 ∷ [], (refl, refl)))

pub line_read : (s : String Global) (d : Data) → string_bytes s ≡ print (tokens (string_bytes s)) → read (string_bytes s) ≡ Some d → document_of (string_bytes s ++ 10 ∷ []) ≡ Some d
unfolding document_of
line_read s d printed reads =
    ap (λ b. document_where b (string_bytes s ++ 10 ∷ [])) (line_utf8 s)
    ∙ ap (λ ts. option_and_then of_json (option_and_then (λ p. json.if_last p.0 p.1) (json.value max_depth ts))) (feed_passed (string_bytes s) printed)
    ∙ reads

pub text_read : (g : Content) (text : List ℕ) (s : String Global) → IsValid g → text ≡ string_bytes s ++ 10 ∷ [] → string_bytes s ≡ print (tokens (string_bytes s)) → read (string_bytes s) ≡ Some (document g)
    → option_map (project_of g.schema) (document_of text) ≡ Some (Ok g)
text_read g text s valid is printed reads =
    ap (λ t. option_map (project_of g.schema) (document_of t)) is
    ∙ ap (option_map (project_of g.schema)) (line_read s (document g) printed reads)
    ∙ ap Some (project_read_back g valid)
