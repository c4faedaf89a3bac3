use Rattle.std.proofs.Common.{◌∷◌, [], ◌++◌, Some, ◌≤◌, sym, ap, subst, ◌∙◌}
use Rattle.serde_json.specs.Data.{Data, depth}
use Rattle.serde_json.specs.Read.{max_depth}
use Rattle.serde_json.specs.Written.{has_float, compact_text}
use Rattle.eb_scene_text.specs.ProjectText.{canonical}
use Rattle.eb_scene_text.proofs.PlainFacts.{document_plain}
use Rattle.eb_scene_text.proofs.DepthFacts.{document_shallow}
use Rattle.eb_scene_text.proofs.ReadBack.{text_read}
use Rattle.eb_scene_text.proofs.project_printing.project_text.Goals as goal

pub returns-clause-text : goal.returns-clause-text
unfolding canonical
returns-clause-text c =
    let plain = ap has_float c.in_ok-value.ensures ∙ document_plain c.args.project.now in
    c.from_vec.ensures
    ∙ c.in_ok-push.ensures.items
    ∙ ap (λ t. t ++ 10 ∷ []) (ap (λ v. v.items) c.into_bytes-text.ensures.value ∙ c.in_ok-to_string.ensures.text plain ∙ ap compact_text c.in_ok-value.ensures)

pub returns-clause-reads_back : goal.returns-clause-reads_back
returns-clause-reads_back c =
    let g = c.args.project.now in
    let shallow = subst (λ (d : Data). depth d ≤ max_depth) (sym c.in_ok-value.ensures) (document_shallow g) in
    text_read g _ c.in_ok-to_string.field-0 c.schema.ensures.valid (c.from_vec.ensures ∙ c.in_ok-push.ensures.items ∙ ap (λ t. t ++ 10 ∷ []) (ap (λ v. v.items) c.into_bytes-text.ensures.value)) c.in_ok-to_string.ensures.compact
    (c.in_ok-to_string.ensures.reads_back shallow ∙ ap Some c.in_ok-value.ensures)
