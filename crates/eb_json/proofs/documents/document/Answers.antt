use Rattle.std.proofs.Common.{sym}
use Rattle.eb_json.proofs.DocumentFacts.{document_of-some, document_of-none}
use Rattle.eb_json.proofs.documents.document.Goals as goal

pub returns-in-Ok : goal.returns-in-Ok
returns-in-Ok c = sym (document_of-some _ _ c.in-Ok.ensures.ok.0 c.in-Ok.ensures.ok.1)

pub returns-else-is_memory : goal.returns-else-is_memory
returns-else-is_memory c = sym (document_of-none _ (c.in-Err.ensures.err (λ m. let t = c.is_memory.ensures.1 m in let f = c.if-is_memory.false in cc)))
