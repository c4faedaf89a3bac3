-- Lines that are no requests.
use Rattle.std.proofs.Common.{◌≡◌, ℕ, ◌<◌, false, cond, List, length, ap, arith, nat_le}
use Rattle.std.specs.Prelude.{Err}
use Rattle.std.proofs.lemmas.Bool.Decides.{nat_tests}
use Rattle.eb_json.specs.Documents.{document_of}
use Rattle.eb_session.specs.declared.requests.RequestFault.TheVariants.{LineTooLong}
use Rattle.eb_session.specs.Requests.{request_of, in_document}

-- no line of more than 65,536 bytes is one
pub request_of-long : (line : List ℕ) → 65536 < length line → request_of line ≡ Err LineTooLong
unfolding request_of
request_of-long line long =
    let over : nat_le (length line) 65536 ≡ false = grind (arith, nat_tests) in
    ap (λ b. cond b (in_document (document_of line)) (Err LineTooLong)) over
