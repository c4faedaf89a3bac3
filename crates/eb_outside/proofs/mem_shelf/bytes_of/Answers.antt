-- What the list has of a name is what the map has.
use Rattle.std.proofs.Common.{sym, ap, ◌∙◌, Some, option_map}
use Rattle.eb_outside.proofs.FileLists.{get_found, get_missing}
use Rattle.eb_outside.proofs.mem_shelf.bytes_of.Goals as goal

pub returns-in_err-place : goal.returns-in_err-place
returns-in_err-place c =
    ap (option_map (λ b. b.now)) c.from_residual.ensures ∙ sym (get_missing c.args.files.now c.args.name.now c.in_err-place.ensures)

pub returns : goal.returns
returns c =
    ap Some c.deref.ensures.value ∙ sym (get_found c.args.files.now c.args.name.now c.in_ok-place.place c.index-files-place.result c.in_ok-place.ensures)
