-- To replace a file in the list, or to push one, is to insert it in the map.
use Rattle.std.proofs.Common.{◌≡◌, Some, None, ap, ◌∙◌}
use Rattle.std.specs.FinMap.{insert}
use Rattle.eb_outside.specs.InMemory.{files_of, place_of}
use Rattle.eb_outside.proofs.FileLists.{files_of-set, files_of-push}
use Rattle.eb_outside.proofs.mem_shelf.put.Goals as goal

pub returns-in-Some-clause-ok : goal.returns-in-Some-clause-ok
returns-in-Some-clause-ok c =
    let place : Some c.in-Some.place ≡ place_of c.args.files.now.items c.args.name.now = rw (c.deref.ensures.value, c.as_bytes.ensures.value) at c.in-Some.ensures in
    rw (ap (λ f. f.0) c.index_mut.ensures.value) (files_of-set c.args.files.now.items c.args.name.now c.in-Some.place c.in_ok-copy.copy c.index_mut.result.now place)
    ∙ ap (insert (files_of c.args.files.now.items) c.args.name.now) c.in_ok-copy.ensures.items

pub returns-in_ok-push-in-None-clause-ok : goal.returns-in_ok-push-in-None-clause-ok
returns-in_ok-push-in-None-clause-ok c =
    let place : None ≡ place_of c.args.files.now.items c.args.name.now = rw (c.deref.ensures.value, c.as_bytes.ensures.value) at c.in-None.ensures in
    rw (c.in_ok-push-in-None.ensures.items, c.in_ok-of-in-None.ensures, c.as_bytes-in-None.ensures.value) (files_of-push c.args.files.now.items c.args.name.now c.in_ok-copy.copy place)
    ∙ ap (insert (files_of c.args.files.now.items) c.args.name.now) c.in_ok-copy.ensures.items
